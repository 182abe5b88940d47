-- The preconditions of the writers for constraints that the compact route accepts, and the cut's A and right sides in the form in which the writers state them.
use Prim.Native.Nat.{ℕ, suc, ◌+◌, ◌-◌, ◌*◌, ◌/◌, ◌≤◌}
use native.Mathlib.Nat.{le_refl, le_of_eq}
use native.Mathlib.Omega.{arith}
use mathlib.Core.Path.{◌≡◌, sym, ap, ap₂, subst, ◌∙◌}
use mathlib.Core.Bool.{Bool, false}
use mathlib.Core.List.{List, ◌++◌, map}
use lib.ListN.{length, get_or, take, replicate, length-replicate, length-append, replicate-append-replicate, get_or-append}
use lib.Seq.{take_at, length-take-le}
use lib.Dec.{T, leb}
use lib.Ieee.{Float}
use mir.Syntax.{w64}
use mir.Val.{Fits}
use Rattle.layout.specs.General.Lists.{written}
use Rattle.layout.specs.Problems.Problem.{Problem, Csc, compact}
use Rattle.layout.specs.Rows.Blocks.{compact_rows, block_row_count, overlap_count}
use Rattle.layout.specs.Checks.{Sound, layout, checks, starts_right}
use Rattle.layout.specs.Cuts.Compact.{summed_a, compact_a}
use Rattle.layout.specs.Cuts.Runs.{sums, starts_of_runs, run_count}
use Rattle.layout.specs.Calls.Join.{joined_parts}
use Rattle.layout.specs.Calls.CutMany.{sides_b}
use Rattle.layout.proofs.Lists.Tests.{and_iff, leb_iff}
use Rattle.layout.proofs.Lists.Starts.{length-written, written_front}
use Rattle.layout.proofs.Columns.Columns.{RightStarts, right_A}
use Rattle.layout.proofs.Columns.Sizes.{compact_sizes_lem}
use Rattle.layout.proofs.Lists.Buffers.{take-written}
use Rattle.layout.proofs.Checks.Order.{passed}
use Rattle.layout.proofs.Rows.Laid.{sound-laid}
use Rattle.rows_codes.specs.Codes.{cut_code, RowsInside}
use Rattle.rows_codes.proofs.Rows.{accepted-inside}
use Rattle.rows_tables.specs.declared.Table.TheVariants.{CutRows}
use Rattle.rows_tables.proofs.Tables.{table-length}
use Rattle.sparsevector.specs.Sides.{moved_sides}
use Rattle.sparsevector.proofs.Sides.{moved_sides_lem}
use Rattle.cut_columns.specs.Marks.{Placing, Clear}
use Rattle.csc.specs.Matrix.{ColumnsInside}
use Rattle.csc.proofs.Runs.{run_start, length-run-starts, sums-starts, sums-count}
use Rattle.augment_standard.specs.Beside.{h_starts, beside_starts}
use Rattle.augment_standard.proofs.Columns.{length-h_starts}
use Rattle.augment_compact.specs.Cut.{tied_rows, cut_rows, cut_values}
use Rattle.augment_compact.specs.Places.{row_table, ColumnsInOrder, RunsStart}
use Rattle.augment_compact.proofs.Cut.{cut_compact, tied_count}
use Rattle.augment_compact.proofs.Places.{few-rows as few-codes, accepted_order, accepted-placing}
use Rattle.augment_standard.specs.Constraints.{Accepted}
use Rattle.augment_standard.proofs.Constraints.{whole, sound, few-entries, starts-right}

-- there are as many codes as augmented rows
module _ {m : ℕ} {cones : List ℕ} {count : ℕ} {words : List ℕ} (h : Sound m cones count words) where
  pub codes_count : length (map cut_code (compact_rows (joined_parts cones count words))) ≡ block_row_count (joined_parts cones count words)
  codes_count = table-length CutRows (joined_parts cones count words) (sound-laid h).0

-- xs is a prefix of a table to which it was written
pub front : (xs old : List ℕ) {new : List ℕ} {k : ℕ} → k ≡ length xs → k ≤ length old → new ≡ written xs old → (take k new ≡ xs) × (k ≤ length new)
front xs old {new} {k} e room w = (
  ap (λ (n : ℕ). take n new) e ∙ ap (take (length xs)) w ∙ take-written xs old,
  omega (arith, ap length w, length-written xs old (omega arith)),
)

-- a table of zeros keeps its length
pub cleared : {k : ℕ} (size : ℕ) → k ≤ size → k ≤ length (replicate {A = ℕ} size 0)
cleared size room = omega (arith, length-replicate {A = ℕ} size 0)

-- flags for n rows, one for each 64: they fit in a table of size flags, and are all false in a cleared one
pub few_flags : (n size : ℕ) → n ≤ 64 * size → (n + 63) / 64 ≤ size
few_flags n size room = omega arith

pub flags_fit : (n : ℕ) → n ≤ 262144 → Fits w64 (n + 63)
flags_fit n few = omega arith

pub flags_count : (n size : ℕ) → n ≤ 64 * size → (n + 63) / 64 ≡ length (take ((n + 63) / 64) (replicate size false))
flags_count n size room =
    sym (length-take-le ((n + 63) / 64) (replicate size false) (omega (arith, length-replicate {A = Bool} size false)))

flags_down : (n size : ℕ) → n ≤ 64 * size → size ≤ 4096 → Clear n (take ((n + 63) / 64) (replicate size false))
flags_down n size room few =
    let k = (n + 63) / 64 in
    let e : size ≡ k + (size - k) = omega arith in
    let down : take k (replicate size false) ≡ replicate k false =
    ap (take k) (ap (λ (j : ℕ). replicate j false) e ∙ sym (replicate-append-replicate k (size - k) false))
    ∙ take_at (replicate k false) (replicate (size - k) false) k (length-replicate {A = Bool} k false) in (
      down ∙ ap (λ (j : ℕ). replicate j false) (flags_count n size room),
      omega (arith, flags_count n size room),
      omega (arith, flags_count n size room),
    )

module _ {p : Problem} (h : Accepted compact p) where
  -- ---- bounds on the counts

  pub few-rows : {rows : ℕ} → rows ≡ block_row_count (layout p) → rows ≤ 262144
  few-rows e = omega (arith, e, codes_count (sound h), few-codes (whole h) h.accepted)

  -- at most 262144 overlap columns are added
  pub few-overlaps : (k : ℕ) → k ≡ overlap_count (layout p) → k ≤ 262144
  few-overlaps k e =
      let tenth = (and_iff (leb (block_row_count (layout p)) 262144) (leb (overlap_count (layout p)) 131072)).0 (passed 10 (checks compact (whole h)) tt h.accepted) in
      omega (arith, e, (leb_iff (overlap_count (layout p)) 131072).0 tenth.1)

  -- ---- the preconditions of the writers on A, the right sides and the codes

  pub rows_inside : RowsInside p.m (map cut_code (compact_rows (layout p)))
  rows_inside = accepted-inside (whole h) h.accepted p.m (le_refl p.m)

  right : RightStarts p.n p.A
  right = right_A compact (whole h) h.accepted

  pub columns_inside : ColumnsInside p.n p.A.starts p.A.rows × (length p.A.starts ≡ suc p.n) × (length p.A.rows ≤ 262144)
  columns_inside = ((le_of_eq (sym right.count), λ c l. (right.rise c l, right.inside (suc c) l)), right.count, omega (arith, right.even, few-entries h))

  -- the starts that were written are those of the runs
  runs_start : (k : ℕ) (old : List ℕ) {out : List ℕ} → suc p.n + k ≤ length old
      → out ≡ written (beside_starts (starts_of_runs p.n p.A) (run_count p.n p.A) k) old → RunsStart p.n p.A out
  runs_start k old {out} room w =
      let starts = starts_of_runs p.n p.A in
      let ends = h_starts (run_count p.n p.A) k in
      let size = length-run-starts p.n p.A in
      let whole-size : length (starts ++ ends) ≡ suc p.n + k = omega (arith, length-append starts ends, length-h_starts (run_count p.n p.A) k, size) in (
        omega (arith, ap length w, length-written (starts ++ ends) old (omega (arith, whole-size))),
        λ c l.
            ap (λ (xs : List ℕ). get_or xs c 0) w
            ∙ written_front (starts ++ ends) old c 0 (omega (arith, whole-size)) ∙ get_or-append starts ends 0 c (omega (arith, size)) ∙ run_start p.n p.A c l,
      )

  pub columns_right : (k : ℕ) (old : List ℕ) {out : List ℕ} → suc p.n + k ≤ length old
      → out ≡ written (beside_starts (starts_of_runs p.n p.A) (run_count p.n p.A) k) old
      → T (starts_right p.n p.A) × ColumnsInOrder p.n p.A × RunsStart p.n p.A out
  columns_right k old room w = (starts-right h, accepted_order (whole h) h.accepted, runs_start k old room w)

  codes_placing : (t : List ℕ) → p.m ≤ length t
      → Placing (map cut_code (compact_rows (layout p))) (row_table 0 (map cut_code (compact_rows (layout p))) t) p.A.rows
  codes_placing = accepted-placing (whole h) h.accepted

  -- the numbers of rows and values of the cut's A
  entries : length (summed_a p).values ≡ run_count p.n p.A
  entries = sums-count p.n p.A right

  rows-room : run_count p.n p.A + length (tied_rows 0 (map cut_code (compact_rows (layout p)))) ≡ length (compact_a p).rows
  rows-room =
      omega (arith, entries, tied_count (whole h) h.accepted, ap (λ (ks : List ℕ). get_or ks 5 0) (compact_sizes_lem (whole h) h.accepted))

  values-room : run_count p.n p.A + 2 * overlap_count (layout p) ≡ length (compact_a p).values
  values-room = omega (arith, entries, ap (λ (ks : List ℕ). get_or ks 6 0) (compact_sizes_lem (whole h) h.accepted))

  -- ---- the cut's A and right sides

  pub values_b : (sides : List Float) (count : ℕ) → moved_sides p.m (map cut_code (compact_rows (layout p))) sides count ≡ sides_b p count sides
  values_b = moved_sides_lem (whole h) h.accepted

  pub rows_A : cut_rows p.n (sums p.n p.A) (map cut_code (compact_rows (layout p))) ≡ (compact_a p).rows
  rows_A = ap (λ (M : Csc). M.rows) (cut_compact (whole h) h.accepted)

  module _ (k : ℕ) (e : k ≡ overlap_count (layout p)) where
    pub starts_A : beside_starts (starts_of_runs p.n p.A) (run_count p.n p.A) k ≡ (compact_a p).starts
    starts_A =
        ap₂ (λ (starts : List ℕ) (count : ℕ). beside_starts starts count k) (sym (sums-starts p.n p.A right)) (sym entries)
        ∙ ap (beside_starts (summed_a p).starts (length (summed_a p).values)) e ∙ ap (λ (M : Csc). M.starts) (cut_compact (whole h) h.accepted)

    pub values_A : cut_values p.n (sums p.n p.A) (map cut_code (compact_rows (layout p))) k ≡ (compact_a p).values
    values_A =
        ap (cut_values p.n (sums p.n p.A) (map cut_code (compact_rows (layout p)))) e
        ∙ ap (λ (M : Csc). M.values) (cut_compact (whole h) h.accepted)

-- ---- the codes of the augmented rows, in freshly cleared tables

module _ {p : Problem} (h : Accepted compact p) {rows : ℕ} (e : rows ≡ block_row_count (layout p)) where
  pub coded : {size : ℕ} {table : List ℕ} → rows ≤ size → table ≡ written (map cut_code (compact_rows (layout p))) (replicate size 0)
      → (take rows table ≡ map cut_code (compact_rows (layout p))) × (rows ≤ length table)
  coded {size} room w =
      front (map cut_code (compact_rows (layout p))) (replicate size 0) (e ∙ sym (codes_count (sound h))) (omega (arith, length-replicate {A = ℕ} size 0)) w

  -- the precondition of `write_entries` on the codes
  module _ (size flags k rows_room values_room : ℕ) where
    abbrev Placeable : List ℕ → Type 0
    Placeable cs =
        (RowsInside (length (replicate {A = ℕ} size 0)) cs × Placing cs (row_table 0 cs (replicate size 0)) p.A.rows × Clear (length cs) (take ((rows + 63) / 64) (replicate flags false)))
        × ((run_count p.n p.A + length (tied_rows 0 cs) ≤ rows_room) × (run_count p.n p.A + 2 * k ≤ values_room))

    pub placeable : {cs : List ℕ} → cs ≡ map cut_code (compact_rows (layout p)) → p.m ≤ size → rows ≤ 64 * flags → flags ≤ 4096 → k ≡ overlap_count (layout p)
        → length (compact_a p).rows ≤ rows_room → length (compact_a p).values ≤ values_room → Placeable cs
    placeable taken known enough few overlaps r v =
        let place : p.m ≤ length (replicate {A = ℕ} size 0) = omega (arith, length-replicate {A = ℕ} size 0) in
        subst Placeable (sym taken) (
          (
            accepted-inside (whole h) h.accepted (length (replicate {A = ℕ} size 0)) place,
            codes_placing h (replicate size 0) place,
            subst (λ (n : ℕ). Clear n (take ((rows + 63) / 64) (replicate flags false))) (e ∙ sym (codes_count (sound h))) (flags_down rows flags enough few),
          ),
          (omega (arith, rows-room h, r), omega (arith, values-room h, overlaps, v)),
        )

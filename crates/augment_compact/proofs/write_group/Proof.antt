use Prim.Native.Nat.{ℕ, suc, ◌+◌, ◌≤◌, ◌<◌}
use native.Mathlib.Numerals.{add-one}
use native.Mathlib.Omega.{arith}
use mathlib.Core.Bool.{Bool, true, false}
use mathlib.Core.Path.{◌≡◌, refl, ap, sym, subst, ◌∙◌}
use mathlib.Core.List.{List, map}
use lib.ListN.{length, get_or, length-map}
use lib.Ieee.{Float}
use borrow.Author.Tests.{not-true, not-false}
use Rattle.layout.specs.General.Lists.{join, part, written}
use Rattle.layout.specs.Problems.Problem.{Csc}
use Rattle.layout.specs.Checks.{column_rows}
use Rattle.layout.specs.Cuts.Compact.{Entry, column, summed, csc}
use Rattle.layout.specs.Cuts.Runs.{sums, runs, run_count}
use Rattle.layout.proofs.Columns.Columns.{RightStarts, starts-right}
use Rattle.csc.specs.Matrix.{matrix}
use Rattle.csc.proofs.Runs.{count_more, count-le}
use Rattle.cut_columns.specs.Column.{entries, coded_column}
use Rattle.cut_columns.specs.Marks.{Placing, MarksLeft, marked_below, put_back}
use Rattle.cut_columns.proofs.Marks.{marks-back, length-marks}
use Rattle.layout.proofs.Lists.Buffers.{written_on}
use Rattle.augment_compact.proofs.Columns.{columns_more, column-sums, column-placing, column-size, columns_start}
use Rattle.augment_compact.proofs.Groups.{part-back, group_rows}
use Rattle.augment_compact.specs.Cut.{coded_columns}
use Rattle.augment_compact.specs.Groups.{unmarked, Marking, RowsGrow, ValuesGrow}
use Rattle.augment_compact.proofs.write_group.Statement.{statement}
use Rattle.augment_compact.proofs.write_group.Tie as tie

abbrev M : tie.Start → Csc
M s = matrix s.args.starts.now s.args.rows.now s.args.values.now

right : (s : tie.Start) → RightStarts s.args.n (M s)
right s = starts-right s.args.n (M s) s.requires.0.0

inside : (s : tie.Start) → s.args.c < s.args.n
inside s = s.requires.1.0.2

placing : (s : tie.Start) → Placing s.args.codes.now s.args.place.now (column_rows (M s) s.args.c)
placing s = column-placing s.args.n (M s) s.args.codes.now s.args.place.now (right s) s.requires.0.1 s.requires.1.0.0 s.args.c (inside s)

-- the start and end of column c in the tables, and in the outputs
within : (s : tie.Start)
    → (s.args.c + 1 < length s.args.starts.now) × (get_or s.args.starts.now s.args.c 0 ≤ get_or s.args.starts.now (s.args.c + 1) 0)
    × (get_or s.args.starts.now (s.args.c + 1) 0 ≤ length s.args.rows.now) × (get_or s.args.starts.now (s.args.c + 1) 0 ≤ length s.args.values.now)
within s =
    let c = s.args.c in
    let l = inside s in
    let end = (right s).inside (suc c) l in
    rw (add-one c) (omega (arith, (right s).count), (right s).rise c l, end, omega (arith, end, (right s).even))

-- the start and end of the runs of column c
runs_here : (s : tie.Start)
    → (s.args.c + 1 < length s.args.run_starts.now)
    × (get_or s.args.run_starts.now s.args.c 0 + length (runs (column_rows (M s) s.args.c)) ≡ get_or s.args.run_starts.now (s.args.c + 1) 0)
    × (get_or s.args.run_starts.now (s.args.c + 1) 0 ≤ run_count s.args.n (M s))
runs_here s =
    let c = s.args.c in
    let l = inside s in
    let start : get_or s.args.run_starts.now c 0 ≡ run_count c (M s) = s.requires.0.2.1 c (omega arith) in
    let end : get_or s.args.run_starts.now (c + 1) 0 ≡ run_count (c + 1) (M s) = s.requires.0.2.1 (c + 1) (omega arith) in (
      omega (arith, s.requires.0.2.0),
      omega (arith, start, end, count_more (M s) c),
      omega (arith, end, count-le (M s) (c + 1) s.args.n (omega arith)),
    )

-- the rows of column c, with its end as the code reads it
abbrev rows-to : tie.Start → ℕ → List ℕ
rows-to s b = part (get_or s.args.starts.now s.args.c 0) (get_or s.args.starts.now b 0) s.args.rows.now

abbrev moved_to : tie.Start → ℕ → List Entry
moved_to s b = coded_column s.args.codes.now (summed (entries (rows-to s b) (part (get_or s.args.starts.now s.args.c 0) (get_or s.args.starts.now b 0) s.args.values.now)))

this : (s : tie.Start) → moved_to s (s.args.c + 1) ≡ coded_column s.args.codes.now (column (sums s.args.n (M s)) s.args.c)
this s =
    let a = s.args in
    ap (moved_to s) (add-one a.c)
    ∙ ap (coded_column a.codes.now) (sym (column-sums a.n (M s) a.codes.now a.place.now (right s) s.requires.0.1 s.requires.1.0.0 a.c (inside s)))

-- the moved column ends where the next column starts
length_here : (s : tie.Start)
    → get_or s.args.run_starts.now s.args.c 0 + length (map (λ (e : Entry). e.row) (moved_to s (s.args.c + 1))) ≡ get_or s.args.run_starts.now (s.args.c + 1) 0
length_here s =
    let a = s.args in
    let r : Entry → ℕ = λ e. e.row in
    let size : length (map r (moved_to s (a.c + 1))) ≡ length (runs (column_rows (M s) a.c)) =
    length-map (moved_to s (a.c + 1)) r ∙ ap length (this s)
    ∙ column-size a.n (M s) a.codes.now a.place.now (right s) s.requires.0.1 s.requires.1.0.0 a.c (inside s) in
    ap (λ (k : ℕ). get_or a.run_starts.now a.c 0 + k) size ∙ (runs_here s).1

-- the start of column c is the number of entries of the columns before it
start_at : {X : Type 0} (s : tie.Start) (field : Entry → X)
    → get_or s.args.run_starts.now s.args.c 0 ≡ length (map field (join (λ c. c) (coded_columns s.args.c (sums s.args.n (M s)) s.args.codes.now)))
start_at s field =
    let a = s.args in
    let l : a.c ≤ a.n = omega (arith, inside s) in
    s.requires.0.2.1 a.c l ∙ sym (columns_start a.n (M s) a.codes.now a.place.now (right s) s.requires.0.1 s.requires.1.0.0 field a.c l)

mul-first : tie.Need-offset_bounds-starts-c
mul-first c = let s = c.before.before.before.before.before.before.before.before.before in omega (arith, within s)

shared-slice-read-first : tie.Need-bounds-starts-c
shared-slice-read-first c = let s = c.before.before.before.before.before.before.before.before.before.before in omega (arith, within s)

cast-first : tie.Need-overflow_cast-first
cast-first c = let s = c.before.before.before.before.before.before.before.before.before.before in omega (arith, within s)

add-end : tie.Need-overflow_add-end
add-end c = let s = c.before.before.before.before.before.before.before.before.before.before in omega (arith, within s)

mul-end : tie.Need-offset_bounds-starts-c-2
mul-end c = let s = c.before.before.before.before.before.before.before.before.before.before in omega (arith, within s)

shared-slice-read-end : tie.Need-bounds-starts-c-2
shared-slice-read-end c = let s = c.before.before.before.before.before.before.before.before.before.before.before in omega (arith, within s)

cast-end : tie.Need-overflow_cast-end
cast-end c = let s = c.before.before.before.before.before.before.before.before.before.before.before in omega (arith, within s)

mul-start : tie.Need-offset_bounds-run_starts-c
mul-start c = let s = c.before.before.before.before.before.before.before.before.before.before.before in omega (arith, runs_here s)

shared-slice-read-start : tie.Need-bounds-run_starts-c
shared-slice-read-start c = let s = c.before.before.before.before.before.before.before.before.before.before.before.before in omega (arith, runs_here s)

cast-start : tie.Need-overflow_cast-start
cast-start c = let s = c.before.before.before.before.before.before.before.before.before.before.before.before in omega (arith, runs_here s, s.requires.1.1.0)

add-stop : tie.Need-overflow_add-stop
add-stop c = let s = c.before.before.before.before.before.before.before.before.before.before.before.before in omega (arith, runs_here s)

mul-stop : tie.Need-offset_bounds-run_starts-c-2
mul-stop c = let s = c.before.before.before.before.before.before.before.before.before.before.before.before in omega (arith, runs_here s)

shared-slice-read-stop : tie.Need-bounds-run_starts-c-2
shared-slice-read-stop c = let s = c.before.before.before.before.before.before.before.before.before.before.before.before.before in omega (arith, runs_here s)

cast-stop : tie.Need-overflow_cast-stop
cast-stop c = let s = c.before.before.before.before.before.before.before.before.before.before.before.before.before in omega (arith, runs_here s, s.requires.1.1.0)

move-column-requires : tie.Need-move_column-marked-requires
move-column-requires c κs =
    let s = c.before.before.before.before.before.before.before.before.before.before.before.before.before.before.before.before.before in
    let a = s.args in
    let w = within s in
    let (near, size, few) = runs_here s in (
      rw (add-one a.c) (placing s, s.requires.0.1 a.c (inside s), s.requires.1.0.1),
      (
        (w.1, w.2, w.3),
        (
          ap (λ (b : ℕ). get_or a.run_starts.now a.c 0 + length (runs (rows-to s b))) (add-one a.c) ∙ size,
          omega (arith, few, s.requires.1.1.0),
          omega (arith, few, s.requires.1.1.1),
        ),
      ),
    )

-- column c is written
one_rows : (f : tie.After-move_column-marked) → let s = f.before.before.before.before.before.before.before.before.before.before.before.before.before.before.before.before.before.before in
    RowsGrow s.args.n (M s) s.args.codes.now s.args.c (s.args.c + 1) s.args.rows_out.now f.move_column-marked.new.rows_out
one_rows f =
    let s = f.before.before.before.before.before.before.before.before.before.before.before.before.before.before.before.before.before.before in
    let a = s.args in
    let A = sums a.n (M s) in
    let r : Entry → ℕ = λ e. e.row in
    let start = get_or a.run_starts.now a.c 0 in
    λ old w.
    f.move_column-marked.ensures.0
    ∙ rw (this s)
    (written_on (csc (coded_columns a.c A a.codes.now)).rows (map r (coded_column a.codes.now (column A a.c))) old start (start_at s r) w
    ∙ ap (λ (xs : List ℕ). written xs old) (sym (columns_more r a.c A a.codes.now)))

one_values : (f : tie.After-move_column-marked) → let s = f.before.before.before.before.before.before.before.before.before.before.before.before.before.before.before.before.before.before in
    ValuesGrow s.args.n (M s) s.args.codes.now s.args.c (s.args.c + 1) s.args.values_out.now f.move_column-marked.new.values_out
one_values f =
    let s = f.before.before.before.before.before.before.before.before.before.before.before.before.before.before.before.before.before.before in
    let a = s.args in
    let A = sums a.n (M s) in
    let v : Entry → Float = λ e. e.value in
    let start = get_or a.run_starts.now a.c 0 in
    λ old w.
    f.move_column-marked.ensures.1.0
    ∙ rw (this s)
    (written_on (csc (coded_columns a.c A a.codes.now)).values (map v (coded_column a.codes.now (column A a.c))) old start (start_at s v) w
    ∙ ap (λ (xs : List Float). written xs old) (sym (columns_more v a.c A a.codes.now)))

add-result : tie.Need-overflow_add-result
add-result c = let s = c.before.before.before.before.before.before.before.before.before.before.before.before.before.before.before.before.before.before.before.before.before.before.before.before.before.before.before in omega (arith, within s)

same_length : tie.Need-shape_of-rows_out-then-not-marked
same_length c = c.move_column-marked.auto.rows_out

same-length-2 : tie.Need-shape_of-values_out-then-not-marked
same-length-2 c = c.move_column-marked.auto.values_out

same-length-3 : tie.Need-shape_of-codes-then-not-marked
same-length-3 c = c.move_column-marked.auto.codes

same-length-4 : tie.Need-shape_of-chunks-then-not-marked
same-length-4 c = c.move_column-marked.auto.chunks

returns : tie.Need-returns-then-not-marked
returns c =
    let f = c.before.before.before.before.before.before.before.before.before in
    let s = f.before.before.before.before.before.before.before.before.before.before.before.before.before.before.before.before.before.before in
    let a = s.args in
    let none : f.move_column-marked.result ≡ false = not-true f.move_column-marked.result c.if-not-marked.true-raw in (
      (omega arith, omega (arith, inside s)),
      (
        one_rows f,
        (
          one_values f,
          (
            subst (λ (b : Bool). MarksLeft b a.place.now (rows-to s (a.c + 1)) a.codes.now f.move_column-marked.new.codes) none f.move_column-marked.ensures.1.1.0,
            f.move_column-marked.ensures.1.1.1,
          ),
        ),
      ),
    )

-- the marks of column c are left
marking : (e : tie.Else-not-marked) → let f = e.before.before.before.before.before.before.before.before.before in
    let s = f.before.before.before.before.before.before.before.before.before.before.before.before.before.before.before.before.before.before in
    Marking (M s) s.args.place.now s.args.c s.args.codes.now f.move_column-marked.new.codes
marking e =
    let f = e.before.before.before.before.before.before.before.before.before in
    let s = f.before.before.before.before.before.before.before.before.before.before.before.before.before.before.before.before.before.before in
    let a = s.args in
    let left : MarksLeft true a.place.now (column_rows (M s) a.c) a.codes.now f.move_column-marked.new.codes =
    subst (λ (k : ℕ). MarksLeft true a.place.now (rows-to s k) a.codes.now f.move_column-marked.new.codes) (add-one a.c)
    (subst (λ (b : Bool). MarksLeft b a.place.now (rows-to s (a.c + 1)) a.codes.now f.move_column-marked.new.codes) (not-false f.move_column-marked.result e.if-not-marked.false-raw) f.move_column-marked.ensures.1.1.0) in
    record { placing = s.requires.1.0.0; marks = left }

-- and without them the codes are those before
back : (e : tie.Else-not-marked) → let f = e.before.before.before.before.before.before.before.before.before in
    let s = f.before.before.before.before.before.before.before.before.before.before.before.before.before.before.before.before.before.before in
    unmarked (M s) s.args.place.now s.args.c f.move_column-marked.new.codes ≡ s.args.codes.now
back e =
    let f = e.before.before.before.before.before.before.before.before.before in
    let s = f.before.before.before.before.before.before.before.before.before.before.before.before.before.before.before.before.before.before in
    let a = s.args in
    ap (put_back a.place.now (column_rows (M s) a.c)) (marking e).marks ∙ marks-back a.codes.now a.place.now (column_rows (M s) a.c) (placing s)

-- the rows of column c are the marked rows
rows-marked : (e : tie.Else-not-marked) → let f = e.before.before.before.before.before.before.before.before.before in
    let s = f.before.before.before.before.before.before.before.before.before.before.before.before.before.before.before.before.before.before in
    let a = s.args in
    part (get_or a.run_starts.now a.c 0) (get_or a.run_starts.now (a.c + 1) 0) f.move_column-marked.new.rows_out
    ≡ marked_below f.move_column-marked.new.codes (length f.move_column-marked.new.codes)
rows-marked e =
    let f = e.before.before.before.before.before.before.before.before.before in
    let s = f.before.before.before.before.before.before.before.before.before.before.before.before.before.before.before.before.before.before in
    let a = s.args in
    let r : Entry → ℕ = λ e. e.row in
    let (near, size, few) = runs_here s in
    let ys : List ℕ = map r (moved_to s (a.c + 1)) in
    let marked : ys ≡ marked_below f.move_column-marked.new.codes (length f.move_column-marked.new.codes) =
    ap (map r) (this s)
    ∙ group_rows a.n (M s) a.codes.now a.place.now (right s) s.requires.0.1 a.c (inside s) f.move_column-marked.new.codes (marking e) a.c (inside s) refl in
    ap (part (get_or a.run_starts.now a.c 0) (get_or a.run_starts.now (a.c + 1) 0)) f.move_column-marked.ensures.0
    ∙ part-back (get_or a.run_starts.now a.c 0) (get_or a.run_starts.now (a.c + 1) 0) ys a.rows_out.now (omega (arith, size, few, s.requires.1.1.0)) (length_here s)
    ∙ marked

write-followers-requires : tie.Need-write_followers-d-requires
write-followers-requires c κs =
    let e = c.before.before in
    let f = e.before.before.before.before.before.before.before.before.before in
    let s = f.before.before.before.before.before.before.before.before.before.before.before.before.before.before.before.before.before.before in
    let a = s.args in (
      s.requires.0,
      (
        (inside s, subst (λ (before : List ℕ). Marking (M s) a.place.now a.c before f.move_column-marked.new.codes) (sym (back e)) (marking e)),
        (
          (omega (arith, f.move_column-marked.auto.rows_out, s.requires.1.1.0), omega (arith, f.move_column-marked.auto.values_out, s.requires.1.1.1)),
          rows-marked e,
        ),
      ),
    )

mul-put-back : tie.Need-offset_bounds-rows-first
mul-put-back c = let s = c.before.before.before.before.before.before.before.before.before.before.before.before.before.before.before.before.before.before.before.before.before.before.before.before.before.before.before.before.before.before.before.before.before.before.before in omega (arith, within s)

sub-put-back : tie.Need-slice_bounds-put_back-count
sub-put-back c = let s = c.before.before.before.before.before.before.before.before.before.before.before.before.before.before.before.before.before.before.before.before.before.before.before.before.before.before.before.before.before.before.before.before.before.before.before in (within s).1

part-put-back-start : tie.Need-slice_bounds-put_back-start
part-put-back-start c = let s = c.before.before.before.before.before.before.before.before.before.before.before.before.before.before.before.before.before.before.before.before.before.before.before.before.before.before.before.before.before.before.before.before.before.before.before in (within s).1

part-put-back-end : tie.Need-slice_bounds-put_back-end
part-put-back-end c = let s = c.before.before.before.before.before.before.before.before.before.before.before.before.before.before.before.before.before.before.before.before.before.before.before.before.before.before.before.before.before.before.before.before.before.before.before in (within s).2

put-back-requires : tie.Need-put_back-requires
put-back-requires c κs =
    let e = c.before.before.before.before.before.before.before.before.before in
    let f = e.before.before.before.before.before.before.before.before.before in
    let s = f.before.before.before.before.before.before.before.before.before.before.before.before.before.before.before.before.before.before in
    let a = s.args in
    let h = placing s in
    rw (add-one a.c, (marking e).marks) (
      h.known,
      λ t l. omega (arith, length-marks a.place.now 0 (column_rows (M s) a.c) a.codes.now, h.inside t l),
    )

same-length-5 : tie.Need-shape_of-rows_out
same-length-5 c = c.write_followers-d.auto.rows_out ∙ c.move_column-marked.auto.rows_out

same-length-6 : tie.Need-shape_of-values_out
same-length-6 c = c.write_followers-d.auto.values_out ∙ c.move_column-marked.auto.values_out

same-length-7 : tie.Need-shape_of-codes
same-length-7 c = c.put_back.auto.codes ∙ c.move_column-marked.auto.codes

same-length-8 : tie.Need-shape_of-chunks
same-length-8 c = c.move_column-marked.auto.chunks

returns-2 : tie.Need-returns
returns-2 c =
    let b = c.before.before in
    let w = b.before.before.before.before.before.before.before in
    let e = w.before.before.before in
    let f = e.before.before.before.before.before.before.before.before.before in
    let s = f.before.before.before.before.before.before.before.before.before.before.before.before.before.before.before.before.before.before in
    let a = s.args in
    let d = w.write_followers-d.result in
    let codes = f.move_column-marked.new.codes in
    let rows : RowsGrow a.n (M s) a.codes.now (a.c + 1) d f.move_column-marked.new.rows_out w.write_followers-d.new.rows_out =
    subst (λ (before : List ℕ). RowsGrow a.n (M s) before (a.c + 1) d f.move_column-marked.new.rows_out w.write_followers-d.new.rows_out) (back e) w.write_followers-d.ensures.1.0 in
    let values : ValuesGrow a.n (M s) a.codes.now (a.c + 1) d f.move_column-marked.new.values_out w.write_followers-d.new.values_out =
    subst (λ (before : List ℕ). ValuesGrow a.n (M s) before (a.c + 1) d f.move_column-marked.new.values_out w.write_followers-d.new.values_out) (back e) w.write_followers-d.ensures.1.1 in (
      w.write_followers-d.ensures.0,
      (
        λ old k. rows old (one_rows f old k),
        (
          λ old k. values old (one_values f old k),
          (
            b.put_back.ensures ∙ ap (λ (k : ℕ). put_back a.place.now (rows-to s k) codes) (add-one a.c) ∙ back e,
            f.move_column-marked.ensures.1.1.1,
          ),
        ),
      ),
    )

pub write_group_spec : {M : Type 1} → statement M
write_group_spec =
    tie.close
    (tie.spec
    mul-first
    shared-slice-read-first
    cast-first
    add-end
    mul-end
    shared-slice-read-end
    cast-end
    mul-start
    shared-slice-read-start
    cast-start
    add-stop
    mul-stop
    shared-slice-read-stop
    cast-stop
    move-column-requires
    add-result
    same_length
    same-length-2
    same-length-3
    same-length-4
    returns
    write-followers-requires
    mul-put-back
    sub-put-back
    part-put-back-start
    part-put-back-end
    put-back-requires
    same-length-5
    same-length-6
    same-length-7
    same-length-8
    returns-2)

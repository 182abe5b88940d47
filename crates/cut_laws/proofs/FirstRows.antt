-- The cone map on the written outputs: an entry's first row is the number of rows before it, the row counts sum to the rows of b, and
-- the rows of an entry's block are in b from its first row on.
use Prim.Native.Nat.{ℕ, zero, suc, ◌+◌, ◌*◌, ◌<◌, ◌≤◌}
use native.Mathlib.Omega.{arith}
use mathlib.Core.Path.{◌≡◌, refl, sym, ap, ap₂, ◌∙◌}
use mathlib.Core.List.{List, [], ◌∷◌, map}
use lib.ListN.{length, get_or, take, drop, length-map, get_or-map}
use lib.Seq.{take_all}
use lib.Ieee.{Float}
use Rattle.layout.specs.General.Lists.{below, sum}
use Rattle.layout.specs.Problems.Problem.{Problem, compact}
use Rattle.layout.specs.Rows.Blocks.{Row, cone_count, compact_rows}
use Rattle.layout.specs.Checks.{layout, refusal}
use Rattle.layout.specs.Cuts.Compact.{MapEntry, whole_cone, row_value, compact_b, cone_map, map_words}
use Rattle.layout.specs.Calls.Cut.{Augmented, lengths, Cut}
use Rattle.layout.proofs.Lists.Buffers.{front_read}
use Rattle.layout.proofs.Lists.Members.{has-below}
use Rattle.layout.proofs.Lists.Joins.{map_same, take-map}
use Rattle.layout.proofs.Lists.Starts.{part_at, written_front}
use Rattle.layout.proofs.Columns.Sizes.{map-count, entries-length, compact_sizes_lem}
use Rattle.layout.proofs.Rows.Laid.{sound-laid}
use Rattle.layout.proofs.Promises.{taken}
use Rattle.layout.proofs.Checks.Accepted.{accepted-sound}
use Rattle.layout.proofs.Rows.ConeMap.{entry_first, entry_rows, blocks_from, first_word, rows_word, first-at, rows-sum, block_at}
use Rattle.cut_laws.specs.Equations.{written_b}

part-map : {A B : Type 0} (f : A → B) (n a : ℕ) (xs : List A) → take n (drop a (map f xs)) ≡ map f (take n (drop a xs))
part-map f n zero xs = take-map f n xs
part-map f zero (suc a) [] = refl
part-map f (suc n) (suc a) [] = refl
part-map f n (suc a) (x ∷ xs) = part-map f n a xs

module _ (p : Problem) (before after : Augmented) (cut : Cut 1 p before after 0) where
  -- first row and row count of entry k: words 5 k + 3 and 5 k + 4 of the written map
  abbrev first_row : ℕ → ℕ
  first_row k = get_or after.map (5 * k + 3) 0

  abbrev row_count : ℕ → ℕ
  row_count k = get_or after.map (5 * k + 4) 0

  abbrev entries : List MapEntry
  entries = cone_map (layout p)

  abbrev entry : ℕ → MapEntry
  entry k = get_or entries k (whole_cone 0 0 0)

  accepted : refusal compact p ≡ 0
  accepted = (taken 1 p (lengths before) (sym cut.number)).1.0

  b_is : written_b compact p after ≡ compact_b p
  b_is = front_read (compact_b p) before.b cut.tables.constrained.b

  inside : (k : ℕ) → k < cone_count (layout p) → k < length entries
  inside k l = omega (arith, map-count 0 (layout p))

  word_is : (i : ℕ) → i < 5 * cone_count (layout p) → get_or after.map i 0 ≡ get_or (map_words entries) i 0
  word_is i l =
      ap (λ (ws : List ℕ). get_or ws i 0) cut.tables.map
      ∙ written_front (map_words entries) before.map i 0 (omega (arith, entries-length entries, map-count 0 (layout p)))

  first_is : (k : ℕ) → k < cone_count (layout p) → first_row k ≡ entry_first (entry k)
  first_is k l = word_is (5 * k + 3) (omega arith) ∙ first_word entries k (whole_cone 0 0 0) (inside k l)

  rows_is : (k : ℕ) → k < cone_count (layout p) → row_count k ≡ entry_rows (entry k)
  rows_is k l = word_is (5 * k + 4) (omega arith) ∙ rows_word entries k (whole_cone 0 0 0) (inside k l)

  counts_are : (k : ℕ) → k ≤ cone_count (layout p) → map row_count (below k) ≡ take k (map entry_rows entries)
  counts_are k l =
      map_same row_count (λ j. get_or (map entry_rows entries) j 0) (below k)
      (λ j h. rows_is j (omega (arith, (has-below j k).0 h)) ∙ sym (get_or-map entry_rows entries j (whole_cone 0 0 0)))
      ∙ part_at 0 (map entry_rows entries) 0 k (omega (arith, length-map entries entry_rows, map-count 0 (layout p)))

  -- the first row of an entry is the sum of the row counts before it
  pub first-written : (k : ℕ) → k < cone_count (layout p) → first_row k ≡ sum (map row_count (below k))
  first-written k l = first_is k l ∙ first-at (layout p) k (whole_cone 0 0 0) (inside k l) ∙ ap sum (sym (counts_are k (omega arith)))

  -- the row counts of all entries sum to the length of b
  pub rows_written : sum (map row_count (below (cone_count (layout p)))) ≡ length (written_b compact p after)
  rows_written =
      let n = cone_count (layout p) in
      ap sum (counts_are n (omega arith) ∙ take_all n (map entry_rows entries) (omega (arith, length-map entries entry_rows, map-count 0 (layout p))))
      ∙ rows-sum (layout p) ∙ sym (ap (λ (ks : List ℕ). get_or ks 7 0) (compact_sizes_lem p accepted)) ∙ sym (ap length b_is)

  -- b holds the values of an entry's block from its first row on
  pub block_written : (k : ℕ) → k < cone_count (layout p)
      → take (row_count k) (drop (first_row k) (written_b compact p after)) ≡ map (row_value p.b) (get_or (blocks_from 0 (layout p)) k [])
  block_written k l =
      let f : Row → Float = row_value p.b in
      let R = compact_rows (layout p) in
      ap (λ (vs : List Float). take (row_count k) (drop (first_row k) vs)) b_is
      ∙ ap₂ (λ (n a : ℕ). take n (drop a (map f R))) (rows_is k l) (first_is k l) ∙ part-map f (entry_rows (entry k)) (entry_first (entry k)) R
      ∙ ap (map f) (block_at (layout p) (sound-laid (accepted-sound compact p accepted)).0 k (whole_cone 0 0 0) (inside k l))

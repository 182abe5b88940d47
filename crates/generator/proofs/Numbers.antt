-- The generator's refusal numbers: 15 before anything else, then 11.
use Prim.Native.Nat.{ℕ, suc, ◌+◌, ◌-◌, ◌≤◌, ◌<◌}
use native.Mathlib.Omega.{arith}
use mathlib.Core.Path.{◌≡◌}
use mathlib.Core.Bool.{Bool, true, false, cond}
use mathlib.Core.List.{List, map}
use lib.ListN.{length, get_or}
use lib.Dec.{T, lit<}
use borrow.Author.Tests.{le-leb, lt-leb}
use Rattle.layout.specs.General.Lists.{sum}
use Rattle.layout.specs.General.Triangle.{triangle}
use Rattle.layout.specs.Problems.Problem.{table_lengths}
use Rattle.layout.specs.Calls.Answers.{roomy}
use Rattle.layout.specs.Calls.Generate.{draws, drawn_ordering, band_rows, drawn_columns, generated, in_ranges, generate_sizes_refusal, generate_refusal}
use Rattle.layout.proofs.Checks.Rooms.{room_fits}
use Rattle.layout.proofs.Theorems.Generated.{generated-lengths}
use Rattle.generator.specs.Lengths.{lengths_of, RoomsOf}

module _ (seed v w n : ℕ) where
  -- the number of entries of A
  abbrev entries_of : ℕ
  entries_of = sum (map length (drawn_columns (draws (v - 1) seed) (band_rows (drawn_ordering seed v) v w) n))

  pub lengths_are : T (in_ranges seed v w n) → table_lengths (generated seed v w n) ≡ lengths_of v w n entries_of
  lengths_are ok = generated-lengths seed v w n ok

  -- refusals of the size call
  pub sizes_15 : (room : ℕ) → in_ranges seed v w n ≡ false → 15 ≡ generate_sizes_refusal seed v w n room
  sizes_15 room e = rw e

  pub sizes_11 : (room : ℕ) → in_ranges seed v w n ≡ true → room < 11 → 11 ≡ generate_sizes_refusal seed v w n room
  sizes_11 room e l = rw (e, lt-leb 11 room l)

  pub sizes-done : (room : ℕ) → in_ranges seed v w n ≡ true → 11 ≤ room → 0 ≡ generate_sizes_refusal seed v w n room
  sizes-done room e l = rw (e, le-leb 11 room l)

  -- refusals of the generator: 15, and then its check 11
  pub ranges_first : (rooms : List ℕ) → in_ranges seed v w n ≡ false → 15 ≡ generate_refusal seed v w n rooms
  ranges_first rooms e = rw e

  pub rooms-next : (rooms : List ℕ) → in_ranges seed v w n ≡ true
      → cond (roomy (table_lengths (generated seed v w n)) rooms) 0 11 ≡ generate_refusal seed v w n rooms
  rooms-next rooms e = rw e

-- ---- outputs that pass check 11

passing : (t : Bool) → ◌≡◌ {A = ℕ} 0 (cond t 0 11) → T t
passing true e = tt
passing false e = absurd (omega (arith, e))

-- those for A, with k entries, and b are long enough
pub rooms_enough : (v w n k : ℕ) (rooms : List ℕ) (a r x b : ℕ) → RoomsOf rooms a r x b → ◌≡◌ {A = ℕ} 0 (cond (roomy (lengths_of v w n k) rooms) 0 11)
    → (n + 1 ≤ a) × (k ≤ r) × (k ≤ x) × (triangle v ≤ b)
rooms_enough v w n k rooms a r x b are e =
    let f : (i : ℕ) → i < 11 → get_or (lengths_of v w n k) i 0 ≤ get_or rooms i 0 =
    λ i l. room_fits (lengths_of v w n k) rooms i (passing (roomy (lengths_of v w n k) rooms) e) l in
    let starts : suc n ≤ get_or rooms 4 0 = f 4 (lit< tt) in
    let rows : k ≤ get_or rooms 5 0 = f 5 (lit< tt) in
    let values : k ≤ get_or rooms 6 0 = f 6 (lit< tt) in
    let side : triangle v ≤ get_or rooms 7 0 = f 7 (lit< tt) in
    (omega (arith, starts, are.0), omega (arith, rows, are.1), omega (arith, values, are.2), omega (arith, side, are.3))

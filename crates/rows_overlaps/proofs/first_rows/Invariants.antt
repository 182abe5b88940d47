use Prim.Native.Nat.{ℕ, suc, ◌≤◌, ◌<◌, ◌+◌}
use mathlib.Core.Path.{◌≡◌}
use mathlib.Core.List.{map}
use lib.ListN.{length, get_or, drop}
use Rattle.layout.specs.General.Lists.{sum}
use Rattle.rows_overlaps.specs.Tables.{size_here}
use Rattle.rows_overlaps.proofs.first_rows.Given as goal

abbrev pub invariant-loop-c : goal.invariant-loop-c
invariant-loop-c l = let f = size_here l.words in
    (length l.out ≡ length l.initial.out) × (l.row ≡ l.first + sum (map f (drop l.c l.offsets)))
    × ((d : ℕ) → l.c ≤ d → d < length l.offsets → get_or l.out d 0 ≡ l.first + sum (map f (drop (suc d) l.offsets)))

-- For the row codes of an accepted problem, the values written are those of the compact cut's b.
use Prim.Native.Nat.{◌+◌, ◌≤◌, ◌<◌}
use native.Mathlib.Omega.{arith}
use mathlib.Core.Path.{◌≡◌, refl, ap₂}
use mathlib.Core.List.{List, [], ◌∷◌, map}
use lib.Ieee.{Float}
use borrow.Author.Tests.{lt-ltb, le-ltb}
use Rattle.layout.specs.Problems.Problem.{Problem, with_b, compact}
use Rattle.layout.specs.Rows.Blocks.{Row, kept, owned, overlap, original_row, compact_rows}
use Rattle.layout.specs.Checks.{layout, refusal}
use Rattle.layout.specs.Cuts.Compact.{row_value, compact_b}
use Rattle.layout.proofs.Lists.Members.{every_cons}
use Rattle.rows_codes.specs.Codes.{cut_code}
use Rattle.rows_codes.proofs.Rows.{Small, accepted-small}
use Rattle.sparsevector.specs.Values.{code_value}

row-value : (b : List Float) (x : Row) → original_row x < 65536 → code_value b (cut_code x) ≡ row_value b x
row-value b (kept o) l = rw (lt-ltb o 65536 l)
row-value b (owned o) l = rw (lt-ltb o 65536 l)
row-value b (overlap o q) l = let h : 65536 ≤ 65536 + q = omega arith in rw (le-ltb (65536 + q) 65536 h)

row-values : (b : List Float) (R : List Row) → Small R → map (code_value b) (map cut_code R) ≡ map (row_value b) R
row-values b [] h = refl
row-values b (x ∷ R) h =
    let (here, rest) = (every_cons (kept 0) (λ x. original_row x < 65536) x R).0 h in
    ap₂ (λ (v : Float) (vs : List Float). v ∷ vs) (row-value b x here) (row-values b R rest)

-- the values of any b by the codes of the compact rows are the augmented b
pub compact_values : (p : Problem) → refusal compact p ≡ 0 → (b : List Float) → map (code_value b) (map cut_code (compact_rows (layout p))) ≡ compact_b (with_b p b)
compact_values p ok b = row-values b (compact_rows (layout p)) (accepted-small p ok)

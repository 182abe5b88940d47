-- The rows of a pattern, marked from the last clique to the first.
use Prim.Native.Nat.{ℕ, suc, ◌-◌, ◌≤◌, ◌<◌}
use native.Mathlib.Omega.{arith}
use mathlib.Core.Path.{◌≡◌, ap, ◌∙◌}
use mathlib.Core.Bool.{Bool, true}
use mathlib.Core.List.{List, [], ◌∷◌, reverse, reverse-append}
use lib.ListN.{length, get_or, take}
use lib.Seq.{take-suc, take_all}
use Rattle.layout.specs.General.Lists.{join}
use Rattle.rows_blocks.specs.Vertices.{marked}
use Rattle.rows_blocks.proofs.Laws.{marked_append}

down : (os : List ℕ) (c : ℕ) → 0 < c → c ≤ length os → reverse (take c os) ≡ get_or os (c - 1) 0 ∷ reverse (take (c - 1) os)
down os c h l =
    let e : c ≡ suc (c - 1) = omega arith in
    ap (λ (k : ℕ). reverse (take k os)) e ∙ ap reverse (take-suc os (c - 1) 0 (omega arith))
    ∙ reverse-append (take (c - 1) os) (get_or os (c - 1) 0 ∷ [])

-- after marking the clique before index c, the cliques before that one are left
pub down_step : (f : ℕ → List ℕ) (os : List ℕ) (c : ℕ) (marks : List Bool) → 0 < c → c ≤ length os
    → marked true (join f (reverse (take c os))) marks ≡ marked true (join f (reverse (take (c - 1) os))) (marked true (f (get_or os (c - 1) 0)) marks)
down_step f os c marks h l =
    ap (λ (r : List ℕ). marked true (join f r) marks) (down os c h l)
    ∙ marked_append true (f (get_or os (c - 1) 0)) (join f (reverse (take (c - 1) os))) marks

pub down_start : (f : ℕ → List ℕ) (os : List ℕ) (marks : List Bool)
    → marked true (join f (reverse (take (length os) os))) marks ≡ marked true (join f (reverse os)) marks
down_start f os marks = ap (λ (r : List ℕ). marked true (join f (reverse r)) marks) (take_all (length os) os (omega arith))

pub down-done : (f : ℕ → List ℕ) (os : List ℕ) (c : ℕ) (marks : List Bool) → c ≡ 0 → marked true (join f (reverse (take c os))) marks ≡ marks
unfolding marked
down-done f [] c marks e = rw e
down-done f (o ∷ os) c marks e = rw e

use Prim.Native.Nat.{ℕ, ◌+◌, ◌-◌, ◌*◌}
use mathlib.Core.Path.{◌≡◌}
use mathlib.Core.Bool.{true}
use mathlib.Core.List.{List, [], ◌∷◌, ◌++◌}
use lib.ListN.{length, get_or, drop, length-append}
use native.Mathlib.Omega.{arith}
use Rattle.join_on_route.specs.Begins.{begins}
use Rattle.join_on_route.proofs.Entries.{inside, last_at}
use Rattle.join_on_route.proofs.told_end.Goals as goal
use Rattle.join_on_route.proofs.told_end.Goals.{Start}

-- if the words start with ws and the last entry, what was read is where the rows of that entry end
read : (s : Start) (ws : List ℕ) (i p c f n : ℕ) → length ws + 5 ≡ s.args.count * 5
    → begins (drop s.args.t s.args.entries.now) (ws ++ (i ∷ p ∷ c ∷ f ∷ n ∷ [])) ≡ true
    → let at = s.args.t + (s.args.count - 1) * 5 in
    get_or s.args.entries.now (at + 3) 0 + get_or s.args.entries.now (at + 4) 0 ≡ f + n
read s ws i p c f n e b =
    let a = s.args in
    let zs : List ℕ = i ∷ p ∷ c ∷ f ∷ n ∷ [] in
    let m : (a.count - 1) * 5 ≡ length ws = omega arith in
    omega (arith, last_at a.entries.now a.t ws zs ((a.count - 1) * 5) 3 b m (omega arith), last_at a.entries.now a.t ws zs ((a.count - 1) * 5) 4 b m (omega arith))

pub returns-then-entries-t : goal.returns-then-entries-t
returns-then-entries-t c ws i p q f n e b h =
    let zs : List ℕ = i ∷ p ∷ q ∷ f ∷ n ∷ [] in
    absurd (omega (arith, c.if-entries-t.true, inside c.args.entries.now c.args.t (ws ++ zs) c.requires.0 b, length-append ws zs))

pub returns-then-end-gt-AUGMENTED_ROWS : goal.returns-then-end-gt-AUGMENTED_ROWS
returns-then-end-gt-AUGMENTED_ROWS c ws i p q f n e b h =
    absurd (omega (arith, c.if-end-gt-AUGMENTED_ROWS.true, read (goal.at.returns-then-end-gt-AUGMENTED_ROWS c).Start ws i p q f n e b))

pub returns : goal.returns
returns c ws i p q f n e b h = read (goal.at.returns c).Start ws i p q f n e b

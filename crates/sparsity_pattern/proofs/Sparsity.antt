-- Check 5 as loops over the patterns.
use Prim.Native.Nat.{ℕ, suc}
use native.Mathlib.Omega.{arith}
use mathlib.Core.Bool.{Bool, ◌&&◌}
use mathlib.Core.Path.{◌≡◌, refl, ap, ◌∙◌}
use mathlib.Core.List.{List, [], ◌∷◌, map}
use lib.Dec.{ltb}
use borrow.Author.Tests.{le-leb}
use Rattle.layout.specs.General.Lists.{all, rises}
use Rattle.layout.specs.Problems.Cones.{records}
use Rattle.layout.specs.Problems.Patterns.{Pattern, read_patterns, ends_right, patterns}
use Rattle.layout.specs.Checks.{patterns_read, names_its_cone, orderings_right}
use Rattle.sparsity_pattern.specs.Sparsity.{rises_from, patterns_read_from}

rises-after : (x : ℕ) (xs : List ℕ) → rises (x ∷ xs) ≡ rises_from (suc x) xs
rises-after x [] = refl
rises-after x (y ∷ ys) = ap (λ (b : Bool). ltb x y && b) (rises-after y ys)

pub rises_start : (xs : List ℕ) → rises xs ≡ rises_from 0 xs
rises_start [] = refl
rises_start (x ∷ xs) = rises-after x xs ∙ rw (le-leb 0 x (omega arith))

-- check 5 of all patterns, which may name any cone
pub read_start : (cones : List ℕ) (count : ℕ) (ws : List ℕ) → patterns_read cones count ws ≡ patterns_read_from cones 0 count ws
read_start cones count ws =
    let ps = patterns count ws in
    ap (λ (b : Bool). ends_right (read_patterns count ws) && b && all (names_its_cone (records cones)) ps && orderings_right ps)
    (rises_start (map (λ (p : Pattern). p.orig_index) ps))

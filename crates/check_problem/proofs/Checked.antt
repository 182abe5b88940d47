-- What holds of a problem that passes checks 1 to 7, and of the inputs of a joining that pass.
use Prim.Native.Nat.{ℕ, ◌≤◌}
use mathlib.Core.Path.{◌≡◌}
use mathlib.Core.Bool.{◌&&◌}
use mathlib.Core.List.{List, [], ◌∷◌}
use lib.Dec.{T, leb}
use Rattle.layout.specs.General.Lists.{all}
use Rattle.layout.specs.Problems.Patterns.{patterns}
use Rattle.layout.specs.Checks.{Sound, cones_bounded, cones_read, patterns_read, tree_right, cliques_right, Check, check}
use Rattle.layout.proofs.Lists.Tests.{and_iff, leb_iff}
use Rattle.layout.proofs.Checks.Order.{passed}
use Rattle.check_problem.specs.Order.{patterns_refusal, joined_checks, joined_refusal}

-- cones and patterns that pass checks 1 and 4 to 7 are sound
pub patterns-sound : (m : ℕ) (cones : List ℕ) (count : ℕ) (words : List ℕ) → m ≤ 65536 → T (cones_bounded cones) → T (cones_read m cones)
    → patterns_refusal cones count words ≡ 0 → Sound m cones count words
patterns-sound m cones count words few bounded read e =
    let ps = patterns count words in
    let cs : List Check = check 5 (patterns_read cones count words) ∷ check 6 (all tree_right ps) ∷ check 7 (all cliques_right ps) ∷ [] in
    record {
      few = few;
      bounded = bounded;
      read = read;
      named = passed 5 cs tt e;
      trees = passed 6 cs tt e;
      cliques = passed 7 cs tt e;
    }

-- the inputs of a joining are sound if none of its checks fails
pub joined-sound : (n m : ℕ) (cones : List ℕ) (count : ℕ) (words : List ℕ)
    → joined_refusal n m cones count words ≡ 0 → Sound m cones count words
joined-sound n m cones count words e =
    let cs = joined_checks n m cones count words in
    let (counts, bounded) = (and_iff (leb n 65536 && leb m 65536) (cones_bounded cones)).0 (passed 1 cs tt e) in
    record {
      few = (simp (and_iff, leb_iff) at counts).1;
      bounded = bounded;
      read = passed 4 cs tt e;
      named = passed 5 cs tt e;
      trees = passed 6 cs tt e;
      cliques = passed 7 cs tt e;
    }

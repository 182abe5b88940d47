use Prim.Native.Nat.{ℕ, ◌≤◌}
use native.Mathlib.Omega.{arith}
use mathlib.Core.Path.{◌≡◌, refl, ap, ap₂, ◌∙◌}
use mathlib.Core.List.{List, [], ◌∷◌}
use lib.ListN.{length, set}
use borrow.Author.Tests.{le-leb}
use Rattle.layout.specs.General.Lists.{written}
use Rattle.layout.specs.General.Triangle.{index_row, index_column}
use Rattle.layout.proofs.Lists.Buffers.{set-written}
use Rattle.scalarmath.proofs.pair_back.Goals as goal

two_written : (out : List ℕ) (a b : ℕ) → 2 ≤ length out → set (set out 0 a) 1 b ≡ written (a ∷ b ∷ []) out
two_written out a b h = ap (λ (l : List ℕ). set l 1 b) (set-written [] out a 0 refl (omega arith)) ∙ set-written (a ∷ []) out b 1 refl h

pub returns : goal.returns
returns c =
    let index = c.args.index in
    let out = c.args.out.now in
    let at = c.upper_triangular_index_to_coord-at.ensures in record {
      number = simp (le-leb index 32895 c.if-index-gt-PLACE.false, le-leb 2 (length out) c.if-out-lt2.false);
      out = ap₂ (λ (a b : ℕ). set (set out 0 a) 1 b) at.0 at.1 ∙ two_written out (index_row index) (index_column index) c.if-out-lt2.false;
    }

use Rattle.layout.proofs.Lists.Walks.{all-step}
use Rattle.layout.proofs.Lists.Tests.{passed}
use Rattle.layout.proofs.Lists.Members.{has_get_or}
use Rattle.layout.specs.General.Lists.{has}
use lib.ListN.{length, get_or}
use lib.Dec.{T}
use Prim.Native.Nat.{ℕ, ◌<◌}
use mathlib.Core.Path.{◌≡◌, sym, subst, ◌∙◌}
use mathlib.Core.Bool.{true}
use mathlib.Core.List.{List}
use native.Mathlib.Omega.{arith}
use Rattle.check_members.proofs.held.Goals as goal

-- a member that was found is in ms
found : (x : ℕ) (ms : List ℕ) (j : ℕ) → j < length ms → x ≡ get_or ms j 0 → has x ms ≡ true
found x ms j h e = passed (has x ms) (subst (λ (y : ℕ). T (has y ms)) (sym e) (has_get_or ms j 0 h))

pub walk-preserved : goal.walk-preserved
walk-preserved c =
    let us = c.args.us.now in
    let ms = c.args.ms.now in (
      omega arith,
      c.walk.invariant.1 ∙ all-step (λ u. has u ms) us c.walk.x-index 0 c.walk-test.true (found _ ms c.loop-j.j c.if-ms-j.false c.if-x-ms.true),
      c.loop-j.invariant.2,
    )

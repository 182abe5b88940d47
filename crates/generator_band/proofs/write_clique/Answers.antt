use Prim.Native.Nat.{◌+◌}
use native.Mathlib.Omega.{arith}
use mathlib.Core.Path.{refl}
use mathlib.Core.List.{[], ◌∷◌}
use Rattle.layout.specs.General.Lists.{up_from}
use Rattle.layout.proofs.Lists.Buffers.{written_after}
use Rattle.layout.proofs.Lists.Members.{length-up_from}
use Rattle.generator_band.proofs.write_clique.Goals as goal

pub returns : goal.returns
returns c =
    let a = c.args in
    written_after (a.parent ∷ a.snode ∷ a.separator ∷ []) (up_from a.first (a.snode + a.separator)) a.out.now 3 refl
    (omega (arith, length-up_from a.first (a.snode + a.separator))) c.copy_front.ensures c.write_members.ensures

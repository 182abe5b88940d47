use Rattle.std.proofs.Common.{arith, refl}
use Rattle.std.proofs.lemmas.List.{take_min}
use Rattle.layout.proofs.Lists.Buffers.{mapped_more, mapped-done}
use Rattle.stored.proofs.room.Goals as goal

pub loop-i-preserved : goal.loop-i-preserved
loop-i-preserved g c = rw (c.loop-i.invariant, c.unwritten.ensures) (mapped_more g.T.Element.before c.args.out.now c.loop-i.i (omega arith))

pub returns : goal.returns
returns g c = rw (c.min-n.ensures, take_min, c.loop-i.invariant, mapped-done g.T.Element.before c.args.out.now c.loop-i.i (omega arith)) refl

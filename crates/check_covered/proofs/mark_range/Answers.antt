use mathlib.Core.Path.{sym, ◌∙◌}
use Rattle.check_covered.proofs.Marks.{range_start, range_step, range_done}
use Rattle.check_covered.proofs.mark_range.Goals as goal

pub loop-i-init : goal.loop-i-init
loop-i-init c = range_start c.args.first c.args.count c.args.covered.now

pub loop-i-preserved : goal.loop-i-preserved
loop-i-preserved c = sym (range_step c.args.first c.args.count c.loop-i.i c.loop-i.covered c.loop-i-test.true) ∙ c.loop-i.invariant

pub returns : goal.returns
returns c = sym (range_done c.args.first c.args.count c.loop-i.i c.loop-i.covered c.loop-i-test.false) ∙ c.loop-i.invariant

use borrow.Author.Tests.{eq-eqb, ne_eqb}
use Rattle.join_rows.proofs.side_few.Goals as goal

pub returns-then-kind-ne-PSD_TRIANGLE : goal.returns-then-kind-ne-PSD_TRIANGLE
returns-then-kind-ne-PSD_TRIANGLE c = rw (ne_eqb c.args.kind 6 c.if-kind-ne-PSD_TRIANGLE.true)

pub returns-else-kind-ne-PSD_TRIANGLE : goal.returns-else-kind-ne-PSD_TRIANGLE
returns-else-kind-ne-PSD_TRIANGLE c = rw (eq-eqb c.args.kind 6 c.if-kind-ne-PSD_TRIANGLE.false)

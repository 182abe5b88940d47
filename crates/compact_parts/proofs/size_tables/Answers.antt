use Rattle.compact_parts.proofs.Given.{sized_as}
use Rattle.compact_parts.proofs.size_tables.Goals as goal

pub returns : goal.returns
returns c = sized_as c.problem_in.ensures c.sizes.ensures

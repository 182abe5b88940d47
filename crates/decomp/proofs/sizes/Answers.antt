use Rattle.constants.proofs.Answers.{passed_on}
use Rattle.decomp.proofs.Refusals.{sizes_said}
use Rattle.decomp.proofs.sizes.Goals as goal

pub returns-in_err-count_sizes : goal.returns-in_err-count_sizes
returns-in_err-count_sizes c =
    sizes_said (passed_on c.from_residual.result c.in_err-count_sizes.field-0.0 c.from_residual.ensures) c.in_err-count_sizes.ensures.fact

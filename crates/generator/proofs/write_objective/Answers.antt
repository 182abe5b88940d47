use Prim.Native.Nat.{ℕ}
use native.Mathlib.Numerals.{add-one}
use mathlib.Core.Path.{ap, ◌∙◌}
use lib.ListN.{replicate}
use lib.Ieee.{of_bits}
use Rattle.layout.specs.General.Lists.{written}
use Rattle.generator.proofs.write_objective.Goals as goal

pub returns : goal.returns
unfolding of_bits
returns c =
    let a = c.args in record { p_starts_out_after = c.fill_front.ensures ∙ ap (λ (k : ℕ). written (replicate k 0) a.p_starts_out.now) (add-one a.n); q_out_after = c.fill_front-2.ensures }

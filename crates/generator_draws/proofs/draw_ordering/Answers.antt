use Prim.Native.Nat.{ℕ, ◌-◌}
use mathlib.Core.Path.{◌≡◌, ap, ap₂, ◌∙◌}
use mathlib.Core.List.{List}
use lib.ListN.{length}
use Rattle.layout.specs.Calls.Generate.{draws, exchanges}
use Rattle.generator_draws.proofs.draw_ordering.Goals as goal

pub returns : goal.returns
returns c =
    let same : length c.count_up.new.out ≡ length c.args.out.now = c.count_up.auto.out in record { value = c.exchange_all.ensures.value ∙ ap (λ (k : ℕ). draws (k - 1) c.args.seed) same; out_after = c.exchange_all.ensures.out_after ∙ ap₂ (λ (k : ℕ) (xs : List ℕ). exchanges (k - 1) c.args.seed xs) same c.count_up.ensures }

use Prim.Native.Nat.{ℕ}
use mathlib.Core.Path.{ap, ◌∙◌}
use mathlib.Core.Bool.{cond}
use mathlib.Core.List.{List}
use Rattle.layout.specs.Calls.Answers.{roomy}
use Rattle.generator.proofs.check_outputs.Goals as goal

pub returns : goal.returns
returns c =
    let a = c.args in
    c.check_rooms.ensures ∙ ap (λ (ks : List ℕ). cond (roomy ks a.rooms.now) 0 11) c.write_lengths.ensures

use Prim.Native.Nat.{ℕ, ◌+◌}
use mathlib.Core.Path.{ap, ◌∙◌}
use Rattle.layout.specs.General.Lists.{part, written}
use Rattle.file_tables.proofs.copy_table.Goals as goal

pub returns : goal.returns
returns c =
    c.copy_front.ensures
    ∙ ap (λ (a : ℕ). written (part a (a + c.args.count) c.args.words.now) c.args.out.now) c.start_of-at.ensures.0

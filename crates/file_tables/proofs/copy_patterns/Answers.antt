use Prim.Native.Nat.{ℕ, ◌+◌, ◌*◌}
use mathlib.Core.Path.{ap, ◌∙◌}
use Rattle.layout.specs.General.Lists.{part, written}
use Rattle.layout.specs.Files.FileWords.{pairs_of}
use Rattle.file_tables.proofs.copy_patterns.Goals as goal

pub returns : goal.returns
returns c =
    c.write_patterns.ensures
    ∙ ap (λ (a : ℕ). written (pairs_of (part a (a + 2 * c.args.count) c.args.words.now)) c.args.out.now) c.start_of-at.ensures.0

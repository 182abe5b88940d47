use Rattle.layout.proofs.Files.FileWalks.{pairs-written}
use Rattle.layout.specs.Files.FileWords.{pairs_of}
use Rattle.layout.specs.General.Lists.{written}
use lib.Seq.{take_all}
use lib.ListN.{set}
use mathlib.Core.Path.{ap, ap₂, ◌∙◌}
use mathlib.Core.List.{List}
use Prim.Native.Nat.{ℕ, ◌*◌}
use native.Mathlib.Omega.{arith}
use Rattle.file_bytes.proofs.write_patterns.Goals as goal

pub loop-i-preserved : goal.loop-i-preserved
loop-i-preserved c =
    let ws = c.args.words.now in
    ap₂ (λ (o : List ℕ) (v : ℕ). set o c.loop-i.i v) c.loop-i.invariant c.pattern.ensures
    ∙ pairs-written ws c.args.out.now c.loop-i.i (omega arith) (omega arith)

pub returns : goal.returns
returns c =
    c.loop-i.invariant
    ∙ ap (λ (r : List ℕ). written (pairs_of r) c.args.out.now) (take_all (2 * c.loop-i.i) c.args.words.now (omega arith))

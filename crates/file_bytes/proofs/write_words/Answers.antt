use Rattle.layout.proofs.Files.FileWalks.{put_word, bytes_written}
use lib.Seq.{take_all}
use Rattle.layout.specs.General.Lists.{written}
use Rattle.layout.specs.General.Bytes.{table_bytes}
use lib.ListN.{get_or}
use mathlib.Core.Path.{ap, ◌∙◌}
use mathlib.Core.List.{List}
use Prim.Native.Nat.{ℕ, ◌*◌}
use native.Mathlib.Omega.{arith}
use Rattle.file_bytes.proofs.write_words.Goals as goal

pub loop-i-preserved : goal.loop-i-preserved
loop-i-preserved c =
    let ws = c.args.words.now in
    let i = c.loop-i.i in
    c.put_word.ensures ∙ ap (λ (o : List ℕ). put_word o (4 * i) (get_or ws i 0)) c.loop-i.invariant
    ∙ bytes_written ws c.args.out.now i (omega arith) c.requires

pub returns : goal.returns
returns c =
    c.loop-i.invariant
    ∙ ap (λ (r : List ℕ). written (table_bytes 4 r) c.args.out.now) (take_all c.loop-i.i c.args.words.now (omega arith))

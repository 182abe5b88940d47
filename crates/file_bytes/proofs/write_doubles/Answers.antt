use Rattle.layout.proofs.Files.FileWalks.{put_word, halves_written, halves_done}
use lib.ListN.{get_or}
use mathlib.Core.Path.{ap, ◌∙◌}
use mathlib.Core.List.{List}
use Prim.Native.Nat.{ℕ, ◌+◌, ◌*◌, ◌/◌, ◌%◌}
use native.Mathlib.Omega.{arith}
use Rattle.file_bytes.proofs.write_doubles.Goals as goal

pub loop-i-preserved : goal.loop-i-preserved
loop-i-preserved c =
    let vs = c.args.values.now in
    let i = c.loop-i.i in
    let v = get_or vs i 0 in
    c.put_word-in-loop-i.ensures
    ∙ ap (λ (o : List ℕ). put_word o (8 * i + 4) (v / 4294967296))
    (c.put_word.ensures ∙ ap (λ (o : List ℕ). put_word o (8 * i) (v % 4294967296)) c.loop-i.invariant)
    ∙ halves_written vs c.args.out.now i (omega arith) c.requires

pub returns : goal.returns
returns c =
    c.loop-i.invariant ∙ halves_done c.args.values.now c.args.out.now c.loop-i.i (omega arith)

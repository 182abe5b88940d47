use Rattle.layout.proofs.Lists.Tests.{cond_passed, cond_failed}
use lib.Dec.{leb, leb→le, le→leb}
use lib.ListN.{set}
use mathlib.Core.Path.{ap₂}
use mathlib.Core.List.{List}
use Prim.Native.Nat.{ℕ}
use mathlib.Core.Path.{refl, sym, ◌∙◌}
use lib.ListN.{length}
use Rattle.layout.specs.Files.FileWords.{file_words}
use Rattle.layout.proofs.Files.FileWords.{words-length}
use Rattle.layout.proofs.Files.FileWalks.{word_bytes}
use Rattle.layout.proofs.Lists.Buffers.{copy_more, copy_done}
use native.Mathlib.Omega.{arith}
use Rattle.file_bytes.proofs.file_words.Goals as goal

pub returns-then-out-count : goal.returns-then-out-count
returns-then-out-count c =
    let need = length (file_words c.args.file.now) in
    let room = length c.args.out.now in
    let long = words-length c.args.file.now in
    record { number = sym (cond_failed (leb need room) 0 11 (λ h. absurd (omega (arith, leb→le need room h)))); out = refl }

pub loop-i-preserved : goal.loop-i-preserved
loop-i-preserved c =
    let ws = file_words c.args.file.now in
    let long = words-length c.args.file.now in
    ap₂ (λ (o : List ℕ) (v : ℕ). set o c.loop-i.i v) c.loop-i.invariant
    (c.word_at.ensures ∙ sym (word_bytes c.args.file.now c.loop-i.i (omega arith)))
    ∙ copy_more ws c.args.out.now c.loop-i.i 0 (omega arith) (omega arith)

pub returns : goal.returns
returns c =
    let ws = file_words c.args.file.now in
    let long = words-length c.args.file.now in
    record {
      number = sym (cond_passed (leb (length ws) (length c.args.out.now)) 0 11 (le→leb (length ws) (length c.args.out.now) (omega arith)));
      out = c.loop-i.invariant ∙ copy_done ws c.args.out.now c.loop-i.i (omega arith);
    }

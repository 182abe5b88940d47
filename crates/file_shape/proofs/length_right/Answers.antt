use Prim.Native.Nat.{ℕ, ◌/◌}
use mathlib.Core.Path.{sym, ap, ap₂, ◌∙◌}
use mathlib.Core.Bool.{Bool, ◌&&◌}
use lib.ListN.{length, get_or}
use lib.Dec.{eqb, leb}
use Rattle.layout.specs.Files.FileWords.{words_length_right}
use Rattle.layout.proofs.Lists.Tests.{passed, failed, eqb_iff, leb_iff}
use Rattle.layout.proofs.Files.FileWords.{words_long}
use native.Mathlib.Omega.{arith}
use Rattle.file_shape.proofs.length_right.Goals as goal

pub returns-then-words-bytes : goal.returns-then-words-bytes
returns-then-words-bytes c =
    let ws = c.args.words.now in
    sym (failed (words_length_right ws c.args.bytes) (λ h. c.if-words-bytes.true (words_long ws c.args.bytes h).0))

pub returns-then-words-lt-WORDS : goal.returns-then-words-lt-WORDS
returns-then-words-lt-WORDS c =
    let ws = c.args.words.now in
    sym (failed (words_length_right ws c.args.bytes) (λ h. absurd (omega (arith, c.if-words-lt-WORDS.true, (words_long ws c.args.bytes h).1))))

pub returns : goal.returns
returns c =
    let ws = c.args.words.now in
    let n = c.args.bytes in
    ap (λ (k : ℕ). eqb k n) c.count_at-said.ensures.0
    ∙ sym (ap₂ (λ (x y : Bool). x && y && eqb (get_or ws 19 0) n) (passed (eqb (length ws) (n / 4)) ((eqb_iff (length ws) (n / 4)).1 c.if-words-bytes.false))
    (passed (leb 20 (length ws)) ((leb_iff 20 (length ws)).1 c.if-words-lt-WORDS.false)))

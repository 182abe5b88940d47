use Prim.Native.Nat.{ℕ, ◌/◌}
use native.Mathlib.Omega.{arith}
use mathlib.Core.Path.{ap, sym, subst, ◌∙◌}
use mathlib.Core.List.{List}
use lib.ListN.{length}
use lib.Seq.{length-take-le}
use Rattle.layout.specs.Files.File.{refused_text}
use Rattle.layout.specs.Files.FileWords.{word_shape_failing}
use Rattle.compact_file.specs.Program.{Small, words_output}
use Rattle.compact_file.proofs.Laws.{words_taken, small-words, program-words, program_long, none_written, all-written}
use Rattle.compact_file.proofs.cut_file.Goals as goal

pub returns-then-out-lt-OUT_BYTES : goal.returns-then-out-lt-OUT_BYTES
returns-then-out-lt-OUT_BYTES c =
    none_written c.args.file.now c.args.out.now c.if-out-lt-OUT_BYTES.true

pub returns-then-file-gt-IN_BYTES : goal.returns-then-file-gt-IN_BYTES
returns-then-file-gt-IN_BYTES c =
    all-written c.args.file.now c.args.out.now (refused_text 1) c.if-out-lt-OUT_BYTES.false (program_long c.args.file.now c.if-file-gt-IN_BYTES.true) c.refuse.ensures.0 c.refuse.ensures.1

pub slice_bounds-cut_words-end : goal.slice_bounds-cut_words-end
slice_bounds-cut_words-end c = sym (length-take-le (length c.args.file.now / 4) c.file_words.new.out (omega (arith, c.if-file-gt-IN_BYTES.false, c.file_words.auto.out)))

pub cut_words-requires : goal.cut_words-requires
cut_words-requires c =
    let f = c.args.file.now in
    let e = words_taken f c.if-file-gt-IN_BYTES.false c.file_words.ensures in
    (λ z. subst Small (sym e) (small-words f (λ i l. omega (arith, c.shared_slice_known-1.given i)) c.if-file-gt-IN_BYTES.false (sym (ap (λ (l : List ℕ). word_shape_failing l (length f)) e) ∙ z)), c.if-out-lt-OUT_BYTES.false)

pub returns : goal.returns
returns c =
    let f = c.args.file.now in
    let e = words_taken f c.if-file-gt-IN_BYTES.false c.file_words.ensures in
    let same = program-words f (λ i l. omega (arith, c.shared_slice_known-1.given i)) c.if-file-gt-IN_BYTES.false ∙ sym (ap (λ (l : List ℕ). words_output l (length f)) e) in
    all-written f c.args.out.now _ c.if-out-lt-OUT_BYTES.false same c.cut_words.ensures.0 c.cut_words.ensures.1

use mathlib.Core.Path.{ap, sym, ◌∙◌}
use mathlib.Core.List.{List}
use Prim.Native.Nat.{ℕ}
use native.Mathlib.Omega.{arith}
use lib.ListN.{length}
use Rattle.constants.proofs.Answers.{number_positive}
use Rattle.layout.specs.General.Lists.{written}
use Rattle.file_shape.proofs.Parts.{stands}
use Rattle.compact_file.proofs.Laws.{words-refused, words_passed}
use Rattle.compact_file.proofs.cut_words.Goals as goal

pub refuse-requires : goal.refuse-requires
refuse-requires c = omega (arith, c.requires.1)

pub returns-in-Err : goal.returns-in-Err
returns-in-Err c =
    let ws = c.args.words.now in
    let positive = number_positive c.in-Err.refusal in
    let e = (words-refused ws c.args.bytes (λ z. omega (arith, positive, z)) c.in-Err.ensures).1 in
    (c.refuse.ensures.0 ∙ sym (ap length e), c.refuse.ensures.1 ∙ sym (ap (λ (l : List ℕ). written l c.args.out.now) e))

pub cut_tables-requires : goal.cut_tables-requires
cut_tables-requires c =
    let ok = sym c.in-Ok.ensures in
    (stands c.args.words.now c.args.bytes ok, c.requires.0 ok, c.requires.1)

pub returns-in-Ok : goal.returns-in-Ok
returns-in-Ok c =
    let e = words_passed c.args.words.now c.args.bytes (sym c.in-Ok.ensures) in
    (c.cut_tables.ensures.0 ∙ sym (ap length e), c.cut_tables.ensures.1 ∙ sym (ap (λ (l : List ℕ). written l c.args.out.now) e))

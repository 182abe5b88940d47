use Prim.Native.Nat.{ℕ, ◌<◌}
use native.Mathlib.Omega.{arith}
use mathlib.Core.Path.{◌≡◌, sym, ap, ◌∙◌}
use mathlib.Core.Bool.{cond}
use mathlib.Core.List.{◌∷◌}
use Rattle.layout.specs.Calls.Answers.{or_else, roomy}
use Rattle.layout.specs.Files.File.{counts_in, counted_lengths}
use Rattle.layout.specs.Files.FileWords.{words_failing}
use Rattle.constants.proofs.Answers.{passed_on, number_positive}
use Rattle.check_problem.proofs.Order.{first-given}
use Rattle.file_shape.proofs.Parts.{accepted-stands}
use Rattle.file_refusals.proofs.refuse_read.Goals as goal
use Rattle.file_refusals.proofs.refuse_read.Goals.{Start}

abbrev room : Start → ℕ
room s = cond (roomy (8 ∷ counted_lengths (counts_in s.args.words.now)) s.args.rooms.now) 0 11

pub returns-in_err-refuse_words : goal.returns-in_err-refuse_words
returns-in_err-refuse_words c =
    let s = (goal.at.returns-in_err-refuse_words c).Start in
    let e = c.in_err-refuse_words.field-0.0 in
    let some = number_positive e in
    passed_on c.from_residual.result e c.from_residual.ensures
    ∙ (c.in_err-refuse_words.ensures
    ∙ sym (first-given (words_failing c.args.words.now c.args.bytes) (room s) (λ z. omega (arith, some, c.in_err-refuse_words.ensures, z))))

-- all checks before 11 pass
pub check_room-requires : goal.check_room-requires
check_room-requires c = accepted-stands c.args.words.now c.args.bytes (sym c.in_ok-refuse_words.ensures)

pub returns : goal.returns
returns c =
    let s = (goal.at.returns c).Start in
    c.check_room.ensures ∙ ap (λ (k : ℕ). or_else k (room s)) c.in_ok-refuse_words.ensures

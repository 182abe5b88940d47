use Prim.Native.Nat.{ℕ, ◌<◌}
use native.Mathlib.Omega.{arith}
use mathlib.Core.Path.{◌≡◌, sym, ap, ◌∙◌}
use Rattle.layout.specs.Calls.Answers.{or_else, problem_refusal}
use Rattle.layout.specs.Files.FileWords.{word_shape_failing, unvalued_problem}
use Rattle.layout.proofs.Files.FileWalks.{words-unvalued}
use Rattle.constants.proofs.Answers.{passed_on, number_positive}
use Rattle.check_problem.proofs.Order.{first-given}
use Rattle.file_shape.proofs.Parts.{stands}
use Rattle.file_refusals.proofs.refuse_words.Goals as goal

pub returns-in_err-shape_refusal : goal.returns-in_err-shape_refusal
returns-in_err-shape_refusal c =
    let ws = c.args.words.now in
    let e = c.in_err-shape_refusal.field-0.0 in
    let some = number_positive e in
    passed_on c.from_residual.result e c.from_residual.ensures
    ∙ (c.in_err-shape_refusal.ensures
    ∙ sym (words-unvalued ws c.args.bytes ∙ first-given (word_shape_failing ws c.args.bytes) (problem_refusal (unvalued_problem ws)) (λ z. omega (arith, some, c.in_err-shape_refusal.ensures, z))))

pub check_words-requires : goal.check_words-requires
check_words-requires c = stands c.args.words.now c.args.bytes (sym c.in_ok-shape_refusal.ensures)

pub returns : goal.returns
returns c =
    let ws = c.args.words.now in
    c.check_words.ensures
    ∙ sym (words-unvalued ws c.args.bytes ∙ ap (λ (k : ℕ). or_else k (problem_refusal (unvalued_problem ws))) (sym c.in_ok-shape_refusal.ensures))

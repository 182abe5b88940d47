use mathlib.Core.Path.{◌∙◌}
use Rattle.file_refusals.proofs.Laws.{words_checked}
use Rattle.file_refusals.proofs.check_words.Goals as goal

pub returns : goal.returns
returns c =
    c.check_lengths.ensures
    ∙ words_checked c.args.words.now
    c.words_of.ensures
    c.words_of-2.ensures
    c.count_at.ensures.0
    c.count_at-2.ensures.0
    c.words_of-3.ensures
    c.words_of-4.ensures
    c.count_at-3.ensures.0
    c.count_at-4.ensures.0
    c.words_of-5.ensures
    c.count_at-5.ensures.0
    c.words_of-6.ensures

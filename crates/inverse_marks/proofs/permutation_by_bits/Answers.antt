use Rattle.inverse_marks.proofs.Flags.{flags_ready}
use Rattle.inverse_marks.proofs.permutation_by_bits.Goals as goal

pub mark_each-requires : goal.mark_each-requires
mark_each-requires g c = (let it = flags_ready g.row.N _ c.requires.words_len_bound in record { marks_value = it.0; words_len_bound = it.1 })

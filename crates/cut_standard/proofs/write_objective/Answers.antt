use lib.Ieee.{of_bits}
use Rattle.cut_standard.proofs.write_objective.Goals as goal

pub extend_starts-requires : goal.extend_starts-requires
extend_starts-requires c =
    record { t = c.requires.right; k_in_bounds = c.requires.starts }

pub copy_front-requires : goal.copy_front-requires
copy_front-requires c = c.requires.rows

pub copy_front-requires-2 : goal.copy_front-requires-2
copy_front-requires-2 c = c.requires.values

pub extend_front-requires : goal.extend_front-requires
extend_front-requires c = c.requires.costs

pub copy_front-requires-3 : goal.copy_front-requires-3
copy_front-requires-3 c = c.requires.alphas

pub shape_of-p_starts_out : goal.shape_of-p_starts_out
shape_of-p_starts_out c = c.extend_starts.auto.out

pub shape_of-p_rows_out : goal.shape_of-p_rows_out
shape_of-p_rows_out c = c.copy_front.auto.out

pub shape_of-p_values_out : goal.shape_of-p_values_out
shape_of-p_values_out c = c.copy_front-2.auto.out

pub shape_of-q_out : goal.shape_of-q_out
shape_of-q_out c = c.extend_front.auto.out

pub shape_of-alphas_out : goal.shape_of-alphas_out
shape_of-alphas_out c = c.copy_front-3.auto.out

pub returns : goal.returns
unfolding of_bits
returns c = record {
  p_starts = c.extend_starts.ensures;
  p_rows = c.copy_front.ensures;
  p_values = c.copy_front-2.ensures;
  q = c.extend_front.ensures;
  alphas = c.copy_front-3.ensures;
}

use Rattle.pool_tables.proofs.copy_matrix.Goals as goal

pub returns : goal.returns
returns c =
    record { starts_out_after = c.copy_front.ensures; rows_out_after = c.copy_front-2.ensures; values_out_after = c.copy_front-3.ensures }

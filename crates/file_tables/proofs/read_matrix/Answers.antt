use Rattle.file_tables.proofs.read_matrix.Goals as goal

pub returns : goal.returns
returns c = record { starts_out_after = c.copy_table.ensures; rows_out_after = c.copy_table-2.ensures; values_out_after = c.copy_patterns.ensures; side_out_after = c.copy_patterns-2.ensures }

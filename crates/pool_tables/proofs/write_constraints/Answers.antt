use Rattle.pool_tables.proofs.write_constraints.Goals as goal

pub stack_starts-requires : goal.stack_starts-requires
stack_starts-requires c =
    let f = c.requires in record { starts_len = (f.starts.0.0, f.starts2.0.0, f.a_starts); sums_fit = f.sums }

pub stack_rows-requires : goal.stack_rows-requires
stack_rows-requires c =
    let f = c.requires in record { starts_of = (f.starts.0, f.starts2.0); raisable = f.raisable; rows2_in_bounds = f.a_rows }

pub stack_values-requires : goal.stack_values-requires
stack_values-requires c =
    let f = c.requires in record { starts_of = (f.starts.1, f.starts2.1); values2_in_bounds = f.a_values }

pub append-requires : goal.append-requires
append-requires c = c.requires.b

pub returns : goal.returns
returns c =
    record {
      a_starts = c.stack_starts.ensures;
      a_rows = c.stack_rows.ensures;
      a_values = c.stack_values.ensures;
      b = c.append.ensures;
    }

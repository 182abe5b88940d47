use Rattle.augment_standard.proofs.Constraints.{sound}
use Rattle.cut_compact.proofs.Laws.{few-rows}
use Rattle.cut_compact.proofs.write_compact_a.Goals as goal

pub with_tables-requires-else-rows-le2048-clause-rows_bound : goal.with_tables-requires-else-rows-le2048-clause-rows_bound
with_tables-requires-else-rows-le2048-clause-rows_bound c =
    let f = c.requires.fact in
    let few = few-rows f.accepted f.blocks in
    (few, few, (sound f.accepted).few)

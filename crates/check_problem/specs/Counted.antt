-- What checks that pass have counted.
use Rattle.std.specs.Prelude.{◌≡◌, List}
use Rattle.layout.specs.Rows.Blocks.{Part, block_row_count, overlap_count, cone_count}
use Rattle.check_problem.specs.declared.Counts.{Counts}

-- c has the numbers of block rows, of overlaps and of new cones of the parts
abbrev pub Counted : List Part → Counts → Type 0
Counted ps c = (c.rows ≡ block_row_count ps) × (c.overlaps ≡ overlap_count ps) × (c.cones ≡ cone_count ps)

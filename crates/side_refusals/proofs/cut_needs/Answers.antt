use native.Mathlib.Nat.{le_trans}
use lib.Dec.{lit≤}
use Rattle.layout.proofs.Checks.Accepted.{fits-u32}
use Rattle.side_refusals.proofs.cut_needs.Goals as goal

pub overflow_cast-p_entries : goal.overflow_cast-p_entries
overflow_cast-p_entries c = fits-u32 _ c.requires.tables_few.0

pub count_entries-a_entries-requires : goal.count_entries-a_entries-requires
count_entries-a_entries-requires c = (c.requires.tables_few.2, c.requires.tables_few.3)

pub overflow_cast-alpha_count : goal.overflow_cast-alpha_count
overflow_cast-alpha_count c = fits-u32 _ (le_trans c.requires.tables_few.1 (lit≤ tt))

pub write_sizes-requires-clause-fitting : goal.write_sizes-requires-clause-fitting
write_sizes-requires-clause-fitting c = rw c.count_entries-a_entries.ensures c.requires.fitting

pub returns : goal.returns
returns c = rw c.count_entries-a_entries.ensures at c.write_sizes.ensures

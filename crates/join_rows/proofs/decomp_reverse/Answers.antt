use mathlib.Core.Path.{sym, subst, ◌∙◌}
use lib.Dec.{T}
use borrow.Author.Tests.{not-false}
use Rattle.join_rows.proofs.Counts.{counts-few}
use Rattle.join_rows.proofs.decomp_reverse.Goals as goal

pub join_parts-requires : goal.join_parts-requires
join_parts-requires c =
    record { joinable = c.requires.joinable; m_in_bounds = (c.requires.m_in_bounds.0, c.requires.m_in_bounds.1, counts-few c.args.standard c.args.m c.args.cones.now (subst T (sym (sym c.counts_few.ensures ∙ not-false _ c.if-not-counts_few.false-raw)) tt)); starts = c.requires.starts }

use Rattle.std.proofs.Common.{ℕ, ◌+◌, false, drop, map, length}
use mathlib.Core.List.{reverse}
use Rattle.layout.specs.General.Lists.{join}
use Rattle.rows_blocks.specs.Cliques.{rows_here}
use Rattle.reverse_standard.specs.Routes.{Starts}
use Rattle.join_blocks.proofs.Laws.{Left}
use Rattle.join_blocks.proofs.join_cliques_down.Given as goal

abbrev pub invariant-loop-i : goal.invariant-loop-i
invariant-loop-i l =
    Starts false l.map (l.entry + l.i) l.t (map (λ (o : ℕ). length (rows_here 0 l.words l.ordering o)) (drop l.i (reverse l.offsets)))
    × Left false l.s l.z l.first (join (rows_here 0 l.words l.ordering) (reverse l.offsets)) l.initial.s_out l.initial.z_out l.initial.counts
    l.t (join (rows_here 0 l.words l.ordering) (drop l.i (reverse l.offsets))) l.s_out l.z_out l.counts

use Prim.Native.Nat.{◌-◌}
use Rattle.check_cliques.proofs.Snodes.{Counting}
use Rattle.check_cliques.proofs.snodes_fill.Given as goal

abbrev pub invariant-loop : goal.invariant-loop
invariant-loop l = Counting l.p.vertex_count l.words l.p.cliques l.p.clique_count l.total l.at (l.p.clique_count - l.counter)

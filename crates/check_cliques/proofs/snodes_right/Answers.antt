use Prim.Native.Nat.{◌+◌}
use native.Mathlib.Omega.{arith}
use mathlib.Core.Bool.{true}
use mathlib.Core.Path.{◌≡◌, sym, ◌∙◌}
use lib.ListN.{length}
use lib.Dec.{T, ltb}
use Rattle.layout.specs.General.Lists.{all, keep, distinct}
use Rattle.layout.proofs.Lists.Tests.{passes}
use Rattle.utils.proofs.Windows.{window_none, window_more, repeats_within, windows_all}
use Rattle.supernode_tree.specs.Reads.{cliques_from}
use Rattle.check_cliques.specs.Trees.{snodes_of, snodes_ok}
use Rattle.check_cliques.proofs.Snodes.{fill_fails, fill_holds}
use Rattle.check_cliques.proofs.snodes_right.Goals as goal
use Rattle.check_cliques.proofs.snodes_right.Goals.{Else-not-snodes_fill, Else-not-snodes_once_within}

-- the snodes have as many members as there are vertices, and these are below their number; only the test for duplicates is left
filled : (c : Else-not-snodes_fill) → let n = c.args.p.vertex_count in
    let cs = cliques_from c.args.words.now c.args.p.cliques c.args.p.clique_count in
    (length (snodes_of cs) ≡ n) × (all (λ x. ltb x n) (snodes_of cs) ≡ true) × (distinct (snodes_of cs) ≡ snodes_ok n cs)
filled c =
    fill_holds c.args.p.vertex_count (cliques_from c.args.words.now c.args.p.cliques c.args.p.clique_count) (sym c.snodes_fill.ensures ∙ c.if-not-snodes_fill.false)

-- one more window has passed
more : (c : Else-not-snodes_once_within)
    → T (distinct (keep (λ x. ltb x (c.loop-p.low + length c.snodes_once_within.new.marks)) (snodes_of (cliques_from c.args.words.now c.args.p.cliques c.args.p.clique_count))))
more c =
    let us = snodes_of (cliques_from c.args.words.now c.args.p.cliques c.args.p.clique_count) in
    let e : length c.snodes_once_within.new.marks ≡ length c.loop-p.marks = c.snodes_once_within.auto.marks in
    rw e (window_more c.loop-p.low (length c.loop-p.marks) us c.loop-p.invariant.1 (passes _ (sym c.snodes_once_within.ensures ∙ c.if-not-snodes_once_within.false)))

pub returns-then-not-snodes_fill : goal.returns-then-not-snodes_fill
returns-then-not-snodes_fill c =
    sym (fill_fails c.args.p.vertex_count (cliques_from c.args.words.now c.args.p.cliques c.args.p.clique_count) (sym c.snodes_fill.ensures ∙ c.if-not-snodes_fill.true))

pub loop-p-init : goal.loop-p-init
loop-p-init c = (omega arith, window_none (snodes_of (cliques_from c.args.words.now c.args.p.cliques c.args.p.clique_count)))

pub returns-then-not-snodes_once_within : goal.returns-then-not-snodes_once_within
returns-then-not-snodes_once_within c =
    let us = snodes_of (cliques_from c.args.words.now c.args.p.cliques c.args.p.clique_count) in
    sym (sym (filled (goal.at.returns-then-not-snodes_once_within c).Else-not-snodes_fill).2 ∙ repeats_within _ us (sym c.snodes_once_within.ensures ∙ c.if-not-snodes_once_within.true))

pub returns-then-p-low : goal.returns-then-p-low
returns-then-p-low c =
    let us = snodes_of (cliques_from c.args.words.now c.args.p.cliques c.args.p.clique_count) in
    let f = filled (goal.at.returns-then-p-low c).Else-not-snodes_fill in
    sym (sym f.2 ∙ windows_all c.args.p.vertex_count (c.loop-p.low + length c.snodes_once_within.new.marks) us f.1 (omega arith) (more (goal.at.returns-then-p-low c).Else-not-snodes_once_within))

pub loop-p-preserved : goal.loop-p-preserved
loop-p-preserved c = (omega arith, more (goal.at.loop-p-preserved c).Else-not-snodes_once_within)

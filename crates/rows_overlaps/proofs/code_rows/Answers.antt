use mathlib.Core.Path.{ap}
use Rattle.layout.specs.Problems.Patterns.{Clique, no_clique}
use Rattle.supernode_tree.specs.Reads.{value_or}
use Rattle.rows_overlaps.proofs.Codes.{codes_last, codes_tied}
use Rattle.rows_overlaps.proofs.code_rows.Goals as goal

pub clique_rows-requires-clause-at_in_bounds : goal.clique_rows-requires-clause-at_in_bounds
clique_rows-requires-clause-at_in_bounds c =
    let a = c.args in
    rw (← codes_last a.base a.words.now a.ordering.now a.offsets.now a.starts.now a.c c.if-c-offsets.true) c.requires.c_in_bounds

pub returns-then-c-offsets-clause-value : goal.returns-then-c-offsets-clause-value
returns-then-c-offsets-clause-value c =
    let a = c.args in
    rw (codes_last a.base a.words.now a.ordering.now a.offsets.now a.starts.now a.c c.if-c-offsets.true) c.clique_rows.ensures.value

pub returns-then-c-offsets-clause-out_after : goal.returns-then-c-offsets-clause-out_after
returns-then-c-offsets-clause-out_after c =
    let a = c.args in
    rw (codes_last a.base a.words.now a.ordering.now a.offsets.now a.starts.now a.c c.if-c-offsets.true) c.clique_rows.ensures.out_after

pub tied_rows-requires-clause-at_in_bounds : goal.tied_rows-requires-clause-at_in_bounds
tied_rows-requires-clause-at_in_bounds c =
    let a = c.args in
    let parent = ap (λ (c : Clique). c.parent) (ap (value_or no_clique) c.here-parent.ensures.result_value) in
    rw (← codes_tied a.base a.words.now a.ordering.now a.offsets.now a.starts.now a.c c.here-parent.result.parent parent c.if-c-offsets.false) c.requires.c_in_bounds

pub returns-clause-value : goal.returns-clause-value
returns-clause-value c =
    let a = c.args in
    let parent = ap (λ (c : Clique). c.parent) (ap (value_or no_clique) c.here-parent.ensures.result_value) in
    rw (codes_tied a.base a.words.now a.ordering.now a.offsets.now a.starts.now a.c c.here-parent.result.parent parent c.if-c-offsets.false) c.tied_rows.ensures.value

pub returns-clause-out_after : goal.returns-clause-out_after
returns-clause-out_after c =
    let a = c.args in
    let parent = ap (λ (c : Clique). c.parent) (ap (value_or no_clique) c.here-parent.ensures.result_value) in
    rw (codes_tied a.base a.words.now a.ordering.now a.offsets.now a.starts.now a.c c.here-parent.result.parent parent c.if-c-offsets.false) c.tied_rows.ensures.out_after

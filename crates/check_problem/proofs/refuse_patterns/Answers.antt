use mathlib.Core.Path.{◌≡◌, sym, ◌∙◌}
use mathlib.Core.Bool.{true, false, ◌&&◌}
use Rattle.layout.specs.General.Lists.{all}
use Rattle.layout.specs.Problems.Patterns.{patterns}
use Rattle.layout.specs.Checks.{tree_right, cliques_right}
use Rattle.layout.proofs.Lists.Tests.{and-true}
use Rattle.sparsity_pattern.specs.Sparsity.{patterns_read_from}
use Rattle.check_problem.proofs.Left.{read-ends}
use Rattle.check_problem.proofs.refuse_patterns.Goals as goal

pub returns-then-not-check_patterns : goal.returns-then-not-check_patterns
returns-then-not-check_patterns c = rw (sym c.check_patterns.ensures ∙ c.if-not-check_patterns.true)

pub trees_right-requires : goal.trees_right-requires
trees_right-requires c =
    let a = c.args in
    read-ends a.cones.now a.least a.count a.words.now (sym c.check_patterns.ensures ∙ c.if-not-check_patterns.false)

pub returns-then-not-trees_right : goal.returns-then-not-trees_right
returns-then-not-trees_right c =
    rw (sym c.check_patterns.ensures ∙ c.if-not-check_patterns.false, sym c.trees_right.ensures ∙ c.if-not-trees_right.true)

pub returns : goal.returns
returns c =
    let a = c.args in
    let read = patterns_read_from a.cones.now a.least a.count a.words.now in
    let trees = all tree_right (patterns a.count a.words.now) in
    let cliques = all cliques_right (patterns a.count a.words.now) in
    let one : read ≡ true = sym c.check_patterns.ensures ∙ c.if-not-check_patterns.false in
    let two : trees ≡ true = sym c.trees_right.ensures ∙ c.if-not-trees_right.false in
    let both : (read && trees) ≡ true = rw one two in
    let three : cliques ≡ false = sym (and-true (read && trees) cliques both) ∙ c.requires in
    rw (one, two, three)

use mathlib.Core.Bool.{true}
use mathlib.Core.Path.{◌≡◌, sym, ◌∙◌}
use Rattle.layout.specs.General.Lists.{is_permutation}
use Rattle.layout.specs.Problems.Cones.{records}
use Rattle.layout.specs.Problems.Patterns.{patterns, read_patterns, ends_right}
use Rattle.layout.specs.Checks.{names_its_cone}
use Rattle.layout.proofs.Lists.Walks.{all_both}
use Rattle.sparsity_pattern.specs.Sparsity.{origins_rise_from}
use Rattle.sparsity_pattern.proofs.check_patterns.Goals as goal
use Rattle.sparsity_pattern.proofs.check_patterns.Goals.{then-patterns_end, else-patterns_end}

pub returns-then-origins_rise : goal.returns-then-origins_rise
returns-then-origins_rise c =
    elim c.if-patterns_end.branch [
      | then-patterns_end w ↦
          let a = c.args in
          let ps = patterns a.count a.words.now in
          let ends : ends_right (read_patterns a.count a.words.now) ≡ true = sym c.patterns_end.ensures ∙ w.if-patterns_end.true in
          let rise : origins_rise_from a.least ps ≡ true = sym w.origins_rise.ensures ∙ sym w.value-is ∙ c.if-origins_rise.true in
          rw (ends, rise) (c.patterns_right.ensures ∙ all_both (names_its_cone (records a.cones.now)) (λ p. is_permutation p.ordering) ps)
      | else-patterns_end w ↦ absurd (cc)
    ]

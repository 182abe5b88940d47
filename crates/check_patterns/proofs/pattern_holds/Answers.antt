use mathlib.Core.Bool.{true, false}
use mathlib.Core.Path.{◌≡◌, refl, sym, ◌∙◌}
use lib.ListN.{drop}
use Rattle.std.specs.Prelude.{Option, Some, None, IfSome, is_some}
use Rattle.layout.specs.Problems.Patterns.{read_pattern}
use Rattle.layout.proofs.Lists.Tests.{differ}
use Rattle.supernode_tree.specs.Reads.{head_of}
use Rattle.check_patterns.specs.declared.Blocks.{Blocks}
use Rattle.check_patterns.specs.Accepted.{AllClear, PatternHolds, pattern_holds}
use Rattle.check_patterns.proofs.Patterns.{pattern_holds_lem, pattern_passes, holds_fits, vertices_needed, ordering-many}
use Rattle.check_patterns.proofs.Walked.{agree}
use Rattle.check_patterns.proofs.pattern_holds.Goals as goal
use Rattle.check_patterns.proofs.pattern_holds.Goals.{After-separators_hold}

if_some : (P Q : Blocks → Type 0) (o : Option Blocks) → ((b : Blocks) → P b → Q b) → IfSome o P → IfSome o Q
if_some P Q (Some b) f h = f b h
if_some P Q None f h = h

-- the totals are those of a pattern that passes
holds : (c : After-separators_hold)
    → IfSome c.separators_hold.result (λ b. PatternHolds c.args.cones.now c.args.words.now c.args.w b × AllClear c.vertices_hold.new.marks)
holds c =
    let v = c.vertices_hold.ensures.vertices_hold c.if-not-vertices_hold.false in
    let k = v.0.vertices c.here-p.result c.here-p.ensures.result_value c.here-p.ensures.pattern_inside in
    if_some _ _ c.separators_hold.result
    (λ b h. (
      pattern_holds_lem c.args.cones.now c.args.words.now c.args.w c.here-p.result c.here-p.ensures.result_value v.0.head b c.vertices_hold.new.offsets k.0 k.1 h,
      v.1,
    )) c.separators_hold.ensures.separators_hold

passes : (c : After-separators_hold) (o : Option Blocks) → IfSome o (λ b. PatternHolds c.args.cones.now c.args.words.now c.args.w b × AllClear c.vertices_hold.new.marks)
    → is_some o ≡ true → pattern_holds c.args.cones.now c.args.w.least (read_pattern (drop c.args.w.next c.args.words.now)) ≡ true
passes c (Some b) h z = pattern_passes c.args.cones.now c.args.words.now c.args.w b h.0
passes c None h z = absurd (differ false z refl)

pub returns-then-not-vertices_hold-clause-value : goal.returns-then-not-vertices_hold-clause-value
returns-then-not-vertices_hold-clause-value c =
    sym (vertices_needed c.args.cones.now c.args.w.least (drop c.args.w.next c.args.words.now) c.requires.cones_value (sym c.vertices_hold.ensures.value ∙ c.if-not-vertices_hold.true))

pub returns-clause-value : goal.returns-clause-value
returns-clause-value c =
    let s = (goal.at.returns-clause-value c).After-separators_hold in
    let ws = c.args.words.now in
    agree _ _
    (passes s c.separators_hold.result (holds s))
    (λ z. c.separators_hold.ensures.value
    ∙ holds_fits c.args.cones.now c.args.w.least (drop c.args.w.next ws) (head_of ws c.here-p.result) (drop c.here-p.result.cliques ws) (sym c.here-p.ensures.result_value) z
    c.requires.cones_value (ordering-many ws c.args.w.next c.here-p.result c.here-p.ensures.pattern_inside))

pub returns-clause-pattern_holds : goal.returns-clause-pattern_holds
returns-clause-pattern_holds c = holds (goal.at.returns-clause-pattern_holds c).After-separators_hold

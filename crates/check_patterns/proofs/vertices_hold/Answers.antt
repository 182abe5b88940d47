use mathlib.Core.Bool.{true}
use mathlib.Core.Path.{◌≡◌, sym, ◌∙◌}
use lib.ListN.{drop}
use Rattle.layout.specs.General.Lists.{is_permutation}
use Rattle.layout.specs.Problems.Patterns.{read_head}
use Rattle.layout.proofs.Lists.Tests.{and-true, and-false}
use Rattle.supernode_tree.specs.Reads.{head_of}
use Rattle.check_patterns.specs.Accepted.{head_right, HeadHolds}
use Rattle.check_patterns.proofs.Patterns.{head-held, vertices_are, ordered, ordered_turn, vertices_hold_lem}
use Rattle.check_patterns.proofs.vertices_hold.Goals as goal
use Rattle.check_patterns.proofs.vertices_hold.Goals.{After-mark_all}

-- the head passed
right : (c : After-mark_all) → head_right c.args.cones.now c.args.w.least (read_head (drop c.args.w.next c.args.words.now)) ≡ true
right c = sym c.head_holds.ensures ∙ c.if-not-head_holds.false

held : (c : After-mark_all) → HeadHolds c.args.cones.now c.args.words.now c.args.w.next c.args.w.least
held c = head-held c.args.cones.now c.args.words.now c.args.w.next c.args.w.least (right c)

-- the ordering is tested
set : (c : After-mark_all) → c.mark_all.result ≡ is_permutation (head_of c.args.words.now c.here-p.result).ordering
set c =
    ordered c.args.words.now c.args.w.next c.here-p.result c.here-p.ensures.pattern_inside c.args.marks.now c.mark_all.new.marks c.requires.2 c.mark_all.result c.mark_all.ensures

pub snodes_hold-requires-clause-met : goal.snodes_hold-requires-clause-met
snodes_hold-requires-clause-met c =
    ordered_turn c.args.words.now c.args.w.next c.here-p.result c.here-p.ensures.pattern_inside c.args.marks.now c.mark_all.new.marks c.requires.2 c.mark_all.result c.mark_all.ensures c.if-mark_all.true

pub returns-then-mark_all-clause-value : goal.returns-then-mark_all-clause-value
returns-then-mark_all-clause-value c =
    let m = (goal.at.returns-then-mark_all-clause-value c).After-mark_all in
    c.snodes_hold.ensures.value
    ∙ sym (vertices_are c.args.cones.now c.args.words.now c.args.w c.here-p.result c.here-p.ensures.result_value (held m) (right m) ∙ and-true _ _ (sym (set m) ∙ c.if-mark_all.true))

pub returns-then-mark_all-clause-vertices_hold : goal.returns-then-mark_all-clause-vertices_hold
returns-then-mark_all-clause-vertices_hold c =
    let m = (goal.at.returns-then-mark_all-clause-vertices_hold c).After-mark_all in
    λ z. (
      vertices_hold_lem c.args.cones.now c.args.words.now c.args.w c.here-p.result c.here-p.ensures.result_value (held m) c.snodes_hold.new.offsets c.here-p.ensures.pattern_inside
          (sym (set m) ∙ c.if-mark_all.true) (c.snodes_hold.ensures.snodes_hold z).0,
      (c.snodes_hold.ensures.snodes_hold z).1,
    )

pub returns-else-mark_all-clause-value : goal.returns-else-mark_all-clause-value
returns-else-mark_all-clause-value c =
    let m = (goal.at.returns-else-mark_all-clause-value c).After-mark_all in
    c.if-mark_all.false
    ∙ sym (vertices_are c.args.cones.now c.args.words.now c.args.w c.here-p.result c.here-p.ensures.result_value (held m) (right m) ∙ and-false _ _ (sym (set m) ∙ c.if-mark_all.false))

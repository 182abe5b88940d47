use Prim.Native.Nat.{◌+◌}
use native.Mathlib.Omega.{arith}
use mathlib.Core.Path.{◌≡◌, sym, ◌∙◌}
use mathlib.Core.Bool.{◌&&◌}
use lib.ListN.{length}
use Rattle.layout.specs.General.Lists.{all}
use Rattle.layout.specs.Problems.Patterns.{patterns}
use Rattle.layout.specs.Problems.Cones.{records}
use Rattle.layout.specs.Checks.{Sound, patterns_read, tree_right, cliques_right}
use Rattle.layout.proofs.Lists.Tests.{and_iff, passed, passes}
use Rattle.layout.specs.Rows.Blocks.{block_row_count, overlap_count, cone_count}
use Rattle.layout.specs.Calls.Join.{joined_parts}
use Rattle.check_problem.specs.Order.{patterns_refusal}
use Rattle.check_problem.proofs.Checked.{patterns-sound}
use Rattle.check_problem.proofs.Sums.{sound-counts}
use Rattle.check_problem.proofs.count_patterns.Goals as goal
use Rattle.check_problem.proofs.count_patterns.Goals.{In-Ok}

-- checks 5, 6 and 7 pass
none-refused : (c : In-Ok) → patterns_refusal c.args.cones.now c.args.count c.args.words.now ≡ 0
none-refused c =
    let a = c.args in
    let ps = patterns a.count a.words.now in
    let (both, cliques) = (and_iff (patterns_read a.cones.now a.count a.words.now && all tree_right ps) (all cliques_right ps)).0 (passes _ (sym c.in-Ok.ensures.value)) in
    let (read, trees) = (and_iff (patterns_read a.cones.now a.count a.words.now) (all tree_right ps)).0 both in
    rw (passed (patterns_read a.cones.now a.count a.words.now) read, passed (all tree_right ps) trees, passed (all cliques_right ps) cliques)

sound : (c : In-Ok) → Sound c.args.m c.args.cones.now c.args.count c.args.words.now
sound c = patterns-sound c.args.m c.args.cones.now c.args.count c.args.words.now c.requires.0 c.requires.1 c.requires.2 (none-refused c)

counts : (c : In-Ok) → let a = c.args in
    let w = c.in-Ok.sums in
    let ps = joined_parts a.cones.now a.count a.words.now in
    (block_row_count ps + w.cut ≡ a.m + w.dim) × (w.overlaps ≡ overlap_count ps) × (cone_count ps + a.count ≡ length (records a.cones.now) + w.cliques)
counts c =
    let sums = c.in-Ok.ensures.summed.0 in
    let h = sound-counts (sound c) in
    (omega (arith, h.0, sums.0, sums.1), sums.2 ∙ sym h.1, omega (arith, h.2, sums.3))

pub patterns_hold-requires : goal.patterns_hold-requires
patterns_hold-requires c = passed _ c.requires.1

pub overflow_sub-result : goal.overflow_sub-result
overflow_sub-result c = omega (arith, (counts (goal.at.overflow_sub-result c).In-Ok).0)

pub overflow_sub-result-in-Ok : goal.overflow_sub-result-in-Ok
overflow_sub-result-in-Ok c = omega (arith, (counts (goal.at.overflow_sub-result-in-Ok c).In-Ok).2, c.record_count-records.ensures)

pub returns-in-Ok-clause-refusal_value : goal.returns-in-Ok-clause-refusal_value
returns-in-Ok-clause-refusal_value c = sym (none-refused (goal.at.returns-in-Ok-clause-refusal_value c).In-Ok)

pub returns-in-Ok-clause-counts : goal.returns-in-Ok-clause-counts
returns-in-Ok-clause-counts c =
    let (rows, overlaps, cones) = counts (goal.at.returns-in-Ok-clause-counts c).In-Ok in
    (omega arith, overlaps, omega (arith, c.record_count-records.ensures))

use Prim.Native.Nat.{◌+◌, ◌-◌, ◌≤◌}
use native.Mathlib.Omega.{arith}
use mathlib.Core.Path.{◌≡◌, refl, sym, ap, ◌∙◌}
use borrow.Author.Tests.{eq-eqb, ne_eqb}
use lib.ListN.{length}
use Rattle.std.specs.Prelude.{is_some}
use Rattle.utils.proofs.Windows.{clear_all}
use Rattle.check_patterns.proofs.Patterns.{passed_start, passed_on, passed_stops, passed_done, passed_same, going_start, going_on, going_done, bounded_start, bounded_more, bounded-done}
use Rattle.check_patterns.specs.declared.Accepted.{Accepted}
use Rattle.check_patterns.specs.declared.Stopped.{Stopped}
use Rattle.check_patterns.proofs.patterns_hold.Goals as goal

pub loop-i-init : goal.loop-i-init
loop-i-init c =
    let e : c.args.count - 0 ≡ c.args.count = omega arith in
    rw e (refl, refl, refl, clear_all 256, bounded_start c.args.count, going_start c.args.count c.args.words.now, passed_start c.args.cones.now c.args.count c.args.words.now)

pub returns-in_default-clause-value : goal.returns-in_default-clause-value
returns-in_default-clause-value c = passed_stops c.loop-i.invariant.6 (omega arith) (sym c.pattern_holds.ensures.value ∙ ap is_some c.in_default.is)

pub loop-i-preserved : goal.loop-i-preserved
loop-i-preserved c =
    let l = c.loop-i in
    let s = c.args in
    let k = c.pattern_holds in
    let b = c.in-Some.b in
    let h = c.in-Some.ensures.pattern_holds in
    let left = s.count - l.i in
    let r = c.with_pattern-w in
    let e : s.count - (l.i + 1) ≡ left - 1 = omega arith in
    rw e (
      k.auto.marks ∙ l.invariant.0,
      k.auto.offsets ∙ l.invariant.1,
      k.auto.others ∙ l.invariant.2,
      h.1,
      bounded_more s.cones.now s.words.now s.count l.w b left (omega arith) h.0 r.result r.ensures l.invariant.4,
      λ ends. going_on s.cones.now s.words.now s.count l.w b left (omega arith) h.0 r.result r.ensures ends l.invariant.5,
      passed_on s.cones.now s.words.now s.count l.w b left (omega arith) h.0 r.result r.ensures l.invariant.6,
    )

pub returns-then-w-words-clause-value : goal.returns-then-w-words-clause-value
returns-then-w-words-clause-value c = sym (ne_eqb c.loop-i.w.next (length c.args.words.now) c.if-w-words.true) ∙ passed_done c.loop-i.invariant.6 (omega arith)

pub returns-then-w-words-clause-passed_before : goal.returns-then-w-words-clause-passed_before
returns-then-w-words-clause-passed_before c = passed_same c.loop-i.invariant.6 refl refl (omega arith)

pub returns-clause-value : goal.returns-clause-value
returns-clause-value c = sym (eq-eqb c.loop-i.w.next (length c.args.words.now) c.if-w-words.false) ∙ passed_done c.loop-i.invariant.6 (omega arith)

pub returns-clause-summed : goal.returns-clause-summed
returns-clause-summed c =
    let l = c.loop-i in
    let left = c.args.count - l.i in
    let none : left ≤ 0 = omega arith in
    let place : Stopped = record { next = l.w.next; least = l.w.least; left = 0 } in
    let r : Accepted = record { dim = l.w.dim; cut = l.w.cut; overlaps = l.w.overlaps; cliques = l.w.cliques; end = place } in
    let few = bounded-done c.args.count l.w left l.invariant.4 r refl refl in
    (going_done c.args.count c.args.words.now l.w left r none l.invariant.5 c.if-w-words.false refl refl refl refl, few.0, few.1)

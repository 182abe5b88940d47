use Prim.Native.Nat.{ℕ}
use mathlib.Core.Path.{sym, ap, ◌∙◌, refl}
use mathlib.Core.Bool.{false, not}
use mathlib.Core.List.{List}
use lib.ListN.{length, take}
use lib.Dec.{ltb, eqb}
use Rattle.layout.specs.General.Lists.{all, distinct}
use Rattle.layout.proofs.Lists.Tests.{and-false, differ}
use Rattle.utils.specs.Scattered.{scattered}
use Rattle.inverse_permutation.proofs.Filled.{length_front, filled-permutation}
use Rattle.inverse_permutation.proofs.invert.Goals as goal

pub returns-then-not-place : goal.returns-then-not-place
returns-then-not-place c =
    let p = c.args.p.now in record {
      value = sym (and-false (all (λ x. ltb x (length p)) p) (distinct p) (sym c.if-not-place.ensures.value));
      table_after = λ z. absurd (differ false z refl);
    }

pub slice_bounds-all_placed-end-2 : goal.slice_bounds-all_placed-end-2
slice_bounds-all_placed-end-2 c =
    let p = c.args.p.now in
    sym (ap (λ (l : List ℕ). length (take (length p) l)) (c.place.ensures.table_after c.if-not-place.false)
    ∙ length_front p c.args.table.now c.requires.p_in_bounds.0)

pub returns : goal.returns
returns c =
    let p = c.args.p.now in
    let old = c.args.table.now in
    let wrote = c.place.ensures.table_after c.if-not-place.false in record {
      value = c.all_placed.ensures
          ∙ ap (λ (l : List ℕ). all (λ x. not (eqb x 4294967295)) (take (length p) l)) (wrote ∙ ap (scattered 0 p) c.requires.table_value)
          ∙ filled-permutation p (length old) c.requires.p_in_bounds.0 c.requires.p_in_bounds.1 (sym c.if-not-place.ensures.value);
      table_after = λ _. wrote;
    }

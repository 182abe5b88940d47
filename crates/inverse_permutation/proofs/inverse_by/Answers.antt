use Rattle.utils.specs.Scattered.{scattered}
use Rattle.utils.proofs.Scattered.{length-inverse}
use Rattle.inverse_permutation.proofs.Inverted.{scattered_front, refused_order, refused-room, unwritten, placed}
use Rattle.layout.proofs.Lists.Tests.{passes}
use Rattle.layout.specs.General.Lists.{is_permutation, written}
use Rattle.layout.specs.Calls.Inverse.{inverse}
use lib.ListN.{length, take}
use Prim.Native.Nat.{ℕ, ◌≤◌}
use mathlib.Core.Path.{◌≡◌, sym, ap, ◌∙◌}
use mathlib.Core.Bool.{true}
use mathlib.Core.List.{List}
use native.Mathlib.Omega.{arith}
use Rattle.inverse_permutation.proofs.inverse_by.Goals as goal

-- where p is a permutation, the table starts with its inverse
front : (ps old new : List ℕ) → is_permutation ps ≡ true → length ps ≤ length old → new ≡ scattered 0 ps old → take (length ps) new ≡ inverse ps
front ps old new e h s = ap (take (length ps)) s ∙ scattered_front ps old (passes _ e) h

pub returns-then-not-invert : goal.returns-then-not-invert
returns-then-not-invert c =
    let ps = c.args.p.now in
    let old = c.args.out.now in
    let e = c.if-not-invert.ensures.value in record { value = e; out_after = unwritten ps old 4 (refused_order ps (length old) (sym e)) }

pub slice_bounds-copy_front-end-then-p-out : goal.slice_bounds-copy_front-end-then-p-out
slice_bounds-copy_front-end-then-p-out c =
    let ps = c.args.p.now in
    let t = c.if-not-invert.false in
    sym (ap length (front ps c.args.table.now c.invert.new.table (sym c.invert.ensures.value ∙ t) c.requires.p_in_bounds.0 (c.invert.ensures.table_after t)) ∙ length-inverse ps)

pub copy_front-requires : goal.copy_front-requires
copy_front-requires c =
    let ps = c.args.p.now in
    let t = c.if-not-invert.false in
    omega (arith, ap length (front ps c.args.table.now c.invert.new.table (sym c.invert.ensures.value ∙ t) c.requires.p_in_bounds.0 (c.invert.ensures.table_after t)), length-inverse ps)

pub returns-then-p-out : goal.returns-then-p-out
returns-then-p-out c =
    let ps = c.args.p.now in
    let old = c.args.out.now in
    let t = c.if-not-invert.false in
    let p = sym c.invert.ensures.value ∙ t in record {
      value = sym p;
      out_after = placed ps old c.copy_front.new.out p (omega arith) (c.copy_front.ensures
          ∙ ap (λ (l : List ℕ). written l old) (front ps c.args.table.now c.invert.new.table p c.requires.p_in_bounds.0 (c.invert.ensures.table_after t)));
    }

pub returns-else-p-out : goal.returns-else-p-out
returns-else-p-out c =
    let ps = c.args.p.now in
    let old = c.args.out.now in
    let p = sym c.invert.ensures.value ∙ c.if-not-invert.false in record {
      value = sym p;
      out_after = unwritten ps old 10 (refused-room ps (length old) p (omega arith));
    }

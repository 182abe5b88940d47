use Rattle.inverse_permutation.proofs.Inverted.{refused_order, refused-room, accepted}
use Rattle.layout.specs.Calls.Answers.{output}
use Rattle.layout.specs.Calls.Inverse.{inverse}
use lib.ListN.{length}
use Prim.Native.Nat.{ℕ}
use mathlib.Core.Path.{sym, ap, ◌∙◌}
use native.Mathlib.Omega.{arith}
use Rattle.inverse_permutation.proofs.inverse.Goals as goal

pub returns-then-not-inverse_with : goal.returns-then-not-inverse_with
returns-then-not-inverse_with c =
    let p = c.args.p.now in
    let old = c.args.out.now in
    let q = refused_order p (length old) (sym c.if-not-inverse_with.ensures.value) in
    record { number = sym q; out = c.if-not-inverse_with.ensures.out_after.out ∙ ap (λ (r : ℕ). output r (inverse p) old) q }

pub returns-then-out-p : goal.returns-then-out-p
returns-then-out-p c =
    let p = c.args.p.now in
    let old = c.args.out.now in
    let q = refused-room p (length old) (sym c.if-not-inverse_with.ensures.value) (omega arith) in
    record { number = sym q; out = c.if-not-inverse_with.ensures.out_after.out ∙ ap (λ (r : ℕ). output r (inverse p) old) q }

pub returns : goal.returns
returns c =
    let p = c.args.p.now in
    let old = c.args.out.now in
    let q = accepted p (length old) (sym c.if-not-inverse_with.ensures.value) (omega arith) in
    record { number = sym q; out = c.if-not-inverse_with.ensures.out_after.out ∙ ap (λ (r : ℕ). output r (inverse p) old) q }

use Prim.Native.Nat.{ℕ}
use mathlib.Core.Path.{sym, ap}
use mathlib.Core.Bool.{Bool, cond}
use borrow.Author.Tests.{eq-eqb, ne_eqb}
use Rattle.pool_refusals.proofs.compare_unknowns.Goals as goal

pub returns-then-n-n2 : goal.returns-then-n-n2
returns-then-n-n2 c = let a = c.args in sym (ap (λ (b : Bool). cond {A = ℕ} b 0 17) (ne_eqb a.n a.n2 c.if-n-n2.true))

pub returns : goal.returns
returns c = let a = c.args in sym (ap (λ (b : Bool). cond {A = ℕ} b 0 17) (eq-eqb a.n a.n2 c.if-n-n2.false))

use Prim.Native.Nat.{ℕ}
use mathlib.Core.Path.{◌≡◌, refl, sym, ap, subst}
use mathlib.Core.List.{List}
use lib.Ieee.{Float}
use Rattle.layout.specs.Problems.Problem.{Problem}
use Rattle.layout.specs.Calls.CutBetween.{Limits, CutBetween}
use Rattle.door.proofs.cut_between.chordal_cut_between.Goals as goal

-- what is promised of a problem, a right side and a number is promised of equal ones
said : {p q : Problem} {b d high : List Float} {before after : Limits} {r k : ℕ} → p ≡ q → b ≡ d → k ≡ r
    → CutBetween p b high before after r → CutBetween q d high before after k
said {p} {q} {b} {d} {high} {before} {after} {r} {k} e f n h =
    subst (λ (j : ℕ). CutBetween q d high before after j) (sym n)
    (subst (λ (low : List Float). CutBetween q low high before after r) f (subst (λ (x : Problem). CutBetween x b high before after r) e h))

pub returns : goal.returns
returns c =
    let e = c.from_tables-problem.ensures in
    said e (ap (λ (p : Problem). p.b) e) c.number_of.ensures c.cut_between.ensures

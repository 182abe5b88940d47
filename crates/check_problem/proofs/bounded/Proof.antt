use mathlib.Core.Bool.{Bool, true, false, ◌&&◌}
use mathlib.Core.Path.{◌≡◌, refl, ◌∙◌}
use lib.Dec.{leb}
use borrow.Author.Tests.{le-leb, lt-leb}
use Rattle.layout.specs.Checks.{cones_bounded}
use Rattle.layout.proofs.Lists.Tests.{differ}
use Rattle.check_problem.proofs.bounded.Statement.{statement}
use Rattle.check_problem.proofs.bounded.Tie as tie

-- two of four tests made before the other two
among : (x a p b : Bool)
    → (a ≡ false → false ≡ (x && a && p && b)) × (p ≡ false → false ≡ (x && a && p && b)) × (a ≡ true → p ≡ true → (x && b) ≡ (x && a && p && b))
among false a p b = (λ z. refl, λ z. refl, λ z w. refl)
among true false p b = (λ z. refl, λ z. refl, λ z w. absurd (differ false z refl))
among true true p b = (λ z. absurd (differ true refl z), λ z. rw z, λ z w. rw w)

tests : (s : tie.Start) → let a = s.args in
    let x = leb a.n 65536 && leb a.m 65536 in
    let bounds = x && leb a.a_entries 262144 && leb a.p_entries 262144 && cones_bounded a.cones.now in
    (leb a.a_entries 262144 ≡ false → false ≡ bounds) × (leb a.p_entries 262144 ≡ false → false ≡ bounds)
    × (leb a.a_entries 262144 ≡ true → leb a.p_entries 262144 ≡ true → (x && cones_bounded a.cones.now) ≡ bounds)
tests s = let a = s.args in among (leb a.n 65536 && leb a.m 65536) (leb a.a_entries 262144) (leb a.p_entries 262144) (cones_bounded a.cones.now)

returns : tie.Need-returns-then-a_entries-gt-ENTRIES
returns c = (tests c.before.before).0 (lt-leb _ _ c.if-a_entries-gt-ENTRIES.true)

returns-2 : tie.Need-returns-then-p_entries-gt-ENTRIES
returns-2 c = (tests c.before.before.before).1 (lt-leb _ _ c.if-p_entries-gt-ENTRIES.true)

join-bounded-requires : tie.Need-join_bounded-requires
join-bounded-requires c κs = tt

returns-3 : tie.Need-returns
returns-3 c = c.join_bounded.ensures ∙ (tests c.before.before.before.before).2 (le-leb _ _ c.if-a_entries-gt-ENTRIES.false) (le-leb _ _ c.if-p_entries-gt-ENTRIES.false)

pub bounded_spec : {M : Type 1} → statement M
bounded_spec =
    tie.close
    (tie.spec
    returns
    returns-2
    join-bounded-requires
    returns-3)

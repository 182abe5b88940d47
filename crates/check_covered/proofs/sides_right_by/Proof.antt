use Prim.Native.Nat.{ℕ}
use mathlib.Core.Path.{◌≡◌, ap, ap₂, ◌∙◌}
use mathlib.Core.Bool.{Bool, false, true, ◌&&◌}
use mathlib.Core.List.{List}
use lib.ListN.{length, get_or, replicate}
use lib.Dec.{ltb, ltb→lt}
use Rattle.layout.specs.General.Lists.{Below}
use Rattle.layout.specs.Problems.Cones.{records}
use Rattle.layout.specs.Problems.Patterns.{patterns}
use Rattle.layout.specs.Rows.Blocks.{parts}
use Rattle.layout.specs.Checks.{covered_rows, values_on}
use Rattle.layout.proofs.Lists.Members.{all-at}
use Rattle.check_covered.specs.Covered.{rows_marked, values_marked, sides_marked, sides_on, entries_right}
use Rattle.rows_blocks.specs.Vertices.{marked}
use Rattle.check_covered.proofs.Marks.{cleared_rows, cleared_values}
use Rattle.check_covered.proofs.Sides.{cleared_sides}
use native.Mathlib.Omega.{arith}
use borrow.Author.Rules.{rules}
use Rattle.check_covered.proofs.sides_right_by.Statement.{statement}
use Rattle.check_covered.proofs.sides_right_by.Tie as tie

-- the rows of the entries lie within the table
inside : (s : tie.Start) → Below (length s.args.covered.now) s.args.a_rows.now
inside s k l =
    let a = s.args in
    let low = ltb→lt (get_or a.a_rows.now k 0) a.m ((all-at 0 (λ r. ltb r a.m) a.a_rows.now).0 s.requires.1.0.0 k l) in
    omega (arith, low, s.requires.1.1.0)

-- the covered rows
abbrev rows : tie.Start → List ℕ
rows s = covered_rows (parts (records s.args.cones.now) (patterns s.args.count s.args.words.now))

abbrev start : tie.After-mark_covered → tie.Start
start r = r.before.before.before.before.before.before.before.before

abbrev marks : tie.After-mark_covered → List Bool
marks r = r.mark_covered.new.covered

table : (r : tie.After-mark_covered) → marks r ≡ marked true (rows (start r)) (replicate (length (start r).args.covered.now) false)
table r = let s = start r in r.mark_covered.ensures ∙ ap (marked true (rows s)) s.requires.1.1.1

first_test : (r : tie.After-mark_covered)
    → let s = start r in
    let a = s.args in
    (rows_marked (marks r) a.a_rows.now && values_marked (marks r) a.b.now)
    ≡ entries_right a.m a.a_rows.now a.b.now (parts (records a.cones.now) (patterns a.count a.words.now))
first_test r =
    let s = start r in
    let a = s.args in
    let n = length a.covered.now in
    ap (λ (m : List Bool). rows_marked m a.a_rows.now && values_marked m a.b.now) (table r)
    ∙ ap₂ {C = Bool} (λ u v. u && v) (cleared_rows n (rows s) a.a_rows.now (inside s))
    (cleared_values n (rows s) a.b.now (omega (arith, s.requires.1.0.1, s.requires.1.1.0)) ∙ ap (λ (k : ℕ). values_on (rows s) k a.b.now) s.requires.1.0.1)

further_test : (r : tie.After-mark_covered)
    → let s = start r in
    let a = s.args in
    sides_marked (marks r) a.m a.first a.last a.sides.now ≡ sides_on (rows s) a.m a.first a.last a.sides.now
further_test r =
    let s = start r in
    let a = s.args in
    ap (λ (m : List Bool). sides_marked m a.m a.first a.last a.sides.now) (table r)
    ∙ cleared_sides (length a.covered.now) (rows s) a.m a.first a.last a.sides.now s.requires.1.1.0 s.requires.1.0.2

mark-covered-requires : tie.Need-mark_covered-requires
mark-covered-requires c κs = let s = c.before.before.before.before.before.before.before in (s.requires.0, s.requires.1.1.0)

first-covered-requires : tie.Need-first_covered-right-requires
first-covered-requires c κs =
    let r = c.before.before in
    let s = start r in
    (λ k l. omega (arith, inside s k l, r.mark_covered.auto.covered), omega (arith, s.requires.1.0.1, s.requires.1.1.0, r.mark_covered.auto.covered))

sides-covered-requires : tie.Need-sides_covered-further-requires
sides-covered-requires c κs =
    let r = c.before.before.before in
    let s = start r in
    (omega (arith, s.requires.1.1.0, r.mark_covered.auto.covered), s.requires.1.0.2)

same_length : tie.Need-shape_of-covered
same_length c = search rules

returns : tie.Need-returns
returns c =
    let r = c.before.before.before.before in
    (c.first_covered-right.ensures ∙ first_test r, c.sides_covered-further.ensures ∙ further_test r)

pub sides_right_by_spec : {M : Type 1} → statement M
sides_right_by_spec =
    tie.close
    (tie.spec
    mark-covered-requires
    first-covered-requires
    sides-covered-requires
    same_length
    returns)

use Prim.Native.Nat.{ℕ, ◌*◌, ◌≤◌, ◌<◌}
use native.Mathlib.Omega.{arith}
use mathlib.Core.Path.{◌≡◌, sym, ap, subst, ◌∙◌}
use mathlib.Core.List.{List}
use lib.ListN.{length, take}
use Rattle.layout.specs.General.Lists.{written, Below}
use Rattle.layout.specs.General.Triangle.{triangle}
use Rattle.layout.specs.Calls.Generate.{drawn_ordering, band_rows}
use Rattle.layout.proofs.Theorems.Generated.{ranges}
use Rattle.generator.proofs.Rows.{rows_few, rows-low, rows_front}
use Rattle.generator.proofs.Tables.{drawn_rooms}
use Rattle.generator.proofs.write_drawn.Goals as goal

abbrev covered : ℕ → ℕ → ℕ → List ℕ
covered seed v w = band_rows (drawn_ordering seed v) v w

-- the covered rows are a prefix of the scratch buffer
front : (seed v w : ℕ) (old : List ℕ) {new : List ℕ} {k : ℕ} → k ≡ length (covered seed v w) → new ≡ written (covered seed v w) old → take k new ≡ covered seed v w
front seed v w old {new} {k} e f = rows_front (drawn_ordering seed v) v w new old k e f

low : (seed v w : ℕ) {m : ℕ} {rs : List ℕ} → rs ≡ covered seed v w → m ≡ triangle v → Below m rs
low seed v w {m} e f =
    subst (λ (xs : List ℕ). Below m xs) (sym e) (subst (λ (k : ℕ). Below k (covered seed v w)) (sym f) (rows-low (drawn_ordering seed v) v w))

pub are_kept-requires : goal.are_kept-requires
are_kept-requires c =
    let a = c.args in
    let (_, few, _, _, _, columns) = ranges a.seed a.v a.w a.n c.requires.t.0 in
    (omega (arith, rows_few (drawn_ordering a.seed a.v) a.v a.w few, c.draw_rows-d.ensures.state_value.1), columns)

pub write_once-requires-clause-w_lt_v : goal.write_once-requires-clause-w_lt_v
write_once-requires-clause-w_lt_v c =
    let a = c.args in
    let (_, few, _, narrow, _, columns) = ranges a.seed a.v a.w a.n c.requires.t.0 in
    let f = front a.seed a.v a.w a.rows.now c.draw_rows-d.ensures.state_value.1 c.draw_rows-d.ensures.rows_after in
    let counted = c.draw_rows-d.ensures.state_value.1 ∙ sym (ap length f) in
    let fewer = subst (λ (k : ℕ). a.n * k < 8192) counted (c.are_kept.ensures c.if-are_kept.true) in
    (narrow, few, columns, fewer, c.triangular_number-m.ensures, low a.seed a.v a.w f c.triangular_number-m.ensures)

pub returns-then-are_kept-clause-value : goal.returns-then-are_kept-clause-value
returns-then-are_kept-clause-value c =
    let a = c.args in
    let d = c.draw_rows-d.ensures in
    c.write_once.ensures.value
    ∙ drawn_rooms a.seed a.v a.w a.n c.draw_rows-d.result.state _ d.state_value.0 (front a.seed a.v a.w a.rows.now d.state_value.1 d.rows_after) c.requires.t.0 a.rooms.now

pub write_twice-requires-clause-w_lt_v : goal.write_twice-requires-clause-w_lt_v
write_twice-requires-clause-w_lt_v c =
    let a = c.args in
    let (_, few, _, narrow, _, columns) = ranges a.seed a.v a.w a.n c.requires.t.0 in
    let f = front a.seed a.v a.w a.rows.now c.draw_rows-d.ensures.state_value.1 c.draw_rows-d.ensures.rows_after in
    let counted = ap length f in
    (narrow, few, columns, omega (arith, counted, rows_few (drawn_ordering a.seed a.v) a.v a.w few), c.triangular_number-m.ensures, low a.seed a.v a.w f c.triangular_number-m.ensures)

pub returns-clause-value : goal.returns-clause-value
returns-clause-value c =
    let a = c.args in
    let d = c.draw_rows-d.ensures in
    c.write_twice.ensures.value
    ∙ drawn_rooms a.seed a.v a.w a.n c.draw_rows-d.result.state _ d.state_value.0 (front a.seed a.v a.w a.rows.now d.state_value.1 d.rows_after) c.requires.t.0 a.rooms.now

use native.Mathlib.Omega.{arith}
use mathlib.Core.Path.{ap, ap₂, ◌∙◌}
use mathlib.Core.List.{List, map}
use Prim.Native.Nat.{ℕ}
use lib.ListN.{length}
use Rattle.layout.specs.General.Lists.{sum}
use Rattle.layout.specs.Calls.Generate.{drawn_ordering, drawn_columns}
use Rattle.generator.proofs.Rows.{rows_few, rows_front}
use Rattle.generator.proofs.count_entries.Goals as goal

pub count_columns-requires : goal.count_columns-requires
count_columns-requires c =
    let a = c.args in
    let os = drawn_ordering a.seed a.v in
    let d = c.draw_rows-d in
    let front = rows_front os a.v a.w d.new.rows a.rows.now d.result.count d.ensures.state_value.1 d.ensures.rows_after in
    (omega (arith, ap length front, rows_few os a.v a.w c.requires.1), c.requires.2)

pub returns : goal.returns
returns c =
    let a = c.args in
    let d = c.draw_rows-d in
    c.count_columns.ensures
    ∙ ap₂ (λ (s : ℕ) (rs : List ℕ). sum (map length (drawn_columns s rs a.n))) d.ensures.state_value.0
    (rows_front (drawn_ordering a.seed a.v) a.v a.w d.new.rows a.rows.now d.result.count d.ensures.state_value.1 d.ensures.rows_after)

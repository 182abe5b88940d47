use Prim.Native.Nat.{ℕ}
use native.Mathlib.Omega.{arith}
use mathlib.Core.Path.{◌≡◌, sym, ap, ◌∙◌}
use lib.ListN.{length}
use Rattle.layout.specs.Calls.Generate.{drawn_column, after_column, after_columns}
use Rattle.layout.proofs.Generators.Drawn.{column-length, afters_more}
use Rattle.generator.proofs.Columns.{entries_more}
use Rattle.generator.proofs.count_columns.Goals as goal

pub overflow_cast-entries : goal.overflow_cast-entries
overflow_cast-entries c = omega (arith, c.count_column-d.ensures.0, column-length c.loop.state c.args.rows.now, c.requires.0)

pub overflow_add-entries : goal.overflow_add-entries
overflow_add-entries c =
    omega (arith, c.count_column-d.ensures.0, column-length c.loop.state c.args.rows.now, c.requires, c.loop.invariant.2)

pub loop-preserved : goal.loop-preserved
loop-preserved c =
    let a = c.args in
    let k = c.loop.counter in
    let rs = a.rows.now in
    let d = c.count_column-d.ensures in
    let here : length (drawn_column c.loop.state rs) ≡ length (drawn_column (after_columns a.s rs k) rs) =
    ap (λ (u : ℕ). length (drawn_column u rs)) c.loop.invariant.0 in (
      d.1 ∙ ap (λ (u : ℕ). after_column u rs) c.loop.invariant.0 ∙ sym (afters_more a.s rs k),
      omega (arith, d.0, here, entries_more a.s rs k, c.loop.invariant.1),
      omega (arith, d.0, column-length c.loop.state rs, c.requires.0, c.loop.invariant.2),
    )

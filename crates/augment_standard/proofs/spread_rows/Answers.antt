use Prim.Native.Nat.{ℕ, ◌*◌}
use mathlib.Core.Path.{refl, ap, ◌∙◌}
use mathlib.Core.List.{List}
use Rattle.layout.specs.General.Lists.{written}
use Rattle.augment_standard.proofs.Columns.{spread_more, spread_done}
use Rattle.augment_standard.proofs.spread_rows.Goals as goal

pub loop-i-preserved : goal.loop-i-preserved
loop-i-preserved c =
    let a = c.args in
    spread_more a.m a.k a.out.now c.requires.0 c.loop-i.i (2 * c.loop-i.i) c.loop-i.out c.loop-i-test.true refl c.loop-i.invariant

pub returns : goal.returns
returns c =
    let a = c.args in
    c.loop-i.invariant
    ∙ ap (λ (rows : List ℕ). written rows a.out.now) (spread_done a.m a.k a.out.now c.requires.0 c.loop-i.i c.loop-i-test.false)

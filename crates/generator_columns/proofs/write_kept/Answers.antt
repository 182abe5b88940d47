use native.Mathlib.Omega.{arith}
use mathlib.Core.Path.{sym, ap, ap₂, ◌∙◌}
use mathlib.Core.List.{List, map}
use lib.ListN.{get_or-map, set, length-map}
use lib.Ieee.{Float}
use Rattle.layout.specs.General.Lists.{written}
use Rattle.layout.specs.Calls.Generate.{drawn_value}
use Rattle.layout.proofs.Lists.Buffers.{copy_more, copy_done, take_none}
use Rattle.generator_columns.proofs.write_kept.Goals as goal

pub loop-i-init : goal.loop-i-init
loop-i-init c = sym (ap (λ (xs : List Float). written xs c.args.values_out.now) (take_none (map drawn_value c.args.kept.now)))

pub loop-i-preserved : goal.loop-i-preserved
loop-i-preserved c =
    let ks = c.args.kept.now in
    let i = c.loop-i.i in
    let long = length-map ks drawn_value in
    ap₂ (λ (xs : List Float) (x : Float). set xs i x) c.loop-i.invariant (c.draw_value.ensures ∙ sym (get_or-map drawn_value ks i 0))
    ∙ copy_more (map drawn_value ks) c.args.values_out.now i (drawn_value 0) (omega arith) (omega arith)

pub returns-clause-values_out_after : goal.returns-clause-values_out_after
returns-clause-values_out_after c =
    let ks = c.args.kept.now in
    let long = length-map ks drawn_value in
    c.loop-i.invariant ∙ copy_done (map drawn_value ks) c.args.values_out.now c.loop-i.i (omega arith)

use mathlib.Core.Path.{◌≡◌, sym, ap, ◌∙◌}
use lib.Ieee.{Float, of_bits}
use lib.ListN.{get_or}
use Rattle.std.proofs.lemmas.Option.{unwrap_or-slice_get}
use Rattle.std.specs.Option.{unwrap_or}
use Rattle.std.specs.declared.option.Option.{Option}
use Rattle.layout.specs.General.Floats.{zero64}
use Rattle.layout.specs.Problems.Cones.{alpha_count}
use Rattle.supportedcone.specs.Cases.{told, record_at, reads_as}
use Rattle.supportedcone.proofs.Reading.{told_is, told_bad, unread_with, too_few, enough}
use native.Mathlib.Omega.{arith}
use Rattle.supportedcone.proofs.read_with_alpha.Goals as goal

pub returns-in_err-cone : goal.returns-in_err-cone
returns-in_err-cone c =
    let r = record_at c.args.cones.now c.args.i in
    ap told c.from_residual.ensures ∙ sym (unread_with r c.args.alphas.now (told_bad r _ c.in_err-cone.ensures))

pub returns-then-alphas-alpha_count : goal.returns-then-alphas-alpha_count
returns-then-alphas-alpha_count c =
    let r = record_at c.args.cones.now c.args.i in
    let same = (told_is c.in_ok-cone.cone r _ c.in_ok-cone.ensures).1 in
    sym (too_few r c.args.alphas.now (omega (arith, c.alpha_count.ensures ∙ ap alpha_count same)))

pub returns : goal.returns
unfolding of_bits
returns c =
    let r = record_at c.args.cones.now c.args.i in
    let αs = c.args.alphas.now in
    let same = (told_is c.in_ok-cone.cone r _ c.in_ok-cone.ensures).1 in
    -- the exponent passed on: the first α value not yet used, or 0.0 if there is none
    let first : c.unwrap_or-alpha.result ≡ get_or αs 0 zero64 =
    c.unwrap_or-alpha.ensures ∙ ap (λ (o : Option Float). unwrap_or o zero64) (c.copied.ensures ∙ c.first.ensures.value) ∙ unwrap_or-slice_get αs 0 zero64 in
    c.in_ok-cone.ensures ∙ ap (reads_as r) first ∙ sym (enough r αs (omega (arith, c.alpha_count.ensures ∙ ap alpha_count same)))

use mathlib.Core.Path.{sym, ap, ◌∙◌}
use Rattle.layout.specs.Checks.{sizes_bounded}
use Rattle.layout.specs.Problems.Cones.{row_count}
use Rattle.supportedcone.specs.Cases.{record_at}
use Rattle.supportedcone.proofs.Reading.{told_is, told_bad}
use Rattle.supportedcone.proofs.Records.{bounded_at, unread_rows}
use Rattle.supportedcone.proofs.cone_rows.Goals as goal

pub returns-in_default : goal.returns-in_default
returns-in_default c =
    let ws = c.args.cones.now in
    sym (unread_rows ws c.args.i c.requires.cones_value_2 (told_bad (record_at ws c.args.i) _ c.in_default.ensures))

pub nvars-requires : goal.nvars-requires
nvars-requires c =
    let ws = c.args.cones.now in
    ap sizes_bounded (told_is c.in-Some.cone (record_at ws c.args.i) _ c.in-Some.ensures).1
    ∙ bounded_at ws c.args.i c.requires.cones_value

pub returns : goal.returns
returns c = c.nvars.ensures ∙ ap row_count (told_is c.in-Some.cone (record_at c.args.cones.now c.args.i) _ c.in-Some.ensures).1

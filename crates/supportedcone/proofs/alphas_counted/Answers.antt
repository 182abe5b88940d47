use mathlib.Core.Path.{sym, ap, ap₂, ◌∙◌}
use mathlib.Core.List.{map}
use Prim.Native.Nat.{◌+◌}
use lib.Dec.{eqb}
use lib.Ieee.{nan}
use lib.ListN.{length, length-replicate}
use borrow.Author.Tests.{ne_eqb}
use Rattle.layout.specs.General.Lists.{sum}
use Rattle.layout.specs.Checks.{no_cone}
use Rattle.layout.specs.Problems.Cones.{records, reads, alpha_count}
use Rattle.layout.specs.Files.FileWords.{unvalued}
use Rattle.layout.proofs.Lists.Tests.{differ}
use Rattle.supportedcone.specs.Cases.{record_at}
use Rattle.supportedcone.proofs.Steps.{total_more, total-done, total-le}
use Rattle.supportedcone.proofs.Reading.{told_is, told_bad}
use Rattle.supportedcone.proofs.Records.{every_record}
use native.Mathlib.Omega.{arith}
use Rattle.supportedcone.proofs.alphas_counted.Goals as goal

pub returns-in_default : goal.returns-in_default
returns-in_default c =
    let r = record_at c.args.cones.now c.loop-i.i in
    let bad = told_bad r _ c.in_default.ensures in
    absurd (differ (reads r) (every_record reads c.args.cones.now c.loop-i.i c.requires (omega arith)) bad)

pub returns-then-count-next : goal.returns-then-count-next
returns-then-count-next c =
    let cs = records c.args.cones.now in
    let r = record_at c.args.cones.now c.loop-i.i in
    let counted = c.alpha_count-taken.ensures ∙ ap alpha_count (told_is c.in-Some.cone r _ c.in-Some.ensures).1 in
    sym (ne_eqb (sum (map alpha_count cs)) (length (unvalued c.args.count)) (λ e.
    omega (arith, e, length-replicate c.args.count nan, counted, total_more alpha_count cs c.loop-i.i no_cone (omega arith), total-le alpha_count cs (c.loop-i.i + 1))))

pub loop-i-preserved : goal.loop-i-preserved
loop-i-preserved c =
    let r = record_at c.args.cones.now c.loop-i.i in
    let counted = c.alpha_count-taken.ensures ∙ ap alpha_count (told_is c.in-Some.cone r _ c.in-Some.ensures).1 in
    (omega (arith, counted, total_more alpha_count (records c.args.cones.now) c.loop-i.i no_cone (omega arith)), omega (arith, counted))

pub returns : goal.returns
returns c =
    ap₂ eqb (c.loop-i.invariant.0 ∙ total-done alpha_count (records c.args.cones.now) c.loop-i.i (omega arith)) (sym (length-replicate c.args.count nan))

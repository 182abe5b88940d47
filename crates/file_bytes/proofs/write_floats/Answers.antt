use mathlib.Core.Path.{sym, ap₂, ◌∙◌}
use mathlib.Core.List.{List}
use lib.ListN.{set, length-map}
use lib.Ieee.{Float, binary64, of_bits, nan}
use Rattle.layout.specs.General.Floats.{floats}
use Rattle.layout.proofs.Lists.Members.{get_or_map}
use Rattle.layout.proofs.Lists.Buffers.{copy_more, copy_done}
use native.Mathlib.Omega.{arith}
use Rattle.file_bytes.proofs.write_floats.Goals as goal

pub loop-i-preserved : goal.loop-i-preserved
loop-i-preserved c =
    let xs = c.args.patterns.now in
    let long = length-map xs (of_bits binary64) in
    ap₂ (λ (o : List Float) (v : Float). set o c.loop-i.i v) c.loop-i.invariant
    (c.float_of.ensures ∙ sym (get_or_map (of_bits binary64) xs c.loop-i.i 0 nan (omega arith)))
    ∙ copy_more (floats xs) c.args.out.now c.loop-i.i nan (omega arith) (omega arith)

pub returns : goal.returns
returns c =
    let long = length-map c.args.patterns.now (of_bits binary64) in
    c.loop-i.invariant ∙ copy_done (floats c.args.patterns.now) c.args.out.now c.loop-i.i (omega arith)

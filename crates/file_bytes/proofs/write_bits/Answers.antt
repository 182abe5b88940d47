use Prim.Native.Nat.{ℕ}
use mathlib.Core.Path.{sym, ap₂, ◌∙◌}
use mathlib.Core.List.{List}
use lib.ListN.{set, length-map}
use lib.Ieee.{binary64, to_bits, nan}
use Rattle.layout.specs.General.Floats.{bits}
use Rattle.layout.proofs.Lists.Members.{get_or_map}
use Rattle.layout.proofs.Lists.Buffers.{copy_more, copy_done}
use native.Mathlib.Omega.{arith}
use Rattle.file_bytes.proofs.write_bits.Goals as goal

pub loop-i-preserved : goal.loop-i-preserved
loop-i-preserved c =
    let xs = c.args.values.now in
    let long = length-map xs (to_bits binary64) in
    ap₂ (λ (o : List ℕ) (v : ℕ). set o c.loop-i.i v) c.loop-i.invariant
    (c.bits_of.ensures ∙ sym (get_or_map (to_bits binary64) xs c.loop-i.i nan 0 (omega arith)))
    ∙ copy_more (bits xs) c.args.out.now c.loop-i.i 0 (omega arith) (omega arith)

pub returns : goal.returns
returns c =
    let long = length-map c.args.values.now (to_bits binary64) in
    c.loop-i.invariant ∙ copy_done (bits c.args.values.now) c.args.out.now c.loop-i.i (omega arith)

use Prim.Native.Nat.{ℕ, ◌+◌}
use mathlib.Core.Path.{sym, ap, ◌∙◌}
use lib.ListN.{drop}
use Rattle.layout.specs.Files.File.{widths, products, end_from}
use Rattle.file_tables.proofs.Laid.{length-products, end_step, end_done}
use native.Mathlib.Omega.{arith}
use Rattle.file_tables.proofs.end_of.Goals as goal

pub loop-i-preserved : goal.loop-i-preserved
loop-i-preserved c =
    let ks = products widths c.args.lengths.now in
    let many = length-products widths c.args.lengths.now c.requires in
    let r = c.next_end-end.ensures in (
      omega (arith, r.1),
      ap (λ (e : ℕ). end_from e (drop (c.loop-i.i + 1) ks)) r.0 ∙ sym (end_step c.loop-i.end ks c.loop-i.i (omega (arith, many))) ∙ c.loop-i.invariant.1,
    )

pub returns : goal.returns
returns c =
    let ks = products widths c.args.lengths.now in
    let many = length-products widths c.args.lengths.now c.requires in
    (sym (end_done c.loop-i.end ks c.loop-i.i (omega (arith, many))) ∙ c.loop-i.invariant.1, omega arith)

use Prim.Native.Nat.{ℕ, ◌+◌}
use native.Mathlib.Omega.{arith}
use mathlib.Core.Path.{◌≡◌, sym, ap, ap₂, ◌∙◌}
use mathlib.Core.List.{List}
use lib.ListN.{length, drop, set}
use lib.Seq.{take_all}
use Rattle.layout.specs.General.Lists.{written}
use Rattle.layout.specs.Files.File.{widths, products, offsets_from, end_from}
use Rattle.layout.proofs.Lists.Buffers.{set-written, copy_more}
use Rattle.file_tables.proofs.Laid.{length-products, length_offsets, end_step, end_later, end_done, offset_here}
use Rattle.file_tables.proofs.write_offsets.Goals as goal

pub overflow_cast-out : goal.overflow_cast-out
overflow_cast-out c =
    let ks = products widths c.args.lengths.now in
    let many = length-products widths c.args.lengths.now c.requires.0 in
    omega (arith, end_later c.loop-i.end ks c.loop-i.i (omega (arith, many)), c.loop-i.invariant.1, c.requires.2)

pub loop-i-preserved : goal.loop-i-preserved
loop-i-preserved c =
    let ks = products widths c.args.lengths.now in
    let os = offsets_from 80 ks in
    let i = c.loop-i.i in
    let tables = length-products widths c.args.lengths.now c.requires.0 in
    let offsets : length os ≡ 11 = length_offsets 80 ks ∙ tables in
    let r = c.next_end-end.ensures in
    let (here, after) = offset_here c.loop-i.end ks i (omega (arith, tables)) os (omega (arith, offsets)) c.loop-i.invariant.2 in (
      omega (arith, r.1),
      ap (λ (e : ℕ). end_from e (drop (i + 1) ks)) r.0 ∙ sym (end_step c.loop-i.end ks i (omega (arith, tables))) ∙ c.loop-i.invariant.1,
      after ∙ ap (λ (e : ℕ). offsets_from e (drop (i + 1) ks)) (sym r.0),
      ap₂ (λ (o : List ℕ) (v : ℕ). set o i v) c.loop-i.invariant.3 (sym here) ∙ copy_more os c.args.out.now i 0 (omega (arith, offsets)) (omega (arith, offsets)),
    )

pub overflow_cast-out-2 : goal.overflow_cast-out-2
overflow_cast-out-2 c =
    let ks = products widths c.args.lengths.now in
    let tables = length-products widths c.args.lengths.now c.requires.0 in
    omega (arith, end_done c.loop-i.end ks c.loop-i.i (omega (arith, tables)), c.loop-i.invariant.1, c.requires.2)

pub returns : goal.returns
returns c =
    let ks = products widths c.args.lengths.now in
    let os = offsets_from 80 ks in
    let tables = length-products widths c.args.lengths.now c.requires.0 in
    let offsets : length os ≡ 11 = length_offsets 80 ks ∙ tables in
    let last : c.loop-i.end ≡ end_from 80 ks = sym (end_done c.loop-i.end ks c.loop-i.i (omega (arith, tables))) ∙ c.loop-i.invariant.1 in
    ap₂ (λ (o : List ℕ) (v : ℕ). set o 11 v)
    (c.loop-i.invariant.3 ∙ ap (λ (xs : List ℕ). written xs c.args.out.now) (take_all c.loop-i.i os (omega (arith, offsets)))) last
    ∙ set-written os c.args.out.now (end_from 80 ks) 11 (sym offsets) (omega arith)

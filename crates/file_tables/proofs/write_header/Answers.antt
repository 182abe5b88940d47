use Prim.Native.Nat.{ℕ, ◌+◌}
use mathlib.Core.Path.{◌≡◌, sym, ap, ◌∙◌}
use mathlib.Core.List.{List, [], ◌∷◌, ◌++◌}
use lib.ListN.{length, length-append}
use Rattle.layout.specs.Files.File.{widths, products, offsets_from, end_from}
use Rattle.layout.proofs.Lists.Buffers.{written_after}
use Rattle.file_tables.proofs.Laid.{length-products, length_offsets}
use native.Mathlib.Omega.{arith}
use Rattle.file_tables.proofs.write_header.Goals as goal

pub returns : goal.returns
returns c =
    let ks = products widths c.args.lengths.now in
    let os : List ℕ = offsets_from 80 ks ++ (end_from 80 ks ∷ []) in
    let many : length os ≡ 12 =
    length-append (offsets_from 80 ks) (end_from 80 ks ∷ []) ∙ ap (λ (k : ℕ). k + 1) (length_offsets 80 ks ∙ length-products widths c.args.lengths.now c.requires.1) in
    written_after c.args.counts.now os c.args.out.now 8 (sym c.requires.0) (omega (arith, many)) c.copy_front.ensures c.write_offsets.ensures

use Rattle.std.proofs.Common.{◌∙◌, sym, ap, List, slice_set, add-one, arith}
use Rattle.entries_map.specs.declared.ConeMapEntry.{ConeMapEntry}
use Rattle.entries_maps.proofs.Lists.{filled, filled_more}
use Rattle.entries_maps.proofs.write_entries.Goals as goal

pub loop-k-preserved : goal.loop-k-preserved
loop-k-preserved c =
    let ws = c.args.words.now in
    let ys = c.args.entries.now in
    let k = c.loop-k.k in
    ap (λ (xs : List ConeMapEntry). slice_set xs k c.read.result) c.loop-k.invariant
    ∙ filled_more ws ys k c.read.result (omega arith) c.read.ensures
    ∙ sym (ap (filled ws ys) (add-one k))

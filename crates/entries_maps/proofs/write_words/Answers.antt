use Rattle.std.proofs.Common.{◌∙◌, ℕ, sym, ap, List, slice_set, add-one, arith}
use Rattle.entries_maps.proofs.Lists.{told, told_more}
use Rattle.entries_maps.proofs.write_words.Goals as goal

pub loop-w-preserved : goal.loop-w-preserved
loop-w-preserved c =
    let ys = c.args.entries.now in
    let old = c.args.out.now in
    let w = c.loop-w.w in
    ap (λ (xs : List ℕ). slice_set xs w c.word.result) c.loop-w.invariant
    ∙ told_more ys old w c.word.result _ (omega arith) (omega arith) c.word.ensures
    ∙ sym (ap (told ys old) (add-one w))

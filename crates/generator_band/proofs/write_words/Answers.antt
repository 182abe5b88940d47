use Prim.Native.Nat.{suc, ◌+◌, ◌-◌}
use native.Mathlib.Omega.{arith}
use mathlib.Core.Path.{refl, sym, ap, ◌∙◌}
use mathlib.Core.List.{List, [], ◌∷◌, ◌++◌}
use Prim.Native.Nat.{ℕ}
use lib.ListN.{length}
use Rattle.layout.specs.General.Lists.{written}
use Rattle.layout.specs.Problems.Patterns.{clique_words}
use Rattle.layout.specs.Calls.Generate.{last_clique}
use Rattle.layout.proofs.Generators.Band.{band-words_are}
use Rattle.layout.proofs.Lists.Buffers.{written_after}
use Rattle.generator_band.proofs.Words.{cliques_to, words-all}
use Rattle.generator_band.proofs.write_words.Goals as goal

pub returns : goal.returns
returns c =
    let a = c.args in
    let os = a.ordering.now in
    let v = length os in
    let head = 0 ∷ v ∷ (v - a.w) ∷ [] in
    written_after (head ++ os) (cliques_to a.w (v - suc a.w) ++ clique_words (last_clique v a.w)) a.out.now (3 + v) (omega arith)
    (omega (arith, words-all v a.w c.requires.0, c.requires.2))
    (written_after head os a.out.now 3 refl (omega (arith, c.requires.2)) c.copy_front.ensures c.copy_front-2.ensures) c.write_cliques.ensures
    ∙ ap (λ (ws : List ℕ). written ws a.out.now) (sym (band-words_are os v a.w c.requires.0))

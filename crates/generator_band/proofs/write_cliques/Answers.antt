use Prim.Native.Nat.{ℕ, suc, ◌+◌, ◌-◌, ◌≤◌}
use native.Mathlib.Omega.{arith}
use mathlib.Core.Path.{◌≡◌, sym, ap, ap₂, ◌∙◌}
use mathlib.Core.List.{List, ◌∷◌, ◌++◌}
use lib.ListN.{length}
use Rattle.layout.specs.General.Lists.{up_from, written}
use Rattle.layout.specs.Problems.Patterns.{no_parent}
use Rattle.layout.proofs.Lists.Buffers.{written_after, length_tail}
use Rattle.layout.proofs.Lists.Members.{length-up_from}
use Rattle.generator_band.proofs.Words.{cliques_to, one_clique, more_words, words_fit, last_words}
use Rattle.generator_band.proofs.write_cliques.Goals as goal

pub write_clique-requires : goal.write_clique-requires
write_clique-requires c =
    let a = c.args in
    let fit = words_fit a.v a.w c.loop-c.c (omega arith) in
    (omega (arith, c.requires.2, c.loop-c.invariant.0, c.loop-c.auto.out, length_tail c.loop-c.out c.loop-c.at), omega arith)

pub loop-c-preserved : goal.loop-c-preserved
loop-c-preserved c =
    let a = c.args in
    let k = c.loop-c.c in
    let fit = words_fit a.v a.w k (omega arith) in
    let new = (k + 1) ∷ 1 ∷ a.w ∷ up_from k (1 + a.w) in
    let fits : length (cliques_to a.w k) + length new ≤ length a.out.now = omega (arith, c.requires.2, length-up_from k (1 + a.w)) in (
      omega (arith, more_words a.w k, c.loop-c.invariant.0),
      written_after (cliques_to a.w k) new a.out.now c.loop-c.at c.loop-c.invariant.0 fits c.loop-c.invariant.1 c.write_clique.ensures
          ∙ ap (λ (xs : List ℕ). written xs a.out.now) (sym (one_clique a.w k)),
    )

pub write_clique-requires-2 : goal.write_clique-requires-2
write_clique-requires-2 c =
    let a = c.args in
    let fit = words_fit a.v a.w c.loop-c.c (omega arith) in
    (omega (arith, c.requires.2, c.loop-c.invariant.0, c.loop-c.auto.out, length_tail c.loop-c.out c.loop-c.at), omega arith)

pub returns : goal.returns
returns c =
    let a = c.args in
    let k = c.loop-c.c in
    let last = a.v - a.w - 1 in
    let e : k ≡ last = omega arith in
    let f : last ≡ a.v - suc a.w = omega arith in
    let fit = words_fit a.v a.w k (omega arith) in
    let new = no_parent ∷ (a.w + 1) ∷ 0 ∷ up_from last (a.w + 1 + 0) in
    let fits : length (cliques_to a.w k) + length new ≤ length a.out.now = omega (arith, c.requires.2, length-up_from last (a.w + 1 + 0)) in
    written_after (cliques_to a.w k) new a.out.now c.loop-c.at c.loop-c.invariant.0 fits c.loop-c.invariant.1 c.write_clique-2.ensures
    ∙ ap₂ (λ (xs ys : List ℕ). written (xs ++ ys) a.out.now) (ap (cliques_to a.w) (e ∙ f)) (sym (last_words a.v a.w (omega arith)))

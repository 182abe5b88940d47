-- The words of the band's cliques, clique after clique.
use Prim.Native.Nat.{ℕ, zero, suc, ◌+◌, ◌-◌, ◌*◌, ◌≤◌, ◌<◌}
use native.Mathlib.Nat.{mul-le-mul, suc-mul, zero-mul}
use native.Mathlib.Numerals.{add-one}
use native.Mathlib.Omega.{arith}
use mathlib.Core.Path.{◌≡◌, sym, ap, ap₂, ◌∙◌}
use mathlib.Core.List.{List, [], ◌∷◌, ◌++◌, map, append-nil, map-append}
use lib.ListN.{length, length-append}
use Rattle.layout.specs.General.Lists.{below, up_from, join}
use Rattle.layout.specs.Problems.Patterns.{clique_words, no_parent}
use Rattle.layout.specs.Calls.Generate.{band_clique, last_clique}
use Rattle.layout.proofs.Lists.Keeps.{below_more}
use Rattle.layout.proofs.Lists.Starts.{join-append}
use Rattle.layout.proofs.Lists.Members.{length-up_from}

-- the words of the first c cliques
abbrev pub cliques_to : ℕ → ℕ → List ℕ
cliques_to w c = join clique_words (map (band_clique w) (below c))

module _ (w c : ℕ) where
  clique-words : clique_words (band_clique w c) ≡ (c + 1) ∷ 1 ∷ w ∷ up_from c (1 + w)
  clique-words =
      let e : suc w ≡ 1 + w = omega arith in
      ap₂ (λ (p k : ℕ). p ∷ 1 ∷ k ∷ up_from c (suc w)) (sym (add-one c)) (length-up_from (suc c) w)
      ∙ ap (λ (k : ℕ). (c + 1) ∷ 1 ∷ w ∷ up_from c k) e

  pub one_clique : cliques_to w (c + 1) ≡ cliques_to w c ++ ((c + 1) ∷ 1 ∷ w ∷ up_from c (1 + w))
  one_clique =
      ap (λ (cs : List ℕ). join clique_words (map (band_clique w) cs)) (below_more c)
      ∙ ap (join clique_words) (map-append (band_clique w) (below c) (c ∷ []))
      ∙ join-append clique_words (map (band_clique w) (below c)) (band_clique w c ∷ [])
      ∙ ap (λ (ws : List ℕ). cliques_to w c ++ ws) (append-nil (clique_words (band_clique w c)) ∙ clique-words)

  clique-length : length ((c + 1) ∷ 1 ∷ w ∷ up_from c (1 + w)) ≡ w + 4
  clique-length = omega (arith, length-up_from c (1 + w))

  pub more_words : length (cliques_to w (c + 1)) ≡ length (cliques_to w c) + (w + 4)
  more_words = ap length one_clique ∙ length-append (cliques_to w c) _ ∙ ap (λ (k : ℕ). length (cliques_to w c) + k) clique-length

words-many : (w c : ℕ) → length (cliques_to w c) ≡ c * (w + 4)
words-many w zero = sym (zero-mul (w + 4))
words-many w (suc c) =
    ap (λ (k : ℕ). length (cliques_to w k)) (sym (add-one c)) ∙ more_words w c
    ∙ rw (suc-mul c (w + 4)) (omega (arith, words-many w c))

-- the output has room for one clique more
pub words_fit : (v w c : ℕ) → c < v - w → length (cliques_to w c) + (w + 4) ≤ (v - w) * (w + 4)
words_fit v w c l =
    let h : suc c * (w + 4) ≤ (v - w) * (w + 4) = mul-le-mul {m₁ = w + 4} {m₂ = w + 4} l (omega arith) in
    omega (arith, words-many w c, suc-mul c (w + 4))

pub last_words : (v w : ℕ) → w < v → clique_words (last_clique v w) ≡ no_parent ∷ (w + 1) ∷ 0 ∷ up_from (v - w - 1) (w + 1 + 0)
last_words v w l =
    let e : suc w ≡ w + 1 + 0 = omega arith in
    let f : v - suc w ≡ v - w - 1 = omega arith in
    ap₂ (λ (k : ℕ) (ms : List ℕ). no_parent ∷ k ∷ 0 ∷ ms) (length-up_from (v - suc w) (suc w) ∙ sym (add-one w))
    (append-nil (up_from (v - suc w) (suc w)) ∙ ap₂ up_from f e)

pub words-all : (v w : ℕ) → w < v → length (cliques_to w (v - suc w) ++ clique_words (last_clique v w)) ≡ (v - w) * (w + 4)
words-all v w l =
    let k : ℕ = v - suc w in
    let few : suc k ≡ v - w = omega arith in
    let last : length (clique_words (last_clique v w)) ≡ w + 4 = ap length (last_words v w l) ∙ omega (arith, length-up_from (v - w - 1) (w + 1 + 0)) in
    length-append (cliques_to w k) (clique_words (last_clique v w))
    ∙ omega (arith, words-many w k, suc-mul k (w + 4))
    ∙ ap (λ (c : ℕ). c * (w + 4)) few

-- The words after some of k cliques, and the offsets where the cliques start.
use Prim.Native.Nat.{ℕ, suc, ◌+◌, ◌-◌, ◌*◌, ◌≤◌, ◌<◌}
use native.Mathlib.Nat.{lt_of_mul-lt-mul_right, suc-mul}
use native.Mathlib.Numerals.{add-one}
use native.Mathlib.Omega.{arith}
use mathlib.Core.Bool.{true}
use mathlib.Core.Logic.{inl, inr}
use mathlib.Core.Path.{◌≡◌, sym, ap, ◌∙◌}
use mathlib.Core.List.{List, [], ◌∷◌}
use lib.ListN.{length, get_or, drop, set}
use lib.Seq.{get_or-set_same, get_or-set_other, get_or-drop}
use Rattle.layout.specs.Problems.Patterns.{Read, read, and_then, Clique, no_clique, read_clique, read_cliques}
use Rattle.layout.proofs.Lists.Tests.{lt_or_le}
use Rattle.supernode_tree.specs.Reads.{is_whole, Whole, rest, value_or, cliques_from}
use Rattle.supernode_tree.specs.Offsets.{OffsetsEvery}
use Rattle.supernode_tree.proofs.Many.{whole-read, first-whole, many-value, front_whole, back_whole, back-rest, back-value}

abbrev pub after : List ℕ → ℕ → ℕ → List ℕ
after ws first a = rest (read_cliques a (drop first ws))

pub whole_front : (ws : List ℕ) (at s k : ℕ) → s ≤ k → Whole ws at k → Whole ws at s
whole_front ws at s k l h =
    let e : k ≡ s + (k - s) = omega arith in
    front_whole read_clique s (k - s) (drop at ws) (rw e at h)

module _ (ws : List ℕ) (first k : ℕ) (h : Whole ws first k) where
  -- at an offset after a cliques, the other k - a are complete
  module _ (a at : ℕ) (l : a ≤ k) (e : drop at ws ≡ after ws first a) where
    split : is_whole (read_cliques (a + (k - a)) (drop first ws)) ≡ true
    split = let q : k ≡ a + (k - a) = omega arith in rw q at h

    pub after-whole : Whole ws at (k - a)
    after-whole = ap (λ (x : List ℕ). is_whole (read_cliques (k - a) x)) e ∙ back_whole read_clique a (k - a) (drop first ws) split

    after-from : cliques_from ws at (k - a) ≡ drop a (cliques_from ws first k)
    after-from =
        let q : a + (k - a) ≡ k = omega arith in
        ap (λ (x : List ℕ). value_or [] (read_cliques (k - a) x)) e ∙ back-value read_clique a (k - a) (drop first ws) split
        ∙ ap (λ (n : ℕ). drop a (cliques_from ws first n)) q

    after-at : (c : ℕ) → a ≤ c → get_or (cliques_from ws first k) c no_clique ≡ get_or (cliques_from ws at (k - a)) (c - a) no_clique
    after-at c m =
        let q : a + (c - a) ≡ c = omega arith in
        sym (ap (λ (cs : List Clique). get_or cs (c - a) no_clique) after-from ∙ get_or-drop a (cliques_from ws first k) (c - a) no_clique
        ∙ ap (λ (n : ℕ). get_or (cliques_from ws first k) n no_clique) q)

    pub after_more : (s next : ℕ) → a + s ≤ k → rest (read_cliques s (drop at ws)) ≡ drop next ws → drop next ws ≡ after ws first (a + s)
    after_more s next m f =
        sym f ∙ ap (λ (x : List ℕ). rest (read_cliques s x)) e ∙ back-rest read_clique a s (drop first ws) (whole_front ws first (a + s) k m h)

  pub after-clique : (c at : ℕ) → c < k → drop at ws ≡ after ws first c
      → read_clique (drop at ws) ≡ read (get_or (cliques_from ws first k) c no_clique) (after ws first (suc c))
  after-clique c at l e =
      let w = after-whole c at (omega arith) e in
      let f = whole-read no_clique (read_clique (drop at ws)) (first-whole read_clique (k - c) (drop at ws) (omega arith) w) in
      let q = value_or no_clique (read_clique (drop at ws)) in
      let left = rest (read_clique (drop at ws)) in
      let z : c - c ≡ 0 = omega arith in
      let one = after-at c at (omega arith) e c (omega arith)
      ∙ ap (λ (n : ℕ). get_or (cliques_from ws at (k - c)) n no_clique) z
      ∙ ap (λ (cs : List Clique). get_or cs 0 no_clique) (many-value read_clique (k - c) (drop at ws) (omega arith) q left f w) in
      let end : left ≡ after ws first (c + 1) =
      sym (ap (λ (r : Read Clique). rest (and_then r (λ a l. and_then (read [] l) (λ more o. read (a ∷ more) o)))) f)
      ∙ ap (λ (x : List ℕ). rest (read_cliques 1 x)) e
      ∙ back-rest read_clique c 1 (drop first ws) (whole_front ws first (c + 1) k (omega arith) h) in
      f ∙ ap (λ (x : List ℕ). read q x) (end ∙ ap (after ws first) (add-one c)) ∙ ap (λ (x : Clique). read x (after ws first (suc c))) (sym one)

-- ---- offsets written in order

module _ (ws : List ℕ) (first step : ℕ) where
  -- the first i offsets are written
  abbrev pub Written : ℕ → List ℕ → Type 0
  Written i out = (j : ℕ) → j < i → drop (get_or out j 0) ws ≡ after ws first (j * step)

  pub written_more : (out : List ℕ) (i at : ℕ) → i < length out → Written i out → drop at ws ≡ after ws first (i * step)
      → Written (i + 1) (set out i at)
  written_more out i at l w e j m = elim (lt_or_le j i) [
    | inl b ↦ ap (λ (n : ℕ). drop n ws) (get_or-set_other out i j at 0 (λ q. omega arith)) ∙ w j b
    | inr b ↦
        let q : j ≡ i = omega arith in
        rw q (ap (λ (n : ℕ). drop n ws) (get_or-set_same out i at 0 l) ∙ e)
  ]

  pub written_all : (out : List ℕ) (i k : ℕ) → k ≤ i * step → Written i out → OffsetsEvery step ws first k out
  written_all out i k l w j m = w j (lt_of_mul-lt-mul_right step (omega arith))

pub more_steps : (i step : ℕ) → (i + 1) * step ≡ i * step + step
more_steps i step = rw (add-one) (suc-mul i step)

-- the index of the offset to write is inside the table
pub inside : (i n step left k : ℕ) → 0 < left → left + i * step ≡ k → k ≤ n * step → i < n
inside i n step left k l e m = lt_of_mul-lt-mul_right step (omega arith)

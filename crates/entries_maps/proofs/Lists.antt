-- Entries and words written one by one.
use Prim.Native.Nat.{ℕ, suc, ◌+◌, ◌-◌, ◌*◌, ◌/◌, ◌%◌, ◌<◌, ◌≤◌}
use native.Mathlib.Omega.{arith}
use mathlib.Core.Path.{◌≡◌, sym, ap, ap₂, ◌∙◌}
use mathlib.Core.Logic.{inl, inr}
use mathlib.Core.List.{List, [], ◌∷◌, ◌++◌, map, map-append}
use lib.ListN.{length, get_or, take, set, length-map, length-take, get_or-append}
use lib.Seq.{take-suc, length-take-le}
use Rattle.layout.specs.General.Lists.{below, written}
use Rattle.layout.proofs.Lists.Tests.{lt_or_le}
use Rattle.layout.proofs.Lists.Members.{length-below}
use Rattle.layout.proofs.Lists.Joins.{up_from_last}
use Rattle.layout.proofs.Lists.Starts.{length-written, get_or-right}
use Rattle.layout.proofs.Lists.Buffers.{set-written}
use Rattle.entries_map.specs.declared.ConeMapEntry.{ConeMapEntry}
use Rattle.entries_map.specs.Entries.{struct_at, struct_words, all_words}
use Rattle.entries_map.proofs.Entries.{all-words-length}

-- ---- the first k entries of ws written

module _ (ws : List ℕ) (ys : List ConeMapEntry) where
  abbrev pub filled : ℕ → List ConeMapEntry
  filled k = written (map (struct_at ws) (below k)) ys

  wide : (k : ℕ) → length (map (struct_at ws) (below k)) ≡ k
  wide k = length-map (below k) (struct_at ws) ∙ length-below k

  pub filled-length : (k : ℕ) → k ≤ length ys → length (filled k) ≡ length ys
  filled-length k l = length-written (map (struct_at ws) (below k)) ys (omega (arith, wide k))

  pub filled_more : (k : ℕ) (e : ConeMapEntry) → k < length ys → e ≡ struct_at ws k → set (filled k) k e ≡ filled (suc k)
  filled_more k e l f =
      let first : 0 + k ≡ k = omega arith in
      set-written (map (struct_at ws) (below k)) ys e k (sym (wide k)) l
      ∙ ap (λ (x : ConeMapEntry). written (map (struct_at ws) (below k) ++ (x ∷ [])) ys) (f ∙ sym (ap (struct_at ws) first))
      ∙ ap (λ (xs : List ConeMapEntry). written xs ys) (sym (ap (map (struct_at ws)) (up_from_last 0 k) ∙ map-append (struct_at ws) (below k) ((0 + k) ∷ [])))

-- ---- words of entries

-- word w is word w % 5 of entry w / 5
word_of : (ys : List ConeMapEntry) (w : ℕ) (d : ConeMapEntry) → w < length ys * 5 → get_or (all_words ys) w 0 ≡ get_or (struct_words (get_or ys (w / 5) d)) (w % 5) 0
word_of [] w d l = absurd (omega arith)
word_of (y ∷ ys) w d l = elim (lt_or_le w 5) [
  | inl h ↦
      let first : w / 5 ≡ 0 = omega arith in
      let same : w % 5 ≡ w = omega arith in
      get_or-append (struct_words y) (all_words ys) 0 w h ∙ sym (ap₂ (λ (k j : ℕ). get_or (struct_words (get_or (y ∷ ys) k d)) j 0) first same)
  | inr h ↦
      let v : ℕ = w - 5 in
      let later : w / 5 ≡ suc (v / 5) = omega arith in
      let same : w % 5 ≡ v % 5 = omega arith in
      get_or-right (struct_words y) (all_words ys) w 0 h ∙ word_of ys v d (omega arith) ∙ sym (ap₂ (λ (k j : ℕ). get_or (struct_words (get_or (y ∷ ys) k d)) j 0) later same)
]

-- the first w words written
module _ (ys : List ConeMapEntry) (old : List ℕ) where
  abbrev pub told : ℕ → List ℕ
  told w = written (take w (all_words ys)) old

  pub told-length : (w : ℕ) → w ≤ length old → length (told w) ≡ length old
  told-length w l = length-written (take w (all_words ys)) old (omega (arith, length-take w (all_words ys)))

  pub told_more : (w v : ℕ) (d : ConeMapEntry) → w < length ys * 5 → w < length old → v ≡ get_or (struct_words (get_or ys (w / 5) d)) (w % 5) 0 → set (told w) w v ≡ told (suc w)
  told_more w v d l m e =
      set-written (take w (all_words ys)) old v w (sym (length-take-le w (all_words ys) (omega (arith, all-words-length ys)))) m
      ∙ ap (λ (x : ℕ). written (take w (all_words ys) ++ (x ∷ [])) old) (e ∙ sym (word_of ys w d l))
      ∙ ap (λ (xs : List ℕ). written xs old) (sym (take-suc (all_words ys) w 0 (omega (arith, all-words-length ys))))

-- The tables of a file as slices of its words, and of the doubles that all its words form in pairs: every table starts at a multiple of 8 bytes.
use Prim.Native.Nat.{ℕ, zero, suc, ◌+◌, ◌-◌, ◌*◌, ◌/◌, ◌≤◌, ◌<◌}
use native.Mathlib.Omega.{arith}
use mathlib.Core.Path.{◌≡◌, refl, sym, ap, ap₂, ◌∙◌}
use mathlib.Core.List.{List, [], ◌∷◌, ◌++◌}
use lib.ListN.{length, get_or, take, drop, get_or-append, length-map}
use lib.Seq.{get_or-take, get_or-append-add, length-take-le}
use lib.Ieee.{Float, binary64, of_bits}
use Rattle.layout.specs.General.Lists.{part, same_numbers}
use Rattle.layout.specs.General.Floats.{floats}
use Rattle.layout.specs.Files.File.{HeaderCounts, aligned, offsets_from, end_from, count_words, counts_in, table_sizes, header_of}
use Rattle.layout.specs.Files.FileWords.{pairs_of, words_at, word_gaps_zero, word_shape_checks}
use Rattle.layout.proofs.Lists.Tests.{and_iff}
use Rattle.layout.proofs.Checks.Order.{passed}
use Rattle.layout.proofs.Lists.Walks.{numbers_equal}
use Rattle.layout.proofs.Lists.Joins.{take-map, drop-map}
use Rattle.layout.proofs.Files.FileWords.{size_fours}
use Rattle.layout.proofs.Files.FileWalks.{length_pairs}
use Rattle.file_shape.specs.Parts.{WellShaped}
use Rattle.file_shape.proofs.Parts.{stands-inside}
use Rattle.file_views.specs.Views.{table_words}

-- ---- pairs

-- an odd word at the end forms no pair
pub pairs_even : (ws : List ℕ) (k : ℕ) → k ≡ length ws / 2 → pairs_of (take (2 * k) ws) ≡ pairs_of ws
pairs_even [] zero e = refl
pairs_even [] (suc k) e = absurd (omega arith)
pairs_even (w ∷ []) zero e = refl
pairs_even (w ∷ []) (suc k) e = absurd (omega arith)
pairs_even (w ∷ v ∷ ws) zero e = absurd (omega arith)
pairs_even (w ∷ v ∷ ws) (suc k) e =
    let more : 2 * suc k ≡ suc (suc (2 * k)) = omega arith in
    ap (λ (j : ℕ). pairs_of (take j (w ∷ v ∷ ws))) more ∙ ap (λ (r : List ℕ). (w + 4294967296 * v) ∷ r) (pairs_even ws k (omega arith))

pub length_halved : (ws : List ℕ) → length (pairs_of ws) ≡ length ws / 2
length_halved ws =
    let k = length ws / 2 in
    ap length (sym (pairs_even ws k refl)) ∙ length_pairs k (take (2 * k) ws) (length-take-le (2 * k) ws (omega arith))

pairs-drop : (k : ℕ) (ws : List ℕ) → drop k (pairs_of ws) ≡ pairs_of (drop (2 * k) ws)
pairs-drop zero ws = refl
pairs-drop (suc k) [] =
    let more : 2 * suc k ≡ suc (suc (2 * k)) = omega arith in
    sym (ap (λ (j : ℕ). pairs_of (drop j [])) more)
pairs-drop (suc k) (w ∷ []) =
    let more : 2 * suc k ≡ suc (suc (2 * k)) = omega arith in
    sym (ap (λ (j : ℕ). pairs_of (drop j (w ∷ []))) more)
pairs-drop (suc k) (w ∷ v ∷ ws) =
    let more : 2 * suc k ≡ suc (suc (2 * k)) = omega arith in
    pairs-drop k ws ∙ sym (ap (λ (j : ℕ). pairs_of (drop j (w ∷ v ∷ ws))) more)

pairs-take : (k : ℕ) (ws : List ℕ) → take (k / 2) (pairs_of ws) ≡ pairs_of (take k ws)
pairs-take zero ws = refl
pairs-take (suc zero) [] = refl
pairs-take (suc zero) (w ∷ []) = refl
pairs-take (suc zero) (w ∷ v ∷ ws) = refl
pairs-take (suc (suc k)) [] =
    let more : suc (suc k) / 2 ≡ suc (k / 2) = omega arith in
    ap (λ (j : ℕ). take {A = ℕ} j []) more
pairs-take (suc (suc k)) (w ∷ []) =
    let more : suc (suc k) / 2 ≡ suc (k / 2) = omega arith in
    ap (λ (j : ℕ). take {A = ℕ} j []) more
pairs-take (suc (suc k)) (w ∷ v ∷ ws) =
    let more : suc (suc k) / 2 ≡ suc (k / 2) = omega arith in
    ap (λ (j : ℕ). take j (pairs_of (w ∷ v ∷ ws))) more ∙ ap (λ (r : List ℕ). (w + 4294967296 * v) ∷ r) (pairs-take k ws)

pairs-part : (o k : ℕ) (ws : List ℕ) → o ≡ 2 * (o / 2) → part (o / 2) (o / 2 + k / 2) (pairs_of ws) ≡ pairs_of (part o (o + k) ws)
pairs-part o k ws e =
    let near : o / 2 + k / 2 - o / 2 ≡ k / 2 = omega arith in
    let far : o + k - o ≡ k = omega arith in
    ap (λ (j : ℕ). take j (drop (o / 2) (pairs_of ws))) near ∙ ap (take (k / 2)) (pairs-drop (o / 2) ws) ∙ pairs-take k (drop (2 * (o / 2)) ws)
    ∙ ap₂ (λ (x j : ℕ). pairs_of (take j (drop x ws))) (sym e) (sym far)

-- ---- offsets and sizes

offset_eights : (a : ℕ) (ks : List ℕ) (i : ℕ) → get_or (offsets_from a ks) i 0 ≡ 8 * (get_or (offsets_from a ks) i 0 / 8)
offset_eights a [] i = refl
offset_eights a (k ∷ ks) zero = omega arith
offset_eights a (k ∷ ks) (suc i) = offset_eights (aligned a + k) ks i

-- a table of k numbers of one word, and of k doubles
pub table-words : (ws : List ℕ) (i k : ℕ) → 4 * k ≡ get_or (table_sizes (counts_in ws)) i 0 → table_words ws i ≡ words_at ws i k
table-words ws i k e = let size : get_or (table_sizes (counts_in ws)) i 0 / 4 ≡ k = omega (arith, e) in ap (words_at ws i) size

pub table-pairs : (ws : List ℕ) (i k : ℕ) → 8 * k ≡ get_or (table_sizes (counts_in ws)) i 0 → pairs_of (table_words ws i) ≡ pairs_of (words_at ws i (2 * k))
table-pairs ws i k e = ap pairs_of (table-words ws i (2 * k) (omega (arith, e)))

pub table-doubles : (ws : List ℕ) (i k : ℕ) → 8 * k ≡ get_or (table_sizes (counts_in ws)) i 0
    → floats (pairs_of (table_words ws i)) ≡ floats (pairs_of (words_at ws i (2 * k)))
table-doubles ws i k e = ap floats (table-pairs ws i k e)

module _ (ws : List ℕ) (ok : WellShaped ws) where
  abbrev c : HeaderCounts
  c = counts_in ws

  stands_at : (i : ℕ) → i < 11 → get_or ws (8 + i) 0 ≡ get_or (offsets_from 80 (table_sizes c)) i 0
  stands_at i l =
      let ks = table_sizes c in
      let right : take 20 ws ≡ header_of c =
      numbers_equal (take 20 ws) (header_of c)
      ((and_iff (same_numbers (take 20 ws) (header_of c)) (word_gaps_zero 80 ks ws)).0 (passed 14 (word_shape_checks ws (4 * length ws)) tt ok)).0 in
      sym (get_or-take 20 ws (8 + i) 0 (omega arith)) ∙ ap (λ (r : List ℕ). get_or r (8 + i) 0) right
      ∙ get_or-append-add (count_words c) (offsets_from 80 ks ++ (end_from 80 ks ∷ [])) i 0
      ∙ get_or-append (offsets_from 80 ks) (end_from 80 ks ∷ []) 0 i l

  -- table i starts at an even word
  stands_even : (i : ℕ) → i < 11 → get_or ws (8 + i) 0 / 4 ≡ 2 * (get_or ws (8 + i) 0 / 4 / 2)
  stands_even i l = omega (arith, stands_at i l, offset_eights 80 (table_sizes c) i)

  -- ---- tables as slices, with a start and a size that the caller has read

  module _ (i at size : ℕ) (e : at ≡ get_or ws (8 + i) 0 / 4) (f : size ≡ get_or (table_sizes (counts_in ws)) i 0) where
    pub words_view : part at (at + size / 4) ws ≡ table_words ws i
    words_view = ap₂ (λ (o z : ℕ). part o (o + z / 4) ws) e f

    module _ (l : i < 11) where
      pub words_inside : at + size / 4 ≤ length ws
      words_inside = omega (arith, e, f, (stands-inside ws ok i (get_or (table_sizes (counts_in ws)) i 0 / 4) l (sym (size_fours (counts_in ws) i))).1)

      pub pairs_view : part (at / 2) (at / 2 + size / 8) (pairs_of ws) ≡ pairs_of (table_words ws i)
      pairs_view =
          let half : size / 8 ≡ size / 4 / 2 = omega arith in
          ap (λ (j : ℕ). part (at / 2) (at / 2 + j) (pairs_of ws)) half ∙ pairs-part at (size / 4) ws (omega (arith, e, stands_even i l)) ∙ ap pairs_of words_view

      pub doubles_view : part (at / 2) (at / 2 + size / 8) (floats (pairs_of ws)) ≡ floats (pairs_of (table_words ws i))
      doubles_view =
          let o : ℕ = at / 2 in
          let k : ℕ = o + size / 8 - o in
          ap (take k) (drop-map (of_bits binary64) o (pairs_of ws)) ∙ take-map (of_bits binary64) k (drop o (pairs_of ws)) ∙ ap floats pairs_view

      pub pairs-inside : at / 2 + size / 8 ≤ length (pairs_of ws)
      pairs-inside = omega (arith, words_inside, length_halved ws)

      pub doubles-inside : at / 2 + size / 8 ≤ length (floats (pairs_of ws))
      doubles-inside = omega (arith, pairs-inside, length-map (pairs_of ws) (of_bits binary64))

-- Entries as structs and as words: reading them back from words, and comparing them by words.
use Prim.Native.Nat.{ℕ, zero, suc, ◌+◌, ◌*◌, ◌<◌}
use native.Mathlib.Omega.{arith}
use mathlib.Core.Path.{◌≡◌, refl, sym, ap, ◌∙◌}
use mathlib.Core.Bool.{Bool, true, false, cond, ◌&&◌, and_assoc, and-false}
use mathlib.Core.List.{List, [], ◌∷◌, ◌++◌, map}
use lib.ListN.{length, get_or, drop}
use lib.Seq.{get_or-drop}
use lib.Dec.{eqb}
use borrow.Author.Tests.{eqb-true, ne_eqb}
use Rattle.layout.specs.General.Lists.{same_numbers}
use Rattle.layout.specs.Cuts.Compact.{MapEntry, whole_cone, block_of, entry_words, map_words, no_pattern_number}
use Rattle.layout.proofs.Rows.ConeMap.{words-at, Told}
use Rattle.entries_map.specs.declared.ConeMapEntry.{ConeMapEntry}
use Rattle.std.specs.declared.option.Option.{Option}
use Rattle.std.specs.declared.option.Option.TheVariants.{Some, None}
use Rattle.layout.specs.Calls.JoinEntries.{same_entry, same_map}
use Rattle.entries_map.specs.Entries.{entry_of, meant, struct_of, pattern_word, clique_word, struct_words, all_words, tree_of, struct_at}

pub struct_meant : (e : ConeMapEntry) → struct_of (meant e) ≡ e
struct_meant e = go e.tree_and_clique
  where
    go : (t : Option (ℕ × ℕ)) → struct_of (entry_of e.orig_index t e.first_row e.row_count)
        ≡ record { orig_index = e.orig_index; tree_and_clique = t; first_row = e.first_row; row_count = e.row_count }
    go None = refl
    go (Some (k, c)) = refl

-- ---- reading back

-- a struct from five words
abbrev from_words : List ℕ → ConeMapEntry
from_words ws = record { orig_index = get_or ws 0 0; tree_and_clique = tree_of (get_or ws 1 0) (get_or ws 2 0); first_row = get_or ws 3 0; row_count = get_or ws 4 0 }

-- the pattern number of entry k is below the no-pattern mark
told_at : (es : List MapEntry) (k : ℕ) (d : MapEntry) → k < length es → Told es → Told (get_or es k d ∷ [])
told_at [] k d l h = absurd (omega arith)
told_at (whole_cone i a n ∷ es) zero d l h = tt
told_at (block_of i k c a n ∷ es) zero d l h = (h.0, tt)
told_at (whole_cone i a n ∷ es) (suc j) d l h = told_at es j d (omega arith) h
told_at (block_of i k c a n ∷ es) (suc j) d l h = told_at es j d (omega arith) h.1

from_entry : (e : MapEntry) (ws : List ℕ) → Told (e ∷ []) → from_words (entry_words e ++ ws) ≡ struct_of e
from_entry (whole_cone i a n) ws h = refl
from_entry (block_of i k c a n) ws h = ap (λ (t : Option (ℕ × ℕ)). record { orig_index = i; tree_and_clique = t; first_row = a; row_count = n }) (rw (ne_eqb k no_pattern_number (λ e. omega (arith, h.0))))

at_drop : (ws : List ℕ) (k : ℕ) → struct_at ws k ≡ from_words (drop (k * 5) ws)
at_drop ws k =
    let none : k * 5 ≡ k * 5 + 0 = omega arith in
    let zeroth : get_or ws (k * 5) 0 ≡ get_or (drop (k * 5) ws) 0 0 = ap (λ (j : ℕ). get_or ws j 0) none ∙ sym (get_or-drop (k * 5) ws 0 0) in
    let word : (j : ℕ) → get_or ws (k * 5 + j) 0 ≡ get_or (drop (k * 5) ws) j 0 = λ j. sym (get_or-drop (k * 5) ws j 0) in
    λ z. record { orig_index = zeroth z; tree_and_clique = tree_of (word 1 z) (word 2 z); first_row = word 3 z; row_count = word 4 z }

pub read_back : (es : List MapEntry) (k : ℕ) (d : MapEntry) → k < length es → Told es → struct_at (map_words es) k ≡ struct_of (get_or es k d)
read_back es k d l h =
    let e : k * 5 ≡ 5 * k = omega arith in
    at_drop (map_words es) k ∙ ap (λ (j : ℕ). from_words (drop j (map_words es))) e ∙ ap from_words (words-at es k d l) ∙ from_entry (get_or es k d) (map_words (drop (suc k) es)) (told_at es k d l h)

-- ---- comparing by words

two : (a b r : Bool) → (a && (b && r)) ≡ ((a && b) && r)
two a b r = sym (and_assoc a b r)

three : (a b c r : Bool) → (a && (b && (c && r))) ≡ ((a && (b && c)) && r)
three true b c r = two b c r
three false b c r = refl

four : (a b c d r : Bool) → (a && (b && (c && (d && r)))) ≡ ((a && (b && (c && d))) && r)
four true b c d r = three b c d r
four false b c d r = refl

five : (a b c d e r : Bool) → (a && (b && (c && (d && (e && r))))) ≡ ((a && (b && (c && (d && e)))) && r)
five true b c d e r = four b c d e r
five false b c d e r = refl

same_entry_lem : (y : ConeMapEntry) (e : MapEntry) (us vs : List ℕ) → Told (e ∷ [])
    → same_numbers (struct_words y ++ us) (entry_words e ++ vs) ≡ (same_entry (meant y) e && same_numbers us vs)
same_entry_lem y e us vs h = go y.tree_and_clique e h
  where
    i : ℕ
    i = y.orig_index

    a : ℕ
    a = y.first_row

    n : ℕ
    n = y.row_count

    S : Bool
    S = same_numbers us vs

    go : (t : Option (ℕ × ℕ)) (e : MapEntry) → Told (e ∷ [])
        → same_numbers ((i ∷ pattern_word t ∷ clique_word t ∷ a ∷ n ∷ []) ++ us) (entry_words e ++ vs) ≡ (same_entry (entry_of i t a n) e && S)
    go None (whole_cone j b o) h = three (eqb i j) (eqb a b) (eqb n o) S
    go None (block_of j l d b o) h = rw (ne_eqb no_pattern_number l (λ q. omega (arith, h.0))) (and-false (eqb i j))
    go (Some (k, c)) (whole_cone j b o) h = mark (eqb k no_pattern_number)
      where
        mark : (t : Bool) → (eqb i j && (t && (eqb (cond t 1 c) 0 && (eqb a b && (eqb n o && S))))) ≡ false
        mark true = and-false (eqb i j)
        mark false = and-false (eqb i j)
    go (Some (k, c)) (block_of j l d b o) h = mark (eqb k no_pattern_number) refl
      where
        mark : (t : Bool) → eqb k no_pattern_number ≡ t
            → (eqb i j && (eqb k l && (eqb (cond t 1 c) d && (eqb a b && (eqb n o && S))))) ≡ ((eqb i j && (eqb k l && (eqb c d && (eqb a b && eqb n o)))) && S)
        mark true q =
            let differ : eqb k l ≡ false = ne_eqb k l (λ e. omega (arith, h.0, eqb-true k no_pattern_number q)) in
            rw differ (and-false (eqb i j) ∙ sym (ap (λ (b : Bool). b && S) (and-false (eqb i j))))
        mark false q = five (eqb i j) (eqb k l) (eqb c d) (eqb a b) (eqb n o) S

-- a map of structs and a map of layout's entries are equal where their words are equal
pub words_same : (ys : List ConeMapEntry) (es : List MapEntry) → Told es → same_numbers (all_words ys) (map_words es) ≡ same_map (map meant ys) es
words_same [] [] h = refl
words_same [] (whole_cone j b o ∷ es) h = refl
words_same [] (block_of j l d b o ∷ es) h = refl
words_same (y ∷ ys) [] h = refl
words_same (y ∷ ys) (whole_cone j b o ∷ es) h =
    same_entry_lem y (whole_cone j b o) (all_words ys) (map_words es) tt ∙ ap (λ (t : Bool). same_entry (meant y) (whole_cone j b o) && t) (words_same ys es h)
words_same (y ∷ ys) (block_of j l d b o ∷ es) h =
    same_entry_lem y (block_of j l d b o) (all_words ys) (map_words es) (h.0, tt) ∙ ap (λ (t : Bool). same_entry (meant y) (block_of j l d b o) && t) (words_same ys es h.1)

pub all-words-length : (ys : List ConeMapEntry) → length (all_words ys) ≡ length ys * 5
all-words-length [] = refl
all-words-length (y ∷ ys) = omega (arith, all-words-length ys)

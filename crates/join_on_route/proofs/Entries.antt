-- Words compared part by part: with the map entries of a pattern's cliques, and with those of the parts ahead.
use Prim.Native.Nat.{ℕ, zero, suc, ◌+◌, ◌-◌, ◌≤◌, ◌<◌}
use native.Mathlib.Numerals.{add-one}
use native.Mathlib.Omega.{arith}
use mathlib.Core.Path.{◌≡◌, refl, ap, ap₂, sym, ◌∙◌}
use mathlib.Core.Bool.{Bool, true, false, ◌&&◌, and_assoc, and-true as all_of}
use mathlib.Core.Logic.{◌⊎◌, inl, inr}
use mathlib.Core.List.{List, [], ◌∷◌, ◌++◌, map}
use lib.ListN.{length, get_or, drop, length-append, length-drop, drop_of_length-le}
use lib.Seq.{drop-cons, drop-drop, get_or-drop, get_or-append-add}
use lib.Dec.{eqb}
use borrow.Author.Tests.{eqb-true, eqb-false, eq-eqb, ne_eqb}
use Rattle.layout.specs.General.Lists.{sum, same_numbers}
use Rattle.layout.specs.Problems.Patterns.{Clique}
use Rattle.layout.specs.Rows.Blocks.{Part, part_rows}
use Rattle.layout.specs.Cuts.Compact.{map_part, map_from, map_words}
use Rattle.layout.proofs.Lists.Tests.{and_iff, passed, passes, lt_or_le, and-true, and-false, and_right, differ}
use Rattle.layout.proofs.Rows.ConeMap.{words-part}
use Rattle.layout.proofs.Columns.Sizes.{entries-length}
use Rattle.supernode_tree.specs.Sizes.{dim_of}
use Rattle.rows_tables.specs.Tables.{entries_down}
use Rattle.rows_tables.proofs.Cones.{down_words, down-length, down_more}
use Rattle.join_on_route.specs.Begins.{begins, Tells}

-- ---- prefixes

begins-short : (xs ys : List ℕ) → length xs < length ys → begins xs ys ≡ false
begins-short xs [] h = absurd (omega arith)
begins-short [] (y ∷ ys) h = refl
begins-short (x ∷ xs) (y ∷ ys) h = and_right (eqb x y) (begins xs ys) (begins-short xs ys (omega arith))

-- if the words from index t on are fewer than ys, they do not start with ys
pub too_few : (ws : List ℕ) (t : ℕ) (ys : List ℕ) → length ws - t < length ys → begins (drop t ws) ys ≡ false
too_few ws t ys h = begins-short (drop t ws) ys (omega (arith, length-drop t ws))

-- if the words from index t on start with ys, ys ends inside them
pub inside : (ws : List ℕ) (t : ℕ) (ys : List ℕ) → t ≤ length ws → begins (drop t ws) ys ≡ true → t + length ys ≤ length ws
inside ws t ys l e = elim (lt_or_le (length (drop t ws)) (length ys)) [
  | inl h ↦ absurd (differ (begins (drop t ws) ys) e (begins-short (drop t ws) ys h))
  | inr h ↦ omega (arith, length-drop t ws)
]

-- the comparison goes on after a word that is equal
pub word_hit : (ws : List ℕ) (t y : ℕ) (ys : List ℕ) → t < length ws → get_or ws t 0 ≡ y
    → begins (drop t ws) (y ∷ ys) ≡ begins (drop (t + 1) ws) ys
word_hit ws t y ys h e = rw (add-one, drop-cons ws t 0 h, eq-eqb (get_or ws t 0) y e)

pub next_hit : (ws : List ℕ) (t k y : ℕ) (ys : List ℕ) → t + k < length ws → get_or ws (t + k) 0 ≡ y
    → begins (drop (t + k) ws) (y ∷ ys) ≡ begins (drop (t + suc k) ws) ys
next_hit ws t k y ys h e = let next : t + k + 1 ≡ t + suc k = omega arith in word_hit ws (t + k) y ys h e ∙ ap (λ (n : ℕ). begins (drop n ws) ys) next

pub word_miss : (ws : List ℕ) (t y : ℕ) (ys : List ℕ) → t < length ws → (get_or ws t 0 ≡ y → ⊥) → begins (drop t ws) (y ∷ ys) ≡ false
word_miss ws t y ys h n = rw (drop-cons ws t 0 h, ne_eqb (get_or ws t 0) y n)

pub last_word : (ws : List ℕ) (t y : ℕ) → t < length ws → begins (drop t ws) (y ∷ []) ≡ eqb (get_or ws t 0) y
last_word ws t y h = rw (drop-cons ws t 0 h) (all_of (eqb (get_or ws t 0) y))

-- a comparison that goes word by word, as `begins` and `same_numbers` do, goes part by part
module _ (f : List ℕ → List ℕ → Bool) (short : (y : ℕ) (ys : List ℕ) → f [] (y ∷ ys) ≡ false)
    (word : (x y : ℕ) (xs ys : List ℕ) → f (x ∷ xs) (y ∷ ys) ≡ (eqb x y && f xs ys)) where
  part : (xs ys zs : List ℕ) → f xs (ys ++ zs) ≡ (begins xs ys && f (drop (length ys) xs) zs)
  part xs [] zs = refl
  part [] (y ∷ ys) zs = short y (ys ++ zs)
  part (x ∷ xs) (y ∷ ys) zs =
      word x y xs (ys ++ zs) ∙ ap (λ (b : Bool). eqb x y && b) (part xs ys zs)
      ∙ sym (and_assoc (eqb x y) (begins xs ys) (f (drop (length ys) xs) zs))

  part_hit : (ws : List ℕ) (t : ℕ) (ys zs : List ℕ) → begins (drop t ws) ys ≡ true → f (drop t ws) (ys ++ zs) ≡ f (drop (t + length ys) ws) zs
  part_hit ws t ys zs e =
      part (drop t ws) ys zs ∙ and-true (begins (drop t ws) ys) (f (drop (length ys) (drop t ws)) zs) e
      ∙ ap (λ (l : List ℕ). f l zs) (drop-drop (length ys) t ws)

  part_miss : (ws : List ℕ) (t : ℕ) (ys zs : List ℕ) → begins (drop t ws) ys ≡ false → f (drop t ws) (ys ++ zs) ≡ false
  part_miss ws t ys zs e = part (drop t ws) ys zs ∙ and-false (begins (drop t ws) ys) (f (drop (length ys) (drop t ws)) zs) e

-- ---- the cliques of a pattern, from last to first

-- the entry of one more clique, zs, comes after the entries ys of the cliques after it
module _ (ws : List ℕ) (t j : ℕ) (ys zs : List ℕ) (e : length ys ≡ j) where
  after : begins (drop t ws) (ys ++ zs) ≡ (begins (drop t ws) ys && begins (drop (t + j) ws) zs)
  after =
      part begins (λ y ys. refl) (λ x y xs ys. refl) (drop t ws) ys zs
      ∙ ap (λ (l : List ℕ). begins (drop t ws) ys && begins l zs) (drop-drop (length ys) t ws ∙ ap (λ (k : ℕ). drop (t + k) ws) e)

  last_hit : begins (drop (t + j) ws) zs ≡ true → begins (drop t ws) (ys ++ zs) ≡ begins (drop t ws) ys
  last_hit h = after ∙ ap (λ (b : Bool). begins (drop t ws) ys && b) h ∙ all_of (begins (drop t ws) ys)

  last_miss : begins (drop (t + j) ws) zs ≡ false → begins (drop t ws) (ys ++ zs) ≡ false
  last_miss h = after ∙ and_right (begins (drop t ws) ys) (begins (drop (t + j) ws) zs) h

-- ---- where the rows of a pattern end, as the map tells

-- an entry with first row r and n rows comes after ys, and its rows are told to end before `told`
module _ (ws : List ℕ) (t j : ℕ) (ys : List ℕ) (e : length ys ≡ j) (i k c n r told : ℕ) where
  abbrev entry_at : ℕ → List ℕ
  entry_at q = i ∷ k ∷ c ∷ q ∷ n ∷ []

  abbrev right : Bool
  right = begins (drop t ws) (ys ++ entry_at r) && eqb told (r + n)

  wrong : (told ≡ r + n → ⊥) → right ≡ false
  wrong x = and_right (begins (drop t ws) (ys ++ entry_at r)) (eqb told (r + n)) (ne_eqb told (r + n) x)

  pub told-low : told < n → right ≡ false
  told-low h = wrong (λ q. omega arith)

  -- the entry is compared with the first row that the end told gives
  module _ (h : n ≤ told) where
    moved : {x : Bool} → told - n ≡ r → begins (drop (t + j) ws) (entry_at (told - n)) ≡ x → begins (drop (t + j) ws) (entry_at r) ≡ x
    moved same f = ap (λ (q : ℕ). begins (drop (t + j) ws) (entry_at q)) (sym same) ∙ f

    pub told_hit : begins (drop (t + j) ws) (entry_at (told - n)) ≡ true → right ≡ (begins (drop t ws) ys && eqb (told - n) r)
    told_hit f = go (eqb (told - n) r) refl
      where
        go : (b : Bool) → eqb (told - n) r ≡ b → right ≡ (begins (drop t ws) ys && eqb (told - n) r)
        go true x =
            let same = eqb-true (told - n) r x in
            ap₂ (λ (a b : Bool). a && b) (last_hit ws t j ys (entry_at r) e (moved same f)) (eq-eqb told (r + n) (omega arith) ∙ sym x)
        go false x = wrong (λ q. eqb-false (told - n) r x (omega arith)) ∙ sym (and_right (begins (drop t ws) ys) (eqb (told - n) r) x)

    pub told_miss : begins (drop (t + j) ws) (entry_at (told - n)) ≡ false → right ≡ false
    told_miss f = go (eqb (told - n) r) refl
      where
        go : (b : Bool) → eqb (told - n) r ≡ b → right ≡ false
        go true x =
            and-false (begins (drop t ws) (ys ++ entry_at r)) (eqb told (r + n))
            (last_miss ws t j ys (entry_at r) e (moved (eqb-true (told - n) r x) f))
        go false x = wrong (λ q. eqb-false (told - n) r x (omega arith))

-- the elements of a prefix
begins-at : (xs ys : List ℕ) (k : ℕ) → begins xs ys ≡ true → k < length ys → get_or xs k 0 ≡ get_or ys k 0
begins-at xs [] k e h = absurd (omega arith)
begins-at [] (y ∷ ys) k e h = absurd (differ false e refl)
begins-at (x ∷ xs) (y ∷ ys) zero e h = eqb-true x y (passed (eqb x y) ((and_iff (eqb x y) (begins xs ys)).0 (passes (eqb x y && begins xs ys) e)).0)
begins-at (x ∷ xs) (y ∷ ys) (suc k) e h =
    begins-at xs ys k (passed (begins xs ys) ((and_iff (eqb x y) (begins xs ys)).0 (passes (eqb x y && begins xs ys) e)).1) (omega arith)

-- the words of the last entry, zs
pub last_at : (ws : List ℕ) (t : ℕ) (ys zs : List ℕ) (m k : ℕ) → begins (drop t ws) (ys ++ zs) ≡ true → m ≡ length ys → k < length zs
    → get_or ws (t + m + k) 0 ≡ get_or zs k 0
last_at ws t ys zs m k e f h =
    let at : t + m + k ≡ t + (length ys + k) = omega arith in
    ap (λ (n : ℕ). get_or ws n 0) at ∙ sym (get_or-drop t ws (length ys + k) 0)
    ∙ begins-at (drop t ws) (ys ++ zs) (length ys + k) e (omega (arith, length-append ys zs)) ∙ get_or-append-add ys zs k 0

-- if the words start with the entries of cliques, the rows of these end where the map tells
pub told-rows : (xs : List ℕ) (i k first : ℕ) (cs : List Clique) (end : ℕ) → 0 < length cs → Tells xs (length cs) end → first + sum (map dim_of cs) ≤ 262144
    → begins xs (down_words i k 0 first cs) ≡ true → end ≡ first + sum (map dim_of cs)
told-rows xs i k first [] end l h m b = absurd (omega arith)
told-rows xs i k first (q ∷ cs) end l h m b =
    let es = entries_down i k 1 first cs in
    let e = h (down_words i k 1 first cs) i k 0 (first + sum (map dim_of cs)) (dim_of q) (omega (arith, entries-length es, down-length i k 1 first cs)) (sym (ap (begins xs) (down_more i k 0 first q cs)) ∙ b) (omega arith) in
    omega (arith, e)

-- a second test that holds where the first passes changes nothing
pub implied : (b : Bool) (x y : ℕ) → (b ≡ true → x ≡ y) → (b && eqb x y) ≡ b
implied true x y h = eq-eqb x y (h refl)
implied false x y h = refl

-- ---- the parts ahead

module _ (ws : List ℕ) (t first : ℕ) (x : Part) (before later : List Part) (e : before ≡ x ∷ later) where
  opened : map_words (map_from first before) ≡ map_words (map_part first x) ++ map_words (map_from (first + part_rows x) later)
  opened = ap (λ (ps : List Part). map_words (map_from first ps)) e ∙ words-part first x later

  pub entries_hit : begins (drop t ws) (map_words (map_part first x)) ≡ true → {rows : ℕ} → rows ≡ part_rows x
      → same_numbers (drop t ws) (map_words (map_from first before)) ≡ same_numbers (drop (t + length (map_words (map_part first x))) ws) (map_words (map_from (first + rows) later))
  entries_hit h {rows} r =
      ap (same_numbers (drop t ws)) opened
      ∙ part_hit same_numbers (λ y ys. refl) (λ u y us ys. refl) ws t (map_words (map_part first x)) (map_words (map_from (first + part_rows x) later)) h
      ∙ ap (λ (n : ℕ). same_numbers (drop (t + length (map_words (map_part first x))) ws) (map_words (map_from (first + n) later))) (sym r)

  pub entries_miss : begins (drop t ws) (map_words (map_part first x)) ≡ false → same_numbers (drop t ws) (map_words (map_from first before)) ≡ false
  entries_miss h =
      ap (same_numbers (drop t ws)) opened
      ∙ part_miss same_numbers (λ y ys. refl) (λ u y us ys. refl) ws t (map_words (map_part first x)) (map_words (map_from (first + part_rows x) later)) h

pub entries_end : (ws : List ℕ) (t first : ℕ) (before : List Part) → before ≡ [] → t ≤ length ws
    → same_numbers (drop t ws) (map_words (map_from first before)) ≡ eqb t (length ws)
entries_end ws t first before e l = ap (λ (ps : List Part). same_numbers (drop t ws) (map_words (map_from first ps))) e ∙ at_end (lt_or_le t (length ws))
  where
    at_end : (t < length ws) ⊎ (length ws ≤ t) → same_numbers (drop t ws) [] ≡ eqb t (length ws)
    at_end (inl h) = rw (drop-cons ws t 0 h, ne_eqb t (length ws) (λ q. omega arith))
    at_end (inr h) = rw (drop_of_length-le ws h, eq-eqb t (length ws) (omega arith))

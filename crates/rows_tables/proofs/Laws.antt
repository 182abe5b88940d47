-- Lists written in order: one more number, three more words, the five words of a map entry; and joins of lists of one length.
use Prim.Native.Nat.{ℕ, zero, suc, ◌+◌, ◌*◌, ◌≤◌, ◌<◌}
use native.Mathlib.Numerals.{add-one}
use native.Mathlib.Omega.{arith}
use mathlib.Core.Path.{◌≡◌, refl, ap, ap₂, sym, ◌∙◌}
use mathlib.Core.List.{List, [], ◌∷◌, ◌++◌, append_assoc, append-nil}
use lib.ListN.{length, get_or, take, drop, set, length-append, length-drop, take-append-drop}
use lib.Seq.{drop-cons, take-add, take_at, drop_at, drop-drop, length-take-le}
use Rattle.layout.specs.General.Lists.{join, up_from, written}
use Rattle.layout.specs.Problems.Cones.{Cone, records}
use Rattle.layout.specs.Checks.{no_cone}
use Rattle.layout.specs.Cuts.Compact.{cone_words}
use Rattle.layout.proofs.Lists.Members.{length-up_from}
use Rattle.layout.proofs.Lists.Joins.{up_from_last}
use Rattle.layout.proofs.Patterns.Records.{record_at_lem}
use Rattle.layout.proofs.Lists.Buffers.{set-written}

-- three more words written
pub three_more : {A : Type 0} (xs old : List A) (u v w : A) (t : ℕ) → t ≡ length xs → t + 2 < length old
    → set (set (set (written xs old) t u) (t + 1) v) (t + 2) w ≡ written (xs ++ (u ∷ v ∷ w ∷ [])) old
three_more {A} xs old u v w t e h =
    ap (λ (l : List A). set (set l (t + 1) v) (t + 2) w) (set-written xs old u t e (omega arith))
    ∙ ap (λ (l : List A). set l (t + 2) w) (set-written (xs ++ (u ∷ [])) old v (t + 1) (omega (arith, length-append xs (u ∷ []))) (omega arith))
    ∙ set-written ((xs ++ (u ∷ [])) ++ (v ∷ [])) old w (t + 2)
    (omega (arith, length-append xs (u ∷ []), length-append (xs ++ (u ∷ [])) (v ∷ []))) h
    ∙ ap (λ (l : List A). written l old) (ap (λ (l : List A). l ++ (w ∷ [])) (append_assoc xs (u ∷ []) (v ∷ [])) ∙ append_assoc xs (u ∷ v ∷ []) (w ∷ []))

-- three words stored from index t on
module _ {A : Type 0} (o : List A) (t : ℕ) (u v w : A) (h : t + 3 ≤ length o) where
  abbrev stored : List A
  stored = set (set (set o t u) (t + 1) v) (t + 2) w

  size : length (take t o) ≡ t
  size = length-take-le t o (omega arith)

  after : length (take t o ++ (u ∷ v ∷ w ∷ [])) ≡ t + 3
  after = omega (arith, length-append (take t o) (u ∷ v ∷ w ∷ []), size)

  three_set : stored ≡ (take t o ++ (u ∷ v ∷ w ∷ [])) ++ drop (t + 3) o
  three_set =
      ap (λ (l : List A). set (set (set l t u) (t + 1) v) (t + 2) w) (sym (take-append-drop t o) ∙ ap (λ (n : ℕ). take t o ++ drop n o) (sym size))
      ∙ three_more (take t o) o u v w t (sym size) (omega arith)
      ∙ ap (λ (n : ℕ). (take t o ++ (u ∷ v ∷ w ∷ [])) ++ drop n o) after

  -- the list up to the three words, after them, and from them on
  stored_front : take (t + 3) stored ≡ take t o ++ (u ∷ v ∷ w ∷ [])
  stored_front = ap (take (t + 3)) three_set ∙ take_at (take t o ++ (u ∷ v ∷ w ∷ [])) (drop (t + 3) o) (t + 3) after

  stored_rest : drop (t + 3) stored ≡ drop (t + 3) o
  stored_rest = ap (drop (t + 3)) three_set ∙ drop_at (take t o ++ (u ∷ v ∷ w ∷ [])) (drop (t + 3) o) (t + 3) after

  stored_from : drop t stored ≡ u ∷ v ∷ w ∷ drop (t + 3) o
  stored_from =
      ap (drop t) (three_set ∙ append_assoc (take t o) (u ∷ v ∷ w ∷ []) (drop (t + 3) o))
      ∙ drop_at (take t o) (u ∷ v ∷ w ∷ drop (t + 3) o) t size

  -- the three words extend a list written from its first element on, or from its last on, of which rest is left to write
  module _ (new rest total : List A) (e : new ≡ stored) where
    pub up_more : (old : List A) → take t o ++ (u ∷ v ∷ w ∷ rest) ≡ total → drop t o ≡ drop t old
        → (take (t + 3) new ++ rest ≡ total) × (drop (t + 3) new ≡ drop (t + 3) old)
    up_more old f g = (
      ap (λ (l : List A). take (t + 3) l ++ rest) e ∙ ap (λ (l : List A). l ++ rest) stored_front ∙ append_assoc (take t o) (u ∷ v ∷ w ∷ []) rest ∙ f,
      ap (drop (t + 3)) e ∙ stored_rest ∙ sym (drop-drop 3 t o) ∙ ap (drop 3) g ∙ drop-drop 3 t old,
    )

    pub down_more : (rest ++ (u ∷ v ∷ w ∷ [])) ++ drop (t + 3) o ≡ total → rest ++ drop t new ≡ total
    down_more f =
        ap (λ (l : List A). rest ++ drop t l) e ∙ ap (λ (l : List A). rest ++ l) stored_from
        ∙ sym (append_assoc rest (u ∷ v ∷ w ∷ []) (drop (t + 3) o)) ∙ f

-- five more words written
pub five_more : {A : Type 0} (xs old : List A) (u v w x y : A) (t : ℕ) → t ≡ length xs → t + 4 < length old
    → set (set (set (set (set (written xs old) t u) (t + 1) v) (t + 2) w) (t + 3) x) (t + 4) y ≡ written (xs ++ (u ∷ v ∷ w ∷ x ∷ y ∷ [])) old
five_more {A} xs old u v w x y t e h =
    let front = xs ++ (u ∷ v ∷ w ∷ []) in
    ap (λ (l : List A). set (set l (t + 3) x) (t + 4) y) (three_more xs old u v w t e (omega arith))
    ∙ ap (λ (l : List A). set l (t + 4) y) (set-written front old x (t + 3) (omega (arith, length-append xs (u ∷ v ∷ w ∷ []))) (omega arith))
    ∙ set-written (front ++ (x ∷ [])) old y (t + 4) (omega (arith, length-append xs (u ∷ v ∷ w ∷ []), length-append front (x ∷ []))) h
    ∙ ap (λ (l : List A). written l old) (ap (λ (l : List A). l ++ (y ∷ [])) (append_assoc xs (u ∷ v ∷ w ∷ []) (x ∷ [])) ∙ append_assoc xs (u ∷ v ∷ w ∷ x ∷ []) (y ∷ []))

-- five words stored from index t on extend a list written from its last element on, of which rest is left to write
pub entry_more : {A : Type 0} (o : List A) (t : ℕ) (u v w x y : A) → t + 5 ≤ length o → (new rest total : List A)
    → new ≡ set (set (set (set (set o t u) (t + 1) v) (t + 2) w) (t + 3) x) (t + 4) y
    → (rest ++ (u ∷ v ∷ w ∷ x ∷ y ∷ [])) ++ drop (t + 5) o ≡ total → rest ++ drop t new ≡ total
entry_more {A} o t u v w x y h new rest total e f =
    ap (λ (l : List A). rest ++ drop t l) (e ∙ stored_at)
    ∙ ap (λ (l : List A). rest ++ l) (drop_at (take t o) (five ++ drop (t + 5) o) t size)
    ∙ sym (append_assoc rest five (drop (t + 5) o)) ∙ f
  where
    five : List A
    five = u ∷ v ∷ w ∷ x ∷ y ∷ []

    size : length (take t o) ≡ t
    size = length-take-le t o (omega arith)

    after : length (take t o ++ five) ≡ t + 5
    after = omega (arith, length-append (take t o) five, size)

    stored_at : set (set (set (set (set o t u) (t + 1) v) (t + 2) w) (t + 3) x) (t + 4) y ≡ take t o ++ (five ++ drop (t + 5) o)
    stored_at =
        ap (λ (l : List A). set (set (set (set (set l t u) (t + 1) v) (t + 2) w) (t + 3) x) (t + 4) y) (sym (take-append-drop t o) ∙ ap (λ (n : ℕ). take t o ++ drop n o) (sym size))
        ∙ five_more (take t o) o u v w x y t (sym size) (omega arith)
        ∙ ap (λ (n : ℕ). (take t o ++ five) ++ drop n o) after
        ∙ append_assoc (take t o) five (drop (t + 5) o)

-- nothing is left: the whole list is written
pub up_done : {A : Type 0} (out old full : List A) (t : ℕ) → t ≤ length out → take t out ++ [] ≡ full → drop t out ≡ drop t old → out ≡ written full old
up_done {A} out old full t h e g =
    let f : take t out ≡ full = sym (append-nil (take t out)) ∙ e in
    sym (take-append-drop t out) ∙ ap₂ (λ (x y : List A). x ++ y) f g
    ∙ ap (λ (n : ℕ). full ++ drop n old) (sym (length-take-le t out h) ∙ ap length f)

-- one more row number written
pub count_more : (old : List ℕ) (first i : ℕ) → i < length old
    → set (written (up_from first i) old) i (first + i) ≡ written (up_from first (i + 1)) old
count_more old first i h =
    set-written (up_from first i) old (first + i) i (sym (length-up_from first i)) h
    ∙ ap (λ (l : List ℕ). written l old) (sym (ap (up_from first) (add-one i) ∙ up_from_last first i))

-- the words of record i
pub word_of : (ws : List ℕ) (i j : ℕ) → i * 3 + 3 ≤ length ws → j < 3 → get_or ws (i * 3 + j) 0 ≡ get_or (cone_words (get_or (records ws) i no_cone)) j 0
word_of ws i zero h l =
    let e : i * 3 + 0 ≡ i * 3 = omega arith in
    ap (λ (n : ℕ). get_or ws n 0) e ∙ sym (ap (λ (c : Cone). c.kind) (record_at_lem ws i no_cone h))
word_of ws i (suc zero) h l = sym (ap (λ (c : Cone). c.first) (record_at_lem ws i no_cone h))
word_of ws i (suc (suc zero)) h l = sym (ap (λ (c : Cone). c.second) (record_at_lem ws i no_cone h))
word_of ws i (suc (suc (suc j))) h l = absurd (omega arith)

pub words_of : (ws : List ℕ) (i : ℕ) → i * 3 + 3 ≤ length ws → take 3 (drop (i * 3) ws) ≡ cone_words (get_or (records ws) i no_cone)
words_of ws i h =
    let t : ℕ = i * 3 in
    let second : suc t ≡ t + 1 = omega arith in
    let third : suc (suc t) ≡ t + 2 = omega arith in
    ap (take 3) (drop-cons ws t 0 (omega arith) ∙ ap (λ (l : List ℕ). get_or ws t 0 ∷ l) (drop-cons ws (suc t) 0 (omega arith)
    ∙ ap (λ (l : List ℕ). get_or ws (suc t) 0 ∷ l) (drop-cons ws (suc (suc t)) 0 (omega arith))))
    ∙ ap₂ (λ (m n : ℕ). get_or ws t 0 ∷ get_or ws m 0 ∷ get_or ws n 0 ∷ []) second third
    ∙ ap cone_words (sym (record_at_lem ws i no_cone h))

-- ---- joined lists

module _ {A B : Type 0} where
  -- joined lists of three elements have three times as many elements as there are lists
  pub threes : (f : A → List B) → ((x : A) → length (f x) ≡ 3) → (xs : List A) → length (join f xs) ≡ length xs * 3
  threes f h [] = refl
  threes f h (x ∷ xs) = omega (arith, length-append (f x) (join f xs), h x, threes f h xs)

-- ---- a list written part by part

-- where the elements left are xs and rest: the list up to the end of xs, the list after xs, and that xs ends inside it
pub part-done : {A : Type 0} (full xs rest : List A) (t : ℕ) → t ≤ length full → drop t full ≡ xs ++ rest
    → (take (t + length xs) full ≡ take t full ++ xs) × (drop (t + length xs) full ≡ rest) × (t + length xs ≤ length full)
part-done {A} full xs rest t h e = (
  take-add t (length xs) full ∙ ap (λ (l : List A). take t full ++ l) (ap (take (length xs)) e ∙ take_at xs rest (length xs) refl),
  sym (drop-drop (length xs) t full) ∙ ap (drop (length xs)) e ∙ drop_at xs rest (length xs) refl,
  omega (arith, ap length e, length-append xs rest, length-drop t full),
)

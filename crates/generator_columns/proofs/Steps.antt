-- Drawing a column one draw at a time. At row i, `due` is 1 where the next draw is the value of an entry, and 0 where it decides whether the
-- row stores an entry.
use Prim.Native.Nat.{ℕ, zero, suc, ◌+◌, ◌-◌, ◌/◌, ◌%◌, ◌≤◌, ◌<◌}
use native.Mathlib.Nat.{mod-lt, zero-lt-suc}
use native.Mathlib.Omega.{arith}
use mathlib.Core.Path.{◌≡◌, refl, sym, ap, ap₂, ◌∙◌}
use mathlib.Core.Logic.{◌⊎◌, inl, inr, ⊎_elim}
use mathlib.Core.Bool.{Bool, true, false}
use mathlib.Core.List.{List, [], ◌∷◌, ◌++◌, map, map-append}
use borrow.Author.Tests.{eqb-true, eqb-false}
use lib.ListN.{length, get_or, set, take, drop, length-append, length-take}
use lib.Seq.{take-add, take-set-le, take-suc-set}
use Rattle.layout.specs.Cuts.Compact.{Entry}
use Rattle.layout.specs.Calls.Generate.{draw, is_odd, drawn_value, after_entry, drawn_column, after_column}
use Rattle.layout.proofs.Generators.Drawn.{column-append, after-append, column-few, column_hit, column_miss, after_next}

-- t is the state after the rows before i, and after the first draw at row i where a value is due
abbrev pub Between : ℕ → List ℕ → ℕ → ℕ → ℕ → Type 0
Between s rs i due t =
    ((due ≡ 0) × (t ≡ after_column s (take i rs)))
    ⊎ ((due ≡ 1) × (i < length rs) × (t ≡ draw (after_column s (take i rs))) × (is_odd t ≡ true))

-- how the entries drawn before row i + 1 differ from those before row i, where the draw u is the last one of row i
abbrev Ended : ℕ → List ℕ → ℕ → ℕ → ℕ → Type 0
Ended s rs i due u =
    ((due ≡ 0) × (drawn_column s (take (i + 1) rs) ≡ drawn_column s (take i rs)))
    ⊎ ((due ≡ 1) × (drawn_column s (take (i + 1) rs) ≡ drawn_column s (take i rs) ++ (record { row = get_or rs i 0; value = drawn_value u } ∷ [])))

-- after the draw u either the value of row i is due, or row i is finished
abbrev pub Turn : ℕ → List ℕ → ℕ → ℕ → ℕ → ℕ → Type 0
Turn s rs i due u next =
    ((next ≡ 1) × (due ≡ 0) × Between s rs i 1 u) ⊎ ((next ≡ 0) × Between s rs (i + 1) 0 u × Ended s rs i due u)

small : (k : ℕ) → k < 2 → (k ≡ 1 → ⊥) → k ≡ 0
small zero h n = refl
small (suc zero) h n = absurd (n refl)
small (suc (suc k)) h n = absurd (omega arith)

pub turn : (s : ℕ) (rs : List ℕ) (i due t u : ℕ) → i < length rs → u ≡ draw t → Between s rs i due t → Turn s rs i due u ((u % 2 + (1 - due)) / 2)
turn s rs i due t u l q (inl (z, here)) = go (is_odd u) refl
  where
    go : (b : Bool) → is_odd u ≡ b → Turn s rs i due u ((u % 2 + (1 - due)) / 2)
    go true e = inl ((let o = eqb-true (u % 2) 1 e in omega (arith, o, z)), z, inr (refl, l, q ∙ ap draw here, e))
    go false e =
        let none = small (u % 2) (mod-lt u (zero-lt-suc 1)) (eqb-false (u % 2) 1 e) in
        let even : is_odd (draw t) ≡ false = ap is_odd (sym q) ∙ e in
        let past : after_entry t ≡ draw t = rw even in
        inr (omega (arith, none, z), inl (refl, q ∙ sym past ∙ sym (after_next s rs i l t here)), inl (z, column_miss s rs i l t here even))
turn s rs i due t u l q (inr (o, m, here, e)) =
    let first = after_column s (take i rs) in
    let odd : is_odd (draw first) ≡ true = ap is_odd (sym here) ∙ e in
    let past : after_entry first ≡ u = (rw odd) ∙ ap draw (sym here) ∙ sym q in
    inr (
      omega (arith, o, mod-lt u (zero-lt-suc 1)),
      inl (refl, sym past ∙ sym (after_next s rs i l first refl)),
      inr (o, column_hit s rs i l first refl odd ∙ ap (λ (v : ℕ). drawn_column s (take i rs) ++ (record { row = get_or rs i 0; value = drawn_value v } ∷ [])) past),
    )

-- what a loop that draws the column has after its next draw, with count entries before row i
module _ (s : ℕ) (rs : List ℕ) (i count due u k : ℕ) (l : i < length rs) (few : count ≤ i) (t : Turn s rs i due u k) where
  next_small : (k ≤ 1) × (due ≤ 1)
  next_small =
      ⊎_elim (λ w. (omega (arith, w.0), omega (arith, w.1)))
      (λ w. ⊎_elim (λ v. (omega (arith, w.0), omega (arith, v.0))) (λ v. (omega (arith, w.0), omega (arith, v.0))) w.2) t

  next_low : (i + (1 - k) ≤ length rs) × (count + due ≤ i + (1 - k))
  next_low =
      ⊎_elim (λ w. (omega (arith, w.0, w.1), omega (arith, w.0, w.1))) (λ w. (omega (arith, w.0), omega (arith, w.0, next_small))) t

  next_less : length rs - (i + (1 - k)) + (length rs - (i + (1 - k))) - k < length rs - i + (length rs - i) - due
  next_less = ⊎_elim (λ w. omega (arith, w.0, w.1)) (λ w. omega (arith, w.0, next_small)) t

  stayed : k ≡ 1 → i + (1 - k) ≡ i
  stayed e = omega (arith, e)

  ended : k ≡ 0 → i + (1 - k) ≡ i + 1
  ended e = omega (arith, e)

  next-between : Between s rs (i + (1 - k)) k u
  next-between = ⊎_elim (λ w. rw (stayed w.0, w.0) w.2) (λ w. rw (ended w.0, w.0) w.1) t

  -- the bounds after that draw, that the loop's measure falls, and the state
  pub going : (k ≤ 1) × (i + (1 - k) ≤ length rs) × (count + due ≤ i + (1 - k))
      × (length rs - (i + (1 - k)) + (length rs - (i + (1 - k))) - k < length rs - i + (length rs - i) - due) × Between s rs (i + (1 - k)) k u
  going = (next_small.0, next_low.0, next_low.1, next_less, next-between)

  abbrev entry : Entry
  entry = record { row = get_or rs i 0; value = drawn_value u }

  pub next-count : count ≡ length (drawn_column s (take i rs)) → count + due ≡ length (drawn_column s (take (i + (1 - k)) rs))
  next-count n =
      ⊎_elim (λ w. rw (stayed w.0) (omega (arith, n, w.1)))
      (λ w. rw (ended w.0)
      (⊎_elim (λ v. omega (arith, n, v.0, ap length v.1))
      (λ v. omega (arith, n, v.0, ap length v.1, length-append (drawn_column s (take i rs)) (entry ∷ []))) w.2))
      t

  -- x, stored at index count, counts only where it belongs to an entry
  module _ {A B : Type 0} (f : Entry → B) (g : List A → List B) (x : A) (one : (ys : List A) → g (ys ++ (x ∷ [])) ≡ g ys ++ (f entry ∷ []))
      (xs : List A) (room : count < length xs) (same : g (take count xs) ≡ map f (drawn_column s (take i rs))) where
    none_more : due ≡ 0 → g (take (count + due) (set xs count x)) ≡ map f (drawn_column s (take i rs))
    none_more z = let e : count + due ≡ count = omega (arith, z) in rw e (ap g (take-set-le count xs count x (omega arith)) ∙ same)

    one_more : due ≡ 1 → g (take (count + due) (set xs count x)) ≡ map f (drawn_column s (take i rs) ++ (entry ∷ []))
    one_more o =
        let e : count + due ≡ suc count = omega (arith, o) in
        rw e
        (ap g (take-suc-set xs count x room) ∙ one (take count xs) ∙ ap (λ (ys : List B). ys ++ (f entry ∷ [])) same
        ∙ sym (map-append f (drawn_column s (take i rs)) (entry ∷ [])))

    pub next-kept : g (take (count + due) (set xs count x)) ≡ map f (drawn_column s (take (i + (1 - k)) rs))
    next-kept =
        ⊎_elim (λ w. rw (stayed w.0) (none_more w.1))
        (λ w. rw (ended w.0)
        (⊎_elim (λ v. none_more v.0 ∙ ap (map f) (sym v.1)) (λ v. one_more v.0 ∙ ap (map f) (sym v.1)) w.2))
        t

-- once all rows are finished, the state is the one after the column
pub all_drawn : (s : ℕ) (rs : List ℕ) (i due t : ℕ) → length rs ≤ i → Between s rs i due t → t ≡ after_column s (take i rs)
all_drawn s rs i due t h (inl w) = w.1
all_drawn s rs i due t h (inr w) = absurd (omega (arith, w.1))

-- ---- a column drawn in pieces: k rows from i on

module _ (s : ℕ) (rs : List ℕ) (i k t : ℕ) (here : t ≡ after_column s (take i rs)) where
  abbrev pub piece : List ℕ
  piece = take (i + k - i) (drop i rs)

  piece_is : take k (drop i rs) ≡ piece
  piece_is = let e : k ≡ i + k - i = omega arith in ap (λ (m : ℕ). take m (drop i rs)) e

  pub piece_few : length piece ≤ k
  piece_few = rw (← piece_is, length-take) (omega arith)

  pub column_piece : drawn_column s (take (i + k) rs) ≡ drawn_column s (take i rs) ++ drawn_column t piece
  column_piece =
      ap (drawn_column s) (take-add i k rs) ∙ column-append s (take i rs) (take k (drop i rs))
      ∙ ap₂ (λ (u : ℕ) (xs : List ℕ). drawn_column s (take i rs) ++ drawn_column u xs) (sym here) piece_is

  pub after_piece : after_column s (take (i + k) rs) ≡ after_column t piece
  after_piece =
      ap (after_column s) (take-add i k rs) ∙ after-append s (take i rs) (take k (drop i rs))
      ∙ ap₂ (λ (u : ℕ) (xs : List ℕ). after_column u xs) (sym here) piece_is

  pub piece_fits : length (drawn_column s (take i rs)) + length (drawn_column t piece) ≤ length (drawn_column s rs)
  piece_fits =
      omega (arith, ap length column_piece, length-append (drawn_column s (take i rs)) (drawn_column t piece), column-few s rs (i + k))

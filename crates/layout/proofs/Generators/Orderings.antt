-- The generator's ordering is a permutation, whatever is drawn: exchanging two entries keeps a list duplicate-free and its numbers below
-- its length.
use Prim.Native.Nat.{ℕ, zero, suc, ◌+◌, ◌-◌, ◌%◌, ◌<◌}
use native.Mathlib.Nat.{mod-lt, zero-lt-suc}
use native.Mathlib.Numerals.{add-one}
use native.Mathlib.Omega.{arith}
use mathlib.Core.Path.{◌≡◌, refl, sym, ap, subst, ◌∙◌}
use mathlib.Core.Logic.{◌⊎◌, inl, inr}
use mathlib.Core.List.{List}
use lib.ListN.{length, get_or, set, length-set}
use lib.Seq.{get_or-set_same, get_or-set_other}
use lib.Dec.{T, eqb}
use Rattle.layout.specs.General.Lists.{below, is_permutation}
use Rattle.layout.specs.Calls.Generate.{draw, draws, exchange, exchanges, drawn_ordering}
use Rattle.layout.proofs.Lists.Tests.{eqb_iff, tested}
use Rattle.layout.proofs.Lists.Members.{has_get_or, length-below}
use Rattle.layout.proofs.Lists.Distinct.{ApartPlaces, permutation-by, permutation-below, distinct-at, permutation-has, permutation-distinct}

-- ---- an exchange

module _ (i k : ℕ) (xs : List ℕ) (li : i < length xs) (lk : k < length xs) where
  length-exchange : length (exchange i k xs) ≡ length xs
  length-exchange = length-set (set xs i (get_or xs k 0)) k (get_or xs i 0) ∙ length-set xs i (get_or xs k 0)

  -- after the exchange, index j holds the entry that was at index o
  abbrev From : ℕ → ℕ → Type 0
  From j o = ((j ≡ k) × (o ≡ i)) ⊎ (((j ≡ i) × (o ≡ k) × (j ≡ k → ⊥)) ⊎ ((o ≡ j) × (j ≡ k → ⊥) × (j ≡ i → ⊥)))

  from-once : (a b o : ℕ) → From a o → From b o → a ≡ b
  from-once a b o (inl f) (inl g) = omega arith
  from-once a b o (inl f) (inr (inl g)) = omega arith
  from-once a b o (inl f) (inr (inr g)) = omega arith
  from-once a b o (inr (inl f)) (inl g) = omega arith
  from-once a b o (inr (inl f)) (inr (inl g)) = omega arith
  from-once a b o (inr (inl f)) (inr (inr g)) = omega arith
  from-once a b o (inr (inr f)) (inl g) = omega arith
  from-once a b o (inr (inr f)) (inr (inl g)) = omega arith
  from-once a b o (inr (inr f)) (inr (inr g)) = omega arith

  abbrev Stood : ℕ → ℕ → Type 0
  Stood j o = (o < length xs) × (get_or (exchange i k xs) j 0 ≡ get_or xs o 0) × From j o

  stood : (j : ℕ) → j < length xs → (o : ℕ) × Stood j o
  stood j l = elim (tested (eqb j k)) [
    | inl h ↦
        let e : j ≡ k = (eqb_iff j k).0 h in
        (i, (li, ap (λ (t : ℕ). get_or (exchange i k xs) t 0) e ∙ second, inl (e, refl)))
    | inr n ↦
        let ne : j ≡ k → ⊥ = λ e. n ((eqb_iff j k).1 e) in
        let first = get_or-set_other (set xs i (get_or xs k 0)) k j (get_or xs i 0) 0 ne in
        elim (tested (eqb j i)) [
          | inl h ↦
              let e : j ≡ i = (eqb_iff j i).0 h in
              (k, (lk, first ∙ ap (λ (t : ℕ). get_or (set xs i (get_or xs k 0)) t 0) e ∙ get_or-set_same xs i (get_or xs k 0) 0 li, inr (inl (e, refl, ne))))
          | inr m ↦
              let me : j ≡ i → ⊥ = λ e. m ((eqb_iff j i).1 e) in
              (j, (l, first ∙ get_or-set_other xs i j (get_or xs k 0) 0 me, inr (inr (refl, ne, me))))
        ]
  ]
    where
      second : get_or (exchange i k xs) k 0 ≡ get_or xs i 0
      second = get_or-set_same (set xs i (get_or xs k 0)) k (get_or xs i 0) 0 (omega (arith, length-set xs i (get_or xs k 0)))

  exchange_permutes : T (is_permutation xs) → T (is_permutation (exchange i k xs))
  exchange_permutes h = permutation-by (exchange i k xs) small apart
    where
      inside : (j : ℕ) → j < length (exchange i k xs) → j < length xs
      inside j l = omega (arith, length-exchange)

      small : (j : ℕ) → j < length (exchange i k xs) → get_or (exchange i k xs) j 0 < length (exchange i k xs)
      small j l =
          let (o, (lo, e, _)) = stood j (inside j l) in
          omega (arith, e, length-exchange, (permutation-has xs h (get_or xs o 0)).0 (has_get_or xs o 0 lo))

      apart : ApartPlaces (exchange i k xs)
      apart a b la lb e =
          let (o, (lo, eo, so)) = stood a (inside a la) in
          let (u, (lu, eu, su)) = stood b (inside b lb) in
          let q : o ≡ u = distinct-at 0 xs (permutation-distinct xs h) o u lo lu (sym eo ∙ e ∙ eu) in
          from-once a b u (subst (From a) q so) su

-- ---- the exchanges

-- exchanging each entry from k down to 1 of a permutation with one at or before it gives a permutation of the same length
exchanges_permute : (k s : ℕ) (xs : List ℕ) → k < length xs → T (is_permutation xs)
    → T (is_permutation (exchanges k s xs)) × (length (exchanges k s xs) ≡ length xs)
exchanges_permute zero s xs l h = (h, refl)
exchanges_permute (suc k) s xs l h =
    let d : ℕ = draw s in
    let o : ℕ = d % suc (suc k) in
    let lo : o < length xs = omega (arith, mod-lt d (zero-lt-suc (suc k))) in
    let e = length-exchange (suc k) o xs l lo in
    let (permutes, many) = exchanges_permute k d (exchange (suc k) o xs) (omega arith) (exchange_permutes (suc k) o xs l lo h) in
    (permutes, many ∙ e)

-- the exchanges from i down are the one of entry i, then those from i - 1 down
pub exchanges-step : (i s : ℕ) (xs : List ℕ) → 0 < i
    → exchanges i s xs ≡ exchanges (i - 1) (draw s) (exchange i (draw s % (i + 1)) xs)
exchanges-step zero s xs l = absurd (omega arith)
exchanges-step (suc i) s xs l = let e : suc i - 1 ≡ i = omega arith in rw (e, add-one)

pub draws-step : (i s : ℕ) → 0 < i → draws i s ≡ draws (i - 1) (draw s)
draws-step zero s l = absurd (omega arith)
draws-step (suc i) s l = let e : suc i - 1 ≡ i = omega arith in rw e

pub ordering_permutes : (seed v : ℕ) → 0 < v → T (is_permutation (drawn_ordering seed v)) × (length (drawn_ordering seed v) ≡ v)
ordering_permutes seed v l =
    let (permutes, many) = exchanges_permute (v - 1) seed (below v) (omega (arith, length-below v)) (permutation-below v) in
    (permutes, many ∙ length-below v)

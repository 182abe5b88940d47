-- Doubles in lists, and their 64-bit patterns: floats read from patterns fit binary64, and patterns and floats are had back from each other.
use Prim.Native.Nat.{ℕ, zero, suc}
use native.Mathlib.Omega.{arith}
use mathlib.Core.Path.{◌≡◌, refl, ap, ap₂, ◌∙◌}
use mathlib.Core.Bool.{not}
use mathlib.Core.List.{List, [], ◌∷◌, ◌++◌, map-append}
use lib.ListN.{get_or, replicate}
use lib.Dec.{T}
use lib.Ieee.{Float, nan, binary64, fits, is_nan, of_bits, to_bits}
use lib.Ieee.Fits.{nan-fits}
use lib.Ieee.Bits.{of_bits-fits, of_bits-to_bits, to_bits-of_bits, to_bits-lt}
use Rattle.layout.specs.General.Lists.{all}
use Rattle.layout.specs.General.Floats.{zero64, Doubles, floats, bits}
use Rattle.layout.specs.General.Bytes.{U64s}
use Rattle.layout.proofs.Lists.Tests.{and_iff}
use Rattle.layout.proofs.Lists.Members.{all_of_both, all_replicate}
use Rattle.layout.proofs.Numbers.Bytes.{below-cons, below-head, below_tail}

-- ---- lists of doubles

pub fit_cons : (v : Float) (vs : List Float) → T (fits binary64 v) → Doubles vs → Doubles (v ∷ vs)
fit_cons v vs h hs = (and_iff (fits binary64 v) (all (fits binary64) vs)).1 (h, hs)

pub fit_append : (us vs : List Float) → Doubles us → Doubles vs → Doubles (us ++ vs)
fit_append us vs h k = all_of_both (fits binary64) us vs h k

pub zeros_fit : (k : ℕ) → Doubles (replicate k zero64)
unfolding fits
zeros_fit k = all_replicate (fits binary64) k zero64 tt

pub value-fits : (vs : List Float) → Doubles vs → (i : ℕ) → T (fits binary64 (get_or vs i nan))
value-fits [] h i = nan-fits binary64
value-fits (v ∷ vs) h zero = ((and_iff (fits binary64 v) (all (fits binary64) vs)).0 h).0
value-fits (v ∷ vs) h (suc i) = value-fits vs ((and_iff (fits binary64 v) (all (fits binary64) vs)).0 h).1 i

-- ---- bit patterns

pub floats_fit : (xs : List ℕ) → Doubles (floats xs)
floats_fit [] = tt
floats_fit (x ∷ xs) = fit_cons (of_bits binary64 x) (floats xs) (of_bits-fits binary64 x) (floats_fit xs)

pub bits_fit : (vs : List Float) → Doubles vs → U64s (bits vs)
bits_fit [] h = λ i l. absurd (omega arith)
bits_fit (v ∷ vs) h =
    let (first, rest) = (and_iff (fits binary64 v) (all (fits binary64) vs)).0 h in
    below-cons 18446744073709551616 (to_bits binary64 v) (bits vs) (to_bits-lt binary64 v first) (bits_fit vs rest)

pub bits_back : (vs : List Float) → Doubles vs → floats (bits vs) ≡ vs
bits_back [] h = refl
bits_back (v ∷ vs) h =
    let (first, rest) = (and_iff (fits binary64 v) (all (fits binary64) vs)).0 h in
    ap₂ (λ (a : Float) (l : List Float). a ∷ l) (of_bits-to_bits binary64 v first) (bits_back vs rest)

-- a bit pattern that is not a NaN's is recovered from its float
pub floats-back : (xs : List ℕ) → U64s xs → T (all (λ x. not (is_nan (of_bits binary64 x))) xs) → bits (floats xs) ≡ xs
floats-back [] h k = refl
floats-back (x ∷ xs) h k =
    let (first, rest) = (and_iff (not (is_nan (of_bits binary64 x))) (all (λ x. not (is_nan (of_bits binary64 x))) xs)).0 k in
    ap₂ (λ (a : ℕ) (l : List ℕ). a ∷ l) (to_bits-of_bits binary64 x (below-head 18446744073709551616 x xs h) first)
    (floats-back xs (below_tail 18446744073709551616 x xs h) rest)

-- the bit pattern that a NaN is written as
pub nan_pattern : to_bits binary64 nan ≡ 9221120237041090560
unfolding to_bits
nan_pattern = refl

zero-floats : (k : ℕ) → floats (replicate k 0) ≡ replicate k zero64
unfolding of_bits
zero-floats zero = refl
zero-floats (suc k) = ap (λ (l : List Float). zero64 ∷ l) (zero-floats k)

-- the bit pattern 0 is +0.0
pub floats_zeros : (xs : List ℕ) (k : ℕ) → floats (xs ++ replicate k 0) ≡ floats xs ++ replicate k zero64
floats_zeros xs k = map-append (of_bits binary64) xs (replicate k 0) ∙ ap (λ (l : List Float). floats xs ++ l) (zero-floats k)

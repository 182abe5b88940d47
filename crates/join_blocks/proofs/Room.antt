-- Laws about numbers and lists for the borrow checker's obligations: indices in a slice do not overflow since the slice exists, a loop's count stays
-- below a length, and a slice keeps its length when a part of it was borrowed.
use Prim.Native.Nat.{ℕ, ◌+◌, ◌-◌, ◌*◌, ◌^◌, ◌≤◌, ◌<◌}
use native.Mathlib.Nat.{le_trans, le-add_right, le_of_lt, lt_of_lt_of_le, lt_trans, mul-le-mul_right}
use native.Mathlib.Omega.{arith}
use mathlib.Core.Path.{◌≡◌, sym, subst}
use mathlib.Core.List.{List, ◌++◌}
use lib.Dec.{lit<}
use lib.ListN.{length, take, drop, length-append, length-take, length-drop}
use mir.Syntax.{w32, w64}
use mir.Val.{Fits}
use mir.Facts.{Fits-le, Fits-lit}
use Rattle.layout.proofs.Lists.Walks.{one_more}

-- ---- sums

pub le_same : {a n m : ℕ} → a ≤ n → m ≡ n → a ≤ m
le_same {a} h e = subst (λ (x : ℕ). a ≤ x) (sym e) h

pub lt_same : {a n m : ℕ} → a < n → m ≡ n → a < m
lt_same {a} h e = subst (λ (x : ℕ). a < x) (sym e) h

-- two lengths that did not change are still equal
pub both_kept : {a b c d : ℕ} → a ≡ b → b ≡ d → c ≡ d → a ≡ c
both_kept p q r = omega arith

pub kept_twice : {a b c d : ℕ} → a ≡ b → b ≡ c → c ≡ d → a ≡ d
kept_twice p q r = omega arith

-- a part of a slice starts inside it
pub begins : (a k n : ℕ) → a + k ≤ n → a ≤ n
begins a k n h = le_trans (le-add_right a k) h

-- ---- a loop's count

pub count-ends : {i n : ℕ} → i ≤ n → n ≤ i → i ≡ n
count-ends h l = omega arith

-- ---- indices: a slice of n elements of b bytes fits in memory

abbrev Room : ℕ → ℕ → Type 0
Room b n = (n < 2 ^ 64) × (n * b < 2 ^ 63)

pub fits_count : {i n : ℕ} (b : ℕ) → i ≤ n → Room b n → Fits w64 i
fits_count b h r = Fits-le h (record { fits = r.0 })

pub fits_next : {i n : ℕ} (b : ℕ) → i < n → Room b n → Fits w64 (i + 1)
fits_next b h r = fits_count b (one_more h) r

fits_bytes : {i n : ℕ} (b : ℕ) → i ≤ n → Room b n → Fits w64 (i * b)
fits_bytes b h r = Fits-le (mul-le-mul_right b h) (record { fits = lt_trans r.1 (lit< tt) })

-- an f64 has 8 bytes, a u32 4
pub fits-value : {i n : ℕ} → i ≤ n → Room 8 n → Fits w64 (i * 8)
fits-value h r = fits_bytes 8 h r

pub fits-number : {i n : ℕ} → i ≤ n → Room 4 n → Fits w64 (i * 4)
fits-number h r = fits_bytes 4 h r

-- the row numbers of a cone fit in 32 bits
pub fits-row : {o n : ℕ} → o < n → n ≤ 65536 → Fits w32 o
fits-row h l = Fits-le (le_of_lt (lt_of_lt_of_le h l)) (Fits-lit tt)

pub fits_index : {o n : ℕ} → o < n → n ≤ 65536 → Fits w64 o
fits_index h l = Fits-le (le_of_lt (lt_of_lt_of_le h l)) (Fits-lit tt)

-- ---- lengths

module _ {A : Type 0} where
  -- the part of k elements from index a on has length k
  pub length_part : (a k : ℕ) (xs : List A) → a + k ≤ length xs → length (take (a + k - a) (drop a xs)) ≡ k
  length_part a k xs h = simp (length-take, length-drop) (omega arith)

  -- replacing a part by as many elements keeps the length
  pub length-put : (a k : ℕ) (xs ys : List A) → a ≤ length xs → length ys ≡ length (take k (drop a xs))
      → length (take a xs ++ (ys ++ drop k (drop a xs))) ≡ length xs
  length-put a k xs ys h e =
      let lent : length ys ≡ length (take k (drop a xs)) = e in
      simp (length-append, length-take, length-drop) (omega (arith, simp (length-take, length-drop) at lent))

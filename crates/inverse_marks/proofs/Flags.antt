-- Marks as the bits of words of 64 bits each: none set, and one more set.
use Prim.Native.Nat.{ℕ, zero, suc, ◌+◌, ◌*◌, ◌/◌, ◌%◌, ◌^◌, ◌≤◌, ◌<◌, min, max, suc-le-suc}
use native.Mathlib.Nat.{div-div-eq-div-mul, pow-suc, mul_comm, mod-lt, zero-lt-suc, mul-div_cancel, mul-mod_left, max-le, le_of_suc-le-suc, div-one, one-mul, min-zero}
use native.Mathlib.Omega.{arith}
use mathlib.Core.Path.{◌≡◌, refl, sym, ap, ap₂, ◌∙◌}
use mathlib.Core.Logic.{inl, inr}
use mathlib.Core.Bool.{Bool, true, false, cond, not, ◌||◌}
use mathlib.Core.List.{List, [], ◌∷◌, ◌++◌}
use lib.ListN.{length, get_or, set, replicate, length-set, length-replicate, get_or-replicate}
use lib.Seq.{get_or-set_same, get_or-set_other, set-get_or}
use lib.Dec.{eqb}
use lib.Arith.{digits_div, digits_mod}
use lib.Pow.{shl_exact, pow_pos}
use lib.Bits.{bit_and, bit_or, and_step, or_step, and_zero_r, or_zero_r, or_add_and}
use borrow.Author.Tests.{eq-eqb, ne_eqb, eqb-true, eqb-false}
use Rattle.layout.specs.General.Lists.{has}
use Rattle.inverse_marks.specs.Flags.{bit, flag, Flagged}
use Rattle.layout.proofs.Lists.Tests.{lt_or_le}
use Rattle.utils.specs.Windows.{within}
use Rattle.utils.proofs.Windows.{has_more, or_false, or_true, within_before, within-after, within_in}
use Rattle.utils.proofs.Tables.{filled-length}

-- ---- bits

-- bit k + 1 of a number is bit k of its half
bit_half : (k a : ℕ) → bit (suc k) a ≡ bit k (a / 2)
bit_half k a = ap (λ (x : ℕ). eqb (x % 2) 1) (ap (λ (m : ℕ). a / m) (pow-suc 2 k ∙ mul_comm (2 ^ k) 2) ∙ sym (div-div-eq-div-mul a 2 (2 ^ k)))

bit-low : (a : ℕ) → bit 0 a ≡ eqb (a % 2) 1
bit-low a = ap (λ (x : ℕ). eqb (x % 2) 1) (div-one a)

bit-zero : (k : ℕ) → bit k 0 ≡ false
bit-zero zero = refl
bit-zero (suc k) = bit_half k 0 ∙ bit-zero k

either : (x y : ℕ) → x < 2 → y < 2 → eqb (max x y) 1 ≡ (eqb x 1 || eqb y 1)
either zero zero h l = refl
either zero (suc zero) h l = refl
either zero (suc (suc y)) h l = absurd (omega arith)
either (suc zero) zero h l = refl
either (suc zero) (suc zero) h l = refl
either (suc zero) (suc (suc y)) h l = absurd (omega arith)
either (suc (suc x)) y h l = absurd (omega arith)

max_two : (a b : ℕ) → max (a % 2) (b % 2) < 2
max_two a b = suc-le-suc (max-le (le_of_suc-le-suc (mod-lt a (zero-lt-suc 1))) (le_of_suc-le-suc (mod-lt b (zero-lt-suc 1))))

bit_or_lem : (k a b : ℕ) → bit k (bit_or a b) ≡ (bit k a || bit k b)
bit_or_lem zero a b =
    bit-low (bit_or a b) ∙ ap (λ (x : ℕ). eqb x 1) (ap (λ (x : ℕ). x % 2) (or_step a b) ∙ digits_mod (bit_or (a / 2) (b / 2)) (max_two a b))
    ∙ either (a % 2) (b % 2) (mod-lt a (zero-lt-suc 1)) (mod-lt b (zero-lt-suc 1)) ∙ sym (ap₂ (λ (x y : Bool). x || y) (bit-low a) (bit-low b))
bit_or_lem (suc k) a b =
    bit_half k (bit_or a b) ∙ ap (bit k) (ap (λ (x : ℕ). x / 2) (or_step a b) ∙ digits_div (bit_or (a / 2) (b / 2)) (max_two a b))
    ∙ bit_or_lem k (a / 2) (b / 2) ∙ sym (ap₂ (λ (x y : Bool). x || y) (bit_half k a) (bit_half k b))

power_half : (k : ℕ) → 2 ^ suc k / 2 ≡ 2 ^ k
power_half k = ap (λ (x : ℕ). x / 2) (pow-suc 2 k) ∙ mul-div_cancel (2 ^ k) (zero-lt-suc 1)

power_even : (k : ℕ) → 2 ^ suc k % 2 ≡ 0
power_even k = ap (λ (x : ℕ). x % 2) (pow-suc 2 k) ∙ mul-mod_left (2 ^ k) 2

-- a power of two among the bits of a
and_power : (k a : ℕ) → bit_and a (2 ^ k) ≡ cond (bit k a) (2 ^ k) 0
and_power zero a =
    and_step a 1 ∙ ap (λ (x : ℕ). x * 2 + min (a % 2) 1) (and_zero_r (a / 2)) ∙ odd (a % 2) (mod-lt a (zero-lt-suc 1))
    ∙ ap (λ (b : Bool). cond b 1 0) (sym (bit-low a))
  where
    odd : (x : ℕ) → x < 2 → 0 * 2 + min x 1 ≡ cond (eqb x 1) 1 0
    odd zero h = refl
    odd (suc zero) h = refl
    odd (suc (suc x)) h = absurd (omega arith)
and_power (suc k) a =
    and_step a (2 ^ suc k) ∙ ap₂ (λ (x y : ℕ). bit_and (a / 2) x * 2 + min (a % 2) y) (power_half k) (power_even k)
    ∙ ap₂ (λ (x y : ℕ). x * 2 + y) (and_power k (a / 2)) (min-zero (a % 2)) ∙ twice (bit k (a / 2)) ∙ ap (λ (b : Bool). cond b (2 ^ suc k) 0) (sym (bit_half k a))
  where
    twice : (b : Bool) → cond b (2 ^ k) 0 * 2 + 0 ≡ cond b (2 ^ suc k) 0
    twice true = omega (arith, pow-suc 2 k)
    twice false = refl

-- a bit that is set already changes nothing, and only such a bit
or_power : (k a : ℕ) → eqb (bit_or a (2 ^ k)) a ≡ bit k a
or_power k a = go (bit k a) refl
  where
    go : (b : Bool) → bit k a ≡ b → eqb (bit_or a (2 ^ k)) a ≡ b
    go true e = eq-eqb _ a (omega (arith, or_add_and a (2 ^ k), and_power k a ∙ ap (λ (b : Bool). cond b (2 ^ k) 0) e))
    go false e = ne_eqb _ a (λ d. omega (arith, pow_pos k, or_add_and a (2 ^ k), and_power k a ∙ ap (λ (b : Bool). cond b (2 ^ k) 0) e))

bit_power : (j k : ℕ) → bit j (2 ^ k) ≡ eqb j k
bit_power zero zero = refl
bit_power zero (suc k) = bit-low (2 ^ suc k) ∙ ap (λ (x : ℕ). eqb x 1) (power_even k) ∙ sym (ne_eqb 0 (suc k) (λ e. omega arith))
bit_power (suc j) zero = bit_half j 1 ∙ bit-zero j ∙ sym (ne_eqb (suc j) 0 (λ e. omega arith))
bit_power (suc j) (suc k) =
    bit_half j (2 ^ suc k) ∙ ap (bit j) (power_half k) ∙ bit_power j k ∙ next (eqb j k) refl
  where
    next : (b : Bool) → eqb j k ≡ b → b ≡ eqb (suc j) (suc k)
    next true e = sym (eq-eqb (suc j) (suc k) (ap suc (eqb-true j k e)))
    next false e = sym (ne_eqb (suc j) (suc k) (λ d. eqb-false j k e (omega arith)))

-- a bit shifted to its place within a word of 64 bits
one_shift : (k : ℕ) → k < 64 → (1 * 2 ^ k) % 18446744073709551616 ≡ 2 ^ k
one_shift k h = shl_exact {a = 1} 1 k 64 (omega arith) (omega arith) ∙ one-mul (2 ^ k)

-- ---- marks

-- n words of marks, none of them set, suffice for m numbers
pub flags_ready : (n m : ℕ) → m ≤ 64 * n → let marks : List ℕ = replicate n 0 in (marks ≡ replicate (length marks) 0) × (m ≤ 64 * length marks)
flags_ready n m h = (ap (λ (k : ℕ). replicate k 0) (filled-length n 0), omega (arith, length-replicate {A = ℕ} n 0))

pub flagged_none : (low n : ℕ) → Flagged low (replicate n 0) []
flagged_none low n v h =
    let l : v < 64 * n = omega (arith, length-replicate {A = ℕ} n 0) in
    ap (bit (v % 64)) (get_or-replicate n (v / 64) 0 0 (omega arith)) ∙ bit-zero (v % 64)

-- whether number x = low + v has been met: setting its bit does not change the word
pub flagged_met : (low : ℕ) (ws met : List ℕ) (x v : ℕ) → x ≡ low + v → v < 64 * length ws → Flagged low ws met
    → let w : ℕ = get_or ws (v / 64) 0 in eqb (bit_or w ((1 * 2 ^ (v % 64)) % 18446744073709551616)) w ≡ has x met
flagged_met low ws met x v q h m =
    rw (q, one_shift (v % 64) (mod-lt v (zero-lt-suc 63))) (or_power (v % 64) (get_or ws (v / 64) 0) ∙ m v h)

-- one more number, x = low + v: bit v % 64 of word v / 64
pub flagged_more : (low : ℕ) (ws met : List ℕ) (x v : ℕ) → x ≡ low + v → v < 64 * length ws → Flagged low ws met
    → Flagged low (set ws (v / 64) (bit_or (get_or ws (v / 64) 0) ((1 * 2 ^ (v % 64)) % 18446744073709551616))) (met ++ (x ∷ []))
flagged_more low ws met x v q h m = rw (one_shift (v % 64) (mod-lt v (zero-lt-suc 63))) each
  where
    y : ℕ
    y = bit_or (get_or ws (v / 64) 0) (2 ^ (v % 64))

    new : List ℕ
    new = set ws (v / 64) y

    -- bit u % 64 of the new word v / 64
    word : (u : ℕ) → u / 64 ≡ v / 64 → flag new u ≡ (flag ws u || eqb (u % 64) (v % 64))
    word u e =
        ap (λ (k : ℕ). bit (u % 64) (get_or new k 0)) e ∙ ap (bit (u % 64)) (get_or-set_same ws (v / 64) y 0 (omega arith))
        ∙ bit_or_lem (u % 64) (get_or ws (v / 64) 0) (2 ^ (v % 64))
        ∙ ap₂ (λ (a b : Bool). a || b) (ap (λ (k : ℕ). bit (u % 64) (get_or ws k 0)) (sym e)) (bit_power (u % 64) (v % 64))

    other : (u : ℕ) → (u ≡ v → ⊥) → (b : Bool) → eqb (u / 64) (v / 64) ≡ b → flag new u ≡ flag ws u
    other u n true e =
        let d : u / 64 ≡ v / 64 = eqb-true (u / 64) (v / 64) e in
        word u d ∙ or_false (flag ws u) _ (ne_eqb (u % 64) (v % 64) (λ r. n (omega arith)))
    other u n false e = ap (bit (u % 64)) (get_or-set_other ws (v / 64) (u / 64) y 0 (eqb-false (u / 64) (v / 64) e))

    each : Flagged low new (met ++ (x ∷ []))
    each u l = go (eqb u v) refl
      where
        go : (b : Bool) → eqb u v ≡ b → flag new u ≡ has (low + u) (met ++ (x ∷ []))
        go true e =
            let d : u ≡ v = eqb-true u v e in
            word u (ap (λ (k : ℕ). k / 64) d) ∙ or_true (flag ws u) _ (eq-eqb (u % 64) (v % 64) (ap (λ (k : ℕ). k % 64) d))
            ∙ sym (has_more (low + u) met x ∙ or_true (has (low + u) met) _ (eq-eqb (low + u) x (omega arith)))
        go false e =
            other u (eqb-false u v e) (eqb (u / 64) (v / 64)) refl
            ∙ m u (omega (arith, length-set ws (v / 64) y))
            ∙ sym (has_more (low + u) met x ∙ or_false (has (low + u) met) _ (ne_eqb (low + u) x (λ d. eqb-false u v e (omega arith))))

-- ---- marks of a window

pub inside : (k x : ℕ) → x / 8388608 ≡ k → within (k * 8388608) 8388608 x ≡ true
inside k x e = within_in (k * 8388608) 8388608 x (omega arith) (omega arith)

pub outside : (k x : ℕ) → (x / 8388608 ≡ k → ⊥) → within (k * 8388608) 8388608 x ≡ false
outside k x n = elim (lt_or_le x (k * 8388608)) [
  | inl h ↦ within_before (k * 8388608) 8388608 x h
  | inr h ↦ within-after (k * 8388608) 8388608 x h (omega arith)
]

-- a number outside the window sets no bit, which changes nothing
pub flagged_out : (low : ℕ) (ws met : List ℕ) (at x : ℕ) → ((v : ℕ) → v < 64 * length ws → low + v ≡ x → ⊥) → Flagged low ws met
    → Flagged low (set ws at (bit_or (get_or ws at 0) 0)) (met ++ (x ∷ []))
flagged_out low ws met at x out m = rw (or_zero_r (get_or ws at 0), set-get_or ws at 0) (λ v h.
    m v h ∙ sym (has_more (low + v) met x ∙ or_false (has (low + v) met) _ (ne_eqb (low + v) x (out v h))))

-- whether number x = low + v has been met, as its bit of the word
pub flagged_bit : (low : ℕ) (ws met : List ℕ) (x v : ℕ) → x ≡ low + v → v < 64 * length ws → Flagged low ws met
    → eqb (bit_and (get_or ws (v / 64) 0) ((1 * 2 ^ (v % 64)) % 18446744073709551616)) 0 ≡ not (has x met)
flagged_bit low ws met x v q h m =
    rw (q, one_shift (v % 64) (mod-lt v (zero-lt-suc 63)), and_power (v % 64) (get_or ws (v / 64) 0)) (pick (flag ws v) ∙ ap not (m v h))
  where
    pick : (b : Bool) → eqb (cond b (2 ^ (v % 64)) 0) 0 ≡ not b
    pick true = ne_eqb (2 ^ (v % 64)) 0 (λ (e : 2 ^ (v % 64) ≡ 0). omega (arith, pow_pos (v % 64)))
    pick false = refl

-- Prefixes of buffers are what was written to them last.
use Prim.Native.Nat.{ℕ, ◌+◌, ◌-◌, ◌≤◌}
use native.Mathlib.Omega.{arith}
use mathlib.Core.Path.{◌≡◌, sym, ap, ap₂, ◌∙◌}
use mathlib.Core.List.{List, ◌++◌, append_assoc}
use lib.ListN.{length, take, drop, replicate, length-map, length-append, length-replicate, replicate-append-replicate}
use lib.Seq.{take-append_seam, drop-append_seam}
use lib.Ieee.{Float, binary64, of_bits, to_bits}
use Rattle.layout.specs.General.Lists.{written}
use Rattle.layout.specs.General.Floats.{floats, bits}
use Rattle.layout.proofs.Lists.Buffers.{front_read}

module _ {A : Type 0} where
  pub front : (xs old : List A) (k : ℕ) {out : List A} → out ≡ written xs old → k ≡ length xs → take k out ≡ xs
  front xs old k {out} h e = ap (λ (j : ℕ). take j out) e ∙ front_read xs old h

-- bit patterns written as floats
pub front_floats : (xs : List ℕ) (old : List Float) (k : ℕ) {out : List Float} → out ≡ written (floats xs) old → k ≡ length xs → take k out ≡ floats xs
front_floats xs old k h e = front (floats xs) old k h (e ∙ sym (length-map xs (of_bits binary64)))

-- floats written as bit patterns
pub front_bits : (vs : List Float) (old : List ℕ) {out : List ℕ} → out ≡ written (bits vs) old → take (length vs) out ≡ bits vs
front_bits vs old h = front (bits vs) old (length vs) h (sym (length-map vs (to_bits binary64)))

-- bit patterns written to a buffer of zeros, followed by k of the zeros
pub front_zeros : (xs : List ℕ) (k room : ℕ) {out : List ℕ} → length xs + k ≤ room → out ≡ written xs (replicate room 0)
    → take (length xs + k) out ≡ xs ++ replicate k 0
front_zeros xs k room {out} l h =
    let n = length xs in
    let rest : List ℕ = replicate (room - (n + k)) 0 in
    let size : room ≡ n + (k + (room - (n + k))) = omega arith in
    let split : replicate room 0 ≡ replicate n 0 ++ (replicate k 0 ++ rest) =
    ap (λ (j : ℕ). replicate {A = ℕ} j 0) size ∙ sym (replicate-append-replicate n (k + (room - (n + k))) 0)
    ∙ ap (λ (r : List ℕ). replicate n 0 ++ r) (sym (replicate-append-replicate k (room - (n + k)) 0)) in
    let dropped : drop n (replicate room 0) ≡ replicate k 0 ++ rest =
    ap (drop n) split ∙ ap (λ (j : ℕ). drop j (replicate n 0 ++ (replicate k 0 ++ rest))) (sym (length-replicate {A = ℕ} n 0))
    ∙ drop-append_seam (replicate n 0) (replicate k 0 ++ rest) in
    let whole : out ≡ (xs ++ replicate k 0) ++ rest = h ∙ ap (λ (r : List ℕ). xs ++ r) dropped ∙ sym (append_assoc xs (replicate k 0) rest) in
    let count : n + k ≡ length (xs ++ replicate k 0) = omega (arith, length-append xs (replicate k 0), length-replicate {A = ℕ} k 0) in
    ap₂ take count whole ∙ take-append_seam (xs ++ replicate k 0) rest

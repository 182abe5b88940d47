-- Tables placed at multiples of 8 bytes with zero bytes in the gaps: their offsets, that they are read back, and that they are written back.
use Prim.Native.Nat.{ℕ, zero, suc, ◌+◌, ◌-◌, ◌*◌, ◌≤◌, ◌<◌}
use native.Mathlib.Omega.{arith}
use mathlib.Core.Path.{◌≡◌, refl, sym, ap, ap₂, subst, ◌∙◌}
use mathlib.Core.List.{List, [], ◌∷◌, ◌++◌, map, append_assoc}
use lib.ListN.{length, get_or, take, drop, replicate, length-append, length-replicate, drop_of_length-le, length-drop, take-append-drop}
use lib.Seq.{length-take-le, take_at, drop_at, drop-drop}
use lib.Dec.{T, eqb, eqb→eq}
use Rattle.layout.specs.General.Lists.{all, part, Below, sum}
use Rattle.layout.specs.Files.File.{aligned, offsets_from, end_from, laid_from, gaps_zero}
use Rattle.layout.proofs.Lists.Tests.{and_iff}
use Rattle.layout.proofs.Lists.Members.{all_replicate}
use Rattle.layout.proofs.Numbers.Bytes.{below-cons}

-- ---- rounding up to a multiple of 8

pub aligned_up : (a : ℕ) → a ≤ aligned a
aligned_up a = omega arith

aligned-low : (a : ℕ) → aligned a ≤ a + 7
aligned-low a = omega arith

-- ---- offsets and the end

pub end_from_lem : (a : ℕ) (ks : List ℕ) → a ≤ end_from a ks
end_from_lem a [] = omega arith
end_from_lem a (k ∷ ks) = omega (arith, aligned_up a, end_from_lem (aligned a + k) ks)

-- the gaps add at most 7 bytes for each table
pub end_most : (a : ℕ) (ks : List ℕ) → end_from a ks ≤ a + sum ks + 7 * length ks
end_most a [] = omega arith
end_most a (k ∷ ks) = omega (arith, aligned-low a, end_most (aligned a + k) ks)

pub end_least : (a : ℕ) (ks : List ℕ) → a + sum ks ≤ end_from a ks
end_least a [] = omega arith
end_least a (k ∷ ks) = omega (arith, aligned_up a, end_least (aligned a + k) ks)

-- each table ends at or before the end
pub table-inside : (a : ℕ) (ks : List ℕ) (i : ℕ) → i < length ks → get_or (offsets_from a ks) i 0 + get_or ks i 0 ≤ end_from a ks
table-inside a [] i h = absurd (omega arith)
table-inside a (k ∷ ks) zero h = end_from_lem (aligned a + k) ks
table-inside a (k ∷ ks) (suc i) h = table-inside (aligned a + k) ks i (omega arith)

pub offsets_below : (n a : ℕ) (ks : List ℕ) → end_from a ks < n → Below n (offsets_from a ks)
offsets_below n a [] h = λ i l. absurd (omega arith)
offsets_below n a (k ∷ ks) h =
    below-cons n (aligned a) (offsets_from (aligned a + k) ks) (omega (arith, end_from_lem (aligned a + k) ks))
    (offsets_below n (aligned a + k) ks h)

pub length-laid : (a : ℕ) (ts : List (List ℕ)) → a + length (laid_from a ts) ≡ end_from a (map length ts)
length-laid a [] = omega arith
length-laid a (t ∷ ts) =
    let gap : List ℕ = replicate (aligned a - a) 0 in
    let rest : List ℕ = laid_from (aligned a + length t) ts in
    omega (
      arith,
      length-append gap (t ++ rest),
      length-append t rest,
      length-replicate {A = ℕ} (aligned a - a) 0,
      aligned_up a,
      length-laid (aligned a + length t) ts,
    )

-- ---- tables that were laid out are found at their offsets

-- the bytes before the second table: `pre`, the gap and the first table t
abbrev before : List ℕ → ℕ → List ℕ → List ℕ
before pre a t = (pre ++ replicate (aligned a - a) 0) ++ t

length_before : (pre : List ℕ) (a : ℕ) (t : List ℕ) → length pre ≡ a
    → (length (pre ++ replicate (aligned a - a) 0) ≡ aligned a) × (length (before pre a t) ≡ aligned a + length t)
length_before pre a t e =
    let gap : List ℕ = replicate (aligned a - a) 0 in
    let first : length (pre ++ gap) ≡ aligned a =
    omega (arith, length-append pre gap, length-replicate {A = ℕ} (aligned a - a) 0, aligned_up a) in
    (first, length-append (pre ++ gap) t ∙ ap (λ (k : ℕ). k + length t) first)

first-laid : (pre : List ℕ) (a : ℕ) (t : List ℕ) (rest : List ℕ)
    → pre ++ (replicate (aligned a - a) 0 ++ (t ++ rest)) ≡ (pre ++ replicate (aligned a - a) 0) ++ (t ++ rest)
first-laid pre a t rest = sym (append_assoc pre (replicate (aligned a - a) 0) (t ++ rest))

all_laid : (pre : List ℕ) (a : ℕ) (t : List ℕ) (rest : List ℕ)
    → pre ++ (replicate (aligned a - a) 0 ++ (t ++ rest)) ≡ before pre a t ++ rest
all_laid pre a t rest = first-laid pre a t rest ∙ sym (append_assoc (pre ++ replicate (aligned a - a) 0) t rest)

pub laid-at : (a : ℕ) (ts : List (List ℕ)) (pre : List ℕ) → length pre ≡ a → (i : ℕ) → i < length ts
    → (rest : List ℕ) × (drop (get_or (offsets_from a (map length ts)) i 0) (pre ++ laid_from a ts) ≡ get_or ts i [] ++ rest)
laid-at a [] pre e i l = absurd (omega arith)
laid-at a (t ∷ ts) pre e zero l =
    let rest : List ℕ = laid_from (aligned a + length t) ts in
    let gap : List ℕ = replicate (aligned a - a) 0 in
    (rest, ap (drop (aligned a)) (first-laid pre a t rest) ∙ drop_at (pre ++ gap) (t ++ rest) (aligned a) (length_before pre a t e).0)
laid-at a (t ∷ ts) pre e (suc i) l =
    let rest : List ℕ = laid_from (aligned a + length t) ts in
    let o : ℕ = get_or (offsets_from (aligned a + length t) (map length ts)) i 0 in
    let (more, found) = laid-at (aligned a + length t) ts (before pre a t) (length_before pre a t e).1 i (omega arith) in
    (more, ap (drop o) (all_laid pre a t rest) ∙ found)

pub laid_gaps : (a : ℕ) (ts : List (List ℕ)) (pre : List ℕ) → length pre ≡ a → T (gaps_zero a (map length ts) (pre ++ laid_from a ts))
laid_gaps a [] pre e = tt
laid_gaps a (t ∷ ts) pre e =
    let rest : List ℕ = laid_from (aligned a + length t) ts in
    let gap : List ℕ = replicate (aligned a - a) 0 in
    let bs : List ℕ = pre ++ (gap ++ (t ++ rest)) in
    let here : part a (aligned a) bs ≡ gap =
    ap (take (aligned a - a)) (drop_at pre (gap ++ (t ++ rest)) a e)
    ∙ take_at gap (t ++ rest) (aligned a - a) (length-replicate {A = ℕ} (aligned a - a) 0) in
    (and_iff (all (λ b. eqb b 0) (part a (aligned a) bs)) (gaps_zero (aligned a + length t) (map length ts) bs)).1 (
      subst (λ (l : List ℕ). T (all (λ b. eqb b 0) l)) (sym here) (all_replicate (λ b. eqb b 0) (aligned a - a) 0 tt),
      subst (λ (l : List ℕ). T (gaps_zero (aligned a + length t) (map length ts) l)) (sym (all_laid pre a t rest))
          (laid_gaps (aligned a + length t) ts (before pre a t) (length_before pre a t e).1),
    )

-- ---- tables that were read and are laid out again give the same bytes

-- the bytes of each table, for tables of sizes ks from byte a on
abbrev pub pieces_from : ℕ → List ℕ → List ℕ → List (List ℕ)
pieces_from a [] bs = []
pieces_from a (k ∷ ks) bs = take k (drop (aligned a) bs) ∷ pieces_from (aligned a + k) ks bs

all-zero : (xs : List ℕ) → T (all (λ b. eqb b 0) xs) → xs ≡ replicate (length xs) 0
all-zero [] h = refl
all-zero (x ∷ xs) h =
    let (first, rest) = (and_iff (eqb x 0) (all (λ b. eqb b 0) xs)).0 h in
    ap₂ (λ (v : ℕ) (l : List ℕ). v ∷ l) (eqb→eq x 0 first) (all-zero xs rest)

pub laid-again : (a : ℕ) (ks : List ℕ) (bs : List ℕ) → end_from a ks ≡ length bs → T (gaps_zero a ks bs)
    → laid_from a (pieces_from a ks bs) ≡ drop a bs
laid-again a [] bs e h = sym (drop_of_length-le bs {i = a} (omega arith))
laid-again a (k ∷ ks) bs e h =
    let g : ℕ = aligned a - a in
    let o : ℕ = aligned a in
    let up = aligned_up a in
    let low = end_from_lem (o + k) ks in
    let tests = (and_iff (all (λ b. eqb b 0) (part a o bs)) (gaps_zero (o + k) ks bs)).0 h in
    let long : length (part a o bs) ≡ g = length-take-le g (drop a bs) (omega (arith, length-drop a bs)) in
    let gap : replicate g 0 ≡ part a o bs = ap (λ (j : ℕ). replicate j 0) (sym long) ∙ sym (all-zero (part a o bs) tests.0) in
    let full : length (take k (drop o bs)) ≡ k = length-take-le k (drop o bs) (omega (arith, length-drop o bs)) in
    let there : a + g ≡ o = omega arith in
    let rest : laid_from (o + length (take k (drop o bs))) (pieces_from (o + k) ks bs) ≡ drop (o + k) bs =
    ap (λ (j : ℕ). laid_from (o + j) (pieces_from (o + k) ks bs)) full ∙ laid-again (o + k) ks bs e tests.1 in
    let after : take k (drop o bs) ++ drop (o + k) bs ≡ drop o bs =
    ap (λ (l : List ℕ). take k (drop o bs) ++ l) (sym (drop-drop k o bs)) ∙ take-append-drop k (drop o bs) in
    ap₂ (λ (z r : List ℕ). z ++ (take k (drop o bs) ++ r)) gap rest
    ∙ ap (λ (l : List ℕ). part a o bs ++ l) (after ∙ ap (λ (j : ℕ). drop j bs) (sym there) ∙ sym (drop-drop g a bs))
    ∙ take-append-drop g (drop a bs)

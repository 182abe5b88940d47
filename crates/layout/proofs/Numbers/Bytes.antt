-- Numbers as w bytes each and back, singly and in tables.
use Prim.Native.Nat.{ℕ, zero, suc, ◌+◌, ◌*◌, ◌/◌, ◌%◌, ◌^◌, ◌≤◌, ◌<◌}
use native.Mathlib.Nat.{pow-succ', mul-suc, mul-zero}
use native.Mathlib.Numerals.{add-one, add-two, add-three, add-four}
use native.Mathlib.Omega.{arith}
use mathlib.Core.Path.{◌≡◌, refl, sym, ap, ap₂, subst, ◌∙◌}
use mathlib.Core.List.{List, [], ◌∷◌, ◌++◌, append_assoc, append-nil}
use lib.ListN.{length, get_or, take, drop, length-append, length-drop}
use lib.Seq.{length-take-le, get_or-take, get_or-drop, take_at, drop_at, take-add, take-suc, drop-drop, drop-cons}
use Rattle.layout.specs.General.Lists.{Below}
use Rattle.layout.specs.General.Bytes.{bytes_of, number_of, table_bytes, numbers_of}
use Rattle.layout.proofs.Lists.Starts.{join-append}

-- ---- lists of numbers below a bound

pub below-cons : (n x : ℕ) (xs : List ℕ) → x < n → Below n xs → Below n (x ∷ xs)
below-cons n x xs h hs zero l = h
below-cons n x xs h hs (suc i) l = hs i (omega arith)

pub below-head : (n x : ℕ) (xs : List ℕ) → Below n (x ∷ xs) → x < n
below-head n x xs h = h 0 (omega arith)

pub below_tail : (n x : ℕ) (xs : List ℕ) → Below n (x ∷ xs) → Below n xs
below_tail n x xs h i l = h (suc i) (omega arith)

pub below-drop : (n k : ℕ) (xs : List ℕ) → Below n xs → Below n (drop k xs)
below-drop n k xs h i l = rw (get_or-drop k xs i 0) (h (k + i) (omega (arith, length-drop k xs)))

pub below-append : (n : ℕ) (xs ys : List ℕ) → Below n xs → Below n ys → Below n (xs ++ ys)
below-append n [] ys h k = k
below-append n (x ∷ xs) ys h k =
    below-cons n x (xs ++ ys) (below-head n x xs h) (below-append n xs ys (below_tail n x xs h) k)

-- the same bound, one number after the other
abbrev EachBelow : ℕ → List ℕ → Type 0
EachBelow n [] = Unit {0}
EachBelow n (x ∷ xs) = (x < n) × EachBelow n xs

pub each_below : (n : ℕ) (xs : List ℕ) → EachBelow n xs → Below n xs
each_below n [] h = λ i l. absurd (omega arith)
each_below n (x ∷ xs) h = below-cons n x xs h.0 (each_below n xs h.1)

-- ---- one number

length_bytes : (w v : ℕ) → length (bytes_of w v) ≡ w
length_bytes zero v = refl
length_bytes (suc w) v = ap suc (length_bytes w (v / 256))

number-back : (w v : ℕ) → v < 256 ^ w → number_of (bytes_of w v) ≡ v
number-back zero v h = omega arith
number-back (suc w) v h =
    let k = rw pow-succ' at h in
    rw (number-back w (v / 256) (omega arith)) (omega arith)

bytes_back : (bs : List ℕ) → Below 256 bs → bytes_of (length bs) (number_of bs) ≡ bs
bytes_back [] h = refl
bytes_back (b ∷ bs) h =
    let l = below-head 256 b bs h in
    let low : (b + 256 * number_of bs) % 256 ≡ b = omega arith in
    let high : (b + 256 * number_of bs) / 256 ≡ number_of bs = omega arith in
    rw (low, high) (ap (λ (l : List ℕ). b ∷ l) (bytes_back bs (below_tail 256 b bs h)))

number_fits : (bs : List ℕ) → Below 256 bs → number_of bs < 256 ^ length bs
number_fits [] h = omega arith
number_fits (b ∷ bs) h =
    let l = below-head 256 b bs h in
    let k = number_fits bs (below_tail 256 b bs h) in
    rw pow-succ' (omega arith)

-- each of them is a byte
bytes_small : (w v : ℕ) → Below 256 (bytes_of w v)
bytes_small zero v = λ i l. absurd (omega arith)
bytes_small (suc w) v = below-cons 256 (v % 256) (bytes_of w (v / 256)) (omega arith) (bytes_small w (v / 256))

-- ---- tables

pub table-small : (w : ℕ) (xs : List ℕ) → Below 256 (table_bytes w xs)
table-small w [] = λ i l. absurd (omega arith)
table-small w (x ∷ xs) = below-append 256 (bytes_of w x) (table_bytes w xs) (bytes_small w x) (table-small w xs)

pub length-table : (w : ℕ) (xs : List ℕ) → length (table_bytes w xs) ≡ w * length xs
length-table w [] = omega arith
length-table w (x ∷ xs) =
    length-append (bytes_of w x) (table_bytes w xs) ∙ ap₂ ◌+◌ (length_bytes w x) (length-table w xs)
    ∙ (omega (arith, mul-suc w (length xs)))

pub length_numbers : (w k : ℕ) (bs : List ℕ) → length (numbers_of w k bs) ≡ k
length_numbers w zero bs = refl
length_numbers w (suc k) bs = ap suc (length_numbers w k (drop w bs))

-- a table is read back from its bytes, whatever follows them
pub numbers_back : (w : ℕ) (xs rest : List ℕ) → Below (256 ^ w) xs → numbers_of w (length xs) (table_bytes w xs ++ rest) ≡ xs
numbers_back w [] rest h = refl
numbers_back w (x ∷ xs) rest h =
    let more : List ℕ = table_bytes w xs ++ rest in
    let front = ap (λ (l : List ℕ). numbers_of w (suc (length xs)) l) (append_assoc (bytes_of w x) (table_bytes w xs) rest) in
    front
    ∙ ap₂ (λ (f r : List ℕ). number_of f ∷ numbers_of w (length xs) r)
    (take_at (bytes_of w x) more w (length_bytes w x)) (drop_at (bytes_of w x) more w (length_bytes w x))
    ∙ ap₂ (λ (v : ℕ) (l : List ℕ). v ∷ l)
    (number-back w x (below-head (256 ^ w) x xs h)) (numbers_back w xs rest (below_tail (256 ^ w) x xs h))

below-take : (n k : ℕ) (xs : List ℕ) → k ≤ length xs → Below n xs → Below n (take k xs)
below-take n k xs l h i j =
    let t = length-take-le k xs l in
    rw (get_or-take k xs i 0 (omega arith)) (h i (omega arith))

-- and bytes that were read as a table are its bytes
pub table-back : (w k : ℕ) (bs : List ℕ) → Below 256 bs → w * k ≤ length bs → table_bytes w (numbers_of w k bs) ≡ take (w * k) bs
table-back w zero bs h l = rw (mul-zero w)
table-back w (suc k) bs h l =
    let e : w * suc k ≡ w + w * k = omega (arith, mul-suc w k) in
    let t = length-take-le w bs (omega arith) in
    let one : bytes_of w (number_of (take w bs)) ≡ take w bs =
    subst (λ (j : ℕ). bytes_of j (number_of (take w bs)) ≡ take w bs) t
    (bytes_back (take w bs) (below-take 256 w bs (omega arith) h)) in
    ap₂ ◌++◌ one (table-back w k (drop w bs) (below-drop 256 w bs h) (omega (arith, length-drop w bs)))
    ∙ sym (ap (λ (j : ℕ). take j bs) e ∙ take-add w (w * k) bs)

-- numbers that were read fit their width
pub numbers_fit : (w k : ℕ) (bs : List ℕ) → Below 256 bs → w * k ≤ length bs → Below (256 ^ w) (numbers_of w k bs)
numbers_fit w zero bs h l = λ i j. absurd (omega arith)
numbers_fit w (suc k) bs h l =
    let t = length-take-le w bs (omega (arith, mul-suc w k)) in
    let low : number_of (take w bs) < 256 ^ w =
    subst (λ (j : ℕ). number_of (take w bs) < 256 ^ j) t
    (number_fits (take w bs) (below-take 256 w bs (omega (arith, mul-suc w k)) h)) in
    below-cons (256 ^ w) (number_of (take w bs)) (numbers_of w k (drop w bs)) low
    (numbers_fit w k (drop w bs) (below-drop 256 w bs h) (omega (arith, mul-suc w k, length-drop w bs)))

-- number i of a table
pub numbers_at : (w k i : ℕ) (bs : List ℕ) (d : ℕ) → i < k → get_or (numbers_of w k bs) i d ≡ number_of (take w (drop (w * i) bs))
numbers_at w zero i bs d h = absurd (omega arith)
numbers_at w (suc k) zero bs d h = rw (mul-zero w)
numbers_at w (suc k) (suc i) bs d h =
    let e : w + w * i ≡ w * suc i = omega (arith, mul-suc w i) in
    numbers_at w k i (drop w bs) d (omega arith)
    ∙ ap (λ (l : List ℕ). number_of (take w l)) (drop-drop (w * i) w bs ∙ ap (λ (j : ℕ). drop j bs) e)

-- a u32 and a u64 from their bytes
pub u32-at : (bs : List ℕ) (o : ℕ) → o + 4 ≤ length bs
    → number_of (take 4 (drop o bs)) ≡ get_or bs o 0 + 256 * get_or bs (o + 1) 0 + 65536 * get_or bs (o + 2) 0 + 16777216 * get_or bs (o + 3) 0
u32-at bs o h =
    rw (drop-cons bs o 0 (omega arith), drop-cons bs (suc o) 0 (omega arith), drop-cons bs (suc (suc o)) 0 (omega arith), drop-cons bs (suc (suc (suc o))) 0 (omega arith))
    (rw (add-one, add-two, add-three) (omega arith))

pub u64_at : (bs : List ℕ) (o : ℕ) → o + 8 ≤ length bs
    → number_of (take 8 (drop o bs)) ≡ number_of (take 4 (drop o bs)) + 4294967296 * number_of (take 4 (drop (o + 4) bs))
u64_at bs o h =
    rw (drop-cons bs o 0 (omega arith), drop-cons bs (suc o) 0 (omega arith), drop-cons bs (suc (suc o)) 0 (omega arith), drop-cons bs (suc (suc (suc o))) 0 (omega arith))
    (rw add-four (omega arith))

-- a u32's four bytes, and a u64's eight, for a loop that writes them
pub bytes_four : (v : ℕ) → bytes_of 4 v ≡ v % 256 ∷ v / 256 % 256 ∷ v / 65536 % 256 ∷ v / 16777216 % 256 ∷ []
bytes_four v =
    let two : v / 256 / 256 ≡ v / 65536 = omega arith in
    let three : v / 256 / 256 / 256 ≡ v / 16777216 = omega arith in
    λ i. v % 256 ∷ v / 256 % 256 ∷ two i % 256 ∷ three i % 256 ∷ []

pub bytes_eight : (low high : ℕ) → low < 4294967296 → bytes_of 8 (low + 4294967296 * high) ≡ bytes_of 4 low ++ bytes_of 4 high
bytes_eight low high h =
    let one : (low + 4294967296 * high) / 256 ≡ low / 256 + 16777216 * high = omega arith in
    let two : (low / 256 + 16777216 * high) / 256 ≡ low / 256 / 256 + 65536 * high = omega arith in
    let three : (low / 256 / 256 + 65536 * high) / 256 ≡ low / 256 / 256 / 256 + 256 * high = omega arith in
    let four : (low / 256 / 256 / 256 + 256 * high) / 256 ≡ high = omega arith in
    let d₀ : (low + 4294967296 * high) % 256 ≡ low % 256 = omega arith in
    let d₁ : (low / 256 + 16777216 * high) % 256 ≡ low / 256 % 256 = omega arith in
    let d₂ : (low / 256 / 256 + 65536 * high) % 256 ≡ low / 256 / 256 % 256 = omega arith in
    let d₃ : (low / 256 / 256 / 256 + 256 * high) % 256 ≡ low / 256 / 256 / 256 % 256 = omega arith in
    ap₂ (λ (d : ℕ) (r : List ℕ). d ∷ r) d₀ (ap (bytes_of 7) one
    ∙ ap₂ (λ (d : ℕ) (r : List ℕ). d ∷ r) d₁ (ap (bytes_of 6) two
    ∙ ap₂ (λ (d : ℕ) (r : List ℕ). d ∷ r) d₂ (ap (bytes_of 5) three
    ∙ ap₂ (λ (d : ℕ) (r : List ℕ). d ∷ r) d₃ (ap (bytes_of 4) four))))

-- the bytes of a table with one more number
pub table_more : (w : ℕ) (xs : List ℕ) (i : ℕ) → i < length xs → table_bytes w (take (i + 1) xs) ≡ table_bytes w (take i xs) ++ bytes_of w (get_or xs i 0)
table_more w xs i l =
    ap (table_bytes w) (ap (λ (k : ℕ). take k xs) (add-one i) ∙ take-suc xs i 0 l) ∙ join-append (bytes_of w) (take i xs) (get_or xs i 0 ∷ [])
    ∙ ap (λ (l : List ℕ). table_bytes w (take i xs) ++ l) (append-nil (bytes_of w (get_or xs i 0)))

-- a part of a table, and a u64 as two u32 words
pub numbers_part : (w n o k : ℕ) (bs : List ℕ) → o + k ≤ n → take k (drop o (numbers_of w n bs)) ≡ numbers_of w k (drop (w * o) bs)
numbers_part w zero zero zero bs h = refl
numbers_part w zero zero (suc k) bs h = absurd (omega arith)
numbers_part w zero (suc o) k bs h = absurd (omega arith)
numbers_part w (suc n) zero zero bs h = refl
numbers_part w (suc n) zero (suc k) bs h =
    let start : w * 0 ≡ 0 = mul-zero w in
    ap (λ (l : List ℕ). number_of (take w bs) ∷ l) (numbers_part w n 0 k (drop w bs) (omega arith) ∙ ap (λ (j : ℕ). numbers_of w k (drop j (drop w bs))) start)
    ∙ ap (λ (j : ℕ). numbers_of w (suc k) (drop j bs)) (sym start)
numbers_part w (suc n) (suc o) k bs h =
    let e : w + w * o ≡ w * suc o = omega (arith, mul-suc w o) in
    numbers_part w n o k (drop w bs) (omega arith) ∙ ap (numbers_of w k) (drop-drop (w * o) w bs ∙ ap (λ (j : ℕ). drop j bs) e)

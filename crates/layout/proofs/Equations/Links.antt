-- The links of a list of rows: for each overlap its own row and the parent's row that it is tied to. A property holds of every overlap row
-- exactly when it holds of every link, and own rows strictly increase.
use mathlib.Core.Path.{◌≡◌, refl, ap}
use mathlib.Core.List.{List, [], ◌∷◌}
use Prim.Native.Nat.{ℕ, zero, suc, ◌+◌, ◌<◌, ◌≤◌}
use native.Mathlib.Nat.{not-suc-le-zero, le_of_suc-le-suc, add-zero, add-suc, suc-add}
use native.Mathlib.Omega.{arith}
use lib.ListN.{length}
use Rattle.layout.specs.Rows.Blocks.{Row, kept, owned, overlap, is_overlap}
use Rattle.layout.proofs.Rows.Moves.{row_at}
use Rattle.layout.proofs.Lists.Counting.{count_if}

pub record Link : Type 0 where
  pub own : ℕ
  pub parent : ℕ

-- the links of R's overlaps in row order, R's first row having number i: link k belongs to added unknown k
abbrev pub links : ℕ → List Row → List Link
links i [] = []
links i (kept o ∷ R) = links (suc i) R
links i (owned o ∷ R) = links (suc i) R
links i (overlap o q ∷ R) = record { own = i; parent = q } ∷ links (suc i) R

pub links_count : (i : ℕ) (R : List Row) → length (links i R) ≡ count_if is_overlap R
links_count i [] = refl
links_count i (kept o ∷ R) = links_count (suc i) R
links_count i (owned o ∷ R) = links_count (suc i) R
links_count i (overlap o q ∷ R) = ap suc (links_count (suc i) R)

-- P holds of every link
abbrev pub All : (Link → Type 0) → List Link → Type 0
All P [] = Unit {0}
All P (l ∷ L) = P l × All P L

pub all_map : (P Q : Link → Type 0) → ((l : Link) → P l → Q l) → (L : List Link) → All P L → All Q L
all_map P Q f [] a = tt
all_map P Q f (l ∷ L) a = (f l a.0, all_map P Q f L a.1)

pub all_both : (P Q : Link → Type 0) (L : List Link) → All P L → All Q L → All (λ l. P l × Q l) L
all_both P Q [] a b = tt
all_both P Q (l ∷ L) a b = ((a.0, b.0), all_both P Q L a.1 b.1)

-- P holds of every overlap row of R, whose row k has number i + k
abbrev EachOverlap : (Link → Type 0) → ℕ → List Row → Type 0
EachOverlap P i R = (k o q : ℕ) → k < length R → row_at R k ≡ overlap o q → P (record { own = i + k; parent = q })

after_first : (P : Link → Type 0) (i : ℕ) (x : Row) (R : List Row) → EachOverlap P i (x ∷ R) → EachOverlap P (suc i) R
after_first P i x R h k o q j e = rw (suc-add i k, ← add-suc i k) (h (suc k) o q (omega arith) e)

-- a property of every overlap row holds of every link
pub all_links : (P : Link → Type 0) (i : ℕ) (R : List Row) → EachOverlap P i R → All P (links i R)
all_links P i [] h = tt
all_links P i (kept o ∷ R) h = all_links P (suc i) R (after_first P i (kept o) R h)
all_links P i (owned o ∷ R) h = all_links P (suc i) R (after_first P i (owned o) R h)
all_links P i (overlap o q ∷ R) h =
    (rw add-zero at (h 0 o q (omega arith) refl), all_links P (suc i) R (after_first P i (overlap o q) R h))

-- a property of every link holds of every overlap row
pub each_link : (P : Link → Type 0) (i : ℕ) (R : List Row) → All P (links i R) → EachOverlap P i R
each_link P i [] a k o q j e = absurd (not-suc-le-zero j)
each_link P i (kept o₁ ∷ R) a zero o q j e = let z : ◌≡◌ {A = ℕ} 0 1 = cc in absurd (omega arith)
each_link P i (kept o₁ ∷ R) a (suc k) o q j e = rw (add-suc i k, ← suc-add i k) (each_link P (suc i) R a k o q (le_of_suc-le-suc j) e)
each_link P i (owned o₁ ∷ R) a zero o q j e = let z : ◌≡◌ {A = ℕ} 0 1 = cc in absurd (omega arith)
each_link P i (owned o₁ ∷ R) a (suc k) o q j e = rw (add-suc i k, ← suc-add i k) (each_link P (suc i) R a k o q (le_of_suc-le-suc j) e)
each_link P i (overlap o₁ q₁ ∷ R) a zero o q j e = let f : q₁ ≡ q = cc in rw (add-zero i, ← f) a.0
each_link P i (overlap o₁ q₁ ∷ R) a (suc k) o q j e =
    rw (add-suc i k, ← suc-add i k) (each_link P (suc i) R a.1 k o q (le_of_suc-le-suc j) e)

-- ---- own rows strictly increase from i on, and each parent's row comes before its own row

abbrev pub Rising : ℕ → List Link → Type 0
Rising i [] = Unit {0}
Rising i (l ∷ L) = (i ≤ l.own) × (l.parent < l.own) × Rising (suc l.own) L

rising_down : (i j : ℕ) (L : List Link) → i ≤ j → Rising j L → Rising i L
rising_down i j [] h c = tt
rising_down i j (l ∷ L) h c = (omega arith, c.1, c.2)

pub rising-all : (i : ℕ) (L : List Link) → Rising i L → All (λ l. i ≤ l.own) L
rising-all i [] c = tt
rising-all i (l ∷ L) c = (c.0, rising-all i L (rising_down i (suc l.own) L (omega arith) c.2))

abbrev TiedBack : ℕ → List Row → Type 0
TiedBack i R = EachOverlap (λ l. l.parent < l.own) i R

pub links_rising : (i : ℕ) (R : List Row) → TiedBack i R → Rising i (links i R)
links_rising i [] h = tt
links_rising i (kept o ∷ R) h =
    rising_down i (suc i) (links (suc i) R) (omega arith) (links_rising (suc i) R (after_first (λ l. l.parent < l.own) i (kept o) R h))
links_rising i (owned o ∷ R) h =
    rising_down i (suc i) (links (suc i) R) (omega arith) (links_rising (suc i) R (after_first (λ l. l.parent < l.own) i (owned o) R h))
links_rising i (overlap o q ∷ R) h = (
  omega arith,
  omega (arith, h 0 o q (omega arith) refl),
  links_rising (suc i) R (after_first (λ l. l.parent < l.own) i (overlap o q) R h),
)

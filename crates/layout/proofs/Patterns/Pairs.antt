-- A block's entries: the pairs of a sorted list, column by column, the index of each, and how many have two members that pass a test.
use Prim.Native.Nat.{ℕ, zero, suc, ◌+◌, ◌-◌, ◌≤◌, ◌<◌}
use native.Mathlib.Nat.{eq-or-lt_of_le, le_of_eq}
use native.Mathlib.Omega.{arith}
use mathlib.Core.Path.{◌≡◌, refl, sym, ap, ap₂, ◌∙◌}
use mathlib.Core.Logic.{inl, inr}
use mathlib.Core.Bool.{Bool, true, false, cond, ◌&&◌}
use mathlib.Core.List.{List, ◌++◌, map}
use lib.ListN.{length, get_or, length-append, length-map, get_or-append}
use lib.Seq.{get_or-append-add}
use lib.Dec.{T}
use Rattle.layout.specs.General.Lists.{has, sum, rises, place_in, join, up_from, below}
use Rattle.layout.specs.General.Triangle.{triangle, pair_index}
use Rattle.layout.specs.Rows.Blocks.{Pair, pair, pairs}
use Rattle.layout.proofs.Lists.Tests.{lt_or_le}
use Rattle.layout.proofs.Lists.Members.{get_or_map, has_get_or, length-up_from, get_or-up_from}
use Rattle.layout.proofs.Lists.Rising.{rises-at, place_at, place_says, place_mono}
use Rattle.layout.proofs.Lists.Joins.{sum_last, map-drop}
use Rattle.layout.proofs.Lists.Counting.{count_if, count-sum, count-and, count_map, count-join}
use Rattle.layout.proofs.Numbers.Triangles.{triangle-suc, triangle_mono, triangle-column, triangle-pair, pair_index-le}

module _ {A : Type 0} where
  -- column j: f at (0, j) to (j, j)
  abbrev column : (ℕ → ℕ → A) → ℕ → List A
  column f j = map (λ i. f i j) (below (suc j))

  -- the k columns from column a on
  abbrev columns : (ℕ → ℕ → A) → ℕ → ℕ → List A
  columns f a k = join (column f) (up_from a k)

  length-column : (f : ℕ → ℕ → A) (j : ℕ) → length (column f j) ≡ suc j
  length-column f j = length-map (below (suc j)) (λ i. f i j) ∙ length-up_from 0 (suc j)

  length_columns : (f : ℕ → ℕ → A) (a k : ℕ) → triangle a + length (columns f a k) ≡ triangle (a + k)
  length_columns f a zero = let e : a + 0 ≡ a = omega arith in rw e (omega arith)
  length_columns f a (suc k) =
      let e : a + suc k ≡ suc a + k = omega arith in
      let whole = length-append (column f a) (columns f (suc a) k) in
      rw e (omega (arith, whole, length-column f a, length_columns f (suc a) k, triangle-suc a))

  columns_at : (f : ℕ → ℕ → A) (d : A) (a k i j t : ℕ) → a ≤ j → j < a + k → i ≤ j → triangle a + t ≡ triangle j + i
      → get_or (columns f a k) t d ≡ f i j
  columns_at f d a zero i j t l m n e = absurd (omega arith)
  columns_at f d a (suc k) i j t l m n e = elim (lt_or_le a j) [
    | inl q ↦ later q (λ s es. columns_at f d (suc a) k i j s q (omega arith) n es)
    | inr q ↦ first q
  ]
    where
      later : a < j → ((s : ℕ) → triangle (suc a) + s ≡ triangle j + i → get_or (columns f (suc a) k) s d ≡ f i j)
          → get_or (column f a ++ columns f (suc a) k) t d ≡ f i j
      later q rest =
          let s : ℕ = t - suc a in
          let es : t ≡ length (column f a) + s = omega (arith, length-column f a, triangle-suc a, triangle_mono (suc a) j q) in
          ap (λ (x : ℕ). get_or (column f a ++ columns f (suc a) k) x d) es
          ∙ get_or-append-add (column f a) (columns f (suc a) k) s d
          ∙ rest s (omega (arith, length-column f a, triangle-suc a))

      first : j ≤ a → get_or (column f a ++ columns f (suc a) k) t d ≡ f i j
      first q =
          let ej : j ≡ a = omega arith in
          let tj : triangle j ≡ triangle a = ap triangle ej in
          get_or-append (column f a) (columns f (suc a) k) d t (omega (arith, length-column f a))
          ∙ get_or_map (λ x. f x a) (below (suc a)) t 0 d (omega (arith, length-up_from 0 (suc a)))
          ∙ ap₂ f (get_or-up_from 0 (suc a) t 0 (omega arith) ∙ omega arith) (sym ej)

-- ---- pairs

pub length_pairs : (vs : List ℕ) → length (pairs vs) ≡ triangle (length vs)
length_pairs vs =
    let f : ℕ → ℕ → Pair = λ i j. pair (get_or vs i 0) (get_or vs j 0) in
    let e : 0 + length vs ≡ length vs = omega arith in
    let h : 0 + length (pairs vs) ≡ triangle (0 + length vs) = length_columns f 0 (length vs) in
    omega (arith, ap triangle e)

pairs-at : (vs : List ℕ) (i j : ℕ) (d : Pair) → i ≤ j → j < length vs
    → get_or (pairs vs) (triangle j + i) d ≡ pair (get_or vs i 0) (get_or vs j 0)
pairs-at vs i j d l m =
    columns_at (λ a b. pair (get_or vs a 0) (get_or vs b 0)) d 0 (length vs) i j (triangle j + i)
    (omega arith) (omega arith) l (omega arith)

-- ---- the pair of two members

-- the pair of two members is at the pair index of their indices in the list
pub pair-at : (vs : List ℕ) (v w : ℕ) (d : Pair) → T (rises vs) → T (has v vs) → T (has w vs) → v ≤ w
    → (pair_index (place_in vs v) (place_in vs w) < length (pairs vs))
    × (get_or (pairs vs) (pair_index (place_in vs v) (place_in vs w)) d ≡ pair v w)
pair-at vs v w d h k m l =
    let (lv, ev) = place_says vs v h k in
    let (lw, ew) = place_says vs w h m in
    let o : place_in vs v ≤ place_in vs w = place_mono vs v w l in
    let e = pair_index-le (place_in vs v) (place_in vs w) o in (
      omega (arith, e, length_pairs vs, triangle-column (place_in vs v) (place_in vs w) (length vs) o lw),
      ap (λ (t : ℕ). get_or (pairs vs) t d) e ∙ pairs-at vs (place_in vs v) (place_in vs w) d o lw ∙ ap₂ pair ev ew,
    )

-- every entry is the pair of two members, at the pair index of their indices
pub pair_entry : (vs : List ℕ) (t : ℕ) (d : Pair) → T (rises vs) → t < length (pairs vs)
    → (v : ℕ) × (w : ℕ) × T (has v vs) × T (has w vs) × (v ≤ w) × (get_or (pairs vs) t d ≡ pair v w)
    × (t ≡ pair_index (place_in vs v) (place_in vs w))
pair_entry vs t d h l =
    let (i, j, le, lt, e) = triangle-pair (length vs) t (omega (arith, length_pairs vs)) in
    let li : i < length vs = omega arith in
    let same : pair_index (place_in vs (get_or vs i 0)) (place_in vs (get_or vs j 0)) ≡ triangle j + i =
    ap₂ pair_index (place_at vs i 0 h li) (place_at vs j 0 h lt) ∙ pair_index-le i j le in (
      get_or vs i 0,
      get_or vs j 0,
      has_get_or vs i 0 li,
      has_get_or vs j 0 lt,
      elim (eq-or-lt_of_le le) [
        | inl q ↦ le_of_eq (ap (λ (x : ℕ). get_or vs x 0) q)
        | inr q ↦ omega (arith, rises-at vs i j 0 h q lt)
      ],
      ap (λ (x : ℕ). get_or (pairs vs) x d) e ∙ pairs-at vs i j d le lt,
      e ∙ sym same,
    )

-- ---- pairs whose members both pass

abbrev pub both_pass : (ℕ → Bool) → Pair → Bool
both_pass q (pair a b) = q a && q b

-- one more passing element adds a column of passing pairs
grow : (b : Bool) (a c : ℕ) → c ≡ a + cond b 1 0 → triangle a + cond b c 0 ≡ triangle c
grow true a c e = let t : triangle c ≡ triangle (suc a) = ap triangle (omega arith) in omega (arith, triangle-suc a)
grow false a c e = let t : triangle c ≡ triangle a = ap triangle (omega arith) in omega arith

module _ (q : ℕ → Bool) (vs : List ℕ) where
  -- the number of passing elements among the first n
  abbrev chosen : ℕ → ℕ
  chosen n = count_if (λ i. q (get_or vs i 0)) (below n)

  abbrev pair_column : ℕ → List Pair
  pair_column j = map (λ i. pair (get_or vs i 0) (get_or vs j 0)) (below (suc j))

  chosen_suc : (n : ℕ) → chosen (suc n) ≡ chosen n + cond (q (get_or vs n 0)) 1 0
  chosen_suc n =
      let one : ℕ → ℕ = λ i. cond (q (get_or vs i 0)) 1 0 in
      let e : one (0 + n) ≡ one n = ap one (omega arith) in
      let at : ℕ → Bool = λ i. q (get_or vs i 0) in
      omega (arith, count-sum at (below (suc n)), count-sum at (below n), sum_last one 0 n)

  chosen_pairs : (n : ℕ) → sum (map (λ j. count_if (both_pass q) (pair_column j)) (below n)) ≡ triangle (chosen n)
  chosen_pairs zero = refl
  chosen_pairs (suc n) =
      let column : ℕ → ℕ = λ j. count_if (both_pass q) (pair_column j) in
      let e : column (0 + n) ≡ column n = ap column (omega arith) in
      let new : column n ≡ cond (q (get_or vs n 0)) (chosen (suc n)) 0 =
      count_map (both_pass q) (λ i. pair (get_or vs i 0) (get_or vs n 0)) (below (suc n))
      ∙ count-and (λ i. q (get_or vs i 0)) (q (get_or vs n 0)) (below (suc n)) in
      let more = grow (q (get_or vs n 0)) (chosen n) (chosen (suc n)) (chosen_suc n) in
      sum_last column 0 n ∙ omega (arith, chosen_pairs n, e, new, more)

  pub count-pairs : count_if (both_pass q) (pairs vs) ≡ triangle (count_if q vs)
  count-pairs = count-join (both_pass q) pair_column (below (length vs)) ∙ chosen_pairs (length vs) ∙ ap triangle all
    where
      all : chosen (length vs) ≡ count_if q vs
      all =
          sym (count_map (λ b. b) (λ i. q (get_or vs i 0)) (below (length vs)))
          ∙ ap (count_if (λ b. b)) (sym (map-drop q 0 vs 0 (length vs) (omega arith)))
          ∙ count_map (λ b. b) q vs

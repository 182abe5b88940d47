-- Inputs and outputs of the writers of a pool's tables. Definitions only.
use Rattle.std.specs.Prelude.{ℕ, suc, ◌+◌, ◌≤◌, ◌<◌, ◌≡◌, Bool, List, ◌++◌, map, length, get_or, T, ltb}
use Rattle.layout.specs.General.Lists.{all, below, part, join, written}
use Rattle.layout.specs.Problems.Problem.{Csc, System}
use Rattle.layout.specs.Problems.Patterns.{Pattern}

-- whether starts are valid for n columns over k entries: n + 1 numbers from 0, never decreasing, at most k
abbrev pub StartsOf : ℕ → ℕ → List ℕ → Type 0
StartsOf n k starts =
    (length starts ≡ suc n) × (get_or starts 0 0 ≡ 0) × ((c : ℕ) → c < n → get_or starts c 0 ≤ get_or starts (suc c) 0)
    × ((c : ℕ) → c ≤ n → get_or starts c 0 ≤ k)

-- ---- numbers raised by k

abbrev pub raised : ℕ → List ℕ → List ℕ
raised k xs = map (λ x. k + x) xs

-- whether each number plus k is still a u32
abbrev pub Raisable : ℕ → List ℕ → Type 0
Raisable k xs = (i : ℕ) → i < length xs → k + get_or xs i 0 < 4294967296

abbrev pub origin_raisable : ℕ → Pattern → Bool
origin_raisable k p = ltb (k + p.orig_index) 4294967296

-- whether each pattern's orig_index plus k is still a u32
abbrev pub OriginsRaisable : ℕ → List Pattern → Type 0
OriginsRaisable k ps = T (all (origin_raisable k) ps)

-- ---- stacked columns

abbrev pub start_sums : ℕ → List ℕ → List ℕ → List ℕ
start_sums n starts starts2 = map (λ c. get_or starts c 0 + get_or starts2 c 0) (below (suc n))

-- whether each sum of starts is a u32
abbrev pub SumsFit : ℕ → List ℕ → List ℕ → Type 0
SumsFit n starts starts2 = (c : ℕ) → c ≤ n → get_or starts c 0 + get_or starts2 c 0 < 4294967296

module _ {A : Type 0} where
  -- column c of xs followed by column c of ys
  abbrev pub stacked_column : List ℕ → List A → List ℕ → List A → ℕ → List A
  stacked_column starts xs starts2 ys c =
      part (get_or starts c 0) (get_or starts (suc c) 0) xs ++ part (get_or starts2 c 0) (get_or starts2 (suc c) 0) ys

  -- the first n stacked columns, concatenated
  abbrev pub stacked : ℕ → List ℕ → List A → List ℕ → List A → List A
  stacked n starts xs starts2 ys = join (stacked_column starts xs starts2 ys) (below n)

-- ---- A stacked over A and b over b

-- whether the starts of a matrix are valid for n columns, over its rows and over its values
abbrev pub StartsIn : ℕ → Csc → Type 0
StartsIn n M = StartsOf n (length M.rows) M.starts × StartsOf n (length M.values) M.starts

-- the precondition of stacking: both matrices have n columns, the second's rows can be raised by m, and the outputs are long enough
pub record StackFits (n m : ℕ) (one two out : System) : Type 0 where
  pub starts : StartsIn n one.A
  pub starts2 : StartsIn n two.A
  pub sums : SumsFit n one.A.starts two.A.starts
  pub raisable : Raisable m two.A.rows
  pub a_starts : suc n ≤ length out.A.starts
  pub a_rows : length one.A.rows + length two.A.rows ≤ length out.A.rows
  pub a_values : length one.A.values + length two.A.values ≤ length out.A.values
  pub b : length one.b + length two.b ≤ length out.b

-- the outputs begin with the stacked system, the rest of each unchanged
pub record HoldsStack (n m : ℕ) (one two before after : System) : Type 0 where
  pub a_starts : after.A.starts ≡ written (start_sums n one.A.starts two.A.starts) before.A.starts
  pub a_rows : after.A.rows ≡ written (stacked n one.A.starts one.A.rows two.A.starts (raised m two.A.rows)) before.A.rows
  pub a_values : after.A.values ≡ written (stacked n one.A.starts one.A.values two.A.starts two.A.values) before.A.values
  pub b : after.b ≡ written (one.b ++ two.b) before.b

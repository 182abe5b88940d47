-- The compact cut's A, computed from the codes of the augmented rows. Definitions only.
use Rattle.std.specs.Prelude.{ℕ, suc, ◌+◌, ◌-◌, ◌≤◌, ◌≡◌, cond, List, [], ◌∷◌, ◌++◌, map, length, ltb, Float}
use Rattle.layout.specs.General.Lists.{below, written}
use Rattle.layout.specs.General.Floats.{one64, minus_one64}
use Rattle.layout.specs.Problems.Problem.{Csc}
use Rattle.layout.specs.Cuts.Compact.{Entry, column, csc}
use Rattle.augment_standard.specs.Beside.{pair_values, beside_starts}
use Rattle.cut_columns.specs.Column.{coded_column}

-- the columns of A over the augmented rows
abbrev pub coded_columns : ℕ → Csc → List ℕ → List (List Entry)
coded_columns n A codes = map (λ c. coded_column codes (column A c)) (below n)

-- the rows of an overlap column, for code c of row r: the parent block's row and r; empty if c is not an overlap's code
abbrev pub tie : ℕ → ℕ → List ℕ
tie r c = cond (ltb c 65536) [] ((c - 65536) ∷ r ∷ [])

abbrev pub tied_rows : ℕ → List ℕ → List ℕ
tied_rows r [] = []
tied_rows r (c ∷ cs) = tie r c ++ tied_rows (suc r) cs

-- the moved columns of A followed by k overlap columns, with values -1 and +1 in each
abbrev pub cut_rows : ℕ → Csc → List ℕ → List ℕ
cut_rows n A codes = (csc (coded_columns n A codes)).rows ++ tied_rows 0 codes

abbrev pub cut_values : ℕ → Csc → List ℕ → ℕ → List Float
cut_values n A codes k = (csc (coded_columns n A codes)).values ++ pair_values minus_one64 one64 k

-- `after` is `before` with ys written right after the first `count` elements
abbrev pub Behind : {A : Type 0} → ℕ → List A → List A → List A → Type 0
Behind {A} count ys before after =
    (xs old : List A) → count ≡ length xs → length xs + length ys ≤ length old → before ≡ written xs old → after ≡ written (xs ++ ys) old

abbrev pub cut_a : ℕ → Csc → List ℕ → ℕ → Csc
cut_a n A codes k = record {
  starts = beside_starts A.starts (length A.values) k;
  rows = cut_rows n A codes;
  values = cut_values n A codes k;
}

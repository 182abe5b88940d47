-- Columns of A that are written after a marked column with the same rows. Definitions only.
use Rattle.std.specs.Prelude.{ℕ, ◌≡◌, List, Float}
use Rattle.layout.specs.General.Lists.{written}
use Rattle.layout.specs.Problems.Problem.{Csc}
use Rattle.layout.specs.Checks.{column_rows}
use Rattle.layout.specs.Cuts.Compact.{csc}
use Rattle.layout.specs.Cuts.Runs.{sums}
use Rattle.cut_columns.specs.Marks.{Placing, mark_all, put_back}
use Rattle.augment_compact.specs.Cut.{coded_columns}

-- the codes without the marks of column c
abbrev pub unmarked : Csc → List ℕ → ℕ → List ℕ → List ℕ
unmarked M place c codes = put_back place (column_rows M c) codes

-- What is assumed of marked codes: the marks are those of the entries of column c, and `before` are the codes without them.
pub record Marking (M : Csc) (place : List ℕ) (c : ℕ) (before codes : List ℕ) : Type 0 where
  pub placing : Placing before place M.rows
  pub marks : codes ≡ mark_all place 0 (column_rows M c) before

-- where the columns below c are written in `old`, those below d are written after the call
abbrev pub RowsGrow : ℕ → Csc → List ℕ → ℕ → ℕ → List ℕ → List ℕ → Type 0
RowsGrow n M codes c d before after =
    (old : List ℕ) → before ≡ written (csc (coded_columns c (sums n M) codes)).rows old → after ≡ written (csc (coded_columns d (sums n M) codes)).rows old

abbrev pub ValuesGrow : ℕ → Csc → List ℕ → ℕ → ℕ → List Float → List Float → Type 0
ValuesGrow n M codes c d before after =
    (old : List Float) → before ≡ written (csc (coded_columns c (sums n M) codes)).values old → after ≡ written (csc (coded_columns d (sums n M) codes)).values old

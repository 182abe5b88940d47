-- The code of an augmented row in a table of u32: original rows are below 65,536, augmented rows below 262,144.
use Rattle.std.specs.Prelude.{ℕ, ◌+◌, ◌<◌, List, length, get_or}
use Rattle.layout.specs.Rows.Blocks.{Row, kept, owned, overlap}

-- the original row whose values move to this row or, for an overlap, 65536 plus the row that it is tied to
abbrev pub cut_code : Row → ℕ
cut_code (kept o) = o
cut_code (owned o) = o
cut_code (overlap o r) = 65536 + r

-- a code that is an original row is below n
abbrev pub RowInside : ℕ → ℕ → Type 0
RowInside n c = c < 65536 → c < n

abbrev pub RowsInside : ℕ → List ℕ → Type 0
RowsInside n codes = (r : ℕ) → r < length codes → RowInside n (get_or codes r 0)

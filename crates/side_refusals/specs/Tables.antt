-- Bounds on the lengths of a problem's tables. Definitions only.
use Rattle.std.specs.Prelude.{ℕ, ◌≤◌, List, length}
use Rattle.csc.specs.Matrix.{ColumnsInside}

-- bounds that checks 1, 2 and 4 give on the entries of P, the α values and A's columns
abbrev pub TablesFew : ℕ → ℕ → ℕ → List ℕ → List ℕ → Type 0
TablesFew n p alphas starts rows = (p ≤ 262144) × (alphas ≤ 65536) × ColumnsInside n starts rows × (length rows ≤ 262144)

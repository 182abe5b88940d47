-- Marks as the bits of words of 64 bits each.
use Rattle.std.specs.Prelude.{ℕ, ◌+◌, ◌*◌, ◌/◌, ◌%◌, ◌^◌, ◌<◌, ◌≡◌, Bool, List, eqb, length, get_or}
use Rattle.layout.specs.General.Lists.{has}

-- whether bit k of a is set
abbrev pub bit : ℕ → ℕ → Bool
bit k a = eqb (a / 2 ^ k % 2) 1

-- mark v is bit v % 64 of word v / 64
abbrev pub flag : List ℕ → ℕ → Bool
flag ws v = bit (v % 64) (get_or ws (v / 64) 0)

-- mark v is set exactly if number low + v is among the numbers met
abbrev pub Flagged : ℕ → List ℕ → List ℕ → Type 0
Flagged low ws met = (v : ℕ) → v < 64 * length ws → flag ws v ≡ has (low + v) met

-- Where a file's tables lie in its words. Definitions only.
use Rattle.std.specs.Prelude.{ℕ, ◌+◌, ◌*◌, ◌/◌, ◌≤◌, ◌<◌, List, ◌≡◌, length, get_or}
use Rattle.layout.specs.Files.FileWords.{word_shape_failing}

-- the words pass checks 13 and 14, as those of a file of whole words
abbrev pub WellShaped : List ℕ → Type 0
WellShaped ws = word_shape_failing ws (4 * length ws) ≡ 0

-- the offset of table i is there, and k words from that offset on
abbrev pub Inside : List ℕ → ℕ → ℕ → Type 0
Inside ws i k = (8 + i < length ws) × (get_or ws (8 + i) 0 / 4 + k ≤ length ws)

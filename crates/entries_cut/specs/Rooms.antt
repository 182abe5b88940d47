-- The length of a slice of entries, counted in words; and lists that are empty for a refused problem. Definitions only.
use Rattle.std.specs.Prelude.{ℕ, zero, suc, ◌*◌, cond, List, [], ltb}

-- the words of a slice of entries, capped at 16,384 entries: no accepted problem has more
abbrev pub room_words : ℕ → ℕ
room_words entries = cond (ltb 16384 entries) 81920 (entries * 5)

-- the list itself where nothing is refused (number 0), and the empty list otherwise
abbrev pub unless_refused : {A : Type 0} → ℕ → List A → List A
unless_refused zero xs = xs
unless_refused (suc k) xs = []

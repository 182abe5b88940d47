-- The number of words of a map of entries that a joining compares.
use Rattle.std.specs.Prelude.{ℕ, ◌*◌, cond, ltb}

-- five words per entry; 1 word above 16384 entries, which no problem's map has: a single word is no map either, so check 12 fails all the same
abbrev pub given_words : ℕ → ℕ
given_words entries = cond (ltb 16384 entries) 1 (entries * 5)

-- Lists stored one after the other in a buffer, and the fill values of an output before a call.
use Rattle.std.specs.Prelude.{ℕ, ◌+◌, ◌%◌, ◌≤◌, Bool, true, cond, ◌&&◌, List, map, length, get_or, leb, pos, negsuc, Float}
use Rattle.std.specs.Float.{fin, binary64}
use Rattle.std.specs.Float.Ieee.{of_int, sub}
use Rattle.layout.specs.General.Lists.{below, part}

-- the length of a case's buffer: room for the starts of the lists, and every index fits in a u32
abbrev pub CaseRoom : ℕ → Type 0
CaseRoom n = (32 ≤ n) × (n ≤ 65536)

-- whether the starts give list k bounds within a buffer of n elements
abbrev listed : List ℕ → ℕ → ℕ → Bool
listed starts k n = leb (get_or starts k 0) (get_or starts (k + 1) 0) && leb (get_or starts (k + 1) 0) n

abbrev pub list_from : List ℕ → ℕ → ℕ → ℕ
list_from starts k n = cond (listed starts k n) (get_or starts k 0) 0

abbrev pub list_end : List ℕ → ℕ → ℕ → ℕ
list_end starts k n = cond (listed starts k n) (get_or starts (k + 1) 0) 0

-- list k, from its start to the start of the next list; empty where the bounds are not within the buffer
abbrev pub list_at : {A : Type 0} → List A → List ℕ → ℕ → List A
list_at xs starts k = part (list_from starts k (length xs)) (list_end starts k (length xs)) xs

abbrev pub word_before : ℕ → ℕ
word_before k = 0xf000_0000 + k % 65536

-- the fill value -1/2 - k
abbrev pub value_before : ℕ → Float
value_before k = sub binary64 (fin true 1 (negsuc 0)) (of_int binary64 (pos (k % 65536)))

abbrev pub words_before : ℕ → List ℕ
words_before n = map word_before (below n)

abbrev pub values_before : ℕ → List Float
values_before n = map value_before (below n)

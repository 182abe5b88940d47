-- Numbers of w bytes, the lowest byte first; a byte is a number below 256. Definitions only.
use Rattle.std.specs.Prelude.{ℕ, zero, suc, ◌+◌, ◌*◌, ◌/◌, ◌%◌, List, [], ◌∷◌, take, drop}
use Rattle.layout.specs.General.Lists.{join, Below}

abbrev pub bytes_of : ℕ → ℕ → List ℕ
bytes_of zero v = []
bytes_of (suc w) v = v % 256 ∷ bytes_of w (v / 256)

abbrev pub number_of : List ℕ → ℕ
number_of [] = 0
number_of (b ∷ bs) = b + 256 * number_of bs

-- the bytes of a table, and the first k numbers in bytes
abbrev pub table_bytes : ℕ → List ℕ → List ℕ
table_bytes w xs = join (bytes_of w) xs

abbrev pub numbers_of : ℕ → ℕ → List ℕ → List ℕ
numbers_of w zero bs = []
numbers_of w (suc k) bs = number_of (take w bs) ∷ numbers_of w k (drop w bs)

-- numbers that fit u32, and bit patterns that fit u64
abbrev pub U32s : List ℕ → Type 0
U32s xs = Below 4294967296 xs

abbrev pub U64s : List ℕ → Type 0
U64s xs = Below 18446744073709551616 xs

-- The words of a file's table. Definitions only.
use Rattle.std.specs.Prelude.{ℕ, ◌/◌, List, get_or}
use Rattle.layout.specs.Files.File.{counts_in, table_sizes}
use Rattle.layout.specs.Files.FileWords.{words_at}

-- all words of table i; two of them form a double
abbrev pub table_words : List ℕ → ℕ → List ℕ
table_words ws i = words_at ws i (get_or (table_sizes (counts_in ws)) i 0 / 4)

-- A problem that was read from a file, by what the reader writes to its outputs (document 02, Q-2). Definitions only.
use Rattle.std.specs.Prelude.{suc, ◌*◌, take}
use Rattle.layout.specs.Files.File.{counts_in, BitTables, bit_tables}
use Rattle.layout.specs.Calls.ReadFile.{FileOutputs}

-- the tables as the reader's caller has them: prefixes of the outputs, with the lengths that the counts in the first output give
abbrev pub tables_at : FileOutputs → BitTables
tables_at o =
    let c = counts_in o.counts in
    bit_tables c.n c.m
    (take (suc c.n) o.p_starts) (take c.entries_p o.p_rows) (take c.entries_p o.p_values) (take c.n o.q)
    (take (suc c.n) o.a_starts) (take c.entries_a o.a_rows) (take c.entries_a o.a_values) (take c.m o.b)
    (take (3 * c.cones) o.cones) (take c.alphas o.alphas) c.patterns (take c.words o.pattern_words)

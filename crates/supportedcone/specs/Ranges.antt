-- Row counts of consecutive cones.
use Rattle.std.specs.Prelude.{ℕ, Bool, ◌&&◌, List, map, length, eqb, ltb}
use Rattle.layout.specs.Problems.Cones.{Cone, records, row_count, is_psd}
use Rattle.layout.specs.General.Lists.{sum}
use Rattle.supportedcone.specs.Cases.{record_at}

-- the number of rows of all cones together
abbrev pub row_total : List Cone → ℕ
row_total cs = sum (map row_count cs)

-- whether there is an i-th record and it is a PSD cone of dimension v
abbrev pub is_psd_of : List ℕ → ℕ → ℕ → Bool
is_psd_of ws i v = let c = record_at ws i in ltb i (length (records ws)) && is_psd c && eqb c.first v

-- The part of a file's problem that decides its cut. Definitions only.
use Rattle.layout.specs.General.Floats.{floats}
use Rattle.layout.specs.Problems.Problem.{Problem}
use Rattle.layout.specs.Files.File.{BitTables}
use Rattle.augment_standard.specs.Constraints.{constraints}

-- the constraints of the file's problem: they decide A, b and the cones of the compact problem
abbrev pub constraints_of : BitTables → Problem
constraints_of t =
    constraints t.n t.m t.a_starts t.a_rows (floats t.a_values) (floats t.b) t.cones t.pattern_count t.pattern_words

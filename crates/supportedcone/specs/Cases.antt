-- The record and exponent that each case of the cone enum represents, and the refusal number of a bad record, as in document 01.
use Rattle.std.specs.Prelude.{ℕ, cond, List, [], ◌∷◌, length, get_or, eqb, leb, Float, Option, Some, None}
use Rattle.layout.specs.General.Floats.{zero64}
use Rattle.layout.specs.Problems.Cones.{Cone, records, reads, alpha_count}
use Rattle.layout.specs.Checks.{no_cone}
use Rattle.supportedcone.specs.declared.SupportedCone.{SupportedCone}
use Rattle.supportedcone.specs.declared.SupportedCone.TheVariants.{ZeroConeT, NonnegativeConeT, SecondOrderConeT, ExponentialConeT, PowerConeT, GenPowerConeT, PSDTriangleConeT}

abbrev pub cone_record : ℕ → ℕ → ℕ → Cone
cone_record k a c = record { kind = k; first = a; second = c }

-- the record of a cone: kind, first size, second size
abbrev pub record_of : SupportedCone → Cone
record_of (ZeroConeT a) = cone_record 0 a 0
record_of (NonnegativeConeT a) = cone_record 1 a 0
record_of (SecondOrderConeT a) = cone_record 2 a 0
record_of ExponentialConeT = cone_record 3 0 0
record_of (PowerConeT α) = cone_record 4 0 0
record_of (GenPowerConeT a c) = cone_record 5 a c
record_of (PSDTriangleConeT a) = cone_record 6 a 0

-- the exponent of a power cone, as a list of one; empty for other cones
abbrev pub exponent_of : SupportedCone → List Float
exponent_of (ZeroConeT a) = []
exponent_of (NonnegativeConeT a) = []
exponent_of (SecondOrderConeT a) = []
exponent_of ExponentialConeT = []
exponent_of (PowerConeT α) = α ∷ []
exponent_of (GenPowerConeT a c) = []
exponent_of (PSDTriangleConeT a) = []

-- what reading a record gives: the record with its exponent (if any), or a refusal number
pub data Answer : Type 0 where
  cone : Cone → List Float → Answer
  refused : ℕ → Answer

abbrev pub told : Option SupportedCone → Answer
told (Some s) = cone (record_of s) (exponent_of s)
told None = refused 4

-- the result of reading record c: c itself, with exponent α if it is a power cone, or refusal 4
abbrev pub reads_as : Cone → Float → Answer
reads_as c α = cond (reads c) (cone c (cond (eqb c.kind 4) (α ∷ []) [])) (refused 4)

-- the same, with the exponent taken from the α values not yet used; refusal 4 if they are fewer than the record takes
abbrev pub reads_with : Cone → List Float → Answer
reads_with c αs = cond (leb (alpha_count c) (length αs)) (reads_as c (get_or αs 0 zero64)) (refused 4)

-- the i-th record, or past the end a record that reads as no kind
abbrev pub record_at : List ℕ → ℕ → Cone
record_at ws i = get_or (records ws) i no_cone

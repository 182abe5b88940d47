-- Computed cases: document 01's corners of cone records, and the Rust file's own test of row ranges.
use mathlib.Core.Path.{◌≡◌, refl}
use mathlib.Core.Bool.{true, false}
use mathlib.Core.List.{[], ◌∷◌}
use Rattle.layout.specs.Problems.Cones.{records}
use Rattle.layout.specs.Checks.{cones_bounded, cones_read}
use Rattle.supportedcone.specs.Ranges.{row_total}

-- a partial record at the end: check 1 ignores it, check 4 refuses it
part-bounded : cones_bounded (0 ∷ 2 ∷ 0 ∷ 1 ∷ 65537 ∷ []) ≡ true
part-bounded = refl

part-read : cones_read 2 (0 ∷ 2 ∷ 0 ∷ 1 ∷ 65537 ∷ []) ≡ false
part-read = refl

-- the sizes of an unknown kind are bounded too
unknown_kind : cones_bounded (9 ∷ 0 ∷ 65537 ∷ []) ≡ false
unknown_kind = refl

-- the bound on a PSD size applies to the first size only
psd_257 : cones_bounded (6 ∷ 257 ∷ 0 ∷ []) ≡ false
psd_257 = refl

psd-second : cones_bounded (6 ∷ 0 ∷ 257 ∷ []) ≡ true
psd-second = refl

psd-second-read : cones_read 0 (6 ∷ 0 ∷ 257 ∷ []) ≡ false
psd-second-read = refl

-- cones without rows
no_rows : cones_read 0 (6 ∷ 0 ∷ 0 ∷ 5 ∷ 0 ∷ 0 ∷ []) ≡ true
no_rows = refl

-- the seven kinds
all_kinds : cones_read 33 (0 ∷ 1 ∷ 0 ∷ 1 ∷ 2 ∷ 0 ∷ 2 ∷ 4 ∷ 0 ∷ 3 ∷ 0 ∷ 0 ∷ 4 ∷ 0 ∷ 0 ∷ 5 ∷ 2 ∷ 3 ∷ 6 ∷ 5 ∷ 0 ∷ []) ≡ true
all_kinds = refl

-- test_cone_ranges: 0..3, 3..3, 3..7 end at 7
ranges_end : row_total (records (1 ∷ 3 ∷ 0 ∷ 1 ∷ 0 ∷ 0 ∷ 2 ∷ 4 ∷ 0 ∷ [])) ≡ 7
ranges_end = refl

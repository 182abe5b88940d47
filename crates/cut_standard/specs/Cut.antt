-- The cone records of the standard cut, from the parts. Definitions only.
use Rattle.std.specs.Prelude.{ℕ, List, ◌∷◌}
use Rattle.layout.specs.General.Lists.{join}
use Rattle.layout.specs.Rows.Blocks.{Part}
use Rattle.layout.specs.Cuts.Standard.{standard_part}

-- Zero(m), then the records of the parts
abbrev pub zero_then_parts : ℕ → List Part → List ℕ
zero_then_parts m ps = 0 ∷ m ∷ 0 ∷ join standard_part ps

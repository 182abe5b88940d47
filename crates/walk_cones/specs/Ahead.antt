-- The parts that a walk over the cones has not yet visited.
use Rattle.std.specs.Prelude.{ℕ, ◌+◌, ◌*◌, ◌≤◌, ◌<◌, ◌≡◌, true, List, [], ◌∷◌, map, length, get_or, drop, T, Option, Some, None}
use Rattle.layout.specs.General.Lists.{all, sum}
use Rattle.layout.specs.General.Triangle.{triangle}
use Rattle.layout.specs.Problems.Cones.{records, reads, row_count}
use Rattle.layout.specs.Problems.Patterns.{Pattern, read_pattern, read_patterns}
use Rattle.layout.specs.Rows.Blocks.{Part, whole, cut, parts_from}
use Rattle.layout.specs.Checks.{RightPattern, no_cone, names_its_cone, cones_bounded, Laid}
use Rattle.supernode_tree.specs.Reads.{pattern_at, value_or, is_whole}
use Rattle.walk_cones.specs.declared.Place.{Place}
use Rattle.walk_cones.specs.declared.Met.{Met}
use Rattle.walk_cones.specs.declared.Met.TheVariants.{Whole, Cut}

-- the patterns, and the parts, from a place on
abbrev pub patterns_ahead : List ℕ → Place → List Pattern
patterns_ahead words c = value_or [] (read_patterns c.left (drop c.at words))

abbrev pub ahead : List ℕ → List ℕ → Place → List Part
ahead cones words c = parts_from c.cone c.row c.pattern (drop c.cone (records cones)) (patterns_ahead words c)

-- the place is one that a walk over the cones of m rows reaches
pub record Reached (m : ℕ) (cones words : List ℕ) (c : Place) : Type 0 where
  pub few : m ≤ 65536
  pub bounded : T (cones_bounded cones)
  pub reads : T (all reads (records cones))
  pub read : is_whole (read_patterns c.left (drop c.at words)) ≡ true
  pub laid : Laid c.row (ahead cones words c)
  pub total : c.row + sum (map row_count (drop c.cone (records cones))) ≡ m
  pub named : T (all (names_its_cone (records cones)) (patterns_ahead words c))
  pub numbered : c.pattern + c.left < 4294967296

-- the parts from c on, in terms of what the walk finds there
abbrev pub meets : List ℕ → List ℕ → Place → Option Met → List Part
meets cones words c (Some (Whole rows next)) = whole c.cone (get_or (records cones) c.cone no_cone) c.row ∷ ahead cones words next
meets cones words c (Some (Cut at next)) = cut c.cone c.row c.pattern (pattern_at words at) ∷ ahead cones words next
meets cones words c None = []

-- what holds of what the walk finds at c
abbrev pub Knows : ℕ → List ℕ → List ℕ → Place → Option Met → Type 0
Knows m cones words c (Some (Whole rows next)) =
    (rows ≡ row_count (get_or (records cones) c.cone no_cone)) × (c.row + rows ≤ m) × (c.cone < 1024) × (c.cone * 3 + 3 ≤ length cones)
    × (next.cone ≡ c.cone + 1) × Reached m cones words next
Knows m cones words c (Some (Cut at next)) =
    (is_whole (read_pattern (drop at words)) ≡ true) × RightPattern (pattern_at words at) × ((pattern_at words at).vertex_count ≤ 256)
    × (c.row + triangle (pattern_at words at).vertex_count ≤ m) × (c.cone < 1024) × (next.cone ≡ c.cone + 1) × Reached m cones words next
Knows m cones words c None = Unit {0}

-- Check 5 for one pattern, and for patterns that name no cone before a given one.
use Rattle.std.specs.Prelude.{ℕ, suc, Bool, ◌&&◌, true, List, [], ◌∷◌, map, leb}
use Rattle.layout.specs.General.Lists.{is_permutation, all}
use Rattle.layout.specs.Problems.Cones.{records}
use Rattle.layout.specs.Problems.Patterns.{Pattern, read_patterns, ends_right, patterns}
use Rattle.layout.specs.Checks.{names_its_cone, orderings_right}

-- the pattern names a PSD cone of its dimension, and its ordering is a permutation
abbrev pub pattern_right : List ℕ → Pattern → Bool
pattern_right cones p = names_its_cone (records cones) p && is_permutation p.ordering

-- whether numbers strictly increase, none below `least`
abbrev pub rises_from : ℕ → List ℕ → Bool
rises_from least [] = true
rises_from least (x ∷ xs) = leb least x && rises_from (suc x) xs

abbrev pub origins_rise_from : ℕ → List Pattern → Bool
origins_rise_from least ps = rises_from least (map (λ p. p.orig_index) ps)

-- check 5, where no pattern may name a cone before `least`
abbrev pub patterns_read_from : List ℕ → ℕ → ℕ → List ℕ → Bool
patterns_read_from cones least count ws =
    let ps = patterns count ws in
    ends_right (read_patterns count ws) && origins_rise_from least ps && all (names_its_cone (records cones)) ps && orderings_right ps

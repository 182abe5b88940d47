-- Checks 1 to 7 in the groups in which the code makes them.
use Rattle.std.specs.Prelude.{ℕ, Bool, cond, ◌&&◌, List, [], ◌∷◌, length, leb, eqb, Float}
use Rattle.layout.specs.General.Lists.{all}
use Rattle.layout.specs.Problems.Problem.{Csc}
use Rattle.layout.specs.Problems.Patterns.{patterns}
use Rattle.layout.specs.Checks.{cones_bounded, starts_right, rows_in_order, rows_right, cones_read, patterns_read, tree_right, cliques_right, Check, check, first_failing}
use Rattle.layout.specs.Calls.Join.{join_bounded}
use Rattle.layout.specs.Calls.Answers.{or_else}
use Rattle.sparsity_pattern.specs.Sparsity.{patterns_read_from}

-- check 1
abbrev pub bounds : ℕ → ℕ → ℕ → ℕ → List ℕ → Bool
bounds n m a_entries p_entries cones = leb n 65536 && leb m 65536 && leb a_entries 262144 && leb p_entries 262144 && cones_bounded cones

-- checks 2 and 3
abbrev pub matrices_refusal : ℕ → ℕ → Csc → Csc → ℕ
matrices_refusal n m P A =
    first_failing (check 2 (starts_right n A && starts_right n P) ∷ check 3 (rows_in_order m n A && rows_right n n P) ∷ [])

-- check 4 except for α
abbrev pub records_refusal : ℕ → ℕ → List Float → List Float → List ℕ → ℕ
records_refusal n m q b cones = first_failing (check 4 (cones_read m cones && eqb (length q) n && eqb (length b) m) ∷ [])

-- checks 1 to 3, and 4 except for α
abbrev pub tables_refusal : ℕ → ℕ → Csc → List Float → Csc → List Float → List ℕ → ℕ
tables_refusal n m P q A b cones =
    or_else (cond (bounds n m (length A.values) (length P.values) cones) 0 1)
    (or_else (matrices_refusal n m P A) (records_refusal n m q b cones))

-- checks 5, 6 and 7
abbrev pub patterns_refusal : List ℕ → ℕ → List ℕ → ℕ
patterns_refusal cones count words =
    let ps = patterns count words in
    first_failing (check 5 (patterns_read cones count words) ∷ check 6 (all tree_right ps) ∷ check 7 (all cliques_right ps) ∷ [])

-- the same, where no pattern may name a cone before `least`
abbrev pub patterns_refusal_from : List ℕ → ℕ → ℕ → List ℕ → ℕ
patterns_refusal_from cones least count words =
    let ps = patterns count words in
    first_failing (check 5 (patterns_read_from cones least count words) ∷ check 6 (all tree_right ps) ∷ check 7 (all cliques_right ps) ∷ [])

-- the checks of a joining, which has no inputs for 2 and 3 and, for 4, only the records and m
abbrev pub joined_checks : ℕ → ℕ → List ℕ → ℕ → List ℕ → List Check
joined_checks n m cones count words =
    let ps = patterns count words in
    check 1 (join_bounded n m cones) ∷ check 4 (cones_read m cones)
    ∷ check 5 (patterns_read cones count words) ∷ check 6 (all tree_right ps) ∷ check 7 (all cliques_right ps) ∷ []

abbrev pub joined_refusal : ℕ → ℕ → List ℕ → ℕ → List ℕ → ℕ
joined_refusal n m cones count words = first_failing (joined_checks n m cones count words)

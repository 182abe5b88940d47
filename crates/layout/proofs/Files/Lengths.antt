-- Checks 1 to 7 depend on the float tables only through their lengths, so tables of the floats' bit patterns can be checked instead.
use Prim.Native.Nat.{ℕ}
use mathlib.Core.Path.{◌≡◌, sym, ap, ap₂}
use mathlib.Core.Bool.{Bool, ◌&&◌}
use mathlib.Core.List.{List, [], ◌∷◌, map}
use lib.ListN.{length, get_or, length-replicate}
use lib.Dec.{leb, eqb}
use lib.Ieee.{Float, nan}
use Rattle.layout.specs.General.Lists.{all, sum, never_falls}
use Rattle.layout.specs.Problems.Problem.{Csc, problem}
use Rattle.layout.specs.Problems.Cones.{records, alpha_count}
use Rattle.layout.specs.Problems.Patterns.{patterns}
use Rattle.layout.specs.Checks.{cones_bounded, start_count, starts_at_zero, starts_right, cones_read, alphas_as_many, patterns_read, tree_right, cliques_right, check, first_failing, check1, check2, check3, check4}
use Rattle.layout.specs.Calls.Answers.{problem_refusal}
use Rattle.layout.specs.Files.FileWords.{unvalued}

abbrev matrix : List ℕ → List ℕ → List Float → Csc
matrix starts rows values = record { starts = starts; rows = rows; values = values }

starts-lengths : (n : ℕ) (starts rows : List ℕ) (vs us : List Float) → length vs ≡ length us
    → starts_right n (record { starts = starts; rows = rows; values = vs }) ≡ starts_right n (record { starts = starts; rows = rows; values = us })
starts-lengths n starts rows vs us e =
    let M = matrix starts rows vs in
    ap (λ (k : ℕ). start_count n M && starts_at_zero M && never_falls starts && eqb (get_or starts n 0) k && eqb (length rows) k) e

pub alphas-lengths : (cones : List ℕ) (vs us : List Float) → length vs ≡ length us → alphas_as_many cones vs ≡ alphas_as_many cones us
alphas-lengths cones vs us e = ap (λ (k : ℕ). eqb (sum (map alpha_count (records cones))) k) e

pub refusal-lengths : (n m : ℕ) (p_starts p_rows : List ℕ) (p_values p_values' q q' : List Float) (a_starts a_rows : List ℕ)
    (a_values a_values' b b' : List Float) (cones : List ℕ) (alphas alphas' : List Float) (count : ℕ) (words : List ℕ)
    → length p_values ≡ length p_values' → length q ≡ length q' → length a_values ≡ length a_values' → length b ≡ length b'
    → length alphas ≡ length alphas'
    → problem_refusal (problem n m p_starts p_rows p_values q a_starts a_rows a_values b cones alphas count words)
    ≡ problem_refusal (problem n m p_starts p_rows p_values' q' a_starts a_rows a_values' b' cones alphas' count words)
refusal-lengths n m p_starts p_rows p_values p_values' q q' a_starts a_rows a_values a_values' b b' cones alphas alphas' count words e_p e_q e_a e_b eα =
    let old = problem n m p_starts p_rows p_values q a_starts a_rows a_values b cones alphas count words in
    let new = problem n m p_starts p_rows p_values' q' a_starts a_rows a_values' b' cones alphas' count words in
    let first : check1 old ≡ check1 new =
    ap₂ (λ (a p : ℕ). leb n 65536 && leb m 65536 && leb a 262144 && leb p 262144 && cones_bounded cones) e_a e_p in
    let second : check2 old ≡ check2 new =
    ap₂ (λ (a p : Bool). a && p) (starts-lengths n a_starts a_rows a_values a_values' e_a) (starts-lengths n p_starts p_rows p_values p_values' e_p) in
    let fourth : check4 old ≡ check4 new = λ i.
    cones_read m cones && alphas-lengths cones alphas alphas' eα i && eqb (e_q i) n && eqb (e_b i) m in
    let ps = patterns count words in
    λ i. first_failing
    (check 1 (first i) ∷ check 2 (second i) ∷ check 3 (check3 old) ∷ check 4 (fourth i)
    ∷ check 5 (patterns_read cones count words) ∷ check 6 (all tree_right ps) ∷ check 7 (all cliques_right ps) ∷ [])

-- checks 1 to 7 give the same number if every float is replaced by the placeholder of `unvalued`
pub refusal-unvalued : (n m : ℕ) (p_starts p_rows : List ℕ) (p_values q : List Float) (a_starts a_rows : List ℕ) (a_values b : List Float)
    (cones : List ℕ) (alphas : List Float) (count : ℕ) (words : List ℕ)
    → problem_refusal (problem n m p_starts p_rows p_values q a_starts a_rows a_values b cones alphas count words)
    ≡ problem_refusal (problem n m p_starts p_rows (unvalued (length p_values)) (unvalued (length q)) a_starts a_rows
    (unvalued (length a_values)) (unvalued (length b)) cones (unvalued (length alphas)) count words)
refusal-unvalued n m p_starts p_rows p_values q a_starts a_rows a_values b cones alphas count words =
    let as_many : (vs : List Float) → length vs ≡ length (unvalued (length vs)) = λ vs. sym (length-replicate (length vs) nan) in
    refusal-lengths n m p_starts p_rows p_values (unvalued (length p_values)) q (unvalued (length q)) a_starts a_rows
    a_values (unvalued (length a_values)) b (unvalued (length b)) cones alphas (unvalued (length alphas)) count words
    (as_many p_values) (as_many q) (as_many a_values) (as_many b) (as_many alphas)

-- What the checks ensure for an accepted problem and its patterns.
use Prim.Native.Nat.{ℕ, ◌≤◌, ◌<◌}
use native.Mathlib.Omega.{arith}
use mathlib.Core.Path.{◌≡◌}
use mathlib.Core.Bool.{Bool, ◌&&◌}
use mathlib.Core.List.{List, map, [], ◌∷◌}
use lib.ListN.{length, get_or}
use lib.Dec.{T, leb, eqb, eqb→eq}
use mir.Syntax.{w32}
use mir.Val.{Fits}
use Rattle.layout.specs.General.Lists.{has, all, sum, rises, is_permutation}
use Rattle.layout.specs.Problems.Cones.{records, whole_records, reads, row_count}
use Rattle.layout.specs.Problems.Problem.{Problem, Route}
use Rattle.layout.specs.Problems.Patterns.{Pattern, no_pattern, read_patterns, ends_right, patterns}
use Rattle.layout.specs.Checks.{Sound, names_its_cone, orderings_right, sizes_bounded, cones_bounded, cones_read, alphas_as_many, patterns_read, tree_right, cliques_right, problem_checks, checks, refusal, RightPattern, Checked, check1, check2, check3, check4, starts_right, rows_in_order, rows_right, Check, check, check10}
use Rattle.layout.specs.Problems.CliqueTree.{CliqueTree, InducedSubtree}
use Rattle.layout.specs.Calls.Answers.{problem_refusal}
use Rattle.layout.specs.Calls.Join.{joined_parts, join_bounded, join_checks}
use Rattle.layout.proofs.Lists.Tests.{and_iff, eqb_iff, leb_iff, ltb_iff}
use Rattle.layout.proofs.Lists.Members.{EveryAt, all-at, has-map}
use Rattle.layout.proofs.Checks.Order.{passing, passed, never_given}
use Rattle.layout.proofs.Patterns.Tree.{clique_tree}
use Rattle.layout.proofs.Patterns.Subtree.{induced_subtree}
use Rattle.layout.proofs.Patterns.Reading.{ordering_fits, patterns_fit}

right-patterns : (d : Pattern) (cones : List ℕ) (count : ℕ) (ws : List ℕ) → T (patterns_read cones count ws)
    → T (all tree_right (patterns count ws)) → T (all cliques_right (patterns count ws))
    → EveryAt d RightPattern (patterns count ws)
right-patterns d cones count ws reads trees right i l =
    let ps = patterns count ws in
    record {
      tree = (all-at d tree_right ps).0 trees i l;
      cliques = (all-at d cliques_right ps).0 right i l;
      ordered = record {
        permutation = (all-at d (λ p. is_permutation p.ordering) ps).0 (simp and_iff at reads).1 i l;
        vertices = simp eqb_iff at ((all-at d ordering_fits ps).0 (patterns_fit count ws) i l);
      };
    }

-- a problem that passes checks 1 to 7 is `Checked`
checks_say : (p : Problem) → T (check1 p) → T (check2 p) → T (check3 p) → T (check4 p)
    → T (patterns_read p.cones p.pattern_count p.pattern_words)
    → T (all tree_right (patterns p.pattern_count p.pattern_words))
    → T (all cliques_right (patterns p.pattern_count p.pattern_words)) → Checked p
checks_say p one two three four named trees cliques =
    let counts : Bool =
    leb p.n 65536 && leb p.m 65536 && leb (length p.A.values) 262144 && leb (length p.P.values) 262144 in
    let (bounds, bounded) = (and_iff counts (cones_bounded p.cones)).0 one in
    let few = simp (and_iff, leb_iff) at bounds in
    let starts = (and_iff (starts_right p.n p.A) (starts_right p.n p.P)).0 two in
    let rows = (and_iff (rows_in_order p.m p.n p.A) (rows_right p.n p.n p.P)).0 three in
    let read : Bool = cones_read p.m p.cones in
    let alphas : Bool = alphas_as_many p.cones p.alphas in
    let q : Bool = eqb (length p.q) p.n in
    let lengths = (and_iff (read && alphas && q) (eqb (length p.b) p.m)).0 four in
    let records = (and_iff (read && alphas) q).0 lengths.0 in
    let cones = (and_iff read alphas).0 records.0 in
    record {
      few_columns = few.0.0.0;
      few_entries_a = few.0.1;
      few_entries_p = few.1;
      starts_a = starts.0;
      starts_p = starts.1;
      rows_a = rows.0;
      rows_p = rows.1;
      alphas = cones.1;
      length_q = eqb→eq (length p.q) p.n records.1;
      length_b = eqb→eq (length p.b) p.m lengths.1;
      sound = record {
        few = few.0.0.1;
        bounded = bounded;
        read = cones.0;
        named = named;
        trees = trees;
        cliques = cliques;
      };
    }

pub problem_checked : (p : Problem) → problem_refusal p ≡ 0 → Checked p
problem_checked p e = checks_say p (test 1) (test 2) (test 3) (test 4) (test 5) (test 6) (test 7)
  where
    test : (k : ℕ) → T (passing k (problem_checks p))
    test k = passed k (problem_checks p) tt e

-- a problem that a route accepts has passed checks 1 to 7
pub accepted_checked : (route : Route) (p : Problem) → refusal route p ≡ 0 → Checked p
accepted_checked route p e = checks_say p (test 1) (test 2) (test 3) (test 4) (test 5) (test 6) (test 7)
  where
    test : (k : ℕ) → T (passing k (checks route p))
    test k = passed k (checks route p) tt e

pub accepted-sound : (route : Route) (p : Problem) → refusal route p ≡ 0 → Sound p.m p.cones p.pattern_count p.pattern_words
accepted-sound route p e = (accepted_checked route p e).sound

-- the list of a joining's checks
abbrev pub join_tests : Route → ℕ → ℕ → List ℕ → ℕ → List ℕ → List Check
join_tests route n m cones count words =
    let pats = patterns count words in
    check 1 (join_bounded n m cones) ∷ check 4 (cones_read m cones)
    ∷ check 5 (patterns_read cones count words) ∷ check 6 (all tree_right pats) ∷ check 7 (all cliques_right pats)
    ∷ check 10 (check10 route m (joined_parts cones count words)) ∷ []

-- no route gives refusal number 8, for a problem or for a joining
pub no_eight : (route : Route) (p : Problem) → refusal route p ≡ 8 → ⊥
no_eight route p = never_given 7 (checks route p) tt

pub no_eight_joined : (route : Route) (n m : ℕ) (cones : List ℕ) (count : ℕ) (words : List ℕ) → join_checks route n m cones count words ≡ 8 → ⊥
no_eight_joined route n m cones count words = never_given 7 (join_tests route n m cones count words) tt

-- a joining that passes its checks has sound m, cone records and patterns
pub join-sound : (route : Route) (n m : ℕ) (cones : List ℕ) (count : ℕ) (words : List ℕ) → join_checks route n m cones count words ≡ 0
    → Sound m cones count words
join-sound route n m cones count words e =
    let bounds = (and_iff (leb n 65536 && leb m 65536) (cones_bounded cones)).0 (test 1) in
    record {
      few = (simp (and_iff, leb_iff) at bounds.0).1;
      bounded = bounds.1;
      read = test 4;
      named = test 5;
      trees = test 6;
      cliques = test 7;
    }
  where
    test : (k : ℕ) → T (passing k (join_tests route n m cones count words))
    test k = passed k (join_tests route n m cones count words) tt e

-- what checks 1, 4 and 5 ensure for a sound problem, one by one
module _ {m : ℕ} {cones : List ℕ} {count : ℕ} {words : List ℕ} (h : Sound m cones count words) where
  pub sound-cone-count : length (records cones) ≤ 1024
  sound-cone-count =
      (leb_iff (length (records cones)) 1024).0 ((and_iff (leb (length (records cones)) 1024) (all sizes_bounded (records cones))).0 h.bounded).0

  pub sound-ends : T (ends_right (read_patterns count words))
  sound-ends = (simp and_iff at h.named).0.0.0

  pub sound_rise : T (rises (map (λ p. p.orig_index) (patterns count words)))
  sound_rise = (simp and_iff at h.named).0.0.1

  pub sound_names : T (all (names_its_cone (records cones)) (patterns count words))
  sound_names = (simp and_iff at h.named).0.1

  pub sound_orders : T (orderings_right (patterns count words))
  sound_orders = (simp and_iff at h.named).1

  pub sound-whole : T (whole_records cones)
  sound-whole = (simp and_iff at h.read).0.0

  pub sound-reads : T (all reads (records cones))
  sound-reads = (simp and_iff at h.read).0.1

  pub sound-cone-rows : sum (map row_count (records cones)) ≡ m
  sound-cone-rows = (simp (and_iff, eqb_iff) at h.read).1

  -- a pattern's orig_index is the number of a cone
  pub sound-inside : (y : ℕ) → T (has y (map (λ p. p.orig_index) (patterns count words))) → y < length (records cones)
  sound-inside y k =
      let (i, l, e) = (has-map no_pattern (λ p. p.orig_index) y (patterns count words)).0 k in
      let n = (all-at no_pattern (names_its_cone (records cones)) (patterns count words)).0 sound_names i l in
      omega (arith, e, (simp (and_iff, ltb_iff) at n).0.0)

-- every pattern of a sound problem passes checks 5 to 7
pub sound-patterns : {m : ℕ} {cones : List ℕ} {count : ℕ} {words : List ℕ} (d : Pattern) → Sound m cones count words
    → EveryAt d RightPattern (patterns count words)
sound-patterns {m} {cones} {count} {words} d h = right-patterns d cones count words h.named h.trees h.cliques

-- every pattern of an accepted problem is a clique tree
pub accepted-trees : (route : Route) (p : Problem) (d : Pattern) → refusal route p ≡ 0
    → EveryAt d CliqueTree (patterns p.pattern_count p.pattern_words)
accepted-trees route p d e i l =
    let right = sound-patterns d (accepted-sound route p e) i l in
    clique_tree (get_or (patterns p.pattern_count p.pattern_words) i d) right.tree right.cliques

-- in which the cliques that contain a vertex form a subtree
pub accepted_subtrees : (route : Route) (p : Problem) (d : Pattern) → refusal route p ≡ 0
    → EveryAt d (λ t. (u : ℕ) → u < t.vertex_count → InducedSubtree t u) (patterns p.pattern_count p.pattern_words)
accepted_subtrees route p d e i l = induced_subtree (get_or (patterns p.pattern_count p.pattern_words) i d) (accepted-trees route p d e i l)

-- a number up to 262,144 fits a u32
pub fits-u32 : (k : ℕ) → k ≤ 262144 → Fits w32 k
fits-u32 k few = omega arith

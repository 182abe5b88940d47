-- The number of augmented rows, of overlaps and of new cones of all parts, from sums over the patterns.
use Prim.Native.Nat.{ℕ, suc, ◌+◌, ◌≤◌}
use native.Mathlib.Omega.{arith}
use mathlib.Core.Path.{◌≡◌, refl, sym, ap, subst, ◌∙◌}
use mathlib.Core.Bool.{Bool, true, false, cond}
use mathlib.Core.List.{List, [], ◌∷◌, map}
use lib.ListN.{length}
use lib.Dec.{T, leb, eqb, eqb→eq, le→leb}
use borrow.Author.Tests.{eqb-false}
use Rattle.layout.specs.General.Lists.{all, sum}
use Rattle.layout.specs.Problems.Cones.{Cone, records, row_count}
use Rattle.layout.specs.Problems.Patterns.{Pattern, clique_count, patterns}
use Rattle.layout.specs.Rows.Blocks.{Part, whole, cut, parts_from, block_rows, block_row_count, cone_rows, overlap_count, overlap_rows, cone_count}
use Rattle.layout.specs.Checks.{Sound, names_its_cone}
use Rattle.layout.specs.Calls.Join.{joined_parts}
use Rattle.layout.proofs.Lists.Tests.{and_iff, leb_iff, ltb_iff}
use Rattle.layout.proofs.Checks.Accepted.{sound-ends, sound_rise, sound_names}
use Rattle.layout.proofs.Patterns.PatternWords.{words_of_patterns}
use Rattle.layout.proofs.Rows.Laid.{sound-total, parts-count}
use Rattle.sparsity_pattern.specs.Sparsity.{rises_from}
use Rattle.sparsity_pattern.proofs.Sparsity.{rises_start}
use Rattle.check_patterns.specs.Accepted.{pattern_row_count}

-- the patterns of the decomposed cones
abbrev cut_patterns : List Part → List Pattern
cut_patterns [] = []
cut_patterns (whole i c row ∷ ps) = cut_patterns ps
cut_patterns (cut i row k p ∷ ps) = p ∷ cut_patterns ps

-- in a decomposed cone, the rows of its blocks replace the cone's rows, and a cone for each clique replaces the cone
cut_sums : (ps : List Part) → let cuts = cut_patterns ps in
    (block_row_count ps + sum (map pattern_row_count cuts) ≡ sum (map cone_rows ps) + sum (map block_rows cuts)) × (overlap_count ps ≡ sum (map overlap_rows cuts))
    × (cone_count ps + length cuts ≡ length ps + sum (map clique_count cuts))
cut_sums [] = (refl, refl, refl)
cut_sums (whole i c row ∷ ps) = let (rows, overlaps, cones) = cut_sums ps in (omega arith, omega arith, omega arith)
cut_sums (cut i row k p ∷ ps) = let (rows, overlaps, cones) = cut_sums ps in (omega arith, omega arith, omega arith)

abbrev origin : Pattern → ℕ
origin p = p.orig_index

-- each pattern decomposes a cone, because orig_index strictly increases and each names one of the cones ds, of which cs is a suffix
all-cut : (ds : List Cone) (i row k : ℕ) (cs : List Cone) (ps : List Pattern) → i + length cs ≡ length ds → T (rises_from i (map origin ps))
    → T (all (names_its_cone ds) ps) → cut_patterns (parts_from i row k cs ps) ≡ ps
all-cut ds i row k [] [] e rise named = refl
all-cut ds i row k [] (p ∷ ps) e rise named =
    let least = (simp (and_iff, leb_iff) at rise).0 in
    let most = (simp (and_iff, ltb_iff) at named).0.0.0 in
    absurd (omega arith)
all-cut ds i row k (c ∷ cs) [] e rise named = all-cut ds (suc i) (row + row_count c) k cs [] (omega arith) tt tt
all-cut ds i row k (c ∷ cs) (p ∷ ps) e rise named =
    pick (eqb p.orig_index i) refl (λ k' qs. all-cut ds (suc i) (row + row_count c) k' cs qs (omega arith))
  where
    least : (i ≤ p.orig_index) × T (rises_from (suc p.orig_index) (map origin ps))
    least = let h = (and_iff (leb i p.orig_index) (rises_from (suc p.orig_index) (map origin ps))).0 rise in ((leb_iff i p.orig_index).0 h.0, h.1)

    pick : (b : Bool) → eqb p.orig_index i ≡ b
        → ((k' : ℕ) (qs : List Pattern) → T (rises_from (suc i) (map origin qs)) → T (all (names_its_cone ds) qs)
        → cut_patterns (parts_from (suc i) (row + row_count c) k' cs qs) ≡ qs)
        → cut_patterns (cond b (cut i row k p) (whole i c row) ∷ parts_from (suc i) (row + row_count c) (cond b (suc k) k) cs (cond b ps (p ∷ ps))) ≡ p ∷ ps
    pick true q rest =
        let same : p.orig_index ≡ i = eqb→eq p.orig_index i (subst T (sym q) tt) in
        ap (λ (qs : List Pattern). p ∷ qs)
        (rest (suc k) ps (subst (λ (o : ℕ). T (rises_from (suc o) (map origin ps))) same least.1) ((and_iff (names_its_cone ds p) (all (names_its_cone ds) ps)).0 named).1)
    pick false q rest =
        let other = eqb-false p.orig_index i q in
        rest k (p ∷ ps)
        ((and_iff (leb (suc i) p.orig_index) (rises_from (suc p.orig_index) (map origin ps))).1 (le→leb (suc i) p.orig_index (omega (arith, least.0, other)), least.1))
        named

pub sound-counts : {m : ℕ} {cones : List ℕ} {count : ℕ} {words : List ℕ} → Sound m cones count words
    → let ps = patterns count words in
    let xs = joined_parts cones count words in
    (block_row_count xs + sum (map pattern_row_count ps) ≡ m + sum (map block_rows ps)) × (overlap_count xs ≡ sum (map overlap_rows ps))
    × (cone_count xs + count ≡ length (records cones) + sum (map clique_count ps))
sound-counts {m} {cones} {count} {words} h =
    let ps = patterns count words in
    let xs = joined_parts cones count words in
    let same : cut_patterns xs ≡ ps =
    all-cut (records cones) 0 0 0 (records cones) ps (omega arith) (subst T (rises_start (map origin ps)) (sound_rise h)) (sound_names h) in
    let many : length ps ≡ count = (words_of_patterns count words (sound-ends h)).1 in
    let (rows, overlaps, cliques) = cut_sums xs in
    let total = sound-total h in (
      omega (arith, rows, total, ap (λ (qs : List Pattern). sum (map pattern_row_count qs)) same, ap (λ (qs : List Pattern). sum (map block_rows qs)) same),
      overlaps ∙ ap (λ (qs : List Pattern). sum (map overlap_rows qs)) same,
      omega (arith, cliques, many, parts-count 0 0 0 (records cones) ps, ap length same, ap (λ (qs : List Pattern). sum (map clique_count qs)) same),
    )

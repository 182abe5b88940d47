-- Decomposed cones have few enough rows for the table of counts.
use Prim.Native.Nat.{ℕ, zero, suc, ◌≤◌}
use native.Mathlib.Nat.{le_trans}
use native.Mathlib.Omega.{arith}
use mathlib.Core.Path.{◌≡◌, refl, ap, sym, subst}
use mathlib.Core.Logic.{⊎_elim}
use mathlib.Core.Bool.{Bool, true, false, cond, not, ◌||◌}
use mathlib.Core.List.{List, [], ◌∷◌}
use lib.ListN.{get_or, replicate, length-replicate}
use lib.Dec.{T, leb, eqb}
use Rattle.layout.specs.General.Lists.{all}
use Rattle.layout.specs.General.Triangle.{triangle}
use Rattle.layout.specs.Problems.Cones.{Cone, records}
use Rattle.layout.specs.Problems.Patterns.{Pattern, no_pattern}
use Rattle.layout.specs.Rows.Blocks.{Part, whole, cut, parts_from}
use Rattle.layout.specs.Checks.{no_cone}
use Rattle.layout.proofs.Lists.Tests.{and_iff, or_iff, not_iff, leb_iff, ltb_iff, eqb_iff}
use Rattle.layout.proofs.Lists.Members.{all-at}
use Rattle.layout.proofs.Numbers.Triangles.{triangle_mono}
use Rattle.join_rows.specs.Counts.{side_few, sides_few, RowsWithin, CountsCones}

-- 4,096 counts are enough if there are at most 4,096 rows in all, or if each PSD cone's side is at most 90
within : (m : ℕ) (cones : List ℕ) → T (leb m 4096 || sides_few cones) → RowsWithin 4096 m cones
within m cones h p named fits few =
    ⊎_elim (λ all-few. omega (arith, (leb_iff m 4096).0 all-few)) each ((or_iff (leb m 4096) (sides_few cones)).0 h)
  where
    each : T (sides_few cones) → triangle p.vertex_count ≤ 4096
    each sides =
        let is = simp (and_iff, eqb_iff, ltb_iff) at named in
        let c : Cone = get_or (records cones) p.orig_index no_cone in
        let side : T (side_few c.kind c.first) = (all-at no_cone (λ c. side_few c.kind c.first) (records cones)).0 sides p.orig_index is.0.0 in
        ⊎_elim (λ no. absurd ((not_iff (eqb c.kind 6)).0 no ((eqb_iff c.kind 6).1 is.0.1)))
        (λ yes. omega (arith, triangle_mono p.vertex_count 90 (omega (arith, (leb_iff c.first 90).0 yes, is.1))))
        ((or_iff (not (eqb c.kind 6)) (leb c.first 90)).0 side)

all-zero : (k o : ℕ) → get_or (replicate {A = ℕ} k 0) o 0 ≡ 0
all-zero zero o = refl
all-zero (suc k) zero = refl
all-zero (suc k) (suc o) = all-zero k o

-- a fresh table of k counts is long enough for cones of at most k rows, and all its counts are 0
fresh : (k m : ℕ) (cones : List ℕ) → RowsWithin k m cones → CountsCones true m cones (replicate k 0)
fresh k m cones h = (λ p named fits few. subst (λ (n : ℕ). triangle p.vertex_count ≤ n) (sym (length-replicate {A = ℕ} k 0)) (h p named fits few), all-zero k)

-- 256 counts are enough if there are at most 256 rows in all
pub counts-few : (standard : Bool) (m : ℕ) (cones : List ℕ) → T (not standard || leb m 256) → CountsCones standard m cones (replicate 256 0)
counts-few true m cones h = fresh 256 m cones (λ p named fits few. le_trans fits ((leb_iff m 256).0 h))
counts-few false m cones h = tt

pub counts_some : (standard : Bool) (m : ℕ) (cones : List ℕ) → T (leb m 4096 || sides_few cones) → CountsCones standard m cones (replicate 4096 0)
counts_some true m cones h = fresh 4096 m cones (within m cones h)
counts_some false m cones h = tt

-- 32,896 counts are enough for any cone that a pattern may decompose
pub counts-many : (standard : Bool) (m : ℕ) (cones : List ℕ) → CountsCones standard m cones (replicate 32896 0)
counts-many true m cones = fresh 32896 m cones (λ p named fits few. triangle_mono p.vertex_count 256 few)
counts-many false m cones = tt

-- ---- the pattern of a decomposed part is one of the patterns

abbrev is_cut_part : Part → Bool
is_cut_part (whole i c row) = false
is_cut_part (cut i row k p) = true

abbrev pattern_in : Part → Pattern
pattern_in (whole i c row) = no_pattern
pattern_in (cut i row k p) = p

abbrev first_or : Part → List Part → Part
first_or d [] = d
first_or d (x ∷ xs) = x

pub cut-passes : (f : Pattern → Bool) (i row k : ℕ) (cs : List Cone) (ps : List Pattern) (j r q : ℕ) (p : Pattern) (rest : List Part)
    → parts_from i row k cs ps ≡ cut j r q p ∷ rest → T (all f ps) → T (f p)
cut-passes f i row k [] ps j r q p rest e h =
    absurd (subst (λ (xs : List Part). T (is_cut_part (first_or (whole 0 no_cone 0) xs))) (sym e) tt)
cut-passes f i row k (c ∷ cs) [] j r q p rest e h =
    absurd (subst (λ (xs : List Part). T (is_cut_part (first_or (whole 0 no_cone 0) xs))) (sym e) tt)
cut-passes f i row k (c ∷ cs) (a ∷ ps) j r q p rest e h = go (eqb a.orig_index i) (ap (first_or (whole 0 no_cone 0)) e)
  where
    go : (b : Bool) → cond b (cut i row k a) (whole i c row) ≡ cut j r q p → T (f p)
    go true g = subst (λ (x : Pattern). T (f x)) (ap pattern_in g) ((and_iff (f a) (all f ps)).0 h).0
    go false g = absurd (subst (λ (x : Part). T (is_cut_part x)) (sym g) tt)

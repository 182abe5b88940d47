-- Check 10 and the output sizes from counts, for a route number and for a problem that the route accepts.
use Prim.Native.Nat.{ℕ, suc, ◌+◌, ◌*◌, ◌≤◌, ◌<◌}
use native.Mathlib.Nat.{le_of_eq}
use native.Mathlib.Numerals.{add-one}
use native.Mathlib.Omega.{arith}
use mathlib.Core.Path.{◌≡◌, refl, ap, sym, ◌∙◌}
use mathlib.Core.Bool.{false}
use mathlib.Core.List.{List, [], ◌∷◌}
use lib.ListN.{length}
use lib.Dec.{T, leb}
use borrow.Author.Tests.{lt-leb}
use Rattle.layout.specs.Problems.Problem.{Problem, Route, standard, compact}
use Rattle.layout.specs.Rows.Blocks.{Part, block_row_count, overlap_count, cone_count}
use Rattle.layout.specs.Checks.{layout, check10, refusal}
use Rattle.layout.specs.Calls.Cut.{sizes}
use Rattle.layout.proofs.Lists.Tests.{and_iff, leb_iff}
use Rattle.layout.proofs.Checks.Accepted.{accepted_checked}
use Rattle.layout.proofs.Columns.Columns.{right_A}
use Rattle.layout.proofs.Columns.Sizes.{compact_sizes, compact_sizes_lem, standard_sizes, standard_sizes_lem}
use Rattle.csc.proofs.Runs.{sums-count, count-few}
use Rattle.chordal_info.specs.Sizes.{rows_fit, output_lengths, entries_kept, route_sizes}

-- ---- check 10 and the sizes of a problem

pub rows_fit_lem : (route : Route) (m : ℕ) (ps : List Part) → rows_fit route m (block_row_count ps) (overlap_count ps) ≡ check10 route m ps
rows_fit_lem standard m ps = refl
rows_fit_lem compact m ps = refl

pub route_sizes_lem : (route : Route) (p : Problem) → refusal route p ≡ 0
    → let ps = layout p in
    sizes route p ≡ route_sizes route p.n p.m (length p.P.values) (entries_kept route p.n p.A.starts p.A.rows) (length p.alphas)
    (block_row_count ps) (overlap_count ps) (cone_count ps)
route_sizes_lem standard p ok =
    standard_sizes_lem p ok
    ∙ ap (λ (a : ℕ). standard_sizes p.n p.m (length p.P.values) a (length p.alphas) (layout p)) (sym (right_A standard p ok).even)
route_sizes_lem compact p ok =
    compact_sizes_lem p ok
    ∙ ap (λ (a : ℕ). compact_sizes p.n (length p.P.values) a (length p.alphas) (layout p)) (sums-count p.n p.A (right_A compact p ok))

-- the entries of A that a route keeps are at most 262144
pub entries-few : (route : Route) (p : Problem) → refusal route p ≡ 0 → entries_kept route p.n p.A.starts p.A.rows ≤ 262144
entries-few standard p ok = omega (arith, (right_A standard p ok).even, (accepted_checked standard p ok).few_entries_a)
entries-few compact p ok =
    let right = right_A compact p ok in
    omega (arith, (count-few p.A.starts p.A.rows (le_of_eq (sym right.count), λ c l. (right.rise c l, right.inside (suc c) l)) p.n (omega arith)).1, right.even, (accepted_checked compact p ok).few_entries_a)

-- ---- bounds from check 10

pub rows_few : (route : Route) (m rows overlaps : ℕ) → T (rows_fit route m rows overlaps) → rows ≤ 262144
rows_few standard m rows overlaps h = omega (arith, (leb_iff (m + rows) 262144).0 h)
rows_few compact m rows overlaps h = (leb_iff rows 262144).0 ((and_iff (leb rows 262144) (leb overlaps 131072)).0 h).0

pub rows-many : (route : Route) (m rows overlaps : ℕ) → 262144 < rows → rows_fit route m rows overlaps ≡ false
rows-many standard m rows overlaps h = lt-leb (m + rows) 262144 (omega arith)
rows-many compact m rows overlaps h = rw (lt-leb rows 262144 h)

-- ---- the lengths as the code computes them

module _ (n m p a α rows overlaps cones : ℕ) {added b cone_words map_words : ℕ} where
  pub lengths_standard : {route : Route} → route ≡ standard → added ≡ rows → b ≡ rows + m → cone_words ≡ 3 * cones + 3 → map_words ≡ 0
      → output_lengths (n + added) p (a + 2 * added) b cone_words α map_words ≡ route_sizes route n m p a α rows overlaps cones
  lengths_standard r e f g h =
      let f' : b ≡ m + rows = omega arith in
      let g' : cone_words ≡ 3 * suc cones = omega arith in
      rw (r, e, f', g', h)

  pub lengths_compact : {route : Route} → route ≡ compact → added ≡ overlaps → b ≡ rows → cone_words ≡ 3 * cones → map_words ≡ 5 * cones
      → output_lengths (n + added) p (a + 2 * added) b cone_words α map_words ≡ route_sizes route n m p a α rows overlaps cones
  lengths_compact r e f g h = rw (r, e, f, g, h)

pub lengths-listed : (columns p a b cone_words α map_words : ℕ)
    → ((columns + 1) ∷ p ∷ p ∷ columns ∷ (columns + 1) ∷ a ∷ a ∷ b ∷ cone_words ∷ α ∷ map_words ∷ []) ≡ output_lengths columns p a b cone_words α map_words
lengths-listed columns p a b cone_words α map_words =
    ap (λ (k : ℕ). k ∷ p ∷ p ∷ columns ∷ k ∷ a ∷ a ∷ b ∷ cone_words ∷ α ∷ map_words ∷ []) (add-one columns)

-- The number of overlap rows: a clique's block has one for each pair of its separator.
use Prim.Native.Nat.{ℕ, ◌+◌, ◌<◌}
use native.Mathlib.Omega.{arith}
use mathlib.Core.Path.{◌≡◌, refl, sym, ap, ◌∙◌}
use mathlib.Core.Logic.Iff
use mathlib.Core.Logic.{inr}
use mathlib.Core.Bool.{Bool, true, false, cond}
use mathlib.Core.List.{List, [], ◌∷◌, map, reverse}
use lib.ListN.{length, length-map}
use Rattle.layout.specs.General.Lists.{has, keep, sum, up_from, below}
use Rattle.layout.specs.General.Triangle.{triangle}
use Rattle.layout.specs.Problems.Problem.{Problem, Route}
use Rattle.layout.specs.Problems.Cones.{records, row_count}
use Rattle.layout.specs.Problems.Patterns.{Pattern, Clique, patterns, clique_at, clique_count, members, no_clique}
use Rattle.layout.specs.Rows.Blocks.{Pair, pair, kept, owned, overlap, is_overlap, originals, block, in_separator, row_of, pattern_rows, block_rows, Part, whole, cut, parts, rows_from, compact_rows, overlap_count}
use Rattle.layout.specs.Checks.{Sound, refusal, layout, RightPattern, Laid}
use Rattle.layout.proofs.Lists.Members.{has-keep, has-up_from}
use Rattle.layout.proofs.Lists.Distinct.{distinct-keep, same_length}
use Rattle.layout.proofs.Lists.Counting.{count_if, count_map, count_same, count_none, count-append, count-join}
use Rattle.layout.proofs.Lists.Joins.{sum-down, map_same, map-drop}
use Rattle.layout.proofs.Patterns.Pairs.{count-pairs, both_pass}
use Rattle.layout.proofs.Patterns.Tree.{in_iff, cliques-right}
use Rattle.layout.proofs.Patterns.Originals.{original, has-originals, has-sorted, sorted-distinct, originals-distinct}
use Rattle.layout.proofs.Patterns.Cliques.{clique_vertices, clique-vertices, separator-vertices}
use Rattle.layout.proofs.Rows.Rows.{clique_rows}
use Rattle.layout.proofs.Checks.Accepted.{accepted-sound}
use Rattle.layout.proofs.Rows.Laid.{sound-laid}

-- whether w is an original vertex of clique c's separator
abbrev among : Pattern → ℕ → ℕ → Bool
among p c w = has w (originals p (clique_at p c).separator)

chosen_row : (b : Bool) (o r : ℕ) → is_overlap (cond b (overlap o r) (owned o)) ≡ b
chosen_row true o r = refl
chosen_row false o r = refl

row-overlap : (p : Pattern) (base first c : ℕ) (x : Pair) → is_overlap (row_of p base first c x) ≡ both_pass (among p c) x
row-overlap p base first c (pair i j) = chosen_row (in_separator p c (pair i j)) _ _

module _ (p : Pattern) (h : RightPattern p) where
  separator-count : (c : ℕ) → c < clique_count p → count_if (among p c) (clique_vertices p c) ≡ length (clique_at p c).separator
  separator-count c l =
      let us = (clique_at p c).separator in
      let inner = separator-vertices p h c l in
      same_length (keep (among p c) (clique_vertices p c)) (originals p us)
      (distinct-keep (among p c) (clique_vertices p c) (sorted-distinct p (members (clique_at p c))))
      (originals-distinct p h.ordered us inner ((cliques-right p h.cliques).distinct_separator c l))
      (λ w. Iff.trans (has-keep (among p c) w (clique_vertices p c)) (
        λ k. k.1,
        λ k.
            let (u, hu, e) = (has-originals p us w).0 k in (
              (has-sorted p h.ordered (members (clique_at p c)) (clique-vertices p h c l) w).1
                  ((has-originals p (members (clique_at p c)) w).1 (u, (in_iff p c u).1 (inr hu), e)),
              k,
            ),
      ))
      ∙ length-map us (original p)

  clique-overlaps : (base first c : ℕ) → c < clique_count p
      → count_if is_overlap (clique_rows p base first c) ≡ triangle (length (clique_at p c).separator)
  clique-overlaps base first c l =
      count_map is_overlap (row_of p base first c) (block p c)
      ∙ count_same (λ x. is_overlap (row_of p base first c x)) (both_pass (among p c)) (block p c) (row-overlap p base first c)
      ∙ count-pairs (among p c) (clique_vertices p c)
      ∙ ap triangle (separator-count c l)

  pattern_overlaps : (base first : ℕ)
      → count_if is_overlap (pattern_rows p base first) ≡ sum (map (λ q. triangle (length q.separator)) p.cliques)
  pattern_overlaps base first =
      let size : Clique → ℕ = λ q. triangle (length q.separator) in
      let overlaps : ℕ → ℕ = λ c. count_if is_overlap (clique_rows p base first c) in
      count-join is_overlap (clique_rows p base first) (reverse (below (clique_count p)))
      ∙ sum-down overlaps (clique_count p)
      ∙ ap sum (map_same overlaps (λ c. size (clique_at p c)) (below (clique_count p))
      (λ c k. clique-overlaps base first c (omega (arith, (has-up_from c 0 (clique_count p)).0 k)))
      ∙ sym (map-drop size no_clique p.cliques 0 (clique_count p) (omega arith)))

laid-overlaps : (first row : ℕ) (ps : List Part) → Laid row ps → count_if is_overlap (rows_from first ps) ≡ overlap_count ps
laid-overlaps first row [] h = refl
laid-overlaps first row (whole i c r ∷ ps) h =
    omega (
      arith,
      count-append is_overlap (map kept (up_from r (row_count c))) (rows_from (first + row_count c) ps),
      count_map is_overlap kept (up_from r (row_count c)),
      count_none (up_from r (row_count c)),
      laid-overlaps (first + row_count c) (row + row_count c) ps h.1,
    )
laid-overlaps first row (cut i r k p ∷ ps) h =
    omega (
      arith,
      count-append is_overlap (pattern_rows p r first) (rows_from (first + block_rows p) ps),
      pattern_overlaps p h.1 r first,
      laid-overlaps (first + block_rows p) (row + triangle p.vertex_count) ps h.2,
    )

pub sound-overlaps : {m : ℕ} {cones : List ℕ} {count : ℕ} {words : List ℕ} → Sound m cones count words
    → let ps = parts (records cones) (patterns count words) in
    count_if is_overlap (compact_rows ps) ≡ overlap_count ps
sound-overlaps {m} {cones} {count} {words} h = laid-overlaps 0 0 (parts (records cones) (patterns count words)) (sound-laid h).0

-- an accepted problem has as many overlap rows as `overlapCount` says
pub accepted-overlaps : (route : Route) (p : Problem) → refusal route p ≡ 0
    → count_if is_overlap (compact_rows (layout p)) ≡ overlap_count (layout p)
accepted-overlaps route p e = sound-overlaps (accepted-sound route p e)

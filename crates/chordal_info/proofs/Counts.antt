-- Bounds on the counts of a problem's blocks: no more overlaps than block rows, and no more new cones than block rows plus original cones.
use Prim.Native.Nat.{ℕ, suc, ◌+◌, ◌≤◌, ◌<◌}
use native.Mathlib.Omega.{arith}
use mathlib.Core.Path.{◌≡◌, sym, subst}
use mathlib.Core.List.{List, [], ◌∷◌, map}
use lib.ListN.{length, get_or}
use lib.Dec.{T, leb}
use Rattle.layout.specs.General.Lists.{all, sum}
use Rattle.layout.specs.General.Triangle.{triangle}
use Rattle.layout.specs.Problems.Problem.{Problem, Route}
use Rattle.layout.specs.Problems.Cones.{records, row_count}
use Rattle.layout.specs.Problems.Patterns.{Clique, block_size, no_clique, patterns}
use Rattle.layout.specs.Rows.Blocks.{Part, whole, cut, parts, part_rows, part_overlaps, block_row_count, overlap_count, cone_count}
use Rattle.layout.specs.Checks.{Sound, sizes_bounded, layout, checks, refusal, Laid}
use Rattle.layout.proofs.Lists.Tests.{and_iff, leb_iff}
use Rattle.layout.proofs.Numbers.Triangles.{triangle_mono}
use Rattle.layout.proofs.Patterns.Tree.{cliques-right}
use Rattle.layout.proofs.Rows.Laid.{sound-laid, parts-count}
use Rattle.layout.proofs.Checks.Order.{passed}
use Rattle.layout.proofs.Checks.Accepted.{accepted_checked}
use Rattle.chordal_info.specs.Sizes.{entries_kept, Fitting}
use Rattle.chordal_info.proofs.Sizes.{rows_fit_lem, entries-few}

-- ---- overlaps

clique-overlaps : (cs : List Clique) → sum (map (λ c. triangle (length c.separator)) cs) ≤ sum (map (λ c. triangle (block_size c)) cs)
clique-overlaps [] = omega arith
clique-overlaps (c ∷ cs) = omega (arith, clique-overlaps cs, triangle_mono (length c.separator) (block_size c) (omega arith))

part-overlaps : (x : Part) → part_overlaps x ≤ part_rows x
part-overlaps (whole i c row) = omega arith
part-overlaps (cut i row k p) = clique-overlaps p.cliques

pub overlaps-few : (ps : List Part) → overlap_count ps ≤ block_row_count ps
overlaps-few [] = omega arith
overlaps-few (x ∷ ps) = omega (arith, part-overlaps x, overlaps-few ps)

-- ---- cones

-- there are no more cliques than block rows, as each block has at least one row
clique-rows : (cs : List Clique) → ((c : ℕ) → c < length cs → ¬ (length (get_or cs c no_clique).snode ≡ 0))
    → length cs ≤ sum (map (λ c. triangle (block_size c)) cs)
clique-rows [] h = omega arith
clique-rows (c ∷ cs) h =
    omega (arith, h 0 (omega arith), triangle_mono 1 (block_size c) (omega (arith, h 0 (omega arith))), clique-rows cs (λ d l. h (suc d) (omega arith)))

cones-few : (row : ℕ) (ps : List Part) → Laid row ps → cone_count ps ≤ length ps + block_row_count ps
cones-few row [] h = omega arith
cones-few row (whole i c r ∷ ps) h = omega (arith, cones-few (row + row_count c) ps h.1)
cones-few row (cut i r k p ∷ ps) h =
    omega (arith, clique-rows p.cliques (cliques-right p h.1.cliques).nonempty, cones-few (row + triangle p.vertex_count) ps h.2)

sound-cones : {m : ℕ} {cones : List ℕ} {count : ℕ} {words : List ℕ} → Sound m cones count words
    → let ps = parts (records cones) (patterns count words) in cone_count ps ≤ 1024 + block_row_count ps
sound-cones {m} {cones} {count} {words} h =
    let ps = parts (records cones) (patterns count words) in
    omega (
      arith,
      cones-few 0 ps (sound-laid h).0,
      parts-count 0 0 0 (records cones) (patterns count words),
      (leb_iff (length (records cones)) 1024).0 ((and_iff (leb (length (records cones)) 1024) (all sizes_bounded (records cones))).0 h.bounded).0,
    )

-- ---- the counts of an accepted problem are within their bounds

pub accepted_fitting : (route : Route) (p : Problem) → refusal route p ≡ 0
    → let ps = layout p in
    Fitting route p.n p.m (entries_kept route p.n p.A.starts p.A.rows) (block_row_count ps) (overlap_count ps) (cone_count ps)
accepted_fitting route p ok =
    let ps = layout p in
    let h = accepted_checked route p ok in
    (h.few_columns, entries-few route p ok, subst T (sym (rows_fit_lem route p.m ps)) (passed 10 (checks route p) tt ok), overlaps-few ps, sound-cones h.sound)

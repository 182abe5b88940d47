-- The refusal number of `count_sizes` from checks 1 to 7, the route's checks and the output length, bounds on the counts of an accepted problem.
use Prim.Native.Nat.{ℕ, ◌≤◌}
use mathlib.Core.Path.{◌≡◌, sym, ap, subst, ◌∙◌}
use mathlib.Core.Bool.{Bool}
use mathlib.Core.List.{List, [], ◌∷◌}
use lib.ListN.{length}
use Rattle.layout.specs.General.Lists.{written}
use Rattle.layout.specs.Problems.Problem.{Problem, Route, standard, compact}
use Rattle.layout.specs.Rows.Blocks.{Part, block_row_count, overlap_count, cone_count}
use Rattle.layout.specs.Checks.{layout, check10, check, first_failing, refusal}
use Rattle.layout.specs.Calls.Answers.{or_else, room_refusal, route_of, on_route, problem_refusal}
use Rattle.layout.specs.Calls.Join.{added_count}
use Rattle.layout.specs.Calls.Sizes.{sizes_refusal, Sizes}
use Rattle.layout.specs.Calls.Cut.{sizes}
use Rattle.check_problem.proofs.Order.{problem_then_route, first-given}
use Rattle.chordal_info.specs.Sizes.{entries_kept, Fitting, route_sizes}
use Rattle.chordal_info.specs.Routes.{route_tests}
use Rattle.chordal_info.proofs.Routes.{entries-check}
use Rattle.chordal_info.proofs.Sizes.{route_sizes_lem}
use Rattle.chordal_info.proofs.Counts.{accepted_fitting}
use Rattle.std.specs.Prelude.{Result, Ok, Err, IfOk}
use Rattle.constants.specs.declared.refusal.Refusal.{Refusal}
use Rattle.constants.specs.Refusals.{refusal_of}
use Rattle.decomp.specs.Adds.{columns_added, Adds}
use Rattle.decomp.specs.declared.Added.{Added}
use Rattle.decomp.proofs.Answers.{on_route_lem}

-- the first failing one of checks 9 and 10, or 0
abbrev later : Route → Problem → ℕ
later route p = first_failing (route_tests route p.m p.A.rows p.b (layout p))

in_order : (route : Route) (p : Problem) → refusal route p ≡ or_else (problem_refusal p) (later route p)
in_order route p =
    problem_then_route route p
    ∙ ap (λ (t : Bool). or_else (problem_refusal p) (first_failing (check 9 t ∷ check 10 (check10 route p.m (layout p)) ∷ []))) (entries-check route p)

refused_late : (route : Route) (p : Problem) → problem_refusal p ≡ 0 → refusal route p ≡ later route p
refused_late route p e = in_order route p ∙ ap (λ (k : ℕ). or_else k (later route p)) e

module _ (k : ℕ) (p : Problem) (room : ℕ) (l : k ≤ 1) where
  stopped : (x : ℕ) → refusal (route_of k) p ≡ x → (x ≡ 0 → ⊥) → x ≡ on_route k (λ rt. sizes_refusal rt p room)
  stopped x e h =
      sym (on_route_lem k (λ rt. sizes_refusal rt p room) l ∙ ap (λ (r : ℕ). or_else r (room_refusal 11 room)) e ∙ first-given x (room_refusal 11 room) h)

  -- one of checks 1 to 7 fails
  pub stopped_early : (x : ℕ) → x ≡ problem_refusal p → (x ≡ 0 → ⊥) → x ≡ on_route k (λ rt. sizes_refusal rt p room)
  stopped_early x e h =
      stopped x (in_order (route_of k) p ∙ first-given (problem_refusal p) (later (route_of k) p) (λ z. h (e ∙ z)) ∙ sym e) h

  -- check 9 or 10 fails
  pub stopped_late : (x : ℕ) → problem_refusal p ≡ 0 → x ≡ later (route_of k) p → (x ≡ 0 → ⊥) → x ≡ on_route k (λ rt. sizes_refusal rt p room)
  stopped_late x z e h = stopped x (refused_late (route_of k) p z ∙ sym e) h

  -- none of them fails
  pub by-room : refusal (route_of k) p ≡ 0 → on_route k (λ rt. sizes_refusal rt p room) ≡ room_refusal 11 room
  by-room e = on_route_lem k (λ rt. sizes_refusal rt p room) l ∙ ap (λ (r : ℕ). or_else r (room_refusal 11 room)) e

pub accepted : (route : Route) (p : Problem) (x : ℕ) → problem_refusal p ≡ 0 → x ≡ later route p → x ≡ 0 → refusal route p ≡ 0
accepted route p x z e h = refused_late route p z ∙ sym e ∙ h

-- bounds on the counts of block rows, overlaps and new cones
module _ (route : Route) (p : Problem) (ok : refusal route p ≡ 0) (rows overlaps cones : ℕ)
    (e : rows ≡ block_row_count (layout p)) (f : overlaps ≡ overlap_count (layout p)) (g : cones ≡ cone_count (layout p)) where
  pub counts_fit : Fitting route p.n p.m (entries_kept route p.n p.A.starts p.A.rows) rows overlaps cones
  counts_fit = rw (e, f, g) (accepted_fitting route p ok)

  counts-sizes : route_sizes route p.n p.m (length p.P.values) (entries_kept route p.n p.A.starts p.A.rows) (length p.alphas) rows overlaps cones ≡ sizes route p
  counts-sizes = rw (e, f, g) (sym (route_sizes_lem route p ok))

  pub sizes-written : {new : List ℕ} (old : List ℕ)
      → new ≡ written (route_sizes route p.n p.m (length p.P.values) (entries_kept route p.n p.A.starts p.A.rows) (length p.alphas) rows overlaps cones) old
      → new ≡ written (sizes route p) old
  sizes-written old w = w ∙ ap (λ (l : List ℕ). written l old) counts-sizes

-- the promise of a number is that of an equal one
pub sizes_said : {k : ℕ} {p : Problem} {before after : List ℕ} {x r : ℕ} → r ≡ x → Sizes k p before after x → Sizes k p before after r
sizes_said {k} {p} {before} {after} e h = subst (Sizes k p before after) (sym e) h

-- a refusal is handed on without counts
pub handed_on : {k : ℕ} {p : Problem} {before after : List ℕ} {x : ℕ} (r : Result Added Refusal) → refusal_of r ≡ x → (x ≡ 0 → ⊥)
    → Sizes k p before after x → Sizes k p before after (refusal_of r) × IfOk r (Adds (route_of k) (layout p))
handed_on (Ok c) e n h = absurd (n (sym e))
handed_on (Err f) e n h = (sizes_said e h, tt)

-- the columns that a route adds to a problem with these parts
pub columns_added_lem : (route : Route) (ps : List Part) {rows overlaps : ℕ} → rows ≡ block_row_count ps → overlaps ≡ overlap_count ps
    → columns_added route rows overlaps ≡ added_count route ps
columns_added_lem standard ps e f = e
columns_added_lem compact ps e f = f

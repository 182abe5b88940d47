-- What holds for a cut that is not refused: the problem is accepted, and the outputs are as long as the writers require; and what they write.
use Prim.Native.Nat.{ℕ, suc, ◌+◌, ◌≤◌, ◌<◌}
use mathlib.Core.Path.{◌≡◌, refl, sym, ap, subst, ◌∙◌}
use mathlib.Core.List.{List}
use lib.ListN.{length, get_or}
use lib.Dec.{T, lit<}
use Rattle.layout.specs.General.Lists.{written}
use Rattle.layout.specs.Problems.Problem.{Problem, Route, standard, compact}
use Rattle.layout.specs.Rows.Blocks.{block_row_count, overlap_count, cone_count}
use Rattle.layout.specs.Checks.{starts_right, layout}
use Rattle.layout.specs.Calls.Cut.{Augmented, lengths, augmented, sizes, Objective, objective_of, HoldsObjective, Constrained, constrained_of, HoldsConstrained}
use Rattle.layout.specs.Calls.Answers.{roomy}
use Rattle.layout.specs.Calls.Join.{added_count, slack_count}
use Rattle.layout.proofs.Checks.Rooms.{room_fits}
use Rattle.layout.proofs.Checks.Accepted.{accepted_checked}
use Rattle.layout.proofs.Promises.{Taken}
use Rattle.chordal_info.specs.Sizes.{entries_kept, route_sizes}
use Rattle.chordal_info.proofs.Sizes.{route_sizes_lem}
use Rattle.augment_standard.specs.Constraints.{constraints, Accepted}
use Rattle.cut_standard.specs.Fits.{extended, ObjectiveFits, ConstrainedFits}
use Rattle.cut_standard.proofs.Laws.{rooms_P}

-- ---- what a cut writes depends only on the added columns and on A, b, cones and patterns

module _ (p : Problem) where
  abbrev pub only : Problem
  only = constraints p.n p.m p.A.starts p.A.rows p.A.values p.b p.cones p.pattern_count p.pattern_words

  abbrev pub uncut : Objective
  uncut = record { P = p.P; q = p.q; alphas = p.alphas }

  by-added : (route : Route) → extended (added_count route (layout p)) uncut ≡ objective_of (augmented route p)
  by-added standard = refl
  by-added compact = refl

  pub objective-cut : (route : Route) (k : ℕ) → k ≡ added_count route (layout p) → {before after : Objective}
      → HoldsObjective 0 (extended k uncut) before after → HoldsObjective 0 (objective_of (augmented route p)) before after
  objective-cut route k e {before} {after} h =
      subst (λ (o : Objective). HoldsObjective 0 o before after) (ap (λ (j : ℕ). extended j uncut) e ∙ by-added route) h

  pub constrained-cut : (route : Route) {before after : Constrained}
      → HoldsConstrained 0 (constrained_of (augmented route only)) before after → HoldsConstrained 0 (constrained_of (augmented route p)) before after
  constrained-cut standard h = h
  constrained-cut compact h = h

  pub map-cut : (route : Route) (before : List ℕ) {after : List ℕ} → after ≡ written (augmented route only).map before → after ≡ written (augmented route p).map before
  map-cut standard before h = h
  map-cut compact before h = h

-- ---- the lengths of the eleven outputs

module _ (p : Problem) (rooms : List ℕ) where
  abbrev room : ℕ → ℕ
  room i = get_or rooms i 0

  -- the required lengths of the outputs, computed from the counts
  abbrev counts : Route → List ℕ
  counts route =
      route_sizes route p.n p.m (length p.P.values) (entries_kept route p.n p.A.starts p.A.rows) (length p.alphas) (block_row_count (layout p))
      (overlap_count (layout p)) (cone_count (layout p))

  counted : (route : Route) → Taken route p rooms → T (roomy (counts route) rooms)
  counted route ok = subst (λ (ks : List ℕ). T (roomy ks rooms)) (route_sizes_lem route p ok.0) ok.1

  -- the outputs are long enough for k added columns: for P, q and the exponents; and for A, b, the cones and the map
  abbrev pub Rooms : Route → ℕ → Type 0
  Rooms route k =
      ((suc (p.n + k) ≤ room 0) × (length p.P.values ≤ room 1) × (length p.P.values ≤ room 2) × (p.n + k ≤ room 3) × (length p.alphas ≤ room 9))
      × ((suc (p.n + k) ≤ room 4) × (length (augmented route (only p)).A.rows ≤ room 5) × (length (augmented route (only p)).A.values ≤ room 6)
      × (slack_count route p.m (layout p) ≤ room 7) × (length (augmented route (only p)).cones ≤ room 8) × (length (augmented route (only p)).map ≤ room 10))

  by-counts : (route : Route) → Taken route p rooms → Rooms route (added_count route (layout p))
  by-counts standard ok =
      let f : (i : ℕ) → i < 11 → get_or (counts standard) i 0 ≤ room i = λ i l. room_fits (counts standard) rooms i (counted standard ok) l in
      let g : (i : ℕ) → i < 11 → get_or (sizes standard p) i 0 ≤ room i = λ i l. room_fits (sizes standard p) rooms i ok.1 l in
      ((f 0 (lit< tt), f 1 (lit< tt), f 2 (lit< tt), f 3 (lit< tt), f 9 (lit< tt)), (f 4 (lit< tt), g 5 (lit< tt), g 6 (lit< tt), f 7 (lit< tt), g 8 (lit< tt), g 10 (lit< tt)))
  by-counts compact ok =
      let f : (i : ℕ) → i < 11 → get_or (counts compact) i 0 ≤ room i = λ i l. room_fits (counts compact) rooms i (counted compact ok) l in
      let g : (i : ℕ) → i < 11 → get_or (sizes compact p) i 0 ≤ room i = λ i l. room_fits (sizes compact p) rooms i ok.1 l in
      ((f 0 (lit< tt), f 1 (lit< tt), f 2 (lit< tt), f 3 (lit< tt), f 9 (lit< tt)), (f 4 (lit< tt), g 5 (lit< tt), g 6 (lit< tt), f 7 (lit< tt), g 8 (lit< tt), g 10 (lit< tt)))

  module _ (route : Route) (ok : Taken route p rooms) (k : ℕ) (e : k ≡ added_count route (layout p)) where
    pub on_route_lem : Rooms route k
    on_route_lem = subst (Rooms route) (sym e) (by-counts route ok)

    pub accepted-constraints : Accepted route (only p)
    accepted-constraints = record { P = p.P; q = p.q; alphas = p.alphas; accepted = ok.0 }

    pub objective_asked : T (starts_right p.n p.P)
        × ((length p.P.starts + k ≤ room 0) × (length p.P.rows ≤ room 1) × (length p.P.values ≤ room 2) × (length p.q + k ≤ room 3) × (length p.alphas ≤ room 9))
    objective_asked = ((accepted_checked route p ok.0).starts_p, rooms_P route p ok.0 k (room 0) (room 1) (room 2) (room 3) (room 9) on_route_lem.0)

-- the preconditions of the writers on the outputs
module _ (p : Problem) (out : Augmented) (route : Route) (ok : Taken route p (lengths out)) (k : ℕ) (e : k ≡ added_count route (layout p)) where
  pub objective-fits : ObjectiveFits p.n k (uncut p) (objective_of out)
  objective-fits =
      let h = objective_asked p (lengths out) route ok k e in
      record { right = h.0; starts = h.1.0; rows = h.1.1; values = h.1.2; costs = h.1.3; alphas = h.1.4 }

  pub constrained-fits : ConstrainedFits route (only p) k (constrained_of out)
  constrained-fits =
      let room = (on_route_lem p (lengths out) route ok k e).1 in
      record { accepted = accepted-constraints p (lengths out) route ok k e; added = e; starts = room.0; rows = room.1; values = room.2; slacks = room.3; cones = room.4 }

  pub map-fits : length (augmented route (only p)).map ≤ length out.map
  map-fits = (on_route_lem p (lengths out) route ok k e).1.5

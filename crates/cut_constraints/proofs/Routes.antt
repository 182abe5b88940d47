-- A route given by its number: the preconditions and results of the writers on each.
use Prim.Native.Nat.{ℕ, ◌≤◌}
use native.Mathlib.Omega.{arith}
use mathlib.Core.Path.{◌≡◌, refl, sym, subst, ◌∙◌}
use mathlib.Core.List.{List, []}
use lib.ListN.{length}
use Rattle.layout.specs.General.Lists.{written}
use Rattle.layout.specs.Problems.Problem.{Problem, Route, with_b, compact}
use Rattle.layout.specs.Rows.Blocks.{block_row_count}
use Rattle.layout.specs.Checks.{layout}
use Rattle.layout.specs.Calls.Cut.{augmented, Constrained, constrained_of, HoldsConstrained}
use Rattle.augment_standard.specs.Constraints.{Accepted}
use Rattle.cut_standard.specs.Fits.{ConstrainedFits}
use Rattle.cut_compact.specs.System.{SystemFits}
use Rattle.cut_compact.proofs.Laws.{few-rows}

-- a precondition for a route holds for an equal one
pub fits_on : {p : Problem} {k : ℕ} {out : Constrained} {route other : Route} → route ≡ other → ConstrainedFits route p k out → ConstrainedFits other p k out
fits_on {p} {k} {out} e h = subst (λ (r : Route). ConstrainedFits r p k out) e h

module _ (p : Problem) {route other : Route} (e : route ≡ other) where
  -- on the compact route there are at most 262144 block rows
  pub few_on : {k : ℕ} {out : Constrained} → other ≡ compact → ConstrainedFits route p k out → block_row_count (layout p) ≤ 262144
  few_on c h = few-rows (subst (λ (r : Route). Accepted r p) (e ∙ c) h.accepted) refl

  -- the map output is long enough, and what was written
  pub map-fits_on : (room : ℕ) → length (augmented route p).map ≤ room → length (augmented other p).map ≤ room
  map-fits_on room h = subst (λ (r : Route). length (augmented r p).map ≤ room) e h

  pub constrained_on : {before after : Constrained} → HoldsConstrained 0 (constrained_of (augmented other p)) before after → HoldsConstrained 0 (constrained_of (augmented route p)) before after
  constrained_on {before} {after} h = subst (λ (r : Route). HoldsConstrained 0 (constrained_of (augmented r p)) before after) (sym e) h

  pub map_on : {after : List ℕ} (before : List ℕ) → after ≡ written (augmented other p).map before → after ≡ written (augmented route p).map before
  map_on {after} before h = subst (λ (r : Route). after ≡ written (augmented r p).map before) (sym e) h

-- the outputs are long enough for A of the compact cut, whatever the right sides
pub system-fits : {p : Problem} {k rows : ℕ} {out : Constrained} → ConstrainedFits compact p k out → rows ≡ block_row_count (layout p)
    → SystemFits (with_b p []) rows k out.A
system-fits {p} f e = record {
  b = p.b;
  accepted = f.accepted;
  blocks = e;
  overlaps = f.added;
  starts = let room = f.starts in omega (arith, room);
  entries = f.rows;
  values = f.values;
}

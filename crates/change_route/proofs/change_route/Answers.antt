use Prim.Native.Nat.{ℕ, ◌+◌, ◌≤◌}
use native.Mathlib.Omega.{arith}
use mathlib.Core.Path.{◌≡◌, sym, ap, subst, ◌∙◌}
use mathlib.Core.List.{List, [], ◌∷◌, ◌++◌}
use lib.ListN.{length, take, replicate}
use Rattle.layout.specs.General.Lists.{written}
use Rattle.layout.specs.General.Floats.{zero64}
use Rattle.layout.specs.Problems.Problem.{Solution, solution}
use Rattle.layout.specs.Calls.Join.{joined_parts, rejoined}
use Rattle.layout.specs.Calls.ChangeRoute.{change_refusal, ChangeRoute}
use Rattle.layout.proofs.Promises.{rejoined-kept}
use Rattle.constants.specs.Refusals.{number}
use Rattle.constants.proofs.Answers.{passed_on, number_positive}
use Rattle.chordal_info.proofs.Counts.{overlaps-few}
use Rattle.change_route.proofs.Order.{columns_few, refused_early, refused_late, Accepted, change_accepted}
use Rattle.change_route.proofs.change_route.Goals as goal
use Rattle.change_route.proofs.change_route.Goals.{Start, In_ok-refuse_counted}

module _ (s : Start) where
  abbrev given : Solution
  given = let a = s.args in solution a.x.now a.s.now a.z.now a.tau a.kappa

  abbrev rooms : List ℕ
  rooms = let a = s.args in length a.x_out.now ∷ length a.s_out.now ∷ length a.z_out.now ∷ length a.scalars_out.now ∷ []

  abbrev refused : ℕ
  refused = let a = s.args in change_refusal a.n a.m a.cones.now a.count a.words.now given rooms

  -- a call that returns a number above 0 keeps its outputs
  kept : {r e : ℕ} → r ≡ e → (e ≡ 0 → ⊥) → e ≡ refused → let a = s.args in
      let same = rejoined a.x_out.now a.s_out.now a.z_out.now a.scalars_out.now in
      ChangeRoute a.n a.m a.cones.now a.count a.words.now given same same r
  kept {r} {e} f some h = record { number = f ∙ h; tables = rejoined-kept r (λ z. some (sym f ∙ z)) _ _ }

-- nothing is refused
module _ (c : In_ok-refuse_counted) where
  abbrev sol : Solution
  sol = let a = c.args in solution a.x.now a.s.now a.z.now a.tau a.kappa

  abbrev lengths : List ℕ
  lengths = let a = c.args in length a.x_out.now ∷ length a.s_out.now ∷ length a.z_out.now ∷ length a.scalars_out.now ∷ []

  none : let a = c.args in 0 ≡ change_refusal a.n a.m a.cones.now a.count a.words.now sol lengths
  none =
      let a = c.args in
      let g = c.in_ok-c.ensures.counts in
      c.in_ok-refuse_counted.ensures
      ∙ refused_late a.n a.m a.cones.now a.count a.words.now sol lengths c.in_ok-c.c.rows c.in_ok-c.c.overlaps (g.0, g.1) (sym c.in_ok-c.ensures.refusal_value)

  accepted : let a = c.args in
      Accepted a.n a.m a.cones.now a.count a.words.now sol (length a.x_out.now) (length a.s_out.now) (length a.z_out.now) (length a.scalars_out.now)
  accepted =
      let a = c.args in
      change_accepted a.n a.m a.cones.now a.count a.words.now sol (length a.x_out.now) (length a.s_out.now) (length a.z_out.now) (length a.scalars_out.now) (sym none)

pub returns-in_err-c : goal.returns-in_err-c
returns-in_err-c c =
    let s = (goal.at.returns-in_err-c c).Start in
    let a = c.args in
    let e = c.in_err-c.field-0.0 in
    let some = number_positive e in
    let refuses : number e ≡ 0 → ⊥ = λ z. omega (arith, some, z) in
    kept s (passed_on c.from_residual.result e c.from_residual.ensures) refuses
    (refused_early a.n a.m a.cones.now a.count a.words.now (given s) (rooms s) (number e) c.in_err-c.ensures.refusal_value refuses)

pub refuse_counted-requires : goal.refuse_counted-requires
refuse_counted-requires c =
    let a = c.args in
    let g = c.in_ok-c.ensures.counts in (
      columns_few a.n a.m a.cones.now a.count a.words.now (sym c.in_ok-c.ensures.refusal_value),
      omega (arith, overlaps-few (joined_parts a.cones.now a.count a.words.now), g.0, g.1),
    )

pub returns-in_err-refuse_counted : goal.returns-in_err-refuse_counted
returns-in_err-refuse_counted c =
    let s = (goal.at.returns-in_err-refuse_counted c).Start in
    let a = c.args in
    let e = c.in_err-refuse_counted.field-0.0 in
    let r = c.from_residual-in_err-refuse_counted in
    let some = number_positive e in
    let g = c.in_ok-c.ensures.counts in
    kept s (passed_on r.result e r.ensures) (λ z. omega (arith, some, z))
    (c.in_err-refuse_counted.ensures
    ∙ refused_late a.n a.m a.cones.now a.count a.words.now (given s) (rooms s) c.in_ok-c.c.rows c.in_ok-c.c.overlaps (g.0, g.1) (sym c.in_ok-c.ensures.refusal_value))

pub change_x-requires : goal.change_x-requires
change_x-requires c =
    let g = accepted (goal.at.change_x-requires c).In_ok-refuse_counted in
    let a = c.args in
    (g.columns, subst (λ (k : ℕ). a.n + k ≤ length a.x_out.now) (sym c.in_ok-c.ensures.counts.1) g.room_x)

pub change_slacks-requires : goal.change_slacks-requires
change_slacks-requires c =
    let g = accepted (goal.at.change_slacks-requires c).In_ok-refuse_counted in
    record { sound = g.sound; words_in_bounds = (g.slacks, g.duals); words_in_bounds_2 = (g.room_s, g.room_z) }

pub write_scalars-requires : goal.write_scalars-requires
write_scalars-requires c = (accepted (goal.at.write_scalars-requires c).In_ok-refuse_counted).room_scalars

pub returns : goal.returns
returns c =
    let a = c.args in record {
      number = none (goal.at.returns c).In_ok-refuse_counted;
      tables = record {
        x =
            c.change_x.ensures
            ∙ ap (λ (k : ℕ). written (take a.n a.x.now ++ replicate k zero64) a.x_out.now) c.in_ok-c.ensures.counts.1;
        s = c.change_slacks.ensures.s_out_after;
        z = c.change_slacks.ensures.z_out_after;
        scalars = c.write_scalars.ensures;
      };
    }

use Prim.Native.Nat.{ℕ, ◌≤◌}
use native.Mathlib.Omega.{arith}
use mathlib.Core.Path.{◌≡◌, refl, sym, ap, subst, ◌∙◌}
use mathlib.Core.List.{List, [], ◌∷◌}
use lib.ListN.{length}
use lib.Ieee.{Float, nan, fits, binary64}
use Rattle.layout.specs.General.Lists.{written}
use Rattle.layout.specs.Problems.Problem.{Route, Solution, solution}
use Rattle.layout.specs.Calls.Answers.{route_of, on_route}
use Rattle.layout.specs.Calls.Join.{join_refusal, rejoined, Join}
use Rattle.layout.proofs.Lists.Members.{all-at}
use Rattle.layout.proofs.Promises.{rejoined-kept}
use Rattle.constants.specs.Refusals.{number}
use Rattle.constants.proofs.Answers.{passed_on, number_positive}
use Rattle.join_rows.specs.Joined.{Joinable, joined_of}
use Rattle.decomp.proofs.Answers.{no_route, on_route_lem}
use Rattle.join_on_route.specs.Fits.{refusal_by}
use Rattle.join_on_route.proofs.Order.{Accepted, as_layout, join-accepted, joined-parts, joined-scalars, by_number, tells}
use Rattle.join_on_route.proofs.join.Goals as goal
use Rattle.join_on_route.proofs.join.Goals.{Start}

module _ (s : Start) where
  abbrev given : Solution
  given = let a = s.args in solution a.x.now a.s.now a.z.now a.tau a.kappa

  abbrev rooms : List ℕ
  rooms = let a = s.args in length a.x_out.now ∷ length a.s_out.now ∷ length a.z_out.now ∷ length a.scalars_out.now ∷ []

  -- the refusal number on a route
  abbrev refused : Route → ℕ
  refused rt = let a = s.args in join_refusal rt a.n a.m a.cones.now a.count a.words.now given a.map.now rooms

  -- what the checks return is the number of the route
  answered : {r : ℕ} → let a = s.args in
      r ≡ refusal_by (route_of a.route) a.n a.m a.cones.now a.count a.words.now (length a.x.now) (length a.s.now) (length a.z.now) a.map.now rooms
      → a.route ≤ 1 → r ≡ on_route a.route refused
  answered e h =
      let a = s.args in
      e ∙ as_layout (route_of a.route) a.n a.m a.cones.now a.count a.words.now given a.map.now rooms ∙ sym (on_route_lem a.route refused h)

  accepted : on_route s.args.route refused ≡ 0 → s.args.route ≤ 1 → let a = s.args in
      Accepted (route_of a.route) a.n a.m a.cones.now a.count a.words.now given a.map.now (length a.x_out.now) (length a.s_out.now) (length a.z_out.now) (length a.scalars_out.now)
  accepted e h =
      let a = s.args in
      join-accepted (route_of a.route) a.n a.m a.cones.now a.count a.words.now given a.map.now (length a.x_out.now) (length a.s_out.now) (length a.z_out.now) (length a.scalars_out.now)
      (sym (on_route_lem a.route refused h) ∙ e)

pub returns-then-route-gt-COMPACT : goal.returns-then-route-gt-COMPACT
returns-then-route-gt-COMPACT c = record {
  number = sym (no_route _ _ c.if-route-gt-COMPACT.true);
  tables = record { x = refl; s = refl; z = refl; scalars = refl };
  doubles = (all-at nan (fits binary64) c.args.s.now).1 (λ i l. c.type_inv.s i);
}

pub returns-in_err-refuse_join : goal.returns-in_err-refuse_join
returns-in_err-refuse_join c =
    let s = (goal.at.returns-in_err-refuse_join c).Start in
    let a = c.args in
    let e = c.in_err-refuse_join.field-0.0 in
    let some = number_positive e in
    let same = rejoined a.x_out.now a.s_out.now a.z_out.now a.scalars_out.now in
    subst (λ (r : ℕ). Join a.route a.n a.m a.cones.now a.count a.words.now (given s) a.map.now same same r)
    (sym (passed_on c.from_residual.result e c.from_residual.ensures)) (record {
      number = answered s c.in_err-refuse_join.ensures c.if-route-gt-COMPACT.false;
      tables = rejoined-kept (number e) (λ z. omega (arith, some, z)) _ _;
      doubles = (all-at nan (fits binary64) c.args.s.now).1 (λ i l. c.type_inv.s i);
    })

pub copy_x-requires : goal.copy_x-requires
copy_x-requires c =
    let s = (goal.at.copy_x-requires c).Start in
    let g = accepted s (sym (answered s c.in_ok-refuse_join.ensures c.if-route-gt-COMPACT.false)) c.if-route-gt-COMPACT.false in
    (g.columns, g.room_x)

pub decomp_reverse-requires : goal.decomp_reverse-requires
decomp_reverse-requires c =
    let s = (goal.at.decomp_reverse-requires c).Start in
    let a = c.args in
    let g = accepted s (sym (answered s c.in_ok-refuse_join.ensures c.if-route-gt-COMPACT.false)) c.if-route-gt-COMPACT.false in record {
      joinable = subst (λ (rt : Route). Joinable rt a.m a.cones.now a.count a.words.now a.s.now a.z.now) (sym (by_number a.route)) g.joinable;
      m_in_bounds = (g.room_s, g.room_z);
      starts = tells a.route a.m a.cones.now a.count a.words.now a.map.now g.map_is;
    }

pub write_scalars-requires : goal.write_scalars-requires
write_scalars-requires c =
    let s = (goal.at.write_scalars-requires c).Start in
    (accepted s (sym (answered s c.in_ok-refuse_join.ensures c.if-route-gt-COMPACT.false)) c.if-route-gt-COMPACT.false).room_scalars

pub returns : goal.returns
returns c =
    let s = (goal.at.returns c).Start in
    let a = c.args in
    let rt = route_of a.route in
    let on : Route → Solution = λ r. joined_of r a.m a.cones.now a.count a.words.now a.s.now a.z.now in
    let put : (old xs ys : List Float) → xs ≡ ys → written xs old ≡ written ys old = λ old xs ys e. ap (λ (l : List Float). written l old) e in
    let j = c.joined in
    let d = c.decomp_reverse.ensures in
    let parts = joined-parts a.n a.m a.cones.now a.count a.words.now a.x.now a.s.now a.z.now a.tau a.kappa rt in
    let scalars =
    joined-scalars a.n a.m a.cones.now a.count a.words.now a.x.now a.s.now a.z.now a.tau a.kappa rt
    j.result.tau j.result.kappa j.ensures.0 j.ensures.1 in record {
      number = answered s c.in_ok-refuse_join.ensures c.if-route-gt-COMPACT.false;
      tables = record {
        x = c.copy_x.ensures ∙ put a.x_out.now _ _ parts.0;
        s = d.s_out_after ∙ put a.s_out.now _ _ (ap (λ (r : Route). (on r).s) (by_number a.route) ∙ parts.1);
        z = d.z_out_after ∙ put a.z_out.now _ _ (ap (λ (r : Route). (on r).z) (by_number a.route) ∙ parts.2);
        scalars = c.write_scalars.ensures ∙ put a.scalars_out.now _ _ scalars;
      };
      doubles = (all-at nan (fits binary64) c.args.s.now).1 (λ i l. c.type_inv.s i);
    }

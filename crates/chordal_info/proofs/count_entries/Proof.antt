use Prim.Native.Nat.{ℕ}
use native.Mathlib.Omega.{arith}
use mathlib.Core.Path.{sym, ap, ◌∙◌}
use borrow.Author.Rules.{rules}
use Rattle.layout.specs.Problems.Problem.{Route}
use Rattle.layout.proofs.Checks.Routes.{route_standard, route_compact}
use Rattle.csc.proofs.Runs.{count-few}
use Rattle.chordal_info.specs.Sizes.{entries_kept}
use Rattle.chordal_info.proofs.count_entries.Statement.{statement}
use Rattle.chordal_info.proofs.count_entries.Tie as tie

-- the number of entries that a route keeps
abbrev kept : tie.Start → Route → ℕ
kept s route = entries_kept route s.args.n s.args.starts.now s.args.rows.now

cast-result : tie.Need-overflow_cast-result
cast-result c = search rules

returns : tie.Need-returns-then-route-eq-STANDARD
returns c = let s = c.before.before.before in sym (ap (kept s) (route_standard s.args.route c.if-route-eq-STANDARD.true))

count-all-runs-requires : tie.Need-count_all_runs-requires
count-all-runs-requires c κs = search rules

cast-result-2 : tie.Need-overflow_cast-result-2
cast-result-2 c =
    let s = c.before.before.before.before in
    omega (arith, c.count_all_runs.ensures, (count-few s.args.starts.now s.args.rows.now s.requires.0 s.args.n (omega arith)).1, s.requires.1)

returns-2 : tie.Need-returns
returns-2 c =
    let s = c.before.before.before.before in
    c.count_all_runs.ensures ∙ sym (ap (kept s) (route_compact s.args.route c.if-route-eq-STANDARD.false))

pub count_entries_spec : {M : Type 1} → statement M
count_entries_spec =
    tie.close
    (tie.spec
    cast-result
    returns
    count-all-runs-requires
    cast-result-2
    returns-2)

use Prim.Native.Nat.{suc, ◌≤◌}
use native.Mathlib.Nat.{le_of_eq, le_trans}
use native.Mathlib.Omega.{arith}
use mathlib.Core.Path.{◌≡◌, refl, sym, ◌∙◌}
use lib.ListN.{length}
use lib.Dec.{ltb, lit≤}
use borrow.Author.Tests.{le-leb, lt-leb}
use Rattle.layout.specs.General.Lists.{all, below, never_falls}
use Rattle.layout.specs.Problems.Problem.{Problem}
use Rattle.layout.specs.Checks.{Checked, column_rows, layout, refusal}
use Rattle.layout.specs.Calls.Answers.{route_of}
use Rattle.layout.proofs.Lists.Tests.{and_iff}
use Rattle.layout.proofs.Checks.Accepted.{fits-u32, problem_checked}
use Rattle.layout.proofs.Columns.Columns.{starts-right}
use Rattle.layout.proofs.Promises.{output-kept}
use Rattle.constants.specs.Refusals.{number}
use Rattle.constants.proofs.Answers.{passed_on, number_positive}
use Rattle.problemdata.specs.Tables.{problem_of}
use Rattle.decomp.proofs.Answers.{no_route, few-alphas}
use Rattle.decomp.proofs.Refusals.{stopped_early, stopped_late, by-room, accepted, counts_fit, sizes-written, sizes_said, columns_added_lem}
use Rattle.decomp.proofs.count_sizes.Goals as goal
use Rattle.decomp.proofs.count_sizes.Goals.{Start, In_ok-c, In_ok-check_blocks}

abbrev given : Start → Problem
given s = problem_of s.args.problem.now

pub returns-then-route-gt-COMPACT-clause-fact : goal.returns-then-route-gt-COMPACT-clause-fact
returns-then-route-gt-COMPACT-clause-fact c = record { number = sym (no_route _ _ c.if-route-gt-COMPACT.true); out = refl }

pub returns-in_err-c-clause-fact : goal.returns-in_err-c-clause-fact
returns-in_err-c-clause-fact c =
    let p = given (goal.at.returns-in_err-c-clause-fact c).Start in
    let e = c.in_err-c.field-0.0 in
    let some = number_positive e in
    sizes_said (passed_on c.from_residual.result e c.from_residual.ensures) (record {
      number = stopped_early c.args.route p (length c.args.out.now) c.if-route-gt-COMPACT.false (number e) c.in_err-c.ensures.refusal_value (λ z. omega (arith, some, z));
      out = output-kept (number e) _ c.args.out.now (λ z. omega (arith, some, z));
    })

-- checks 1 to 7 pass
checked : (c : In_ok-c) → Checked (problem_of c.args.problem.now)
checked c = problem_checked (problem_of c.args.problem.now) (sym c.in_ok-c.ensures.refusal_value)

pub check_blocks-requires : goal.check_blocks-requires
check_blocks-requires c =
    let k = (goal.at.check_blocks-requires c).In_ok-c in
    let p = problem_of c.args.problem.now in
    let w = checked k in
    let g = c.in_ok-c.ensures.counts in record {
      sound = w.sound;
      t = (((and_iff (all (λ r. ltb r p.m) p.A.rows) (all (λ k. never_falls (column_rows p.A k)) (below p.n))).0 w.rows_a).0, w.length_b);
      counted = (g.0, g.1);
    }

pub returns-in_err-check_blocks-clause-fact : goal.returns-in_err-check_blocks-clause-fact
returns-in_err-check_blocks-clause-fact c =
    let p = problem_of c.args.problem.now in
    let e = c.in_err-check_blocks.field-0.0 in
    let r = c.from_residual-in_err-check_blocks in
    let some = number_positive e in
    sizes_said (passed_on r.result e r.ensures) (record {
      number = stopped_late c.args.route p (length c.args.out.now) c.if-route-gt-COMPACT.false (number e) (sym c.in_ok-c.ensures.refusal_value) c.in_err-check_blocks.ensures (λ z. omega (arith, some, z));
      out = output-kept (number e) _ c.args.out.now (λ z. omega (arith, some, z));
    })

ok : (c : In_ok-check_blocks) → refusal (route_of c.args.route) (problem_of c.args.problem.now) ≡ 0
ok c =
    accepted (route_of c.args.route) (problem_of c.args.problem.now) 0 (sym c.in_ok-c.ensures.refusal_value) c.in_ok-check_blocks.ensures refl

pub returns-then-out-lt-OUTPUTS-clause-fact : goal.returns-then-out-lt-OUTPUTS-clause-fact
returns-then-out-lt-OUTPUTS-clause-fact c =
    let k = (goal.at.returns-then-out-lt-OUTPUTS-clause-fact c).In_ok-check_blocks in
    record {
      number = sym (by-room c.args.route (problem_of c.args.problem.now) (length c.args.out.now) c.if-route-gt-COMPACT.false (ok k) ∙ rw (lt-leb 11 (length c.args.out.now) c.if-out-lt-OUTPUTS.true));
      out = refl;
    }

pub overflow_cast-p_entries : goal.overflow_cast-p_entries
overflow_cast-p_entries c = fits-u32 _ (checked (goal.at.overflow_cast-p_entries c).In_ok-c).few_entries_p

pub count_entries-a_entries-requires : goal.count_entries-a_entries-requires
count_entries-a_entries-requires c =
    let w = checked (goal.at.count_entries-a_entries-requires c).In_ok-c in
    let p = problem_of c.args.problem.now in
    let right = starts-right p.n p.A w.starts_a in
    ((le_of_eq (sym right.count), λ k l. (right.rise k l, right.inside (suc k) l)), omega (arith, right.even, w.few_entries_a))

pub overflow_cast-alpha_count : goal.overflow_cast-alpha_count
overflow_cast-alpha_count c =
    fits-u32 _ (le_trans (few-alphas (problem_of c.args.problem.now) (checked (goal.at.overflow_cast-alpha_count c).In_ok-c)) (lit≤ tt))

pub write_sizes-requires : goal.write_sizes-requires
write_sizes-requires c =
    let k = (goal.at.write_sizes-requires c).In_ok-check_blocks in
    let r = c.in_ok-c.c in
    let g = c.in_ok-c.ensures.counts in record {
      in_bounds = c.if-out-lt-OUTPUTS.false;
      fitting = rw c.count_entries-a_entries.ensures (counts_fit (route_of c.args.route) (problem_of c.args.problem.now) (ok k) r.rows r.overlaps r.cones g.0 g.1 g.2);
    }

pub returns : goal.returns
returns c =
    let k = (goal.at.returns c).In_ok-check_blocks in
    let p = problem_of c.args.problem.now in
    let r = c.in_ok-c.c in
    let g = c.in_ok-c.ensures.counts in
    let d = c.with_columns.ensures in record {
      fact = record {
        number = sym (by-room c.args.route p (length c.args.out.now) c.if-route-gt-COMPACT.false (ok k) ∙ rw (le-leb 11 (length c.args.out.now) c.if-out-lt-OUTPUTS.false));
        out = sizes-written (route_of c.args.route) p (ok k) r.rows r.overlaps r.cones g.0 g.1 g.2 c.args.out.now (rw c.count_entries-a_entries.ensures at c.write_sizes.ensures);
      };
      adds = (d.0 ∙ g.0, d.1 ∙ columns_added_lem (route_of c.args.route) (layout p) g.0 g.1);
    }

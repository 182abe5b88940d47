use Rattle.utils.proofs.Scattered.{scattered-inverse, distinct-below}
use Rattle.inverse_permutation.proofs.Inverted.{refused_order, refused-room, unwritten, placed}
use Rattle.layout.proofs.Lists.Tests.{passes}
use Rattle.layout.proofs.Lists.Distinct.{permutation-distinct}
use lib.ListN.{length}
use mathlib.Core.Path.{sym, ◌∙◌}
use native.Mathlib.Omega.{arith}
use Rattle.inverse_permutation.proofs.long_inverse.Goals as goal

pub scatter-requires-clause-words_len_bound : goal.scatter-requires-clause-words_len_bound
scatter-requires-clause-words_len_bound c =
    let p = c.args.p.now in
    distinct-below 4294967296 p (permutation-distinct p (passes _ (sym c.if-not-is_long_permutation.ensures))) (λ i l. omega (arith, c.type_inv.p i))

pub returns-then-not-is_long_permutation : goal.returns-then-not-is_long_permutation
returns-then-not-is_long_permutation c =
    let p = c.args.p.now in
    let old = c.args.out.now in
    let e = c.if-not-is_long_permutation.ensures in record { value = e; out_after = unwritten p old 4 (refused_order p (length old) (sym e)) }

pub returns-then-p-out : goal.returns-then-p-out
returns-then-p-out c =
    let p = c.args.p.now in
    let old = c.args.out.now in
    let e = c.if-not-is_long_permutation.ensures in record {
      value = e;
      out_after = placed p old c.scatter.new.out (sym e) (omega arith) (c.scatter.ensures ∙ scattered-inverse p old (passes _ (sym e)) (omega arith));
    }

pub returns-else-p-out : goal.returns-else-p-out
returns-else-p-out c =
    let p = c.args.p.now in
    let old = c.args.out.now in
    let e = c.if-not-is_long_permutation.ensures in record {
      value = e;
      out_after = unwritten p old 10 (refused-room p (length old) (sym e) (omega arith));
    }

-- Bounds that checks 1 to 7 give on the tables.
use Prim.Native.Nat.{suc}
use native.Mathlib.Nat.{le_of_eq}
use native.Mathlib.Omega.{arith}
use mathlib.Core.Path.{sym}
use lib.ListN.{length}
use lib.Dec.{T, ltb}
use Rattle.layout.specs.General.Lists.{all, below, never_falls}
use Rattle.layout.specs.Problems.Problem.{Problem}
use Rattle.layout.specs.Checks.{Checked, column_rows}
use Rattle.layout.proofs.Lists.Tests.{and_iff}
use Rattle.layout.proofs.Columns.Columns.{starts-right}
use Rattle.decomp.proofs.Answers.{few-alphas}
use Rattle.side_refusals.specs.Tables.{TablesFew}

module _ (p : Problem) (h : Checked p) where
  pub tables-few : TablesFew p.n (length p.P.values) (length p.alphas) p.A.starts p.A.rows
  tables-few =
      let right = starts-right p.n p.A h.starts_a in (
        h.few_entries_p,
        few-alphas p h,
        (le_of_eq (sym right.count), λ k l. (right.rise k l, right.inside (suc k) l)),
        omega (arith, right.even, h.few_entries_a),
      )

  pub rows-below : T (all (λ r. ltb r p.m) p.A.rows)
  rows-below = ((and_iff (all (λ r. ltb r p.m) p.A.rows) (all (λ k. never_falls (column_rows p.A k)) (below p.n))).0 h.rows_a).0

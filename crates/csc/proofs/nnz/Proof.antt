use native.Mathlib.Omega.{arith}
use mathlib.Core.Path.{◌∙◌}
use borrow.Author.Rules.{rules}
use Rattle.layout.proofs.Columns.Columns.{RightStarts, starts-right}
use Rattle.csc.specs.Matrix.{matrix}
use Rattle.csc.proofs.nnz.Statement.{statement}
use Rattle.csc.proofs.nnz.Tie as tie

right : (c : tie.Start) → RightStarts c.args.n (matrix c.args.starts.now c.args.rows.now c.args.values.now)
right c = starts-right c.args.n (matrix c.args.starts.now c.args.rows.now c.args.values.now) c.requires

mul-result : tie.Need-offset_bounds-starts-n
mul-result c = search rules

shared-slice-read-result : tie.Need-bounds-starts-n
shared-slice-read-result c = omega (arith, right c.before)

returns : tie.Need-returns
returns c = (right c.before).last ∙ (right c.before).even

pub nnz_spec : {M : Type 1} → statement M
nnz_spec =
    tie.close
    (tie.spec
    mul-result
    shared-slice-read-result
    returns)

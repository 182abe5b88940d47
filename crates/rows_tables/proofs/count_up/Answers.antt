use Prim.Native.Nat.{ℕ, ◌+◌}
use mathlib.Core.Path.{ap, ◌∙◌}
use mathlib.Core.List.{List}
use lib.ListN.{set, length-set}
use Rattle.rows_tables.proofs.Laws.{count_more}
use native.Mathlib.Omega.{arith}
use Rattle.rows_tables.proofs.count_up.Goals as goal

pub loop-i-preserved : goal.loop-i-preserved
loop-i-preserved c = (
  simp length-set c.loop-i.invariant.0,
  ap (λ (o : List ℕ). set o c.loop-i.i (c.args.first + c.loop-i.i)) c.loop-i.invariant.1
      ∙ count_more c.args.out.now c.args.first c.loop-i.i (omega arith),
)

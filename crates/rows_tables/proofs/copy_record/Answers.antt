use Prim.Native.Nat.{ℕ, ◌+◌, ◌-◌, ◌*◌}
use native.Mathlib.Omega.{arith}
use mathlib.Core.Path.{◌≡◌, ap, ◌∙◌}
use mathlib.Core.List.{List, ◌++◌}
use lib.ListN.{take, drop}
use Rattle.rows_tables.proofs.Laws.{words_of}
use Rattle.rows_tables.proofs.copy_record.Goals as goal

pub returns-clause-out_after : goal.returns-clause-out_after
returns-clause-out_after c =
    let at : ℕ = c.args.i * 3 in
    let three : at + 3 - at ≡ 3 = omega arith in
    ap (λ (ws : List ℕ). ws ++ drop 3 c.args.out.now)
    (c.copy_from_slice.ensures.after ∙ ap (λ (n : ℕ). take n (drop at c.args.cones.now)) three ∙ words_of c.args.cones.now c.args.i c.requires.0)

use Prim.Native.Nat.{◌+◌, ◌*◌, ◌≤◌}
use native.Mathlib.Omega.{arith}
use mathlib.Core.Path.{sym, ap, ◌∙◌}
use mathlib.Core.List.{List, map}
use lib.ListN.{length, length-map}
use lib.Ieee.{Float}
use Rattle.layout.specs.General.Lists.{written, part}
use Rattle.layout.proofs.Lists.Buffers.{written_after}
use Rattle.sparsevector.specs.Values.{code_value}
use Rattle.sparsevector.specs.Sides.{moved_sides}
use Rattle.sparsevector.proofs.Sides.{moved_more, length_moved, run_ends}
use Rattle.sparsevector.proofs.move_sides.Goals as goal

pub loop-k-preserved : goal.loop-k-preserved
loop-k-preserved c =
    let a = c.args in
    let k = c.loop-k.k in
    let codes = a.codes.now in
    let done = moved_sides a.m codes a.sides.now k in
    let next = map (code_value (part (k * a.m) (k * a.m + a.m) a.sides.now)) codes in
    let room : length done + length next ≤ length a.out.now =
    omega (arith, run_ends (length codes) k a.count (length a.out.now) (omega arith) (omega arith), length_moved a.m codes a.sides.now k, length-map codes (code_value (part (k * a.m) (k * a.m + a.m) a.sides.now))) in
    written_after done next a.out.now (k * length codes) (sym (length_moved a.m codes a.sides.now k)) room c.loop-k.invariant c.move_values.ensures
    ∙ ap (λ (xs : List Float). written xs a.out.now) (sym (moved_more a.m codes a.sides.now k))

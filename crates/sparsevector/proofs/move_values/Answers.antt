use Prim.Native.Nat.{ℕ}
use native.Mathlib.Omega.{arith}
use mathlib.Core.Path.{◌≡◌, sym, ◌∙◌}
use mathlib.Core.List.{map}
use lib.ListN.{length, get_or, length-set, length-map}
use lib.Ieee.{Float, nan}
use Rattle.layout.proofs.Lists.Members.{get_or_map}
use Rattle.layout.proofs.Lists.Buffers.{copy_more, copy_done}
use Rattle.sparsevector.specs.Values.{code_value}
use Rattle.sparsevector.proofs.move_values.Goals as goal

pub code_value-requires : goal.code_value-requires
code_value-requires c =
    c.requires.1 c.loop-r.r (omega arith)

pub loop-r-preserved : goal.loop-r-preserved
loop-r-preserved c =
    let a = c.args in
    let codes = a.codes.now in
    let value : ℕ → Float = code_value a.b.now in
    let size : length (map value codes) ≡ length codes = length-map codes value in
    let e : c.code_value.result ≡ get_or (map value codes) c.loop-r.r nan =
    c.code_value.ensures ∙ sym (get_or_map value codes c.loop-r.r 0 nan (omega arith)) in (
      simp length-set c.loop-r.invariant.0,
      rw (c.loop-r.invariant.1, e) (copy_more (map value codes) a.out.now c.loop-r.r nan (omega arith) (omega (arith, c.requires.0))),
    )

pub shape_of-out : goal.shape_of-out
shape_of-out c = c.loop-r.invariant.0

pub returns : goal.returns
returns c =
    let a = c.args in
    let src = map (code_value a.b.now) a.codes.now in
    c.loop-r.invariant.1
    ∙ copy_done src a.out.now c.loop-r.r (omega (arith, length-map a.codes.now (code_value a.b.now), c.loop-r-test.false))

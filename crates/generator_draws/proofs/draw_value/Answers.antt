use Prim.Native.Nat.{ℕ, ◌%◌, ◌<◌, ◌^◌}
use native.Mathlib.Nat.{mod-lt, zero-lt-suc}
use native.Mathlib.Omega.{arith}
use mathlib.Core.Path.{◌≡◌, ap, ◌∙◌}
use lib.Dec.{ltb}
use lib.IntN.{ℤ, pos, ◌-ℤ◌}
use lib.Signed.{mag}
use lib.Ieee.{of_int, binary64}
use mir.Syntax.{w32}
use mir.Val.{SFits, to_z, hbits}
use mir.Facts.{sfits_lit, to_z-of_z, to_z_pos}
use Rattle.layout.specs.General.Lists.{below}
use Rattle.layout.proofs.Lists.Members.{all-has, has-below}
use Rattle.generator_draws.proofs.draw_value.Goals as goal

-- each of the 201 values fits in an i32, by computing all of them
fits : (t : ℕ) → t < 201 → SFits w32 (to_z w32 t -ℤ pos 100)
fits t l = sfits_lit ((all-has (λ k. ltb (mag (to_z w32 k -ℤ pos 100)) (2 ^ hbits w32)) (below 201)).0 tt t ((has-below t 201).1 l))

low : (d : ℕ) → d % 201 < 201
low d = mod-lt d (zero-lt-suc 200)

pub overflow_sub-result : goal.overflow_sub-result
overflow_sub-result c = fits (c.args.d % 201) (low c.args.d)

pub returns : goal.returns
returns c =
    let d = c.args.d in
    let e : to_z w32 (d % 201) ≡ pos (d % 201) = to_z_pos w32 (omega (arith, low d)) in
    ap (of_int binary64) (to_z-of_z (fits (d % 201) (low d)) ∙ ap (λ (z : ℤ). z -ℤ pos 100) e)

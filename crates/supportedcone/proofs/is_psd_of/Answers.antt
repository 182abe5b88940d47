use mathlib.Core.Path.{sym}
use lib.ListN.{get_or}
use Prim.Native.Nat.{◌*◌}
use borrow.Author.Tests.{eq-eqb, ne_eqb}
use Rattle.supportedcone.proofs.Records.{psd_in}
use native.Mathlib.Omega.{arith}
use Rattle.supportedcone.proofs.is_psd_of.Goals as goal

pub returns-then-cones-at-eq-PSD_TRIANGLE : goal.returns-then-cones-at-eq-PSD_TRIANGLE
returns-then-cones-at-eq-PSD_TRIANGLE c =
    let a = c.args in
    let ws = a.cones.now in
    sym (rw (psd_in ws a.i a.v (omega arith), eq-eqb (get_or ws (a.i * 3) 0) 6 c.if-cones-at-eq-PSD_TRIANGLE.true))

pub returns-else-cones-at-eq-PSD_TRIANGLE : goal.returns-else-cones-at-eq-PSD_TRIANGLE
returns-else-cones-at-eq-PSD_TRIANGLE c =
    let a = c.args in
    let ws = a.cones.now in
    sym (rw (psd_in ws a.i a.v (omega arith), ne_eqb (get_or ws (a.i * 3) 0) 6 c.if-cones-at-eq-PSD_TRIANGLE.false))

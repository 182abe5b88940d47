use Rattle.std.proofs.Common.{ℕ, subst, arith}
use Rattle.rows_parent.proofs.Places.{Noted, noted_more, noted_all}
use Rattle.rows_parent.proofs.note_places.Goals as goal

pub loop-i-preserved : goal.loop-i-preserved
loop-i-preserved c =
    noted_more c.args.vertices.now c.loop-i.out c.loop-i.i c.requires.t.0 c.loop-i-test.true (omega (arith, c.requires.t.1 c.loop-i.i c.loop-i-test.true)) c.loop-i.invariant

pub returns : goal.returns
returns c =
    let vs = c.args.vertices.now in
    noted_all vs c.loop-i.out c.requires.t.0 (subst (λ (n : ℕ). Noted vs n c.loop-i.out) (omega arith) c.loop-i.invariant)

use Rattle.std.proofs.Common.{◌≡◌, ◌≤◌, ◌<◌, ◌-◌, ◌+◌, ◌∙◌, ℕ, List, [], ◌∷◌, ◌++◌, length, get_or, take, ap, length-append, length-set, arith}
use lib.Seq.{take_all}
use mathlib.Core.List.{append-nil}
use borrow.Author.Tests.{lt-ltb, le-ltb}
use Rattle.layout.proofs.Lists.Buffers.{two_more}
use Rattle.augment_compact.proofs.Steps.{tied_more, tied_le}
use Rattle.augment_compact.specs.Cut.{tied_rows}
use Rattle.augment_compact.proofs.write_overlap_rows.Goals as goal
use Rattle.augment_compact.proofs.write_overlap_rows.Goals.{then-c-ge-FIRST_OVERLAP, else-c-ge-FIRST_OVERLAP}

-- the two rows that an overlap adds, and the room for them
more : (codes : List ℕ) (r : ℕ) → r < length codes → 65536 ≤ get_or codes r 0
    → tied_rows 0 (take (r + 1) codes) ≡ tied_rows 0 (take r codes) ++ ((get_or codes r 0 - 65536) ∷ r ∷ [])
more codes r l h = rw (le-ltb (get_or codes r 0) 65536 h) at (tied_more codes r l)

room : (codes : List ℕ) (r : ℕ) → r < length codes → 65536 ≤ get_or codes r 0
    → length (tied_rows 0 (take r codes)) + 1 < length (tied_rows 0 codes)
room codes r l h =
    omega (arith, ap length (more codes r l h), length-append (tied_rows 0 (take r codes)) ((get_or codes r 0 - 65536) ∷ r ∷ []), tied_le codes (r + 1))

pub bounds-out-w-then-c-ge-FIRST_OVERLAP : goal.bounds-out-w-then-c-ge-FIRST_OVERLAP
bounds-out-w-then-c-ge-FIRST_OVERLAP c = simp length-set (omega (arith, room c.args.codes.now c.loop-r.r (omega arith) c.if-c-ge-FIRST_OVERLAP.true))

pub bounds-out-w : goal.bounds-out-w
bounds-out-w c = omega (arith, room c.args.codes.now c.loop-r.r (omega arith) c.if-c-ge-FIRST_OVERLAP.true)

pub loop-r-preserved : goal.loop-r-preserved
loop-r-preserved c =
    let codes = c.args.codes.now in
    let r = c.loop-r.r in
    let done = tied_rows 0 (take r codes) in
    elim c.if-c-ge-FIRST_OVERLAP.branch [
      | then-c-ge-FIRST_OVERLAP w ↦
          let e = more codes r (omega arith) w.if-c-ge-FIRST_OVERLAP.true in
          let space = room codes r (omega arith) w.if-c-ge-FIRST_OVERLAP.true in (
            omega (arith, ap length e, length-append done ((get_or codes r 0 - 65536) ∷ r ∷ []), w.w-is),
            w.out-is ∙ rw (c.loop-r.invariant.1, e) (two_more done c.args.out.now (get_or codes r 0 - 65536) r c.loop-r.w c.loop-r.invariant.0 (omega arith)),
          )
      | else-c-ge-FIRST_OVERLAP w ↦
          let e = rw (lt-ltb (get_or codes r 0) 65536 w.if-c-ge-FIRST_OVERLAP.false, append-nil done) at (tied_more codes r (omega arith)) in
          (w.w-is ∙ rw e c.loop-r.invariant.0, w.out-is ∙ rw e c.loop-r.invariant.1)
    ]

pub returns : goal.returns
returns c =
    let e : take c.loop-r.r c.args.codes.now ≡ c.args.codes.now = take_all c.loop-r.r c.args.codes.now (omega arith) in
    rw e at c.loop-r.invariant.1

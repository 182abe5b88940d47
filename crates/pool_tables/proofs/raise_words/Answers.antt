use Prim.Native.Nat.{◌-◌, ◌+◌}
use native.Mathlib.Omega.{arith}
use mathlib.Core.Path.{◌≡◌}
use Rattle.layout.specs.Problems.Patterns.{patterns}
use Rattle.layout.specs.Calls.Pool.{raised_words}
use Rattle.pool_tables.proofs.Words.{raised-length, copy-stands, over_copy, raising_starts, raising_done, pattern_whole, inside, raisable, raising_more}
use Rattle.pool_tables.proofs.raise_words.Goals as goal

pub loop-init : goal.loop-init
loop-init c =
    let a = c.args in
    let e : a.count - 0 ≡ a.count = omega arith in
    rw e (raising_starts a.k a.count a.words.now _ c.requires.words_value c.requires.origins_raisable (copy-stands a.words.now a.out.now c.copy_front.ensures))

pub offset_bounds-words-at : goal.offset_bounds-words-at
offset_bounds-words-at c = omega (arith, inside c.loop.invariant (omega arith))

pub bounds-words-at : goal.bounds-words-at
bounds-words-at c = inside c.loop.invariant (omega arith)

pub overflow_add-out : goal.overflow_add-out
overflow_add-out c = omega (arith, raisable c.loop.invariant (omega arith))

pub offset_bounds-out-at : goal.offset_bounds-out-at
offset_bounds-out-at c = omega (arith, inside c.loop.invariant (omega arith))

pub bounds-out-at : goal.bounds-out-at
bounds-out-at c = omega (arith, inside c.loop.invariant (omega arith), c.requires.words_in_bounds)

pub pattern_next-at-requires : goal.pattern_next-at-requires
pattern_next-at-requires c = pattern_whole c.loop.invariant (omega arith)

pub loop-preserved : goal.loop-preserved
loop-preserved c =
    let e : c.args.count - (c.loop.counter + 1) ≡ c.args.count - c.loop.counter - 1 = omega arith in
    rw e (raising_more c.loop.invariant (omega arith) c.pattern_next-at.result c.pattern_next-at.ensures)

pub returns : goal.returns
returns c =
    let a = c.args in
    over_copy (raised_words a.k (patterns a.count a.words.now)) a.words.now a.out.now c.copy_front.ensures
    (raised-length a.k a.count a.words.now c.requires.words_value) (raising_done c.loop.invariant (omega arith))

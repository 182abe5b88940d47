use Prim.Native.Nat.{ℕ, ◌≤◌, ◌-◌, ◌+◌}
use mathlib.Core.Path.{◌≡◌, refl, ap, sym, ◌∙◌}
use mathlib.Core.List.{List, [], reverse, ◌++◌}
use lib.ListN.{length, take, drop, length-append, drop_of_length-le}
use Rattle.layout.specs.General.Lists.{written, join, below}
use Rattle.layout.proofs.Lists.Members.{length-up_from}
use Rattle.layout.proofs.Lists.Starts.{length-written}
use Rattle.layout.proofs.Lists.Buffers.{written_next, length_tail}
use Rattle.rows_overlaps.specs.Tables.{codes_here}
use Rattle.rows_overlaps.proofs.Codes.{numbers_more, numbers_room}
use native.Mathlib.Omega.{arith}
use Rattle.rows_overlaps.proofs.codes_down.Goals as goal

pub loop-c-init : goal.loop-c-init
loop-c-init c =
    let f = codes_here c.args.base c.args.words.now c.args.ordering.now c.args.offsets.now c.args.starts.now in
    let k = length c.args.offsets.now in
    let e : [] ≡ join f (reverse (drop k (below k))) =
    ap (λ (ns : List ℕ). join f (reverse ns)) (sym (drop_of_length-le (below k) {i = k} (omega (arith, length-up_from 0 k)))) in
    (ap length e, refl, ap (λ (xs : List ℕ). written xs c.args.out.now) e)

pub code_rows-t-requires-clause-c_in_bounds : goal.code_rows-t-requires-clause-c_in_bounds
code_rows-t-requires-clause-c_in_bounds c =
    let f = codes_here c.args.base c.args.words.now c.args.ordering.now c.args.offsets.now c.args.starts.now in
    let K = length c.args.offsets.now in
    let n : ℕ = c.loop-c.c - 1 in
    let q : c.loop-c.c ≡ n + 1 = omega arith in
    omega (arith, length_tail c.loop-c.out c.loop-c.t, ap (λ (m : ℕ). length (join f (reverse (drop m (below K))))) q, numbers_room f K n (omega arith), c.requires.offsets_in_bounds)

pub loop-c-preserved : goal.loop-c-preserved
loop-c-preserved c =
    let old = c.args.out.now in
    let f = codes_here c.args.base c.args.words.now c.args.ordering.now c.args.offsets.now c.args.starts.now in
    let K = length c.args.offsets.now in
    let t = c.loop-c.t in
    let n : ℕ = c.loop-c.c - 1 in
    let k : ℕ = length c.loop-c.out - t in
    let call = c.code_rows-t in
    let q : c.loop-c.c ≡ n + 1 = omega arith in
    let done = join f (reverse (drop c.loop-c.c (below K))) in
    let fits : t + length (f n) ≤ length c.loop-c.out =
    omega (arith, ap (λ (m : ℕ). length (join f (reverse (drop m (below K))))) q, numbers_room f K n (omega arith), c.requires.offsets_in_bounds) in
    let more : join f (reverse (drop n (below K))) ≡ done ++ f n =
    numbers_more f K n (omega arith) ∙ ap (λ (m : ℕ). join f (reverse (drop m (below K))) ++ f n) (sym q) in
    let e : take t c.loop-c.out ++ (call.new.out ++ drop k (drop t c.loop-c.out)) ≡ written (join f (reverse (drop n (below K)))) old =
    written_next done (f n) old c.loop-c.out call.new.out t k c.loop-c.invariant.0 c.loop-c.invariant.2 (omega arith) (omega arith) call.ensures.out_after
    ∙ ap (λ (xs : List ℕ). written xs old) (sym more) in
    let size : t + length (f n) ≡ length (join f (reverse (drop n (below K)))) = omega (arith, ap length more, length-append done (f n)) in (
      omega (arith, call.ensures.value),
      ap length e ∙ length-written (join f (reverse (drop n (below K)))) old (omega arith),
      e,
    )

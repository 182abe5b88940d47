use Prim.Native.Nat.{ℕ, suc, ◌<◌, ◌-◌, ◌+◌}
use native.Mathlib.Numerals.{add-one}
use mathlib.Core.Path.{◌≡◌, ap, sym, ◌∙◌}
use mathlib.Core.List.{List, map}
use lib.ListN.{length, drop, length-set}
use Rattle.layout.specs.General.Lists.{sum}
use Rattle.rows_overlaps.specs.Tables.{size_here}
use Rattle.rows_overlaps.proofs.Starts.{sum_more, sum_room, stored_more}
use native.Mathlib.Omega.{arith}
use Rattle.rows_overlaps.proofs.first_rows.Goals as goal

-- the row after the blocks of the cliques from c on, by the clique before c
row_here : (f : ℕ → ℕ) (first row c : ℕ) (os : List ℕ) → 0 < c → row ≡ first + sum (map f (drop c os)) → row ≡ first + sum (map f (drop (c - 1 + 1) os))
row_here f first row c os h e = let q : c ≡ c - 1 + 1 = omega arith in e ∙ ap (λ (m : ℕ). first + sum (map f (drop m os))) q

pub block_rows-row-requires-clause-at_bound : goal.block_rows-row-requires-clause-at_bound
block_rows-row-requires-clause-at_bound c =
    omega (arith, sum_room (size_here c.args.words.now) c.args.offsets.now (c.loop-c.c - 1) (omega arith), c.requires.offsets_bound)

pub overflow_add-row : goal.overflow_add-row
overflow_add-row c =
    let f = size_here c.args.words.now in
    let os = c.args.offsets.now in
    let row = row_here f c.args.first c.loop-c.row c.loop-c.c os c.loop-c-test.true c.loop-c.invariant.1 in
    omega (arith, row, sum_room f os (c.loop-c.c - 1) (omega arith), c.requires.offsets_bound, c.block_rows-row.ensures)

pub loop-c-preserved : goal.loop-c-preserved
loop-c-preserved c =
    let f = size_here c.args.words.now in
    let first = c.args.first in
    let os = c.args.offsets.now in
    let n : ℕ = c.loop-c.c - 1 in
    let row = row_here f first c.loop-c.row c.loop-c.c os c.loop-c-test.true c.loop-c.invariant.1 in (
      simp length-set c.loop-c.invariant.0,
      omega (arith, row, sum_more f os n (omega arith), c.block_rows-row.ensures),
      stored_more (λ d. first + sum (map f (drop (suc d) os))) c.loop-c.out (length os) n c.loop-c.row (omega arith)
          (sym (row ∙ ap (λ (m : ℕ). first + sum (map f (drop m os))) (add-one n)))
          (λ d m q. c.loop-c.invariant.2 d (omega arith) q),
    )

use Prim.Native.Nat.{ℕ, ◌+◌, ◌*◌, ◌/◌}
use mathlib.Core.Path.{◌≡◌, refl, sym, ap, ◌∙◌}
use lib.ListN.{drop}
use lib.Dec.{eqb}
use borrow.Author.Tests.{not-true, not-false}
use Rattle.layout.specs.Files.File.{aligned, counts_in, table_sizes}
use Rattle.layout.proofs.Files.FileWords.{size_fours}
use Rattle.layout.proofs.Files.FileWalks.{stands_from, tables-short, tables-walk, stands-next, stands_elsewhere, stands_gap, stands-done}
use native.Mathlib.Omega.{arith}
use Rattle.file_shape.proofs.tables_right.Goals as goal

fours : (a k : ℕ) {z : ℕ} → k ≡ z → z ≡ 4 * (z / 4) → aligned a + k ≡ 4 * ((aligned a + k) / 4)
fours a k e h = omega arith

pub returns-then-words-lt-WORDS : goal.returns-then-words-lt-WORDS
returns-then-words-lt-WORDS c = sym (tables-short c.args.words.now c.if-words-lt-WORDS.true)

pub loop-i-init : goal.loop-i-init
loop-i-init c = (refl, omega arith, tables-walk c.args.words.now c.if-words-lt-WORDS.false)

pub returns-then-count_at-up : goal.returns-then-count_at-up
returns-then-count_at-up c =
    let ws = c.args.words.now in
    let ks = table_sizes (counts_in ws) in
    sym (c.loop-i.invariant.2 ∙ stands_elsewhere c.loop-i.a ks ws c.loop-i.i c.loop-i-test.true (λ e. c.if-count_at-up.true (c.count_at.ensures.0 ∙ e)))

pub gap_zero-requires : goal.gap_zero-requires
gap_zero-requires c = (c.loop-i.invariant.0, omega arith)

pub returns-then-not-gap_zero : goal.returns-then-not-gap_zero
returns-then-not-gap_zero c =
    let ws = c.args.words.now in
    let ks = table_sizes (counts_in ws) in
    sym (c.loop-i.invariant.2 ∙ stands_gap c.loop-i.a ks ws c.loop-i.i c.loop-i-test.true (sym c.gap_zero.ensures ∙ not-true c.gap_zero.result c.if-not-gap_zero.true-raw))

pub loop-i-preserved : goal.loop-i-preserved
loop-i-preserved c =
    let ws = c.args.words.now in
    let ks = table_sizes (counts_in ws) in
    let size = c.table_size.ensures.0 in
    let here = sym c.count_at.ensures.0 ∙ c.if-count_at-up.false in
    let zero = sym c.gap_zero.ensures ∙ not-false c.gap_zero.result c.if-not-gap_zero.false-raw in (
      fours c.loop-i.a c.table_size.result size (size_fours (counts_in ws) c.loop-i.i),
      omega (arith, c.table_size.ensures.1),
      c.loop-i.invariant.2 ∙ stands-next c.loop-i.a ks ws c.loop-i.i c.loop-i-test.true here zero
          ∙ ap (λ (k : ℕ). stands_from (aligned c.loop-i.a + k) (drop (c.loop-i.i + 1) ks) (8 + (c.loop-i.i + 1)) ws) (sym size),
    )

pub returns : goal.returns
returns c =
    let ws = c.args.words.now in
    let ks = table_sizes (counts_in ws) in
    ap (λ (k : ℕ). eqb k c.loop-i.a) c.count_at-2.ensures.0 ∙ sym (c.loop-i.invariant.2 ∙ stands-done c.loop-i.a ks ws c.loop-i.i (omega arith))

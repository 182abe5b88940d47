use Prim.Native.Nat.{ℕ, ◌+◌, ◌-◌, ◌≤◌}
use native.Mathlib.Nat.{mul-le-mul_right}
use native.Mathlib.Omega.{arith}
use mathlib.Core.Path.{◌≡◌, sym, ap, ap₂, ◌∙◌}
use mathlib.Core.List.{◌++◌, map, map-append}
use lib.ListN.{length, set, take, length-set}
use Rattle.layout.specs.General.Lists.{sum}
use Rattle.layout.specs.Cuts.Compact.{rows_of, csc}
use Rattle.layout.specs.Calls.Generate.{drawn_value, drawn_column, drawn_columns, after_column, after_columns}
use Rattle.layout.proofs.Lists.Buffers.{set-written, length_tail}
use Rattle.layout.proofs.Columns.Compressed.{values_of}
use Rattle.layout.proofs.Generators.Drawn.{column-length, afters_more}
use Rattle.generator.proofs.Columns.{entries_more, entries-few, starts_more, rows_more, values_more, starts-many, starts_cover, kept-after}
use Rattle.generator.proofs.keep_columns.Goals as goal

pub keep_column-d-requires : goal.keep_column-d-requires
keep_column-d-requires c =
    let a = c.args in
    let l = c.loop-c in
    let up = mul-le-mul_right {m = l.c + 1} {n = a.n} (length a.rows.now) (omega arith) in
    let few = entries-few a.s a.rows.now l.c in (
      omega (arith, up, few, l.invariant.1, c.requires, l.auto.kept_rows, length_tail l.kept_rows l.at),
      omega (arith, up, few, l.invariant.1, c.requires, l.auto.kept, length_tail l.kept l.at),
    )

pub overflow_cast-starts : goal.overflow_cast-starts
overflow_cast-starts c =
    let a = c.args in
    let up = mul-le-mul_right {m = c.loop-c.c + 1} {n = a.n} (length a.rows.now) (omega arith) in
    omega (
      arith,
      up,
      entries-few a.s a.rows.now c.loop-c.c,
      column-length c.loop-c.state a.rows.now,
      c.keep_column-d.ensures.count_value.0,
      c.loop-c.invariant.1,
      c.requires,
    )

pub loop-c-preserved : goal.loop-c-preserved
loop-c-preserved c =
    let a = c.args in
    let l = c.loop-c in
    let k = l.c in
    let rs = a.rows.now in
    let cs = drawn_columns a.s rs k in
    let new = drawn_column l.state rs in
    let after : new ≡ drawn_column (after_columns a.s rs k) rs = ap (λ (u : ℕ). drawn_column u rs) l.invariant.2 in
    let w = c.keep_column-d.ensures in
    let count = c.keep_column-d.result.count in
    let row-part = c.keep_column-d.new.kept_rows in
    let draw-part = c.keep_column-d.new.kept in
    let up = mul-le-mul_right {m = k + 1} {n = a.n} (length rs) (omega arith) in
    let few = entries-few a.s rs k in
    let most = column-length l.state rs in
    let rows_long : length row-part ≡ length l.kept_rows - l.at = c.keep_column-d.auto.kept_rows ∙ length_tail l.kept_rows l.at in
    let draws-long : length draw-part ≡ length l.kept - l.at = c.keep_column-d.auto.kept ∙ length_tail l.kept l.at in
    let more : l.at + count ≡ sum (map length (drawn_columns a.s rs (k + 1))) =
    omega (arith, entries_more a.s rs k, w.count_value.0, ap length after, l.invariant.1) in
    let below : l.at + count + 1 ≤ 8192 = omega (arith, up, few, most, w.count_value.0, l.invariant.1, c.requires) in
    let rows = kept-after l.kept_rows row-part l.at count (omega (arith, below, l.auto.kept_rows, c.requires)) (omega (arith, below, rows_long, l.auto.kept_rows, c.requires)) in
    let draws = kept-after l.kept draw-part l.at count (omega (arith, below, l.auto.kept, c.requires)) (omega (arith, below, draws-long, l.auto.kept, c.requires)) in (
      omega (arith, below),
      more,
      w.count_value.1 ∙ ap (λ (u : ℕ). after_column u rs) l.invariant.2 ∙ sym (afters_more a.s rs k),
      rw (l.invariant.3, starts_more a.s rs k, more)
          (set-written (csc cs).starts (set a.starts.now 0 0) _ (k + 1) (sym (starts-many a.s rs k)) (omega (arith, length-set a.starts.now 0 0, c.requires.2))),
      rows ∙ ap₂ ◌++◌ l.invariant.4 (w.kept_rows_after ∙ ap rows_of after) ∙ sym (rows_more a.s rs k),
      ap (map drawn_value) draws ∙ map-append drawn_value (take l.at l.kept) (take count draw-part)
          ∙ ap₂ ◌++◌ l.invariant.5 (w.kept_after ∙ ap values_of after) ∙ sym (values_more a.s rs k),
    )

pub returns-clause-starts_after : goal.returns-clause-starts_after
returns-clause-starts_after c =
    let a = c.args in
    let e : c.loop-c.c ≡ a.n = omega arith in
    (rw e at c.loop-c.invariant.3) ∙ starts_cover a.s a.rows.now a.n a.starts.now

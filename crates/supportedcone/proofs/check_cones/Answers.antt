use mathlib.Core.Path.{◌≡◌, refl, sym, ap, ◌∙◌}
use mathlib.Core.Bool.{Bool, true, ◌&&◌, cond}
use mathlib.Core.List.{List}
use Prim.Native.Nat.{ℕ, ◌*◌, ◌≤◌}
use lib.Dec.{eqb}
use lib.Ieee.{Float}
use lib.ListN.{length, drop}
use borrow.Author.Tests.{eq-eqb, ne_eqb}
use Rattle.layout.proofs.Patterns.Records.{record_count_lem}
use Rattle.layout.specs.General.Lists.{all}
use Rattle.layout.specs.Checks.{no_cone, sizes_bounded, cones_bounded, cones_read}
use Rattle.layout.specs.Problems.Cones.{records, reads, row_count}
use Rattle.supportedcone.specs.Ranges.{row_total}
use Rattle.supportedcone.specs.declared.SupportedCone.{SupportedCone}
use Rattle.std.specs.declared.option.Option.TheVariants.{Some}
use Rattle.supportedcone.specs.Cases.{told, record_of, record_at, reads_as}
use Rattle.layout.proofs.Lists.Walks.{all-step, all_fails, all_done}
use Rattle.supportedcone.proofs.Steps.{total_more, total-done}
use Rattle.supportedcone.proofs.Bounds.{rows-bounded}
use Rattle.supportedcone.proofs.Reading.{told_is, told_bad}
use Rattle.supportedcone.proofs.Records.{whole, part_record, bounded_at, few-records}
use native.Mathlib.Omega.{arith}
use Rattle.supportedcone.proofs.check_cones.Goals as goal

-- the cone's row count, with bounds on it and on the number of records
counted : (s : SupportedCone) (ws : List ℕ) (i n : ℕ) (α : Float) → cones_bounded ws ≡ true → told (Some s) ≡ reads_as (record_at ws i) α
    → n ≡ row_count (record_of s)
    → (n ≡ row_count (record_at ws i)) × (row_count (record_at ws i) ≤ 131072) × (length (records ws) ≤ 1024)
counted s ws i n α b read e =
    (e ∙ ap row_count (told_is s (record_at ws i) α read).1, rows-bounded (record_at ws i) (bounded_at ws i b), few-records ws b)

-- after the loop all records have been read: only their row total is left to compare
left_over : (m : ℕ) (ws : List ℕ) (i : ℕ) → cones_read m ws ≡ (all reads (drop i (records ws)) && eqb (row_total (records ws)) m)
    → length (records ws) ≤ i → cones_read m ws ≡ eqb (row_total (records ws)) m
left_over m ws i e h = e ∙ ap (λ (b : Bool). b && eqb (row_total (records ws)) m) (all_done reads (records ws) i h)

pub overflow_mul-count : goal.overflow_mul-count
overflow_mul-count c = omega (arith, record_count_lem c.args.cones.now)

pub returns-then-count-cones : goal.returns-then-count-cones
returns-then-count-cones c =
    let ws = c.args.cones.now in
    rw (part_record ws (λ e. c.if-count-cones.true (ap (λ (n : ℕ). n * 3) c.record_count-count.ensures ∙ e)))

pub loop-i-init : goal.loop-i-init
loop-i-init c =
    let ws = c.args.cones.now in
    (refl, omega arith, rw (whole ws (sym (ap (λ (n : ℕ). n * 3) c.record_count-count.ensures) ∙ c.if-count-cones.false)))

pub returns-in_default : goal.returns-in_default
returns-in_default c =
    let cs = records c.args.cones.now in
    let bad = told_bad (record_at c.args.cones.now c.loop-i.i) _ c.in_default.ensures in
    sym (ap (λ (b : Bool). cond b 0 4) (c.loop-i.invariant.2 ∙ ap (λ (b : Bool). b && eqb (row_total cs) c.args.m) (all_fails reads cs c.loop-i.i no_cone (omega arith) bad)))

pub nvars-rows-requires : goal.nvars-rows-requires
nvars-rows-requires c =
    ap sizes_bounded (told_is c.in-Some.cone (record_at c.args.cones.now c.loop-i.i) _ c.in-Some.ensures).1
    ∙ bounded_at c.args.cones.now c.loop-i.i c.requires

pub overflow_add-rows : goal.overflow_add-rows
overflow_add-rows c =
    omega (arith, counted c.in-Some.cone c.args.cones.now c.loop-i.i c.nvars-rows.result _ c.requires c.in-Some.ensures c.nvars-rows.ensures)

pub loop-i-preserved : goal.loop-i-preserved
loop-i-preserved c =
    let cs = records c.args.cones.now in
    let read = c.in-Some.ensures in
    let k = counted c.in-Some.cone c.args.cones.now c.loop-i.i c.nvars-rows.result _ c.requires read c.nvars-rows.ensures in (
      omega (arith, k, total_more row_count cs c.loop-i.i no_cone (omega arith)),
      omega (arith, k),
      c.loop-i.invariant.2 ∙ ap (λ (b : Bool). b && eqb (row_total cs) c.args.m)
          (all-step reads cs c.loop-i.i no_cone (omega arith) (told_is c.in-Some.cone (record_at c.args.cones.now c.loop-i.i) _ read).0),
    )

pub returns-then-rows-m : goal.returns-then-rows-m
returns-then-rows-m c =
    let ws = c.args.cones.now in
    let all-rows = c.loop-i.invariant.0 ∙ total-done row_count (records ws) c.loop-i.i (omega arith) in
    sym (ap (λ (b : Bool). cond b 0 4) (left_over c.args.m ws c.loop-i.i c.loop-i.invariant.2 (omega arith) ∙ ne_eqb _ _ (λ e. c.if-rows-m.true (all-rows ∙ e))))

pub returns : goal.returns
returns c =
    let ws = c.args.cones.now in
    let all-rows = c.loop-i.invariant.0 ∙ total-done row_count (records ws) c.loop-i.i (omega arith) in
    sym (ap (λ (b : Bool). cond b 0 4) (left_over c.args.m ws c.loop-i.i c.loop-i.invariant.2 (omega arith) ∙ eq-eqb _ _ (sym all-rows ∙ c.if-rows-m.false)))

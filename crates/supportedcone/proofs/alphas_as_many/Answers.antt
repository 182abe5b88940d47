use mathlib.Core.Path.{◌≡◌, sym, ap, ◌∙◌}
use mathlib.Core.List.{List, map}
use Prim.Native.Nat.{ℕ, ◌+◌, ◌-◌, ◌≤◌}
use lib.Dec.{eqb}
use lib.Ieee.{Float}
use lib.ListN.{length, take, drop}
use borrow.Author.Tests.{ne_eqb}
use Rattle.layout.specs.General.Lists.{sum}
use Rattle.layout.specs.Checks.{no_cone}
use Rattle.layout.specs.Problems.Cones.{Cone, records, reads, alpha_count}
use Rattle.layout.proofs.Lists.Buffers.{length_tail}
use Rattle.supportedcone.specs.declared.SupportedCone.{SupportedCone}
use Rattle.std.specs.declared.option.Option.TheVariants.{Some}
use Rattle.supportedcone.specs.Cases.{told, record_of, record_at, reads_with}
use Rattle.supportedcone.proofs.Steps.{total_more, total-done, total-le}
use Rattle.supportedcone.proofs.Reading.{bad_with, is_with}
use Rattle.supportedcone.proofs.Records.{every_record}
use native.Mathlib.Omega.{arith}
use Rattle.supportedcone.proofs.alphas_as_many.Goals as goal

-- the number of α values that the record takes, and that at least that many were left
counted : (s : SupportedCone) (r : Cone) (αs : List Float) (next n : ℕ) → next ≤ length αs
    → told (Some s) ≡ reads_with r (take (length αs - next) (drop next αs)) → n ≡ alpha_count (record_of s)
    → (n ≡ alpha_count r) × (alpha_count r + next ≤ length αs)
counted s r αs next n h read e =
    let (same, room) = is_with s r (take (length αs - next) (drop next αs)) read in
    (e ∙ ap alpha_count same, omega (arith, room, length_tail αs next))

pub returns-in_default : goal.returns-in_default
returns-in_default c =
    let cs = records c.args.cones.now in
    let αs = c.args.alphas.now in
    let r = record_at c.args.cones.now c.loop-i.i in
    let short = bad_with r (take (length αs - c.loop-i.next) (drop c.loop-i.next αs)) (every_record reads c.args.cones.now c.loop-i.i c.requires (omega arith))
    c.in_default.ensures in
    sym (ne_eqb (sum (map alpha_count cs)) (length αs) (λ e. omega (arith, short, length_tail αs c.loop-i.next, total_more alpha_count cs c.loop-i.i no_cone (omega arith), total-le alpha_count cs (c.loop-i.i + 1))))

pub overflow_add-next : goal.overflow_add-next
overflow_add-next c =
    omega (
      arith,
      counted c.in-Some.cone (record_at c.args.cones.now c.loop-i.i) c.args.alphas.now c.loop-i.next c.alpha_count.result (omega arith)
          c.in-Some.ensures c.alpha_count.ensures,
    )

pub loop-i-preserved : goal.loop-i-preserved
loop-i-preserved c =
    let k = counted c.in-Some.cone (record_at c.args.cones.now c.loop-i.i) c.args.alphas.now c.loop-i.next c.alpha_count.result (omega arith)
    c.in-Some.ensures c.alpha_count.ensures in
    (omega (arith, k, total_more alpha_count (records c.args.cones.now) c.loop-i.i no_cone (omega arith)), omega (arith, k))

pub returns : goal.returns
returns c =
    ap (λ (n : ℕ). eqb n (length c.args.alphas.now)) (c.loop-i.invariant.0 ∙ total-done alpha_count (records c.args.cones.now) c.loop-i.i (omega arith))

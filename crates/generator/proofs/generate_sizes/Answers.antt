use Prim.Native.Nat.{ℕ}
use native.Mathlib.Omega.{arith}
use mathlib.Core.Path.{◌≡◌, refl, sym, ap, ◌∙◌}
use mathlib.Core.List.{List}
use lib.ListN.{length}
use Rattle.layout.specs.General.Lists.{written}
use Rattle.layout.proofs.Lists.Tests.{passes}
use Rattle.layout.proofs.Theorems.Generated.{ranges}
use Rattle.generator.specs.Lengths.{lengths_of}
use Rattle.generator.proofs.Numbers.{lengths_are, sizes_15, sizes_11, sizes-done}
use Rattle.generator.proofs.generate_sizes.Goals as goal

pub returns-then-not-in_ranges : goal.returns-then-not-in_ranges
returns-then-not-in_ranges c =
    let a = c.args in
    record { number = sizes_15 a.seed a.v a.w a.n (length a.out.now) (sym c.in_ranges.ensures ∙ c.if-not-in_ranges.true); out = refl }

pub returns-then-out-lt11 : goal.returns-then-out-lt11
returns-then-out-lt11 c =
    let a = c.args in
    record { number = sizes_11 a.seed a.v a.w a.n (length a.out.now) (sym c.in_ranges.ensures ∙ c.if-not-in_ranges.false) c.if-out-lt11.true; out = refl }

pub count_entries-entries-requires : goal.count_entries-entries-requires
count_entries-entries-requires c =
    let a = c.args in
    let (_, few, _, band, _, columns) = ranges a.seed a.v a.w a.n (passes _ (sym c.in_ranges.ensures ∙ c.if-not-in_ranges.false)) in
    (band, few, columns, omega arith)

pub write_lengths-requires : goal.write_lengths-requires
write_lengths-requires c =
    let a = c.args in
    let (_, few, _, band, _, columns) = ranges a.seed a.v a.w a.n (passes _ (sym c.in_ranges.ensures ∙ c.if-not-in_ranges.false)) in
    (band, few, columns, omega arith)

pub returns : goal.returns
returns c =
    let a = c.args in
    let inside = sym c.in_ranges.ensures ∙ c.if-not-in_ranges.false in record {
      number = sizes-done a.seed a.v a.w a.n (length a.out.now) inside (omega arith);
      out = c.write_lengths.ensures
          ∙ ap (λ (xs : List ℕ). written xs a.out.now)
          (ap (lengths_of a.v a.w a.n) c.count_entries-entries.ensures ∙ sym (lengths_are a.seed a.v a.w a.n (passes _ inside)));
    }

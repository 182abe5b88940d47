use Prim.Native.Nat.{ℕ, ◌≤◌, ◌<◌}
use native.Mathlib.Omega.{arith}
use mathlib.Core.Path.{refl, ap, sym, subst, ◌∙◌}
use mathlib.Core.List.{List}
use lib.ListN.{length}
use Rattle.constants.proofs.Answers.{number_positive}
use Rattle.layout.specs.General.Lists.{written}
use Rattle.layout.specs.Files.File.{problem_of}
use Rattle.layout.specs.Files.FileWords.{word_tables}
use Rattle.compact_file.proofs.Laws.{sized-number, sized_end, sized_writes, tables-refused, tables_long, tables_passed}
use Rattle.compact_file.proofs.cut_doubles.Goals as goal

pub size_tables-requires : goal.size_tables-requires
size_tables-requires c = (c.requires.well_shaped.0, c.requires.well_shaped.2)

pub refuse-requires : goal.refuse-requires
refuse-requires c = omega (arith, c.requires.small.1)

pub returns-in-Err : goal.returns-in-Err
returns-in-Err c =
    let t = word_tables c.args.words.now in
    let positive = number_positive c.in-Err.refusal in
    let e = (tables-refused t (λ z. omega (arith, positive, z)) (sized-number (problem_of t) c.in-Err.ensures)).1 in
    (c.refuse.ensures.0 ∙ sym (ap length e), c.refuse.ensures.1 ∙ sym (ap (λ (l : List ℕ). written l c.args.out.now) e))

pub refuse-requires-then-end-gt-OUT_BYTES : goal.refuse-requires-then-end-gt-OUT_BYTES
refuse-requires-then-end-gt-OUT_BYTES c = omega (arith, c.requires.small.1)

pub returns-then-end-gt-OUT_BYTES : goal.returns-then-end-gt-OUT_BYTES
returns-then-end-gt-OUT_BYTES c =
    let t = word_tables c.args.words.now in
    let h = c.in-Ok.ensures in
    let end = sized_end t h refl c.end_of-end.ensures.0 in
    let e = tables_long t (sym (sized-number (problem_of t) h)) (subst (λ (k : ℕ). 65536 < k) end c.if-end-gt-OUT_BYTES.true) in
    (c.refuse-then-end-gt-OUT_BYTES.ensures.0 ∙ sym (ap length e), c.refuse-then-end-gt-OUT_BYTES.ensures.1 ∙ sym (ap (λ (l : List ℕ). written l c.args.out.now) e))

pub write_cut-requires : goal.write_cut-requires
write_cut-requires c =
    let h = c.in-Ok.ensures in
    let end = sized_end (word_tables c.args.words.now) h refl c.end_of-end.ensures.0 in
    record {
      well_shaped = c.requires.well_shaped;
      writes = (sized_writes c.args.words.now c.requires.small.0 h refl (subst (λ (k : ℕ). k ≤ 65536) end c.if-end-gt-OUT_BYTES.false), c.requires.small.1);
    }

pub returns : goal.returns
returns c =
    let t = word_tables c.args.words.now in
    let h = c.in-Ok.ensures in
    let end = sized_end t h refl c.end_of-end.ensures.0 in
    let e = (tables_passed t (sym (sized-number (problem_of t) h)) (subst (λ (k : ℕ). k ≤ 65536) end c.if-end-gt-OUT_BYTES.false)).1 in
    (end ∙ sym (ap length e), c.write_cut.ensures ∙ sym (ap (λ (l : List ℕ). written l c.args.out.now) e))

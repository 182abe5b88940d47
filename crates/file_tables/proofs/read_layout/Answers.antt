use Prim.Native.Nat.{ℕ, ◌*◌, ◌≤◌}
use mathlib.Core.Path.{refl, sym, ap, subst, ◌∙◌}
use lib.ListN.{length, get_or}
use lib.Dec.{lit<}
use Rattle.layout.specs.General.Lists.{written}
use Rattle.layout.specs.Files.FileWords.{pairs_of, words_at}
use Rattle.file_shape.specs.Parts.{Inside}
use Rattle.file_shape.proofs.Parts.{stands_long, stands-inside}
use native.Mathlib.Omega.{arith}
use Rattle.file_tables.proofs.read_layout.Goals as goal

pub count_at-cones-requires : goal.count_at-cones-requires
count_at-cones-requires c = omega (arith, stands_long c.args.words.now c.requires.well_shaped)

pub count_at-alphas-requires : goal.count_at-alphas-requires
count_at-alphas-requires c = omega (arith, stands_long c.args.words.now c.requires.well_shaped)

pub count_at-size-requires : goal.count_at-size-requires
count_at-size-requires c = omega (arith, stands_long c.args.words.now c.requires.well_shaped)

pub copy_table-requires : goal.copy_table-requires
copy_table-requires c =
    let ws = c.args.words.now in
    subst (λ (k : ℕ). Inside ws 8 (3 * k) × (3 * k ≤ length c.args.cones_out.now)) (sym c.count_at-cones.ensures.0)
    (stands-inside ws c.requires.well_shaped 8 (3 * get_or ws 4 0) (lit< tt) refl, c.requires.fact.0)

pub copy_patterns-requires : goal.copy_patterns-requires
copy_patterns-requires c =
    let ws = c.args.words.now in
    subst (λ (k : ℕ). Inside ws 9 (2 * k) × (k ≤ length c.args.alphas_out.now)) (sym c.count_at-alphas.ensures.0)
    (stands-inside ws c.requires.well_shaped 9 (2 * get_or ws 5 0) (lit< tt) (omega arith), c.requires.fact.1)

pub copy_table-requires-2 : goal.copy_table-requires-2
copy_table-requires-2 c =
    let ws = c.args.words.now in
    subst (λ (k : ℕ). Inside ws 10 k × (k ≤ length c.args.pattern_words_out.now)) (sym c.count_at-size.ensures.0)
    (stands-inside ws c.requires.well_shaped 10 (get_or ws 7 0) (lit< tt) refl, c.requires.fact.2)

pub returns : goal.returns
returns c =
    let ws = c.args.words.now in record { cones_out_after = c.copy_table.ensures ∙ ap (λ (k : ℕ). written (words_at ws 8 (3 * k)) c.args.cones_out.now) c.count_at-cones.ensures.0; alphas_out_after = c.copy_patterns.ensures ∙ ap (λ (k : ℕ). written (pairs_of (words_at ws 9 (2 * k))) c.args.alphas_out.now) c.count_at-alphas.ensures.0; pattern_words_out_after = c.copy_table-2.ensures ∙ ap (λ (k : ℕ). written (words_at ws 10 k) c.args.pattern_words_out.now) c.count_at-size.ensures.0 }

use Prim.Native.Nat.{ℕ, ◌≤◌, ◌+◌, ◌*◌}
use mathlib.Core.Path.{refl, ap, sym, subst, ◌∙◌}
use mathlib.Core.List.{List, map}
use Rattle.layout.specs.General.Lists.{all, written}
use Rattle.layout.specs.Problems.Patterns.{Pattern}
use Rattle.supernode_tree.specs.Sizes.{block_at_most}
use Rattle.supernode_tree.proofs.Sizes.{blocks-small}
use Rattle.rows_blocks.proofs.Offsets.{cliques_here, pattern_here, cliques-count}
use lib.ListN.{length, length-map}
use Rattle.layout.specs.Rows.Blocks.{cut, pattern_rows, block_rows}
use Rattle.layout.specs.Cuts.Compact.{map_part, map_words}
use Rattle.layout.proofs.Rows.Rows.{rows-count}
use Rattle.rows_codes.specs.Codes.{cut_code}
use Rattle.supernode_tree.specs.Reads.{pattern_at}
use Rattle.rows_blocks.specs.Codes.{standard_pattern_rows}
use Rattle.rows_blocks.proofs.Patterns.{standard_rows-count}
use Rattle.rows_tables.specs.Tables.{Few}
use Rattle.rows_tables.specs.declared.Table.{Table}
use Rattle.rows_tables.proofs.Cones.{standard_words, compact_words, map-words, sizes-up, sizes-down, cones_of, cones_back}
use Rattle.rows_tables.proofs.Codes.{renamed, cut_h, cut-cut, cut_standard, cut_compact, cut-map}
use native.Mathlib.Omega.{arith}
use Rattle.rows_tables.proofs.write_cut.Goals as goal

pub standard_pattern_rows-requires : goal.standard_pattern_rows-requires
standard_pattern_rows-requires c =
    let a = c.args in
    let p = pattern_at a.words.now a.at in
    let e = cut_h a.table a.first a.place.cone a.place.row a.place.pattern p c.in-HRows.is in
    record {
      right_pattern = c.requires.right_pattern.0;
      at_bound = (c.requires.right_pattern.1, c.requires.right_pattern.2);
      at_in_bounds = omega (arith, ap length e, standard_rows-count p c.requires.right_pattern.0 a.place.row, c.requires.at_in_bounds);
    }

pub overflow_cast-first : goal.overflow_cast-first
overflow_cast-first c =
    let a = c.args in
    let few : a.first + block_rows (pattern_at a.words.now a.at) ≤ 262144 = subst (λ (x : Table). Few x (a.first + block_rows (pattern_at a.words.now a.at))) c.in-CutRows.is c.requires.few in
    omega (arith, few)

pub compact_pattern_rows-requires : goal.compact_pattern_rows-requires
compact_pattern_rows-requires c =
    let a = c.args in
    let p = pattern_at a.words.now a.at in
    let e = cut-cut a.table a.first a.place.cone a.place.row a.place.pattern p c.in-CutRows.is in
    let few : a.first + block_rows p ≤ 262144 = subst (λ (x : Table). Few x (a.first + block_rows p)) c.in-CutRows.is c.requires.few in
    record {
      right_pattern = c.requires.right_pattern.0;
      at_bound = (c.requires.right_pattern.1, c.requires.right_pattern.2);
      at_bound_2 = (few, omega (arith, ap length e, (length-map (pattern_rows p a.place.row a.first) cut_code ∙ rows-count p c.requires.right_pattern.0 a.place.row a.first), c.requires.at_in_bounds));
    }

pub overflow_cast-first-in-ConeMap : goal.overflow_cast-first-in-ConeMap
overflow_cast-first-in-ConeMap c =
    let a = c.args in
    let few : a.first + block_rows (pattern_at a.words.now a.at) ≤ 262144 = subst (λ (x : Table). Few x (a.first + block_rows (pattern_at a.words.now a.at))) c.in-ConeMap.is c.requires.few in
    omega (arith, few)

pub pattern_entries-requires : goal.pattern_entries-requires
pattern_entries-requires c =
    let a = c.args in
    let p = pattern_at a.words.now a.at in
    let e = cut-map a.table a.first a.place.cone a.place.row a.place.pattern p c.in-ConeMap.is in
    let few : a.first + block_rows p ≤ 262144 = subst (λ (x : Table). Few x (a.first + block_rows p)) c.in-ConeMap.is c.requires.few in
    record {
      right_pattern = (c.requires.right_pattern.0, c.requires.right_pattern.1, few);
      at_in_bounds = omega (arith, ap length e, map-words p a.first a.place.cone a.place.row a.place.pattern, c.requires.at_in_bounds);
    }

pub returns-in-HRows : goal.returns-in-HRows
returns-in-HRows c =
    let a = c.args in
    let p = pattern_at a.words.now a.at in
    let e = cut_h a.table a.first a.place.cone a.place.row a.place.pattern p c.in-HRows.is in
    let w = c.standard_pattern_rows in
    let r = renamed _ (standard_pattern_rows p a.place.row) e _ _ _ (w.ensures.value ∙ sym (standard_rows-count p c.requires.right_pattern.0 a.place.row)) w.ensures.out_after in
    record { value = r.0; out_after = r.1 }

pub returns-in-CutRows : goal.returns-in-CutRows
returns-in-CutRows c =
    let a = c.args in
    let p = pattern_at a.words.now a.at in
    let e = cut-cut a.table a.first a.place.cone a.place.row a.place.pattern p c.in-CutRows.is in
    let w = c.compact_pattern_rows in
    let r = renamed _ (map cut_code (pattern_rows p a.place.row a.first)) e _ _ _ (w.ensures.value ∙ sym ((length-map (pattern_rows p a.place.row a.first) cut_code ∙ rows-count p c.requires.right_pattern.0 a.place.row a.first))) w.ensures.out_after in
    record { value = r.0; out_after = r.1 }

pub returns-in-ConeMap : goal.returns-in-ConeMap
returns-in-ConeMap c =
    let a = c.args in
    let p = pattern_at a.words.now a.at in
    let e = cut-map a.table a.first a.place.cone a.place.row a.place.pattern p c.in-ConeMap.is in
    let w = c.pattern_entries in
    let r = renamed _ (map_words (map_part a.first (cut a.place.cone a.place.row a.place.pattern p))) e _ _ _ (w.ensures.value ∙ sym (map-words p a.first a.place.cone a.place.row a.place.pattern)) w.ensures.out_after in
    record { value = r.0; out_after = r.1 }

pub cones_up-requires-clause-whole : goal.cones_up-requires-clause-whole
cones_up-requires-clause-whole c =
    let a = c.args in
    let p = pattern_at a.words.now a.at in
    let ok = c.requires.right_pattern.0 in
    let read = c.here-p.ensures.result_value in
    let e = cut_standard a.table a.first a.place.cone a.place.row a.place.pattern p c.in-StandardCones.is in
    let count = cliques-count a.words.now a.at _ ok read c.here-p.result refl in (
      cliques_here a.words.now a.at _ ok read c.here-p.result refl,
      omega (arith, count, ap length e, standard_words p a.place.cone a.place.row a.place.pattern, c.requires.at_in_bounds),
    )

pub cones_up-requires-clause-count_value : goal.cones_up-requires-clause-count_value
cones_up-requires-clause-count_value c =
    let ok = c.requires.right_pattern in
    let cliques = ap (λ (p : Pattern). p.cliques) (pattern_here c.args.words.now c.args.at _ ok.0 c.here-p.ensures.result_value c.here-p.result refl) in
    sym (ap (all (block_at_most 256)) cliques) ∙ blocks-small (pattern_at c.args.words.now c.args.at) 256 ok.0 ok.1

pub returns-in-StandardCones : goal.returns-in-StandardCones
returns-in-StandardCones c =
    let a = c.args in
    let p = pattern_at a.words.now a.at in
    let ok = c.requires.right_pattern.0 in
    let read = c.here-p.ensures.result_value in
    let e = cut_standard a.table a.first a.place.cone a.place.row a.place.pattern p c.in-StandardCones.is in
    let count = cliques-count a.words.now a.at _ ok read c.here-p.result refl in
    let cliques = ap (λ (p : Pattern). p.cliques) (pattern_here a.words.now a.at _ ok read c.here-p.result refl) in
    let part = sym (ap (λ cs. cones_of cs) cliques) ∙ sizes-up p a.place.cone a.place.row a.place.pattern ∙ sym e in record {
      value = c.cones_up.ensures.value ∙ ap (λ (n : ℕ). n * 3) (sym count) ∙ sym (ap length e ∙ standard_words p a.place.cone a.place.row a.place.pattern);
      out_after = c.cones_up.ensures.out_after ∙ ap (λ (xs : List ℕ). written xs a.out.now) part;
    }

pub cones_down-requires-clause-whole : goal.cones_down-requires-clause-whole
cones_down-requires-clause-whole c =
    let a = c.args in
    let p = pattern_at a.words.now a.at in
    let ok = c.requires.right_pattern.0 in
    let read = c.here-p-in-CompactCones.ensures.result_value in
    let e = cut_compact a.table a.first a.place.cone a.place.row a.place.pattern p c.in-CompactCones.is in
    let count = cliques-count a.words.now a.at _ ok read c.here-p-in-CompactCones.result refl in (
      cliques_here a.words.now a.at _ ok read c.here-p-in-CompactCones.result refl,
      omega (arith, count, ap length e, compact_words p a.place.cone a.place.row a.place.pattern, c.requires.at_in_bounds),
    )

pub cones_down-requires-clause-count_value : goal.cones_down-requires-clause-count_value
cones_down-requires-clause-count_value c =
    let ok = c.requires.right_pattern in
    let cliques = ap (λ (p : Pattern). p.cliques) (pattern_here c.args.words.now c.args.at _ ok.0 c.here-p-in-CompactCones.ensures.result_value c.here-p-in-CompactCones.result refl) in
    sym (ap (all (block_at_most 256)) cliques) ∙ blocks-small (pattern_at c.args.words.now c.args.at) 256 ok.0 ok.1

pub returns-in-CompactCones : goal.returns-in-CompactCones
returns-in-CompactCones c =
    let a = c.args in
    let p = pattern_at a.words.now a.at in
    let ok = c.requires.right_pattern.0 in
    let read = c.here-p-in-CompactCones.ensures.result_value in
    let e = cut_compact a.table a.first a.place.cone a.place.row a.place.pattern p c.in-CompactCones.is in
    let count = cliques-count a.words.now a.at _ ok read c.here-p-in-CompactCones.result refl in
    let cliques = ap (λ (p : Pattern). p.cliques) (pattern_here a.words.now a.at _ ok read c.here-p-in-CompactCones.result refl) in
    let part = sym (ap (λ cs. cones_back cs) cliques) ∙ sizes-down p a.place.cone a.place.row a.place.pattern ∙ sym e in record {
      value = c.cones_down.ensures.value ∙ ap (λ (n : ℕ). n * 3) (sym count) ∙ sym (ap length e ∙ compact_words p a.place.cone a.place.row a.place.pattern);
      out_after = c.cones_down.ensures.out_after ∙ ap (λ (xs : List ℕ). written xs a.out.now) part;
    }

use Prim.Native.Nat.{ℕ, ◌+◌, ◌-◌, ◌*◌}
use mathlib.Core.Path.{◌≡◌, refl, ap, ap₂, sym, ◌∙◌}
use mathlib.Core.List.{List, map}
use Rattle.layout.specs.General.Lists.{all, sum, written}
use Rattle.layout.specs.Problems.Patterns.{Pattern, Clique}
use Rattle.layout.specs.Cuts.Compact.{map_words}
use Rattle.supernode_tree.specs.Reads.{pattern_at, cliques_from}
use Rattle.supernode_tree.specs.Sizes.{block_at_most, dim_of}
use Rattle.supernode_tree.proofs.Sizes.{blocks-small}
use Rattle.rows_blocks.proofs.Offsets.{cliques_here, pattern_here, cliques-count}
use Rattle.rows_tables.specs.Tables.{entries_down}
use Rattle.rows_tables.proofs.Cones.{entries-down}
use native.Mathlib.Omega.{arith}
use Rattle.rows_tables.proofs.pattern_entries.Goals as goal

pub entries_down-requires-clause-whole : goal.entries_down-requires-clause-whole
entries_down-requires-clause-whole c =
    let r = c.requires in
    let read = c.here-p.ensures.result_value in (
      cliques_here c.args.words.now c.args.at _ r.right_pattern.0 read c.here-p.result refl,
      omega (arith, cliques-count c.args.words.now c.args.at _ r.right_pattern.0 read c.here-p.result refl, r.at_in_bounds),
    )

pub entries_down-requires-clause-count_value : goal.entries_down-requires-clause-count_value
entries_down-requires-clause-count_value c =
    let ok = c.requires.right_pattern in
    let pattern = ap (λ (p : Pattern). p.cliques) (pattern_here c.args.words.now c.args.at _ ok.0 c.here-p.ensures.result_value c.here-p.result refl) in
    sym (ap (all (block_at_most 256)) pattern) ∙ blocks-small (pattern_at c.args.words.now c.args.at) 256 ok.0 ok.1

pub returns-clause-value : goal.returns-clause-value
returns-clause-value c =
    c.entries_down.ensures.value
    ∙ ap (λ (m : ℕ). m * 5) (sym (cliques-count c.args.words.now c.args.at _ c.requires.right_pattern.0 c.here-p.ensures.result_value c.here-p.result refl))

pub returns-clause-out_after : goal.returns-clause-out_after
returns-clause-out_after c =
    let a = c.args in
    let pattern = ap (λ (p : Pattern). p.cliques) (pattern_here a.words.now a.at _ c.requires.right_pattern.0 c.here-p.ensures.result_value c.here-p.result refl) in
    let rows = ap (λ (cs : List Clique). sum (map dim_of cs)) (sym pattern) in
    let n = c.get_decomposed_dim_and_overlaps-blocks.result.dim in
    let base : a.first + n - sum (map dim_of (cliques_from a.words.now c.here-p.result.cliques c.here-p.result.clique_count)) ≡ a.first =
    omega (arith, rows, c.get_decomposed_dim_and_overlaps-blocks.ensures.dim_value) in
    c.entries_down.ensures.out_after
    ∙ ap (λ (ws : List ℕ). written ws a.out.now)
    (ap₂ (λ (b : ℕ) (cs : List Clique). map_words (entries_down a.cone a.pattern 0 b cs)) base (sym pattern)
    ∙ ap map_words (sym (entries-down (pattern_at a.words.now a.at) a.cone 0 a.pattern a.first)))

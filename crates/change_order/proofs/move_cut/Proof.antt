use Prim.Native.Nat.{ℕ, ◌+◌, ◌≤◌}
use mathlib.Core.Path.{◌≡◌, sym, ap, subst, ◌∙◌}
use mathlib.Core.List.{List, map}
use lib.ListN.{length, drop}
use lib.Ieee.{Float}
use borrow.Author.Rules.{rules}
use Rattle.layout.specs.General.Lists.{all, sum}
use Rattle.layout.specs.Problems.Patterns.{Pattern, with_cliques}
use Rattle.layout.specs.Rows.Blocks.{block_rows}
use Rattle.layout.specs.Rows.Orders.{last_first}
use Rattle.supernode_tree.specs.Reads.{pattern_at, head_of, Whole, cliques_from}
use Rattle.supernode_tree.specs.Sizes.{block_at_most, dim_of}
use Rattle.supernode_tree.proofs.Cliques.{right-head, right-whole, pattern_whole}
use Rattle.supernode_tree.proofs.Sizes.{blocks-small}
use Rattle.join_blocks.proofs.Room.{length_part as part_length}
use Rattle.join_cones.specs.Parts.{written_at}
use Rattle.change_order.proofs.Laws.{cut_moved}
use Rattle.change_order.proofs.move_cut.Statement.{statement}
use Rattle.change_order.proofs.move_cut.Tie as tie

abbrev start : tie.After-here-p → tie.Start
start h = h.before.before.before.before.before.before

-- the words of the cliques are complete, and these are the pattern's cliques
module _ (h : tie.After-here-p) where
  whole-at : let q = h.here-p.result in Whole (start h).args.words.now q.cliques q.clique_count
  whole-at =
      let s = start h in
      let ws = s.args.words.now in
      right-whole ws s.args.at (head_of ws h.here-p.result) h.here-p.result.cliques (sym h.here-p.ensures.0) s.requires.0.0.tree

  pattern_at_lem : let a = (start h).args in
      let ws = a.words.now in
      let q = h.here-p.result in
      pattern_at ws a.at ≡ with_cliques (head_of ws q) (cliques_from ws q.cliques q.clique_count)
  pattern_at_lem =
      let a = (start h).args in
      let ws = a.words.now in
      pattern_whole ws a.at (head_of ws h.here-p.result) h.here-p.result.cliques (sym h.here-p.ensures.0) whole-at

-- the number of their block rows, and that inputs and outputs are long enough
module _ (g : tie.After-get_decomposed_dim_and_overlaps-blocks) where
  rows_here : let q = g.here-p.result in
      sum (map dim_of (cliques_from (start g.before).args.words.now q.cliques q.clique_count)) ≡ g.get_decomposed_dim_and_overlaps-blocks.result.dim
  rows_here = ap block_rows (sym (pattern_at_lem g.before)) ∙ sym g.get_decomposed_dim_and_overlaps-blocks.ensures.0

  fits : let a = (start g.before).args in
      let n = g.get_decomposed_dim_and_overlaps-blocks.result.dim in
      ((a.t + n ≤ length a.s.now) × (a.t + n ≤ length a.z.now)) × ((a.t + n ≤ length a.s_out.now) × (a.t + n ≤ length a.z_out.now))
  fits =
      let s = start g.before in
      let a = s.args in
      subst
      (λ (n : ℕ). ((a.t + n ≤ length a.s.now) × (a.t + n ≤ length a.z.now))
      × ((a.t + n ≤ length a.s_out.now) × (a.t + n ≤ length a.z_out.now)))
      (sym g.get_decomposed_dim_and_overlaps-blocks.ensures.0) s.requires.1

here-requires : tie.Need-here-p-requires
here-requires c κs = let s = c.before.before.before.before.before in right-head s.args.words.now s.args.at s.requires.0.0.tree

get-decomposed-dim-and-overlaps-requires : tie.Need-get_decomposed_dim_and_overlaps-blocks-requires
get-decomposed-dim-and-overlaps-requires c κs = search rules

add-e : tie.Need-overflow_add-e
add-e c = search rules

mul-move-blocks : tie.Need-offset_bounds-s-t
mul-move-blocks c = search rules

sub-move-blocks : tie.Need-slice_bounds-move_blocks-count
sub-move-blocks c = search rules

part-move-blocks-start : tie.Need-slice_bounds-move_blocks-start
part-move-blocks-start c = search rules

part-move-blocks-end : tie.Need-slice_bounds-move_blocks-end
part-move-blocks-end c = search rules

mul-move-blocks-2 : tie.Need-offset_bounds-z-t
mul-move-blocks-2 c = search rules

sub-move-blocks-2 : tie.Need-slice_bounds-move_blocks-count-2
sub-move-blocks-2 c = search rules

part-move-blocks-start-2 : tie.Need-slice_bounds-move_blocks-start-2
part-move-blocks-start-2 c = search rules

part-move-blocks-end-2 : tie.Need-slice_bounds-move_blocks-end-2
part-move-blocks-end-2 c = search rules

mul-move-blocks-3 : tie.Need-offset_bounds-s_out-t
mul-move-blocks-3 c = search rules

sub-move-blocks-3 : tie.Need-slice_bounds-move_blocks-count-3
sub-move-blocks-3 c = search rules

part-move-blocks-start-3 : tie.Need-slice_bounds-move_blocks-start-3
part-move-blocks-start-3 c = search rules

part-move-blocks-end-3 : tie.Need-slice_bounds-move_blocks-end-3
part-move-blocks-end-3 c = search rules

mul-move-blocks-4 : tie.Need-offset_bounds-z_out-t
mul-move-blocks-4 c = search rules

sub-move-blocks-4 : tie.Need-slice_bounds-move_blocks-count-4
sub-move-blocks-4 c = search rules

part-move-blocks-start-4 : tie.Need-slice_bounds-move_blocks-start-4
part-move-blocks-start-4 c = search rules

part-move-blocks-end-4 : tie.Need-slice_bounds-move_blocks-end-4
part-move-blocks-end-4 c = search rules

move-blocks-requires : tie.Need-move_blocks-requires
move-blocks-requires c κs =
    let g = c.before.before.before.before in
    let h = g.before in
    let s = start h in
    let a = s.args in
    let p = pattern_at a.words.now a.at in
    let n = g.get_decomposed_dim_and_overlaps-blocks.result.dim in
    let (s-fits, z-fits) = (fits g).0 in
    let (s-room, z-room) = (fits g).1 in
    let v = sym (part_length a.t n a.s.now s-fits) in (
      (whole-at h, sym (ap (λ (p : Pattern). all (block_at_most 256) p.cliques) (pattern_at_lem h)) ∙ blocks-small p 256 s.requires.0.0 s.requires.0.1),
      (
        (rows_here g ∙ v, part_length a.t n a.z.now z-fits ∙ v),
        (part_length a.t n a.s_out.now s-room ∙ v, part_length a.t n a.z_out.now z-room ∙ v),
      ),
    )

same_length : tie.Need-shape_of-s_out
same_length c = search rules

same-length-2 : tie.Need-shape_of-z_out
same-length-2 c = search rules

returns : tie.Need-returns
returns c =
    let w = c.before.before.before.before in
    let g = w.before.before.before.before.before in
    let h = g.before in
    let a = (start h).args in
    let q = h.here-p.result in
    let n = g.get_decomposed_dim_and_overlaps-blocks.result.dim in
    let ks = map dim_of (cliques_from a.words.now q.cliques q.clique_count) in
    let put : List Float → List Float → Pattern → List Float = λ vs out p. written_at a.t (last_first (map dim_of p.cliques) (drop a.t vs)) out in (
      ap (λ (n : ℕ). a.t + n) g.get_decomposed_dim_and_overlaps-blocks.ensures.0,
      (
        cut_moved ks a.s.now a.t n a.s_out.now w.move_blocks.new.s_out (rows_here g) (fits g).0.0 (fits g).1.0
            w.move_blocks.ensures.0
            ∙ ap (put a.s.now a.s_out.now) (sym (pattern_at_lem h)),
        cut_moved ks a.z.now a.t n a.z_out.now w.move_blocks.new.z_out (rows_here g) (fits g).0.1 (fits g).1.1
            w.move_blocks.ensures.1
            ∙ ap (put a.z.now a.z_out.now) (sym (pattern_at_lem h)),
      ),
    )

pub move_cut_spec : {M : Type 1} → statement M
move_cut_spec =
    tie.close
    (tie.spec
    here-requires
    get-decomposed-dim-and-overlaps-requires
    add-e
    mul-move-blocks
    sub-move-blocks
    part-move-blocks-start
    part-move-blocks-end
    mul-move-blocks-2
    sub-move-blocks-2
    part-move-blocks-start-2
    part-move-blocks-end-2
    mul-move-blocks-3
    sub-move-blocks-3
    part-move-blocks-start-3
    part-move-blocks-end-3
    mul-move-blocks-4
    sub-move-blocks-4
    part-move-blocks-start-4
    part-move-blocks-end-4
    move-blocks-requires
    same_length
    same-length-2
    returns)

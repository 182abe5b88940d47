use Prim.Native.Nat.{ℕ, ◌≤◌}
use native.Mathlib.Nat.{le_trans}
use mathlib.Core.Path.{◌≡◌, ap, sym, subst, ◌∙◌}
use mathlib.Core.List.{List, map}
use lib.ListN.{length, length-replicate}
use Rattle.layout.specs.General.Lists.{written, Below}
use Rattle.layout.specs.General.Triangle.{triangle}
use Rattle.layout.specs.Rows.Blocks.{pairs}
use Rattle.rows_blocks.specs.Cliques.{vertices_here}
use Rattle.rows_blocks.proofs.Cliques.{vertices_rise, vertices-few, vertices-below, vertices_fit}
use Rattle.rows_parent.specs.Places.{Places, place_code}
use Rattle.rows_parent.proofs.Places.{places_climb}
use Rattle.rows_overlaps.proofs.Codes.{length_tied, tied_places}
use native.Mathlib.Omega.{arith}
use Rattle.rows_overlaps.proofs.tied_rows.Goals as goal

-- a clique has at most 256 vertices, which are below 256
few : (ws ordering : List ℕ) (at : ℕ) → length ordering ≤ 256 → length (vertices_here ws ordering at) ≤ 256
few ws ordering at h = omega (arith, vertices-few ws ordering at)

low : (ws ordering : List ℕ) (at : ℕ) → length ordering ≤ 256 → Below 256 (vertices_here ws ordering at)
low ws ordering at h k l = le_trans (vertices-below ws ordering at k l) h

pub note_places-requires-clause-t : goal.note_places-requires-clause-t
note_places-requires-clause-t c =
    let ws = c.args.words.now in
    let o = c.args.ordering.now in
    let h = c.requires.sortable_clique.0.sortable.few in
    rw c.clique_vertices-n.ensures.out_after (vertices_rise ws o c.args.parent, low ws o c.args.parent h, few ws o c.args.parent h)

pub code_block-requires-clause-t : goal.code_block-requires-clause-t
code_block-requires-clause-t c =
    let ws = c.args.words.now in
    let o = c.args.ordering.now in
    let size : length c.note_places.new.out ≡ 256 = c.note_places.auto.out ∙ length-replicate {A = ℕ} 256 0 in
    rw (c.clique_vertices-k.ensures.out_after, size)
    (vertices_rise ws o c.args.at, low ws o c.args.at c.requires.sortable_clique.0.sortable.few, vertices_fit ws o c.args.at c.args.base 65536 c.requires.ordering_bound.0)

pub code_block-requires-clause-start_bound : goal.code_block-requires-clause-start_bound
code_block-requires-clause-start_bound c =
    let a = c.args in
    let ws = a.words.now in
    let o = a.ordering.now in
    let places = c.note_places.new.out in
    let noted = subst (λ (vs : List ℕ). Places vs places) c.clique_vertices-n.ensures.out_after c.note_places.ensures in
    rw c.clique_vertices-k.ensures.out_after (
      c.requires.ordering_bound.1,
      places_climb (vertices_here ws o a.parent) places (vertices_rise ws o a.parent) noted (few ws o a.parent c.requires.sortable_clique.0.sortable.few),
      omega (arith, length_tied a.base a.start ws o a.parent a.at, c.requires.at_in_bounds),
    )

pub returns-clause-value : goal.returns-clause-value
returns-clause-value c =
    let a = c.args in
    c.code_block.ensures.value ∙ ap (λ (vs : List ℕ). triangle (length vs)) c.clique_vertices-k.ensures.out_after
    ∙ sym (length_tied a.base a.start a.words.now a.ordering.now a.parent a.at)

pub returns-clause-out_after : goal.returns-clause-out_after
returns-clause-out_after c =
    let a = c.args in
    let places = c.note_places.new.out in
    let noted = subst (λ (vs : List ℕ). Places vs places) c.clique_vertices-n.ensures.out_after c.note_places.ensures in
    c.code_block.ensures.out_after ∙ ap (λ (vs : List ℕ). written (map (place_code places a.base a.start) (pairs vs)) a.out.now) c.clique_vertices-k.ensures.out_after
    ∙ ap (λ (xs : List ℕ). written xs a.out.now) (tied_places a.base a.start a.words.now a.ordering.now a.parent a.at places noted)

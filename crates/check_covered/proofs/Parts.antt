-- The covered rows, part by part.
use Prim.Native.Nat.{ℕ, ◌+◌}
use mathlib.Core.Path.{◌≡◌, refl, sym, ap, ap₂, ◌∙◌}
use mathlib.Core.Bool.{Bool, true}
use mathlib.Core.List.{List, [], ◌∷◌, ◌++◌, map, map-append}
use Rattle.layout.specs.General.Lists.{up_from, join}
use Rattle.layout.specs.General.Triangle.{triangle}
use Rattle.layout.specs.Problems.Cones.{records, row_count}
use Rattle.layout.specs.Problems.Patterns.{patterns}
use Rattle.layout.specs.Rows.Blocks.{Part, whole, cut, kept, original_row, pattern_rows, block_rows, rows_from, parts}
use Rattle.layout.specs.Checks.{Sound, covered_rows, Laid}
use Rattle.layout.proofs.Rows.Laid.{sound-laid}
use Rattle.rows_blocks.specs.Vertices.{marked}
use Rattle.rows_blocks.proofs.Laws.{marked_append}
use Rattle.rows_blocks.proofs.Patterns.{original-rows}
use Rattle.layout.proofs.Rows.Orders.{kept-original}

-- the original rows of a part's augmented rows
abbrev pub part_originals : Part → List ℕ
part_originals (whole i c row) = up_from row (row_count c)
part_originals (cut i row k p) = map original_row (pattern_rows p row 0)

-- the covered rows do not depend on where the augmented rows start
originals-from : (first row : ℕ) (ps : List Part) → Laid row ps → map original_row (rows_from first ps) ≡ join part_originals ps
originals-from first row [] h = refl
originals-from first row (whole i c r ∷ ps) h =
    map-append original_row (map kept (up_from r (row_count c))) (rows_from (first + row_count c) ps)
    ∙ ap₂ {C = List ℕ} (λ xs ys. xs ++ ys) (kept-original (up_from r (row_count c)))
    (originals-from (first + row_count c) (row + row_count c) ps h.1)
originals-from first row (cut i r k p ∷ ps) h =
    map-append original_row (pattern_rows p r first) (rows_from (first + block_rows p) ps)
    ∙ ap₂ {C = List ℕ} (λ xs ys. xs ++ ys) (original-rows p h.1 r first ∙ sym (original-rows p h.1 r 0))
    (originals-from (first + block_rows p) (row + triangle p.vertex_count) ps h.2)

pub covered_parts : {m : ℕ} {cones : List ℕ} {count : ℕ} {words : List ℕ} → Sound m cones count words
    → let ps = parts (records cones) (patterns count words) in covered_rows ps ≡ join part_originals ps
covered_parts {m} {cones} {count} {words} h = originals-from 0 0 (parts (records cones) (patterns count words)) (sound-laid h).0

-- after marking a part, the rows of the following parts are left
pub part_step : (x : Part) (ps qs : List Part) (os : List ℕ) (marks : List Bool) → ps ≡ x ∷ qs → os ≡ part_originals x
    → marked true (join part_originals qs) (marked true os marks) ≡ marked true (join part_originals ps) marks
part_step x ps qs os marks e f =
    ap (λ (rows : List ℕ). marked true (join part_originals qs) (marked true rows marks)) f ∙ sym (marked_append true (part_originals x) (join part_originals qs) marks)
    ∙ ap (λ (rs : List Part). marked true (join part_originals rs) marks) (sym e)

pub parts-done : (ps : List Part) (marks : List Bool) → ps ≡ [] → marks ≡ marked true (join part_originals ps) marks
unfolding marked
parts-done ps marks e = rw e

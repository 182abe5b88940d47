use Rattle.std.proofs.Common.{ℕ, ◌≡◌, List, length}
use Rattle.layout.specs.General.Lists.{written}
use Rattle.layout.specs.General.Triangle.{triangle}
use Rattle.rows_blocks.proofs.Columns.{columns_below}
use Rattle.rows_parent.specs.Places.{place_code}
use Rattle.rows_parent.proofs.code_block.Given as goal

abbrev pub invariant-loop-j : goal.invariant-loop-j
invariant-loop-j l =
    let B : List ℕ = columns_below (place_code l.places l.base l.start) l.vertices l.j in
    (l.t ≡ triangle l.j) × (l.t ≡ length B) × (l.out ≡ written B l.initial.out)

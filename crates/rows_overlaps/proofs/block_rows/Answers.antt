use Prim.Native.Nat.{ℕ, ◌≤◌}
use mathlib.Core.Path.{ap, sym, ◌∙◌}
use mathlib.Core.Logic.{inl, inr}
use Rattle.layout.specs.General.Triangle.{triangle}
use Rattle.layout.specs.Problems.Patterns.{Clique, no_clique, block_size}
use Rattle.layout.proofs.Lists.Tests.{lt_or_le}
use Rattle.layout.proofs.Numbers.Triangles.{triangle_mono}
use Rattle.supernode_tree.specs.Reads.{value_or}
use Rattle.supernode_tree.proofs.Cliques.{block_size_lem}
use native.Mathlib.Omega.{arith}
use Rattle.rows_overlaps.proofs.block_rows.Goals as goal

few : (k : ℕ) → triangle k ≤ 262144 → k ≤ 65535
few k h = elim (lt_or_le k 65536) [ inl l ↦ omega arith | inr l ↦ absurd (omega (arith, triangle_mono 65536 k l)) ]

pub triangular_number-requires : goal.triangular_number-requires
triangular_number-requires c =
    let q = c.here-q.result in
    let size = ap (λ (c : Clique). triangle (block_size c)) (ap (value_or no_clique) (sym c.here-q.ensures.result_value))
    ∙ ap triangle (block_size_lem c.args.words.now c.args.at q c.here-q.ensures.clique_inside ∙ sym c.get_nblk.ensures) in
    few c.get_nblk.result (omega (arith, size, c.requires.at_bound))

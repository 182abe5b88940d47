use Prim.Native.Nat.{ℕ, ◌<◌, ◌-◌, ◌+◌, ◌*◌}
use mathlib.Core.Path.{◌≡◌, refl, ap, ap₂, sym, ◌∙◌}
use mathlib.Core.List.{List, [], ◌∷◌, ◌++◌, map}
use lib.ListN.{length, drop}
use Rattle.layout.specs.General.Lists.{sum}
use Rattle.layout.specs.General.Triangle.{triangle}
use Rattle.layout.specs.Problems.Patterns.{Clique, read_clique}
use Rattle.layout.proofs.Columns.Sizes.{entries-length}
use Rattle.supernode_tree.specs.Reads.{cliques_from, clique_of}
use Rattle.supernode_tree.specs.Sizes.{block_at_most, dim_of}
use Rattle.supernode_tree.proofs.Cliques.{whole-next, from_next, block_size_lem}
use Rattle.supernode_tree.proofs.Sizes.{all_cons}
use Rattle.supernode_tree.proofs.Many.{many-length}
use Rattle.rows_tables.specs.Tables.{entries_down}
use Rattle.rows_tables.proofs.Laws.{entry_more}
use Rattle.rows_tables.proofs.Cones.{down_words, down-length, down_more, first_small}
use native.Mathlib.Numerals.{add-one}
use native.Mathlib.Omega.{arith}
use Rattle.rows_tables.proofs.entries_down.Goals as goal

pub overflow_cast-get_nblk : goal.overflow_cast-get_nblk
overflow_cast-get_nblk c =
    let h = c.here-q.ensures in
    let q = c.here-q.result in
    let ws = c.args.words.now in
    let left : ℕ = c.args.count - c.loop-clique.clique in
    let cs = from_next ws c.loop-clique.at left _ h.result_value (omega arith) q refl c.loop-clique.invariant.0 in
    let few = first_small _ _ _ cs c.loop-clique.invariant.1 in
    omega (arith, block_size_lem ws c.loop-clique.at q h.clique_inside, few, c.get_nblk.ensures)

pub triangular_number-rows-requires : goal.triangular_number-rows-requires
triangular_number-rows-requires c =
    let h = c.here-q.ensures in
    let q = c.here-q.result in
    let ws = c.args.words.now in
    let left : ℕ = c.args.count - c.loop-clique.clique in
    let cs = from_next ws c.loop-clique.at left _ h.result_value (omega arith) q refl c.loop-clique.invariant.0 in
    let few = first_small _ _ _ cs c.loop-clique.invariant.1 in
    omega (arith, block_size_lem ws c.loop-clique.at q h.clique_inside, few, c.get_nblk.ensures)

pub overflow_sub-row : goal.overflow_sub-row
overflow_sub-row c =
    let h = c.here-q.ensures in
    let q = c.here-q.result in
    let ws = c.args.words.now in
    let left : ℕ = c.args.count - c.loop-clique.clique in
    let cs = from_next ws c.loop-clique.at left _ h.result_value (omega arith) q refl c.loop-clique.invariant.0 in
    let rows = c.triangular_number-rows.ensures ∙ ap triangle (c.get_nblk.ensures ∙ sym (block_size_lem ws c.loop-clique.at q h.clique_inside)) in
    omega (arith, c.loop-clique.invariant.3, ap (λ (cs : List Clique). sum (map dim_of cs)) cs, rows)

pub loop-clique-preserved : goal.loop-clique-preserved
loop-clique-preserved c =
    let h = c.here-q.ensures in
    let q = c.here-q.result in
    let a = c.args in
    let ws = a.words.now in
    let at = c.loop-clique.at in
    let out = c.loop-clique.out in
    let number = c.loop-clique.clique in
    let left : ℕ = a.count - number in
    let more : 0 < left = omega arith in
    let others = cliques_from ws q.next (left - 1) in
    let cs = from_next ws at left _ h.result_value more q refl c.loop-clique.invariant.0 in
    let n = c.triangular_number-rows.result in
    let rows : n ≡ dim_of (clique_of ws q) = c.triangular_number-rows.ensures ∙ ap triangle (c.get_nblk.ensures ∙ sym (block_size_lem ws at q h.clique_inside)) in
    let base : ℕ = a.end - sum (map dim_of (cliques_from ws a.first a.count)) in
    let next : left - 1 ≡ a.count - (number + 1) = omega arith in
    let from : ℕ = (left - 1) * 5 in
    let room-is : left * 5 ≡ from + 5 = omega arith in
    let row : base + sum (map dim_of others) ≡ c.loop-clique.row - n =
    omega (arith, c.loop-clique.invariant.3, ap (λ (cs : List Clique). sum (map dim_of cs)) cs, rows) in
    let read : down_words a.cone a.pattern number base (cliques_from ws at left)
    ≡ down_words a.cone a.pattern (number + 1) base others ++ (a.cone ∷ a.pattern ∷ number ∷ (c.loop-clique.row - n) ∷ n ∷ []) =
    ap (down_words a.cone a.pattern number base) cs ∙ down_more a.cone a.pattern number base (clique_of ws q) others
    ∙ ap₂ (λ (d r : ℕ). down_words a.cone a.pattern d base others ++ (a.cone ∷ a.pattern ∷ number ∷ r ∷ dim_of (clique_of ws q) ∷ [])) (sym (add-one number)) row
    ∙ ap (λ (d : ℕ). down_words a.cone a.pattern (number + 1) base others ++ (a.cone ∷ a.pattern ∷ number ∷ (c.loop-clique.row - n) ∷ d ∷ [])) (sym rows) in
    let index : a.count - 1 - number ≡ left - 1 = omega arith in
    rw (← next) (
      sym (whole-next ws at left _ h.result_value more q refl) ∙ c.loop-clique.invariant.0,
      (all_cons (block_at_most 256) (clique_of ws q) others (cliques_from ws at left) cs c.loop-clique.invariant.1).1,
      omega arith,
      sym row,
      entry_more out from a.cone a.pattern number (c.loop-clique.row - n) n (omega arith) c.put_entry.new.out (down_words a.cone a.pattern (number + 1) base others) _
          (rw index at c.put_entry.ensures)
          (ap (λ (m : ℕ). (down_words a.cone a.pattern (number + 1) base others ++ (a.cone ∷ a.pattern ∷ number ∷ (c.loop-clique.row - n) ∷ n ∷ [])) ++ drop m out) (sym room-is)
          ∙ ap (λ (xs : List ℕ). xs ++ drop (left * 5) out) (sym read) ∙ c.loop-clique.invariant.4),
    )

pub returns-clause-out_after : goal.returns-clause-out_after
returns-clause-out_after c =
    let a = c.args in
    let ws = a.words.now in
    let cs = cliques_from ws a.first a.count in
    let base : ℕ = a.end - sum (map dim_of cs) in
    let full = down_words a.cone a.pattern 0 base cs in
    let z : a.count - c.loop-clique.clique ≡ 0 = omega arith in
    let count : length full ≡ a.count * 5 =
    omega (arith, entries-length (entries_down a.cone a.pattern 0 base cs), down-length a.cone a.pattern 0 base cs, many-length read_clique a.count (drop a.first ws) c.requires.whole.0) in
    sym (ap (λ (n : ℕ). down_words a.cone a.pattern c.loop-clique.clique base (cliques_from ws c.loop-clique.at n) ++ drop (n * 5) c.loop-clique.out) z) ∙ c.loop-clique.invariant.4
    ∙ ap (λ (n : ℕ). full ++ drop n a.out.now) (sym count)

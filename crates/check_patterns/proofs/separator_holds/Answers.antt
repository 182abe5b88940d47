use Prim.Native.Nat.{ℕ, suc, ◌-◌, ◌*◌, ◌+◌, ◌≤◌, ◌<◌}
use mathlib.Core.Bool.{false}
use mathlib.Core.Path.{◌≡◌, refl, sym, ap, ◌∙◌}
use mathlib.Core.List.{List, [], ◌∷◌}
use lib.ListN.{length, get_or, take, drop, get_or-eq_default}
use lib.Dec.{leb, ltb}
use borrow.Author.Tests.{le-leb}
use Rattle.layout.specs.General.Lists.{all, distinct}
use native.Mathlib.Omega.{arith}
use Rattle.layout.specs.Problems.Patterns.{Clique, read, read_clique, members, no_clique}
use Rattle.layout.proofs.Lists.Tests.{and-true, and_right}
use Rattle.supernode_tree.specs.Reads.{clique_of, cliques_from, value_or, is_whole}
use Rattle.supernode_tree.proofs.Cliques.{members-part}
use Rattle.supernode_tree.proofs.Many.{many-length}
use Rattle.supernode_tree.proofs.Words.{length_part}
use Rattle.supernode_tree.proofs.Offsets.{after, after-clique}
use Rattle.check_members.specs.OnceIn.{once_below_in}
use Rattle.check_patterns.proofs.separator_holds.Goals as goal
use Rattle.check_patterns.proofs.separator_holds.Goals.{Else-p-q}

-- a separator with a member fails if there is no parent clique
outside : (n : ℕ) (cs : List Clique) (ws : List ℕ) (parent a e : ℕ) → length cs ≤ parent → a ≤ e → e ≤ length ws → (a ≡ e → ⊥)
    → once_below_in n (members (get_or cs parent no_clique)) (take (e - a) (drop a ws)) ≡ false
outside n cs ws parent a e h l k some =
    ap (λ (q : Clique). once_below_in n (members q) (take (e - a) (drop a ws))) (get_or-eq_default cs no_clique h)
    ∙ go (take (e - a) (drop a ws)) (omega (arith, length_part a (e - a) ws (omega arith)))
  where
    go : (us : List ℕ) → 0 < length us → once_below_in n [] us ≡ false
    go [] h = absurd (omega arith)
    go (u ∷ us) h = and_right (all (λ x. ltb x n) (u ∷ us)) _ (and_right (distinct (u ∷ us)) _ refl)

-- the parent's clique is at its offset
parent-read : (c : Else-p-q) → let ws = c.args.words.now in
    let p = c.args.p in
    let parent = c.args.q.parent in
    read_clique (drop (get_or c.args.offsets.now parent 0) ws) ≡ read (get_or (cliques_from ws p.cliques p.clique_count) parent no_clique) (after ws p.cliques (suc parent))
parent-read c =
    let ws = c.args.words.now in
    let p = c.args.p in
    let parent = c.args.q.parent in
    let o : parent * 1 ≡ parent = omega arith in
    after-clique ws p.cliques p.clique_count c.requires.stand.0 parent (get_or c.args.offsets.now parent 0) c.if-p-q.false
    (c.requires.stand.2 parent (omega arith) ∙ ap (after ws p.cliques) o)

pub returns-then-p-q : goal.returns-then-p-q
returns-then-p-q c =
    let ws = c.args.words.now in
    let p = c.args.p in
    let q = c.args.q in
    sym (and_right (leb (q.snode_count + q.separator_count) 256) _ (outside p.vertex_count (cliques_from ws p.cliques p.clique_count) ws q.parent q.separator q.next
    (omega (arith, many-length read_clique p.clique_count (drop p.cliques ws) c.requires.stand.0)) c.requires.separator_le_next.0 c.requires.separator_le_next.1 c.if-q.false))

pub here-m-requires : goal.here-m-requires
here-m-requires c = ap is_whole (parent-read (goal.at.here-m-requires c).Else-p-q)

pub returns : goal.returns
returns c =
    let ws = c.args.words.now in
    let p = c.args.p in
    let q = c.args.q in
    let m = c.here-m.result in
    let us = take (q.next - q.separator) (drop q.separator ws) in
    let same : clique_of ws m ≡ get_or (cliques_from ws p.cliques p.clique_count) q.parent no_clique =
    ap (value_or no_clique) (c.here-m.ensures.result_value ∙ parent-read (goal.at.returns c).Else-p-q) in
    c.separator_right.ensures
    ∙ ap (λ (ms : List ℕ). once_below_in p.vertex_count ms us) (members-part ws (get_or c.args.offsets.now q.parent 0) m c.here-m.ensures.clique_inside ∙ ap members same)
    ∙ sym (and-true _ _ (le-leb (q.snode_count + q.separator_count) 256 (omega arith)))

-- Checks 6 and 7 for one clique.
use Rattle.std.specs.Prelude.{ℕ, suc, Bool, true, cond, not, ◌&&◌, List, [], ◌∷◌, length, get_or, eqb, ltb}
use Rattle.layout.specs.Problems.Patterns.{Clique, no_clique, members, no_parent}
use Rattle.layout.specs.General.Lists.{all, join, is_permutation}
use Rattle.check_members.specs.OnceIn.{once_in, once_below_in}

-- check 6 for clique c of k, given its parent and the size of its separator
abbrev pub parent_ok : ℕ → ℕ → ℕ → ℕ → Bool
parent_ok k c parent separators =
    cond (eqb (suc c) k) (eqb parent no_parent && eqb separators 0) (ltb c parent && ltb parent k)

abbrev pub clique_ok : ℕ → ℕ → Clique → Bool
clique_ok k c q = parent_ok k c q.parent (length q.separator)

-- check 6 for consecutive cliques, the first numbered c, out of k
abbrev pub tree_from : ℕ → ℕ → List Clique → Bool
tree_from k c [] = true
tree_from k c (q ∷ qs) = clique_ok k c q && tree_from k (suc c) qs

-- whether a separator is duplicate-free and its parent's clique, in cs, contains each member
abbrev pub separator_ok : List Clique → ℕ → List ℕ → Bool
separator_ok cs parent us = once_in (members (get_or cs parent no_clique)) us

abbrev pub separators_ok : List Clique → Bool
separators_ok cs = all (λ c. separator_ok cs c.parent c.separator) cs

-- the same, and each member is below n
abbrev pub separator_below : ℕ → List Clique → ℕ → List ℕ → Bool
separator_below n cs parent us = once_below_in n (members (get_or cs parent no_clique)) us

abbrev pub separators_below : ℕ → List Clique → Bool
separators_below n cs = all (λ c. separator_below n cs c.parent c.separator) cs

-- the members of all snodes, concatenated
abbrev pub snodes_of : List Clique → List ℕ
snodes_of cs = join (λ c. c.snode) cs

-- whether a snode is nonempty and its members are below n
abbrev pub fills : ℕ → Clique → Bool
fills n c = not (eqb (length c.snode) 0) && all (λ x. ltb x n) c.snode

-- whether each snode is so, and they have n members in all
abbrev pub snodes_fill : ℕ → List Clique → Bool
snodes_fill n cs = all (fills n) cs && eqb (length (snodes_of cs)) n

-- whether no snode is empty and together they hold each number below n exactly once
abbrev pub snodes_ok : ℕ → List Clique → Bool
snodes_ok n cs = all (λ c. not (eqb (length c.snode) 0)) cs && eqb (length (snodes_of cs)) n && is_permutation (snodes_of cs)

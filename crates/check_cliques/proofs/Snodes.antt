-- Concatenated snodes.
use Prim.Native.Nat.{ℕ, ◌+◌, ◌-◌, ◌≤◌, ◌<◌}
use native.Mathlib.Omega.{arith}
use mathlib.Core.Bool.{Bool, true, false, not, ◌&&◌}
use mathlib.Core.Path.{◌≡◌, refl, sym, ap, subst, ◌∙◌}
use mathlib.Core.List.{List, [], ◌∷◌, ◌++◌}
use lib.ListN.{length, drop, length-append}
use lib.Dec.{T, eqb, ltb}
use borrow.Author.Tests.{ne_eqb, eqb-true}
use Rattle.layout.specs.General.Lists.{all, distinct, keep}
use Rattle.layout.specs.Problems.Patterns.{Clique, read_clique}
use Rattle.layout.proofs.Lists.Distinct.{distinct_append}
use Rattle.layout.proofs.Lists.Tests.{fails, failed, differ, and_cases, and-true, and-false, and_right}
use Rattle.layout.proofs.Lists.Keeps.{keep_append}
use Rattle.layout.proofs.Lists.Walks.{all_append, all_both}
use Rattle.supernode_tree.specs.Reads.{Whole, cliques_from, clique_of, clique_read, CliqueInside}
use Rattle.supernode_tree.specs.declared.Clique.{Clique as CliqueAt}
use Rattle.std.specs.Prelude.{Some}
use Rattle.supernode_tree.proofs.Cliques.{whole-next, from_next, from-none, snode-size}
use Rattle.check_cliques.specs.Trees.{snodes_of, fills, snodes_fill, snodes_ok}

-- a duplicate in a prefix is a duplicate in the whole list
pub repeats_front : (p : ℕ → Bool) (xs ys : List ℕ) → distinct (keep p xs) ≡ false → distinct (keep p (xs ++ ys)) ≡ false
repeats_front p xs ys e = failed _ (λ d. fails _ e ((distinct_append (keep p xs) (keep p ys)).0 (subst (λ (l : List ℕ). T (distinct l)) (keep_append p xs ys) d)).0)

-- ---- counting snode members, with no snode empty and all members below n

-- the loop's state where `left` cliques are left, from offset `at`
pub record Counting (n : ℕ) (ws : List ℕ) (first count total at left : ℕ) : Type 0 where
  pub stand : Whole ws at left
  pub full : all (fills n) (cliques_from ws first count) ≡ all (fills n) (cliques_from ws at left)
  pub sum : total + length (snodes_of (cliques_from ws at left)) ≡ length (snodes_of (cliques_from ws first count))
  pub low : total ≤ at

pub counting_start : (n : ℕ) (ws : List ℕ) (first count : ℕ) → Whole ws first count → Counting n ws first count 0 first count
counting_start n ws first count w = record { stand = w; full = refl; sum = omega arith; low = omega arith }

module _ (n : ℕ) (ws : List ℕ) (first count total at left : ℕ) (k : Counting n ws first count total at left) where
  module _ (more : 0 < left) (q : CliqueAt) (e : clique_read ws (Some q) ≡ read_clique (drop at ws)) (i : CliqueInside (length ws) at (Some q)) where
    first_is : cliques_from ws at left ≡ clique_of ws q ∷ cliques_from ws q.next (left - 1)
    first_is = from_next ws at left (Some q) e more q refl k.stand

    cases : (fills n (clique_of ws q) ≡ false → all (fills n) (cliques_from ws first count) ≡ false)
        × (fills n (clique_of ws q) ≡ true → all (fills n) (cliques_from ws first count) ≡ all (fills n) (cliques_from ws q.next (left - 1)))
    cases = and_cases (fills n (clique_of ws q)) (all (fills n) (cliques_from ws q.next (left - 1))) _ (k.full ∙ ap (all (fills n)) first_is)

    stops : fills n (clique_of ws q) ≡ false → false ≡ snodes_fill n (cliques_from ws first count)
    stops z = sym (and-false _ _ (cases.0 z))

    some : (q.snode_count ≡ 0 → ⊥) → not (eqb (length (clique_of ws q).snode) 0) ≡ true
    some h = ap (λ (m : ℕ). not (eqb m 0)) (snode-size ws at q i) ∙ ap not (ne_eqb q.snode_count 0 h)

    pub counting_empty : q.snode_count ≡ 0 → false ≡ snodes_fill n (cliques_from ws first count)
    counting_empty z = stops (and-false _ _ (ap (λ (m : ℕ). not (eqb m 0)) ((snode-size ws at q i) ∙ z)))

    pub counting_above : all (λ x. ltb x n) (clique_of ws q).snode ≡ false → false ≡ snodes_fill n (cliques_from ws first count)
    counting_above z = stops (and_right (not (eqb (length (clique_of ws q).snode) 0)) _ z)

    pub counting_fits : total + q.snode_count ≤ length ws
    counting_fits = omega (arith, k.low)

    pub counting_goes : (q.snode_count ≡ 0 → ⊥) → all (λ x. ltb x n) (clique_of ws q).snode ≡ true
        → Counting n ws first count (total + q.snode_count) q.next (left - 1)
    counting_goes h b = record {
      stand = sym (whole-next ws at left (Some q) e more q refl) ∙ k.stand;
      full = cases.1 (and-true _ _ (some h) ∙ b);
      sum = omega (arith, k.sum, ap (λ (cs : List Clique). length (snodes_of cs)) first_is, length-append (clique_of ws q).snode (snodes_of (cliques_from ws q.next (left - 1))), (snode-size ws at q i));
      low = omega (arith, k.low);
    }

  pub counting_done : left ≤ 0 → eqb total n ≡ snodes_fill n (cliques_from ws first count)
  counting_done z =
      let none = from-none ws at left z in
      let same : total ≡ length (snodes_of (cliques_from ws first count)) = omega (arith, k.sum, ap (λ (cs : List Clique). length (snodes_of cs)) none) in
      ap (λ (m : ℕ). eqb m n) same ∙ sym (and-true _ _ (k.full ∙ ap (all (fills n)) none))

-- ---- what is left to test then

all-snodes : (p : ℕ → Bool) (cs : List Clique) → all p (snodes_of cs) ≡ all (λ (c : Clique). all p c.snode) cs
all-snodes p [] = refl
all-snodes p (c ∷ cs) = all_append p c.snode (snodes_of cs) ∙ ap (λ (b : Bool). all p c.snode && b) (all-snodes p cs)

module _ (n : ℕ) (cs : List Clique) where
  filled-below : all (fills n) cs ≡ (all (λ c. not (eqb (length c.snode) 0)) cs && all (λ x. ltb x n) (snodes_of cs))
  filled-below =
      all_both (λ (c : Clique). not (eqb (length c.snode) 0)) (λ (c : Clique). all (λ x. ltb x n) c.snode) cs
      ∙ ap (λ (b : Bool). all (λ c. not (eqb (length c.snode) 0)) cs && b) (sym (all-snodes (λ x. ltb x n) cs))

  -- both forms of the test agree
  tests : (f : Bool) (m : ℕ) (below : ℕ → Bool) (d : Bool)
      → ((f && below n && eqb m n) ≡ false → (f && eqb m n && (below m && d)) ≡ false)
      × ((f && below n && eqb m n) ≡ true → (m ≡ n) × (below n ≡ true) × (d ≡ (f && eqb m n && (below m && d))))
  tests false m below d = (λ z. refl, λ z. absurd (differ false z refl))
  tests true m below d = go (eqb m n) refl
    where
      pick : (b : Bool) → ((b && true) ≡ false → (b && d) ≡ false) × ((b && true) ≡ true → (n ≡ n) × (b ≡ true) × (d ≡ (b && d)))
      pick true = (λ z. absurd (differ true refl z), λ z. (refl, refl, refl))
      pick false = (λ z. refl, λ z. absurd (differ false z refl))

      go : (b : Bool) → eqb m n ≡ b
          → ((below n && eqb m n) ≡ false → (eqb m n && (below m && d)) ≡ false)
          × ((below n && eqb m n) ≡ true → (m ≡ n) × (below n ≡ true) × (d ≡ (eqb m n && (below m && d))))
      go true q = rw (q, eqb-true m n q) (pick (below n))
      go false q = rw q (λ z. refl, λ z. absurd (differ _ z (and_right (below n) false refl)))

  both : (snodes_fill n cs ≡ false → snodes_ok n cs ≡ false)
      × (snodes_fill n cs ≡ true → (length (snodes_of cs) ≡ n) × (all (λ x. ltb x n) (snodes_of cs) ≡ true) × (distinct (snodes_of cs) ≡ snodes_ok n cs))
  both =
      let us = snodes_of cs in
      rw filled-below (tests (all (λ c. not (eqb (length c.snode) 0)) cs) (length us) (λ m. all (λ x. ltb x m) us) (distinct us))

  pub fill_fails : snodes_fill n cs ≡ false → snodes_ok n cs ≡ false
  fill_fails = both.0

  pub fill_holds : snodes_fill n cs ≡ true
      → (length (snodes_of cs) ≡ n) × (all (λ x. ltb x n) (snodes_of cs) ≡ true) × (distinct (snodes_of cs) ≡ snodes_ok n cs)
  fill_holds = both.1

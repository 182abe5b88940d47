-- Reads of members, cliques and heads from an offset on: `readMembers`, `readClique` and `read_head` of `drop at ws`.
use Prim.Native.Nat.{ℕ, ◌+◌, ◌-◌, ◌≤◌, ◌<◌}
use native.Mathlib.Numerals.{add-one}
use native.Mathlib.Omega.{arith}
use mathlib.Core.Bool.{true, false}
use mathlib.Core.Logic.{inl, inr}
use mathlib.Core.Path.{◌≡◌, refl, sym, ap, ◌∙◌}
use mathlib.Core.List.{List, [], ◌∷◌, ◌++◌}
use lib.ListN.{length, get_or, take, drop, length-drop}
use lib.Seq.{drop-cons, drop-drop, take-add, length-take-le}
use lib.Dec.{leb}
use borrow.Author.Tests.{le-leb, lt-leb, leb-true, leb-false}
use Rattle.layout.specs.Problems.Patterns.{Read, read, short, and_then, read_head, read_members, read_clique, ends_right}
use Rattle.layout.proofs.Lists.Tests.{differ, lt_or_le}
use Rattle.supernode_tree.specs.Reads.{head_of, pattern_read, clique_of, clique_read, is_whole}
use Rattle.supernode_tree.specs.declared.Clique.{Clique as CliqueAt}
use Rattle.std.specs.Prelude.{Option, Some}
use Rattle.supernode_tree.specs.declared.Pattern.{Pattern as PatternAt}

pub drop-next : (ws : List ℕ) (at next : ℕ) → at + 1 ≡ next → at < length ws → drop at ws ≡ get_or ws at 0 ∷ drop next ws
drop-next ws at next e h = rw (← e, add-one, drop-cons ws at 0)

drop_three : (ws : List ℕ) (at : ℕ) → at + 3 ≤ length ws
    → drop at ws ≡ get_or ws at 0 ∷ get_or ws (at + 1) 0 ∷ get_or ws (at + 2) 0 ∷ drop (at + 3) ws
drop_three ws at h =
    drop-next ws at (at + 1) refl (omega arith)
    ∙ ap (λ (l : List ℕ). get_or ws at 0 ∷ l) (drop-next ws (at + 1) (at + 2) (omega arith) (omega arith)
    ∙ ap (λ (l : List ℕ). get_or ws (at + 1) 0 ∷ l) (drop-next ws (at + 2) (at + 3) (omega arith) (omega arith)))

members-read : (k at : ℕ) (ws : List ℕ) → at + k ≤ length ws
    → read_members k (drop at ws) ≡ read (take k (drop at ws)) (drop (at + k) ws)
members-read k at ws h = rw (length-drop at ws, le-leb k (length ws - at) (omega arith), drop-drop k at ws)

members-short : (k at : ℕ) (ws : List ℕ) → length ws - at < k → read_members k (drop at ws) ≡ short
members-short k at ws h = rw (length-drop at ws, lt-leb k (length ws - at) h)

few_words : (ws : List ℕ) → length ws < 3 → read_clique ws ≡ short
few_words [] h = refl
few_words (p ∷ []) h = refl
few_words (p ∷ a ∷ []) h = refl
few_words (p ∷ a ∷ e ∷ ws) h = absurd (omega arith)

clique-short : (ws : List ℕ) (at : ℕ) → length ws < at + 3 → read_clique (drop at ws) ≡ short
clique-short ws at h = few_words (drop at ws) (omega (arith, length-drop at ws))

clique-short-snode : (ws : List ℕ) (at : ℕ) → at + 3 ≤ length ws → length ws - (at + 3) < get_or ws (at + 1) 0
    → read_clique (drop at ws) ≡ short
clique-short-snode ws at h s = rw (drop_three ws at h, members-short (get_or ws (at + 1) 0) (at + 3) ws s)

clique-short-separator : (ws : List ℕ) (at : ℕ) → at + 3 + get_or ws (at + 1) 0 ≤ length ws
    → length ws - (at + 3 + get_or ws (at + 1) 0) < get_or ws (at + 2) 0 → read_clique (drop at ws) ≡ short
clique-short-separator ws at h s =
    rw (
      drop_three ws at (omega arith),
      members-read (get_or ws (at + 1) 0) (at + 3) ws h,
      members-short (get_or ws (at + 2) 0) (at + 3 + get_or ws (at + 1) 0) ws s,
    )

clique-whole : (ws : List ℕ) (at : ℕ) → at + 3 + get_or ws (at + 1) 0 + get_or ws (at + 2) 0 ≤ length ws
    → read_clique (drop at ws) ≡ read (record {
      parent = get_or ws at 0;
      snode = take (get_or ws (at + 1) 0) (drop (at + 3) ws);
      separator = take (get_or ws (at + 2) 0) (drop (at + 3 + get_or ws (at + 1) 0) ws);
    }) (drop (at + 3 + get_or ws (at + 1) 0 + get_or ws (at + 2) 0) ws)
clique-whole ws at h =
    rw (
      drop_three ws at (omega arith),
      members-read (get_or ws (at + 1) 0) (at + 3) ws (omega arith),
      members-read (get_or ws (at + 2) 0) (at + 3 + get_or ws (at + 1) 0) ws h,
    )

-- ---- heads

few-head-words : (ws : List ℕ) → length ws < 3 → read_head ws ≡ short
few-head-words [] h = refl
few-head-words (p ∷ []) h = refl
few-head-words (p ∷ a ∷ []) h = refl
few-head-words (p ∷ a ∷ e ∷ ws) h = absurd (omega arith)

head-short : (ws : List ℕ) (at : ℕ) → length ws < at + 3 → read_head (drop at ws) ≡ short
head-short ws at h = few-head-words (drop at ws) (omega (arith, length-drop at ws))

head-short-ordering : (ws : List ℕ) (at : ℕ) → at + 3 ≤ length ws → length ws - (at + 3) < get_or ws (at + 1) 0
    → read_head (drop at ws) ≡ short
head-short-ordering ws at h s = rw (drop_three ws at h, members-short (get_or ws (at + 1) 0) (at + 3) ws s)

head-whole : (ws : List ℕ) (at : ℕ) → at + 3 + get_or ws (at + 1) 0 ≤ length ws
    → read_head (drop at ws) ≡ read (record {
      orig_index = get_or ws at 0;
      vertex_count = get_or ws (at + 1) 0;
      clique_count = get_or ws (at + 2) 0;
      ordering = take (get_or ws (at + 1) 0) (drop (at + 3) ws);
    }) (drop (at + 3 + get_or ws (at + 1) 0) ws)
head-whole ws at h = rw (drop_three ws at (omega arith), members-read (get_or ws (at + 1) 0) (at + 3) ws h)

-- ---- complete cliques and heads

clique-short-parts : (ws : List ℕ) (at : ℕ) → at + 3 ≤ length ws → length ws < at + 3 + get_or ws (at + 1) 0 + get_or ws (at + 2) 0
    → read_clique (drop at ws) ≡ short
clique-short-parts ws at h l = elim (lt_or_le (length ws) (at + 3 + get_or ws (at + 1) 0)) [
  | inl m ↦ clique-short-snode ws at h (omega arith)
  | inr m ↦ clique-short-separator ws at m (omega arith)
]

-- a complete clique ends inside the words
pub clique-fits : (ws : List ℕ) (at : ℕ) → is_whole (read_clique (drop at ws)) ≡ true
    → at + 3 + get_or ws (at + 1) 0 + get_or ws (at + 2) 0 ≤ length ws
clique-fits ws at w = elim (lt_or_le (length ws) (at + 3)) [
  | inl l ↦ stands (clique-short ws at l)
  | inr l ↦ elim (lt_or_le (length ws) (at + 3 + get_or ws (at + 1) 0 + get_or ws (at + 2) 0)) [
    | inl n ↦ stands (clique-short-parts ws at l n)
    | inr n ↦ n
  ]
]
  where
    stands : {A : Type 0} → read_clique (drop at ws) ≡ short → A
    stands e = absurd (differ (is_whole (read_clique (drop at ws))) w (ap is_whole e))

pub room_after : (at size n : ℕ) → at ≤ n → leb size (n - at) ≡ leb (at + size) n
room_after at size n l = elim (lt_or_le n (at + size)) [
  | inl h ↦ lt-leb size (n - at) (omega arith) ∙ sym (lt-leb (at + size) n h)
  | inr h ↦ le-leb size (n - at) (omega arith) ∙ sym (le-leb (at + size) n h)
]

-- where three words are not left, there is no complete clique and no complete head
module _ (ws : List ℕ) (at : ℕ) (f : leb (at + 3) (length ws) ≡ false) where
  pub clique-none : is_whole (read_clique (drop at ws)) ≡ false
  clique-none = ap is_whole (clique-short ws at (leb-false (at + 3) (length ws) f))

  pub head-none : is_whole (read_head (drop at ws)) ≡ false
  head-none = ap is_whole (head-short ws at (leb-false (at + 3) (length ws) f))

-- completeness of a clique with counts a and e, and of a head with v vertices, by the counts that are read
module _ (ws : List ℕ) (at a e : ℕ) (p : a ≡ get_or ws (at + 1) 0) (q : e ≡ get_or ws (at + 2) 0) where
  pub clique-stands : leb (at + 3) (length ws) ≡ true → leb (at + 3 + (a + e)) (length ws) ≡ is_whole (read_clique (drop at ws))
  clique-stands t = elim (lt_or_le (length ws) (at + 3 + get_or ws (at + 1) 0 + get_or ws (at + 2) 0)) [
    | inl n ↦
        lt-leb (at + 3 + (a + e)) (length ws) (omega arith) ∙ sym (ap is_whole (clique-short-parts ws at (leb-true (at + 3) (length ws) t) n))
    | inr n ↦ le-leb (at + 3 + (a + e)) (length ws) (omega arith) ∙ sym (ap is_whole (clique-whole ws at n))
  ]

  pub clique_made : at + 3 + get_or ws (at + 1) 0 + get_or ws (at + 2) 0 ≤ length ws
      → read (record { parent = get_or ws at 0; snode = take a (drop (at + 3) ws); separator = take e (drop (at + 3 + a) ws) }) (drop (at + 3 + a + e) ws)
      ≡ read_clique (drop at ws)
  clique_made h = rw (p, q) (sym (clique-whole ws at h))

module _ (ws : List ℕ) (at v : ℕ) (p : v ≡ get_or ws (at + 1) 0) where
  pub head-stands : leb (at + 3) (length ws) ≡ true → leb (at + 3 + v) (length ws) ≡ is_whole (read_head (drop at ws))
  head-stands t = elim (lt_or_le (length ws) (at + 3 + get_or ws (at + 1) 0)) [
    | inl n ↦
        lt-leb (at + 3 + v) (length ws) (omega arith)
        ∙ sym (ap is_whole (head-short-ordering ws at (leb-true (at + 3) (length ws) t) (omega (arith, leb-true (at + 3) (length ws) t))))
    | inr n ↦ le-leb (at + 3 + v) (length ws) (omega arith) ∙ sym (ap is_whole (head-whole ws at n))
  ]

  pub head_made : at + 3 + get_or ws (at + 1) 0 ≤ length ws
      → read (record { orig_index = get_or ws at 0; vertex_count = v; clique_count = get_or ws (at + 2) 0; ordering = take v (drop (at + 3) ws) }) (drop (at + 3 + v) ws)
      ≡ read_head (drop at ws)
  head_made h = rw p (sym (head-whole ws at h))

pub head-fits : (ws : List ℕ) (at : ℕ) → is_whole (read_head (drop at ws)) ≡ true → at + 3 + get_or ws (at + 1) 0 ≤ length ws
head-fits ws at w = elim (lt_or_le (length ws) (at + 3)) [
  | inl l ↦ stands (head-short ws at l)
  | inr l ↦ elim (lt_or_le (length ws) (at + 3 + get_or ws (at + 1) 0)) [
    | inl n ↦ stands (head-short-ordering ws at l (omega arith))
    | inr n ↦ n
  ]
]
  where
    stands : {A : Type 0} → read_head (drop at ws) ≡ short → A
    stands e = absurd (differ (is_whole (read_head (drop at ws))) w (ap is_whole e))

-- ---- one read after another

module _ {A B : Type 0} where
  -- whether a read ends with the words does not depend on the value made from what is read
  pub ends_made : (r : Read A) (f : A → B) → ends_right (and_then r (λ a ws. read (f a) ws)) ≡ ends_right r
  ends_made (read a []) f = refl
  ends_made (read a (w ∷ ws)) f = refl
  ends_made short f = refl

-- a read up to an offset ends with the words exactly if the offset is at or after their end
pub ends_at : {A : Type 0} (a : A) (ws : List ℕ) (at : ℕ) → ends_right (read a (drop at ws)) ≡ leb (length ws) at
ends_at a ws at = go (drop at ws) (length-drop at ws)
  where
    go : (l : List ℕ) → length l ≡ length ws - at → ends_right (read a l) ≡ leb (length ws) at
    go [] e = sym (le-leb (length ws) at (omega arith))
    go (w ∷ l) e = sym (lt-leb (length ws) at (omega arith))

-- the clique that is read, and the words after it
pub clique-found : (ws : List ℕ) (at : ℕ) (r : Option CliqueAt) (q : CliqueAt) → clique_read ws r ≡ read_clique (drop at ws) → r ≡ Some q
    → read_clique (drop at ws) ≡ read (clique_of ws q) (drop q.next ws)
clique-found ws at r q e f = sym e ∙ ap (clique_read ws) f

pub head-found : (ws : List ℕ) (at : ℕ) (r : Option PatternAt) (p : PatternAt) → pattern_read ws r ≡ read_head (drop at ws) → r ≡ Some p
    → read_head (drop at ws) ≡ read (head_of ws p) (drop p.cliques ws)
head-found ws at r p e f = sym e ∙ ap (pattern_read ws) f

pub length_part : (at k : ℕ) (ws : List ℕ) → at + k ≤ length ws → length (take k (drop at ws)) ≡ k
length_part at k ws h = length-take-le k (drop at ws) (omega (arith, length-drop at ws))

-- two adjacent parts of the words are one part
pub part-part : (ws : List ℕ) (a b c : ℕ) → a ≤ b → b ≤ c → take (b - a) (drop a ws) ++ take (c - b) (drop b ws) ≡ take (c - a) (drop a ws)
part-part ws a b c h l =
    let e : c - a ≡ b - a + (c - b) = omega arith in
    let f : a + (b - a) ≡ b = omega arith in
    sym (ap (λ (n : ℕ). take n (drop a ws)) e ∙ take-add (b - a) (c - b) (drop a ws)
    ∙ ap (λ (l : List ℕ). take (b - a) (drop a ws) ++ take (c - b) l) (drop-drop (b - a) a ws ∙ ap (λ (n : ℕ). drop n ws) f))

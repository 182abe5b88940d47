-- Pattern words: writing what was read gives the words back, and reading the words of patterns gives these patterns.
use Prim.Native.Nat.{ℕ, zero, suc, ◌≤◌}
use native.Mathlib.Omega.{arith}
use mathlib.Core.Path.{◌≡◌, refl, sym, ap, ap₂, ◌∙◌}
use mathlib.Core.Bool.{Bool, true, false, cond}
use mathlib.Core.List.{List, [], ◌∷◌, ◌++◌, append_assoc, append-nil}
use lib.ListN.{length, take, drop, take-append-drop, length-append}
use lib.Seq.{length-take-le, take-append_seam, drop-append_seam}
use lib.Dec.{T, leb, leb→le, le→leb}
use Rattle.layout.specs.General.Lists.{all, join}
use Rattle.layout.specs.Problems.Patterns.{Read, read, short, and_then, Clique, Pattern, Head, read_head, read_members, read_many, read_clique, read_cliques, read_pattern, read_patterns, clique_words, pattern_words_of, patterns, wholly, ends_right}
use Rattle.layout.proofs.Lists.Tests.{and_iff, eqb_iff, cond_passed}
use Rattle.layout.proofs.Patterns.Reading.{ordering_fits}

-- ---- the words are those of what was read, then the words after it

module _ {A : Type 0} where
  -- P holds of what was read and the words after it, if anything was read
  abbrev pub After : (A → List ℕ → Type 0) → Read A → Type 0
  After P (read a left) = P a left
  After P short = Unit {0}

  -- if the words end with what was read, P holds of it with no words after it
  after-wholly : (P : A → List ℕ → Type 0) (none : A) (r : Read A) → After P r → T (ends_right r) → P (wholly none r) []
  after-wholly P none (read a []) h e = h
  after-wholly P none (read a (w ∷ ws)) h e = absurd e
  after-wholly P none short h e = absurd e

module _ {A B : Type 0} where
  after_then : (P : A → List ℕ → Type 0) (Q : B → List ℕ → Type 0) (r : Read A) (f : A → List ℕ → Read B)
      → After P r → ((a : A) (left : List ℕ) → P a left → After Q (f a left)) → After Q (and_then r f)
  after_then P Q (read a left) f h k = k a left h
  after_then P Q short f h k = tt

abbrev MembersOf : ℕ → List ℕ → List ℕ → List ℕ → Type 0
MembersOf k ws xs left = (ws ≡ xs ++ left) × (length xs ≡ k)

members-after : (k : ℕ) (ws : List ℕ) → After (MembersOf k ws) (read_members k ws)
members-after k ws = pick (leb k (length ws)) (leb→le k (length ws))
  where
    pick : (b : Bool) → (T b → k ≤ length ws) → After (MembersOf k ws) (cond b (read (take k ws) (drop k ws)) short)
    pick true h = (sym (take-append-drop k ws), length-take-le k ws (h tt))
    pick false h = tt

module _ {A : Type 0} (words : A → List ℕ) where
  -- ws are the words of a (`OneOf`) or of k elements (`ManyOf`), then the words `left`
  abbrev pub OneOf : List ℕ → A → List ℕ → Type 0
  OneOf ws a left = ws ≡ words a ++ left

  abbrev ManyOf : ℕ → List ℕ → List A → List ℕ → Type 0
  ManyOf k ws xs left = (ws ≡ join words xs ++ left) × (length xs ≡ k)

  many-after : (one : List ℕ → Read A) → ((ws : List ℕ) → After (OneOf ws) (one ws))
      → (k : ℕ) (ws : List ℕ) → After (ManyOf k ws) (read_many one k ws)
  many-after one h zero ws = (refl, refl)
  many-after one h (suc k) ws =
      after_then (OneOf ws) (ManyOf (suc k) ws) (one ws) _ (h ws) (λ a left e.
      after_then (ManyOf k left) (ManyOf (suc k) ws) (read_many one k left) _ (many-after one h k left) (λ xs end g.
      (e ∙ ap (λ (l : List ℕ). words a ++ l) g.0 ∙ sym (append_assoc (words a) (join words xs) end), ap suc g.1)))

  -- the words of a list, read as that many elements, give the list
  many_read : (one : List ℕ → Read A) (fits : A → Bool) → ((a : A) (left : List ℕ) → T (fits a) → one (words a ++ left) ≡ read a left)
      → (xs : List A) (left : List ℕ) → T (all fits xs) → read_many one (length xs) (join words xs ++ left) ≡ read xs left
  many_read one fits h [] left k = refl
  many_read one fits h (a ∷ xs) left k =
      let (here, rest) = (and_iff (fits a) (all fits xs)).0 k in
      rw (append_assoc (words a) (join words xs) left, h a (join words xs ++ left) here, many_read one fits h xs left rest)

clique-after : (ws : List ℕ) → After (OneOf clique_words ws) (read_clique ws)
clique-after [] = tt
clique-after (p ∷ []) = tt
clique-after (p ∷ a ∷ []) = tt
clique-after (p ∷ a ∷ e ∷ ws) =
    after_then (MembersOf a ws) (OneOf clique_words (p ∷ a ∷ e ∷ ws)) (read_members a ws) _ (members-after a ws) (λ xs left h.
    after_then (MembersOf e left) (OneOf clique_words (p ∷ a ∷ e ∷ ws)) (read_members e left) _ (members-after e left) (λ ys end g.
    rw (h.1, g.1) (ap (λ (l : List ℕ). p ∷ a ∷ e ∷ l) (h.0 ∙ ap (λ (l : List ℕ). xs ++ l) g.0 ∙ sym (append_assoc xs ys end)))))

cliques-after : (k : ℕ) (ws : List ℕ) → After (ManyOf clique_words k ws) (read_cliques k ws)
cliques-after k ws = many-after clique_words read_clique clique-after k ws

abbrev HeadOf : List ℕ → Head → List ℕ → Type 0
HeadOf ws h left = (ws ≡ h.orig_index ∷ h.vertex_count ∷ h.clique_count ∷ (h.ordering ++ left)) × (length h.ordering ≡ h.vertex_count)

head-after : (ws : List ℕ) → After (HeadOf ws) (read_head ws)
head-after [] = tt
head-after (o ∷ []) = tt
head-after (o ∷ v ∷ []) = tt
head-after (o ∷ v ∷ k ∷ ws) =
    after_then (MembersOf v ws) (HeadOf (o ∷ v ∷ k ∷ ws)) (read_members v ws) _ (members-after v ws)
    (λ xs left h. (ap (λ (l : List ℕ). o ∷ v ∷ k ∷ l) h.0, h.1))

pub pattern_after : (ws : List ℕ) → After (OneOf pattern_words_of ws) (read_pattern ws)
pattern_after ws =
    after_then (HeadOf ws) (OneOf pattern_words_of ws) (read_head ws) _ (head-after ws) (λ h rest k.
    after_then (ManyOf clique_words h.clique_count rest) (OneOf pattern_words_of ws) (read_cliques h.clique_count rest) _
    (cliques-after h.clique_count rest) (λ cs left g.
    k.0
    ∙ ap₂ (λ (n : ℕ) (l : List ℕ). h.orig_index ∷ h.vertex_count ∷ n ∷ (h.ordering ++ l)) (sym g.1) g.0
    ∙ ap (λ (l : List ℕ). h.orig_index ∷ h.vertex_count ∷ length cs ∷ l) (sym (append_assoc h.ordering (join clique_words cs) left))))

-- words that end neither early nor late are the words of their patterns, whose number is `count`
pub words_of_patterns : (count : ℕ) (ws : List ℕ) → T (ends_right (read_patterns count ws))
    → (ws ≡ join pattern_words_of (patterns count ws)) × (length (patterns count ws) ≡ count)
words_of_patterns count ws e =
    let (same, many) = after-wholly (ManyOf pattern_words_of count ws) [] (read_patterns count ws)
    (many-after pattern_words_of read_pattern pattern_after count ws) e in
    (same ∙ append-nil (join pattern_words_of (patterns count ws)), many)

-- ---- reading words back

members-read : (xs left : List ℕ) → read_members (length xs) (xs ++ left) ≡ read xs left
members-read xs left =
    cond_passed (leb (length xs) (length (xs ++ left))) _ _ (le→leb (length xs) (length (xs ++ left)) (omega (arith, length-append xs left)))
    ∙ ap₂ read (take-append_seam xs left) (drop-append_seam xs left)

clique-read : (c : Clique) (left : List ℕ) → read_clique (clique_words c ++ left) ≡ read c left
clique-read c left =
    rw (append_assoc c.snode c.separator left, members-read c.snode (c.separator ++ left), members-read c.separator left)

every_clique : (cs : List Clique) → T (all (λ c. true) cs)
every_clique [] = tt
every_clique (c ∷ cs) = every_clique cs

cliques-read : (cs : List Clique) (left : List ℕ) → read_cliques (length cs) (join clique_words cs ++ left) ≡ read cs left
cliques-read cs left = many_read clique_words read_clique (λ c. true) (λ c rest _. clique-read c rest) cs left (every_clique cs)

pattern_read : (p : Pattern) (left : List ℕ) → T (ordering_fits p) → read_pattern (pattern_words_of p ++ left) ≡ read p left
pattern_read p left fits =
    let e : length p.ordering ≡ p.vertex_count = (eqb_iff (length p.ordering) p.vertex_count).0 fits in
    rw (
      append_assoc p.ordering (join clique_words p.cliques) left,
      ← e,
      members-read p.ordering (join clique_words p.cliques ++ left),
      cliques-read p.cliques left,
    )

-- the words of patterns whose orderings have one entry for each vertex are read as these patterns
pub patterns_of_words : (ps : List Pattern) → T (all ordering_fits ps) → read_patterns (length ps) (join pattern_words_of ps) ≡ read ps []
patterns_of_words ps fits =
    ap (read_patterns (length ps)) (sym (append-nil (join pattern_words_of ps)))
    ∙ many_read pattern_words_of read_pattern ordering_fits pattern_read ps [] fits

-- Reading k items of one kind, one after the other.
use Prim.Native.Nat.{ℕ, zero, suc, ◌+◌, ◌-◌, ◌≤◌, ◌<◌}
use native.Mathlib.Omega.{arith}
use mathlib.Core.Bool.{true, false}
use mathlib.Core.Path.{◌≡◌, refl, sym, ap, ◌∙◌}
use mathlib.Core.List.{List, [], ◌∷◌, ◌++◌}
use lib.ListN.{length, drop}
use lib.Seq.{drop_at}
use Rattle.layout.specs.Problems.Patterns.{Read, read, short, and_then, read_many, ends_right, wholly}
use Rattle.supernode_tree.specs.Reads.{is_whole, value_or, rest, ended}
use Rattle.layout.proofs.Lists.Tests.{differ}

module _ {A : Type 0} where
  -- a complete read is its value and the words after it
  pub whole-read : (d : A) (r : Read A) → is_whole r ≡ true → r ≡ read (value_or d r) (rest r)
  whole-read d (read a ws) h = refl
  whole-read d short h = absurd (differ false h refl)

  pub not-whole : (r : Read A) → is_whole r ≡ false → r ≡ short
  not-whole (read a ws) h = absurd (differ true refl h)
  not-whole short h = refl

  pub ends-whole : (r : Read A) → ends_right r ≡ true → is_whole r ≡ true
  ends-whole (read a ws) h = refl
  ends-whole short h = h

  pub ends-value : (d : A) (r : Read A) → ends_right r ≡ true → wholly d r ≡ value_or d r
  ends-value d (read a []) h = refl
  ends-value d (read a (w ∷ ws)) h = absurd (differ false h refl)
  ends-value d short h = refl

  pub ended-ends : (r : Read A) → ends_right (ended r) ≡ ends_right r
  ended-ends (read a []) = refl
  ended-ends (read a (w ∷ ws)) = refl
  ended-ends short = refl

  cons-ended : (a : A) (r : Read (List A)) → ended (and_then r (λ more left. read (a ∷ more) left)) ≡ ended r
  cons-ended a (read more left) = refl
  cons-ended a short = refl

  cons-whole : (a : A) (r : Read (List A)) → is_whole (and_then r (λ more left. read (a ∷ more) left)) ≡ is_whole r
  cons-whole a (read more left) = refl
  cons-whole a short = refl

  cons-rest : (a : A) (r : Read (List A)) → rest (and_then r (λ more left. read (a ∷ more) left)) ≡ rest r
  cons-rest a (read more left) = refl
  cons-rest a short = refl

  cons-value : (a : A) (r : Read (List A)) → is_whole r ≡ true → value_or [] (and_then r (λ more left. read (a ∷ more) left)) ≡ a ∷ value_or [] r
  cons-value a (read more left) h = refl
  cons-value a short h = absurd (differ false h refl)

  -- reading k items, k above 0, is reading one and then k - 1
  module _ (one : List ℕ → Read A) (k : ℕ) (ws : List ℕ) (more : 0 < k) where
    opened : read_many one k ws ≡ read_many one (suc (k - 1)) ws
    opened = let e : k ≡ suc (k - 1) = omega arith in ap (λ (n : ℕ). read_many one n ws) e

    many-short : one ws ≡ short → is_whole (read_many one k ws) ≡ false
    many-short e = ap is_whole opened ∙ rw e

    -- if the first item ends early, so do all; otherwise the items after it start where it ends
    module _ (x : Read (Unit {0})) (e : ended (one ws) ≡ x) where
      pub ended-short : x ≡ short → ended (read_many one k ws) ≡ short
      ended-short f = ap ended opened ∙ go (one ws) (e ∙ f)
        where
          go : (r : Read A) → ended r ≡ short → ended (and_then r (λ a left. and_then (read_many one (k - 1) left) (λ as' end. read (a ∷ as') end))) ≡ short
          go (read a left) h = absurd (differ true refl (ap is_whole h))
          go short h = refl

      pub ended-next : (next : List ℕ) → x ≡ read tt next → ended (read_many one k ws) ≡ ended (read_many one (k - 1) next)
      ended-next next f = ap ended opened ∙ go (one ws) (e ∙ f)
        where
          go : (r : Read A) → ended r ≡ read tt next
              → ended (and_then r (λ a left. and_then (read_many one (k - 1) left) (λ as' end. read (a ∷ as') end))) ≡ ended (read_many one (k - 1) next)
          go (read a left) h = cons-ended a (read_many one (k - 1) left) ∙ ap (λ (l : List ℕ). ended (read_many one (k - 1) l)) (ap rest h)
          go short h = absurd (differ false (ap is_whole h) refl)

    -- if all items are complete, the first is
    pub first-whole : is_whole (read_many one k ws) ≡ true → is_whole (one ws) ≡ true
    first-whole h = go (one ws) (sym (ap is_whole opened) ∙ h)
      where
        go : (r : Read A) → is_whole (and_then r (λ a left. and_then (read_many one (k - 1) left) (λ as' end. read (a ∷ as') end))) ≡ true → is_whole r ≡ true
        go (read a left) h = refl
        go short h = h

    module _ (a : A) (left : List ℕ) (e : one ws ≡ read a left) where
      pub many-whole : is_whole (read_many one k ws) ≡ is_whole (read_many one (k - 1) left)
      many-whole = ap is_whole opened ∙ rw e (cons-whole a (read_many one (k - 1) left))

      pub many-rest : rest (read_many one k ws) ≡ rest (read_many one (k - 1) left)
      many-rest = ap rest opened ∙ rw e (cons-rest a (read_many one (k - 1) left))

      pub many-value : is_whole (read_many one k ws) ≡ true → value_or [] (read_many one k ws) ≡ a ∷ value_or [] (read_many one (k - 1) left)
      many-value h = ap (value_or []) opened ∙ rw e (cons-value a (read_many one (k - 1) left) (sym many-whole ∙ h))

  -- ---- some items, and then more

  record Split (one : List ℕ → Read A) (a b : ℕ) (ws : List ℕ) : Type 0 where
    front : List A
    after : List ℕ
    reads : read_many one a ws ≡ read front after
    as_many : length front ≡ a
    back_is_whole : is_whole (read_many one b after) ≡ true
    values : value_or [] (read_many one (a + b) ws) ≡ front ++ value_or [] (read_many one b after)
    ends : rest (read_many one (a + b) ws) ≡ rest (read_many one b after)

  split : (one : List ℕ → Read A) (a b : ℕ) (ws : List ℕ) → is_whole (read_many one (a + b) ws) ≡ true → Split one a b ws
  split one zero b ws h =
      let e : zero + b ≡ b = omega arith in
      record {
        front = [];
        after = ws;
        reads = refl;
        as_many = refl;
        back_is_whole = rw e at h;
        values = ap (λ (n : ℕ). value_or [] (read_many one n ws)) e;
        ends = ap (λ (n : ℕ). rest (read_many one n ws)) e;
      }
  split one (suc a) b ws h = go (one ws) refl (split one a b)
    where
      go : (r : Read A) → one ws ≡ r → ((left : List ℕ) → is_whole (read_many one (a + b) left) ≡ true → Split one a b left) → Split one (suc a) b ws
      go (read x left) e others =
          let more : 0 < suc a + b = omega arith in
          let less : suc a + b - 1 ≡ a + b = omega arith in
          let w : is_whole (read_many one (suc a + b - 1) left) ≡ true = sym (many-whole one (suc a + b) ws more x left e) ∙ h in
          let s = others left (sym (ap (λ (n : ℕ). is_whole (read_many one n left)) less) ∙ w) in
          record {
            front = x ∷ s.front;
            after = s.after;
            reads = rw (e, s.reads);
            as_many = ap suc s.as_many;
            back_is_whole = s.back_is_whole;
            values = many-value one (suc a + b) ws more x left e h
                ∙ ap (λ (l : List A). x ∷ l) (ap (λ (n : ℕ). value_or [] (read_many one n left)) less ∙ s.values);
            ends = many-rest one (suc a + b) ws more x left e ∙ ap (λ (n : ℕ). rest (read_many one n left)) less ∙ s.ends;
          }
      go short e others = absurd (differ _ h (many-short one (suc a + b) ws (omega arith) e))

  module _ (one : List ℕ → Read A) (a b : ℕ) (ws : List ℕ) (h : is_whole (read_many one (a + b) ws) ≡ true) where
    pub front_whole : is_whole (read_many one a ws) ≡ true
    front_whole = ap is_whole (split one a b ws h).reads

    pub back_whole : is_whole (read_many one b (rest (read_many one a ws))) ≡ true
    back_whole = let s = split one a b ws h in ap (λ (r : Read (List A)). is_whole (read_many one b (rest r))) s.reads ∙ s.back_is_whole

    pub back-rest : rest (read_many one b (rest (read_many one a ws))) ≡ rest (read_many one (a + b) ws)
    back-rest = let s = split one a b ws h in ap (λ (r : Read (List A)). rest (read_many one b (rest r))) s.reads ∙ sym s.ends

    pub back-value : value_or [] (read_many one b (rest (read_many one a ws))) ≡ drop a (value_or [] (read_many one (a + b) ws))
    back-value =
        let s = split one a b ws h in
        ap (λ (r : Read (List A)). value_or [] (read_many one b (rest r))) s.reads
        ∙ sym (ap (drop a) s.values ∙ drop_at s.front (value_or [] (read_many one b s.after)) a s.as_many)

  pub many-length : (one : List ℕ → Read A) (k : ℕ) (ws : List ℕ) → is_whole (read_many one k ws) ≡ true → length (value_or [] (read_many one k ws)) ≡ k
  many-length one k ws h =
      let e : k ≡ k + 0 = omega arith in
      let s = split one k 0 ws (rw e at h) in
      ap (λ (r : Read (List A)). length (value_or [] r)) s.reads ∙ s.as_many

  pub ended-none : (one : List ℕ → Read A) (k : ℕ) (ws : List ℕ) → k ≤ 0 → ended (read_many one k ws) ≡ read tt ws
  ended-none one k ws h = let e : k ≡ 0 = omega arith in ap (λ (n : ℕ). ended (read_many one n ws)) e

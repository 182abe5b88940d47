-- `written xs old`: a buffer with xs written to its start, as loops and calls build it: element by element, by repeating one value,
-- by a rule for each index, part by part, and written over.
use Prim.Native.Nat.{ℕ, ◌+◌, ◌-◌, ◌≤◌, ◌<◌}
use native.Mathlib.Numerals.{add-one}
use native.Mathlib.Nat.{le_of_suc-le-suc, not-suc-le-zero, le_of_eq}
use native.Mathlib.Omega.{arith}
use mathlib.Core.Path.{◌≡◌, refl, ap, sym, ◌∙◌}
use mathlib.Core.List.{List, [], ◌∷◌, ◌++◌, map, append_assoc, append-nil, map-append}
use lib.ListN.{length, get_or, take, drop, set, replicate, length-append, length-drop, length-map, length-replicate, replicate-append-replicate, take-append-drop, drop_of_length-le}
use lib.Seq.{take-suc, take_all, length-take-le, take-append_seam, drop-append_seam, drop-append-le, drop-append-add, drop-drop}
use Rattle.layout.specs.General.Lists.{below, written}
use Rattle.layout.proofs.Lists.Members.{length-below}
use Rattle.layout.proofs.Lists.Starts.{length-written}
use Rattle.layout.proofs.Lists.Keeps.{below_more}

module _ {A : Type 0} where
  set_seam : (xs old : List A) (v : A) → length xs < length old → set (written xs old) (length xs) v ≡ written (xs ++ (v ∷ [])) old
  set_seam [] (y ∷ old) v h = refl
  set_seam (x ∷ xs) (y ∷ old) v h = ap (λ (l : List A). x ∷ l) (set_seam xs old v (le_of_suc-le-suc h))
  set_seam xs [] v h = absurd (not-suc-le-zero h)

  -- one more element stored after xs
  pub set-written : (xs old : List A) (v : A) (i : ℕ) → i ≡ length xs → i < length old
      → set (written xs old) i v ≡ written (xs ++ (v ∷ [])) old
  set-written xs old v i e h = rw e (set_seam xs old v (rw e at h))

  -- two more elements
  pub two_more : (xs old : List A) (u v : A) (t : ℕ) → t ≡ length xs → t + 1 < length old
      → set (set (written xs old) t u) (t + 1) v ≡ written (xs ++ (u ∷ v ∷ [])) old
  two_more xs old u v t e h =
      ap (λ (l : List A). set l (t + 1) v) (set-written xs old u t e (omega arith))
      ∙ set-written (xs ++ (u ∷ [])) old v (t + 1) (omega (arith, length-append xs (u ∷ []))) h
      ∙ ap (λ (l : List A). written l old) (append_assoc xs (u ∷ []) (v ∷ []))

  pub take-written : (xs old : List A) → take (length xs) (written xs old) ≡ xs
  take-written xs old = take-append_seam xs _

  pub front_read : (xs old : List A) {out : List A} → out ≡ written xs old → take (length xs) out ≡ xs
  front_read xs old w = ap (take (length xs)) w ∙ take-written xs old

  -- a list copied in order: one more element, and all of them
  pub copy_more : (src old : List A) (i : ℕ) (d : A) → i < length src → length src ≤ length old
      → set (written (take i src) old) i (get_or src i d) ≡ written (take (i + 1) src) old
  copy_more src old i d h l =
      set-written (take i src) old (get_or src i d) i (sym (length-take-le i src (omega arith))) (omega arith)
      ∙ ap (λ (xs : List A). written xs old) (sym (take-suc src i d h) ∙ ap (λ (k : ℕ). take k src) (sym (add-one i)))

  pub copy_done : (src old : List A) (i : ℕ) → length src ≤ i → written (take i src) old ≡ written src old
  copy_done src old i h = ap (λ (xs : List A). written xs old) (take_all i src h)

  -- a buffer that is overwritten completely
  pub written-whole : (xs old : List A) → length old ≡ length xs → written xs old ≡ xs
  written-whole xs old e =
      ap (λ (l : List A). xs ++ l) (drop_of_length-le old {i = length xs} (le_of_eq e)) ∙ append-nil xs

  -- one value repeated: one more element, and the whole buffer
  pub fill_more : (old : List A) (i : ℕ) (v : A) → i < length old
      → set (written (replicate i v) old) i v ≡ written (replicate (i + 1) v) old
  fill_more old i v h =
      set-written (replicate i v) old v i (sym (length-replicate i v)) h
      ∙ ap (λ (xs : List A). written xs old) (replicate-append-replicate i 1 v)

  pub filled : (old : List A) (k : ℕ) (v : A) → k ≡ length old → written (replicate k v) old ≡ replicate (length old) v
  filled old k v e =
      written-whole (replicate k v) old (omega (arith, length-replicate k v)) ∙ ap (λ (n : ℕ). replicate n v) e

  -- the value of f at each index: one more element, and the whole buffer
  pub length-mapped : (f : ℕ → A) (i : ℕ) → length (map f (below i)) ≡ i
  length-mapped f i = length-map (below i) f ∙ length-below i

  pub mapped_more : (f : ℕ → A) (old : List A) (i : ℕ) → i < length old
      → set (written (map f (below i)) old) i (f i) ≡ written (map f (below (i + 1))) old
  mapped_more f old i h =
      set-written (map f (below i)) old (f i) i (sym (length-mapped f i)) h
      ∙ ap (λ (xs : List A). written xs old) (sym (ap (map f) (below_more i) ∙ map-append f (below i) (i ∷ [])))

  pub mapped-done : (f : ℕ → A) (old : List A) (i : ℕ) → i ≡ length old → written (map f (below i)) old ≡ map f (below (length old))
  mapped-done f old i e =
      written-whole (map f (below i)) old (omega (arith, length-mapped f i)) ∙ ap (λ (k : ℕ). map f (below k)) e

  -- a list written later covers a shorter one written earlier
  pub written_over : (xs ys old : List A) → length xs ≤ length ys → written ys (written xs old) ≡ written ys old
  written_over xs ys old h =
      let k : ℕ = length ys - length xs in
      let e : length ys ≡ length xs + k = omega arith in
      ap (λ (l : List A). ys ++ l)
      (ap (λ (n : ℕ). drop n (written xs old)) e ∙ drop-append-add xs (drop (length xs) old) k
      ∙ drop-drop k (length xs) old ∙ ap (λ (n : ℕ). drop n old) (sym e))

  -- writing ys after xs, which was written before, is writing xs and ys
  pub written_on : (xs ys old : List A) {now : List A} (a : ℕ) → a ≡ length xs → now ≡ written xs old
      → written (take a now ++ ys) now ≡ written (xs ++ ys) old
  written_on xs ys old a e f =
      rw f
      (ap (λ (zs : List A). written (zs ++ ys) (written xs old)) (ap (λ (n : ℕ). take n (written xs old)) e ∙ take-written xs old)
      ∙ written_over xs (xs ++ ys) old (omega (arith, length-append xs ys)))

  -- ---- a part of a buffer passed to a call that writes it

  -- a part is passed, and ys is written to its start
  written-part : (ys old : List A) (a k : ℕ) → length ys ≤ k → a + k ≤ length old
      → take a old ++ (written ys (take k (drop a old)) ++ drop k (drop a old)) ≡ take a old ++ written ys (drop a old)
  written-part ys old a k h l =
      let part = take k (drop a old) in
      let rest = drop k (drop a old) in
      let size : length part ≡ k = length-take-le k (drop a old) (omega (arith, length-drop a old)) in
      ap (λ (r : List A). take a old ++ r)
      (append_assoc ys (drop (length ys) part) rest
      ∙ ap (λ (r : List A). ys ++ r)
      (sym (drop-append-le (length ys) part rest (omega arith)) ∙ ap (drop (length ys)) (take-append-drop k (drop a old))))

  written_then : (xs ys old : List A) (a : ℕ) → a ≡ length xs
      → take a (written xs old) ++ written ys (drop a (written xs old)) ≡ written (xs ++ ys) old
  written_then xs ys old a e =
      rw (e, take-append_seam xs (drop (length xs) old), drop-append_seam xs (drop (length xs) old), drop-drop, length-append, append_assoc)

  -- a call wrote xs to the start of old, giving ws; another wrote ys to the start of the k elements after xs, giving vs: xs ++ ys is written
  pub written_next : (xs ys old ws vs : List A) (a k : ℕ) → a ≡ length xs → ws ≡ written xs old → length ys ≤ k → a + k ≤ length ws
      → vs ≡ written ys (take k (drop a ws)) → take a ws ++ (vs ++ drop k (drop a ws)) ≡ written (xs ++ ys) old
  written_next xs ys old ws vs a k e f h l g = rw g (written-part ys ws a k h l ∙ rw f (written_then xs ys old a e))

  -- the same where the whole rest is passed
  pub written_after : (xs ys old : List A) {ws vs : List A} (a : ℕ) → a ≡ length xs → length xs + length ys ≤ length old
      → ws ≡ written xs old → vs ≡ written ys (take (length ws - a) (drop a ws))
      → take a ws ++ (vs ++ drop (length ws - a) (drop a ws)) ≡ written (xs ++ ys) old
  written_after xs ys old {ws} {vs} a e l f g =
      let size : length ws ≡ length old = ap length f ∙ length-written xs old (omega arith) in
      written_next xs ys old ws vs a (length ws - a) e f (omega arith) (omega arith) g

  -- the empty part of a list, and the length of the part from a on
  pub take_none : (xs : List A) → take 0 xs ≡ []
  take_none [] = refl
  take_none (x ∷ xs) = refl

  pub length_tail : (xs : List A) (a : ℕ) → length (take (length xs - a) (drop a xs)) ≡ length xs - a
  length_tail xs a = length-take-le (length xs - a) (drop a xs) (omega (arith, length-drop a xs))

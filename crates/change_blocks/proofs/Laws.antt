-- Copying values run by run.
use Prim.Native.Nat.{ℕ, suc, ◌+◌, ◌≤◌, ◌<◌}
use native.Mathlib.Numerals.{add-one}
use native.Mathlib.Omega.{arith}
use mathlib.Core.Path.{◌≡◌, refl, sym, ap, ap₂, ◌∙◌}
use mathlib.Core.List.{List, [], ◌∷◌, ◌++◌, append_assoc}
use lib.ListN.{length, get_or, take, drop, set, length-append, length-drop, length-set, take-append-drop}
use lib.Seq.{length-take-le, drop_at, take_at, drop-drop, drop-cons, take-add, set_split}
use lib.Ieee.{Float, nan}
use Rattle.layout.specs.General.Lists.{written}
use Rattle.layout.proofs.Lists.Buffers.{take_none}
use Rattle.join_cones.specs.Parts.{written_at}

-- ---- a list written at an index

-- the written list starts at a, and the values before a are unchanged
module _ (xs old new : List Float) (a : ℕ) (l : a + length xs ≤ length old) (e : new ≡ written_at a xs old) where
  front : length (take a old) ≡ a
  front = length-take-le a old (omega arith)

  pub from_there : drop a new ≡ xs ++ drop (a + length xs) old
  from_there =
      ap (drop a) e ∙ drop_at (take a old) (written xs (drop a old)) a front ∙ ap (λ (r : List Float). xs ++ r) (drop-drop (length xs) a old)

  pub after_it : drop (a + length xs) new ≡ drop (a + length xs) old
  after_it =
      sym (drop-drop (length xs) a new) ∙ ap (drop (length xs)) from_there ∙ drop_at xs (drop (a + length xs) old) (length xs) refl

  pub up_to_its_end : take (a + length xs) new ≡ take a old ++ xs
  up_to_its_end =
      ap (take (a + length xs)) (e ∙ sym (append_assoc (take a old) xs (drop (length xs) (drop a old))))
      ∙ take_at (take a old ++ xs) (drop (length xs) (drop a old)) (a + length xs) (omega (arith, length-append (take a old) xs, front))

-- ---- values copied run by run

-- storing one value is writing a run of one
one_put : (vs out : List Float) (a b : ℕ) → a < length vs → b < length out → set out b (get_or vs a nan) ≡ written_at b (take 1 (drop a vs)) out
one_put vs out a b l m =
    let v : Float = get_or vs a nan in
    let one : take 1 (drop a vs) ≡ v ∷ [] =
    ap (take 1) (drop-cons vs a nan l) ∙ ap (λ (r : List Float). v ∷ r) (take_none (drop (suc a) vs)) in
    set_split out b v m
    ∙ ap (λ (r : List Float). take b out ++ v ∷ r) (ap (λ (n : ℕ). drop n out) (sym (add-one b)) ∙ sym (drop-drop 1 b out))
    ∙ ap (λ (xs : List Float). written_at b xs out) (sym one)

-- i values from index `from` of vs on are copied to index `to` of out, which is otherwise unchanged
abbrev pub Put : ℕ → List Float → ℕ → List Float → ℕ → List Float → Type 0
Put from vs to old i out = (length out ≡ length old) × (out ≡ written_at to (take i (drop from vs)) old)

module _ (from : ℕ) (vs : List Float) (to : ℕ) (old : List Float) where
  pub put-none : Put from vs to old 0 old
  put-none = (refl, sym (ap (λ (xs : List Float). written_at to xs old) (take_none (drop from vs)) ∙ take-append-drop to old))

  -- the same for an equal count and an equal list
  pub put_as : (i j : ℕ) (out new : List Float) → j ≡ i → new ≡ out → Put from vs to old i out → Put from vs to old j new
  put_as i j out new e f p =
      (ap length f ∙ p.0, f ∙ p.1 ∙ ap (λ (n : ℕ). written_at to (take n (drop from vs)) old) (sym e))

  -- after copying a run of j more values
  pub put-run : (i j : ℕ) (out new : List Float) → from + (i + j) ≤ length vs → to + (i + j) ≤ length old → Put from vs to old i out
      → length new ≡ length out → new ≡ written_at (to + i) (take j (drop (from + i) vs)) out → Put from vs to old (i + j) new
  put-run i j out new l m p kept e =
      let xs : List Float = take i (drop from vs) in
      let ys : List Float = take j (drop (from + i) vs) in
      let x-size : length xs ≡ i = length-take-le i (drop from vs) (omega (arith, length-drop from vs)) in
      let y-size : length ys ≡ j = length-take-le j (drop (from + i) vs) (omega (arith, length-drop (from + i) vs)) in
      let both : take (i + j) (drop from vs) ≡ xs ++ ys =
      take-add i j (drop from vs) ∙ ap (λ (r : List Float). xs ++ take j r) (drop-drop i from vs) in
      let front : take (to + i) out ≡ take to old ++ xs =
      ap (λ (n : ℕ). take (to + n) out) (sym x-size) ∙ up_to_its_end xs old out to (omega (arith, x-size)) p.1 in
      let back : drop (to + i) out ≡ drop (to + i) old =
      ap (λ (n : ℕ). drop (to + n) out) (sym x-size) ∙ after_it xs old out to (omega (arith, x-size)) p.1
      ∙ ap (λ (n : ℕ). drop (to + n) old) x-size in
      let rest : drop (length ys) (drop (to + i) old) ≡ drop (length (xs ++ ys)) (drop to old) =
      let end : to + i + length ys ≡ to + length (xs ++ ys) = omega (arith, length-append xs ys, x-size) in
      drop-drop (length ys) (to + i) old ∙ ap (λ (n : ℕ). drop n old) end
      ∙ sym (drop-drop (length (xs ++ ys)) to old) in (
        kept ∙ p.0,
        e ∙ ap₂ (λ (f b : List Float). f ++ (ys ++ drop (length ys) b)) front back
            ∙ append_assoc (take to old) xs (ys ++ drop (length ys) (drop (to + i) old))
            ∙ ap (λ (r : List Float). take to old ++ r)
            (sym (append_assoc xs ys (drop (length ys) (drop (to + i) old))) ∙ ap (λ (r : List Float). (xs ++ ys) ++ r) rest)
            ∙ ap (λ (ws : List Float). written_at to ws old) (sym both),
      )

  -- after copying one more value, from index a to index b
  pub put_one : (i a b : ℕ) (out : List Float) → a ≡ from + i → b ≡ to + i → a < length vs → b < length old → Put from vs to old i out
      → Put from vs to old (i + 1) (set out b (get_or vs a nan))
  put_one i a b out e f l m p =
      put-run i 1 out (set out b (get_or vs a nan)) (omega arith) (omega arith) p (length-set out b (get_or vs a nan))
      (one_put vs out a b l (omega (arith, p.0)) ∙ ap₂ (λ (y x : ℕ). written_at y (take 1 (drop x vs)) out) f e)

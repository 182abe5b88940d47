-- Stacked columns, written one by one up to the second matrix's last entry; the rest of the first matrix is one part.
use Prim.Native.Nat.{ℕ, zero, suc, ◌+◌, ◌-◌, ◌≤◌, ◌<◌}
use native.Mathlib.Numerals.{add-one}
use native.Mathlib.Omega.{arith}
use mathlib.Core.Path.{◌≡◌, refl, sym, ap, ap₂, subst, ◌∙◌}
use mathlib.Core.Bool.{Bool, true, false}
use mathlib.Core.List.{List, [], ◌∷◌, ◌++◌, append-nil, append_assoc}
use lib.ListN.{length, get_or, take, drop, length-append, length-drop, take-append-drop}
use lib.Seq.{length-take-le, drop-drop, take-append-add}
use lib.Dec.{ltb}
use borrow.Author.Tests.{ltb-true, ltb-false}
use Rattle.layout.specs.General.Lists.{below, part, join, written}
use Rattle.layout.proofs.Lists.Starts.{part-get_or, part_none, join-append, length-written}
use Rattle.layout.proofs.Lists.Joins.{take-map, drop-map}
use Rattle.layout.proofs.Lists.Keeps.{below_more}
use Rattle.layout.proofs.Lists.Buffers.{written_on, written_after}
use Rattle.pool_tables.specs.Stacked.{StartsOf, raised, Raisable, stacked_column, stacked}

-- ---- slices

pub part_length : {A : Type 0} (xs : List A) (a b : ℕ) → b ≤ length xs → length (part a b xs) ≡ b - a
part_length xs a b h = length-take-le (b - a) (drop a xs) (omega (arith, length-drop a xs))

pub part-raised : (k : ℕ) (xs : List ℕ) (a b : ℕ) → raised k (part a b xs) ≡ part a b (raised k xs)
part-raised k xs a b = sym (ap (take (b - a)) (drop-map (λ x. k + x) a xs) ∙ take-map (λ x. k + x) (b - a) (drop a xs))

pub part-raisable : (k : ℕ) (xs : List ℕ) (a b : ℕ) → b ≤ length xs → Raisable k xs → Raisable k (part a b xs)
part-raisable k xs a b h r i l =
    let inside : i < b - a = omega (arith, part_length xs a b h) in
    subst (λ (x : ℕ). k + x < 4294967296) (sym (part-get_or 0 a b i xs inside)) (r (a + i) (omega arith))

-- two parts, the second from the end of the first on
part-joined : {A : Type 0} (a b e : ℕ) (xs : List A) → a ≤ b → b ≤ e → b ≤ length xs → part a b xs ++ part b e xs ≡ part a e xs
part-joined {A} a b e xs h l inside =
    let k = b - a in
    let rest : a + k ≡ b = omega arith in
    let size : length (take k (drop a xs)) + (e - b) ≡ e - a = omega (arith, part_length xs a b inside) in
    ap (λ (rs : List A). take k (drop a xs) ++ take (e - b) rs) (ap (λ (i : ℕ). drop i xs) (sym rest) ∙ sym (drop-drop k a xs))
    ∙ sym (take-append-add (take k (drop a xs)) (drop k (drop a xs)) (e - b))
    ∙ ap₂ (λ (i : ℕ) (rs : List A). take i rs) size (take-append-drop k (drop a xs))

-- a call writes xs after the first a elements of out
pub put-after : {A : Type 0} (xs out : List A) (a : ℕ) → a + length xs ≤ length out → {vs : List A} → vs ≡ written xs (take (length out - a) (drop a out))
    → take a out ++ (vs ++ drop (length out - a) (drop a out)) ≡ written (take a out ++ xs) out
put-after {A} xs out a room e =
    let size : length (take a out) ≡ a = length-take-le a out (omega arith) in
    written_after (take a out) xs out a (sym size) (omega (arith, size))
    (sym (take-append-drop a out) ∙ ap (λ (k : ℕ). take a out ++ drop k out) (sym size)) e

-- ---- the loop

-- the loop's state before column c: the columns before c are written
pub record Stacking {A : Type 0} (starts : List ℕ) (xs : List A) (starts2 : List ℕ) (ys old : List A) (c first first2 : ℕ) (out : List A) : Type 0 where
  pub size : length (stacked c starts xs starts2 ys) ≡ first + first2
  pub here : first ≡ get_or starts c 0
  pub here2 : first2 ≡ get_or starts2 c 0
  pub holds : out ≡ written (stacked c starts xs starts2 ys) old

starts_rise : (n k : ℕ) (starts : List ℕ) → StartsOf n k starts → (c j e : ℕ) → e ≡ c + j → e ≤ n → get_or starts c 0 ≤ get_or starts e 0
starts_rise n k starts right c zero e at l =
    let same : c ≡ e = omega arith in
    omega (arith, ap (λ (i : ℕ). get_or starts i 0) same)
starts_rise n k starts right c (suc j) e at l =
    let next : suc (c + j) ≡ e = omega arith in
    omega (
      arith,
      starts_rise n k starts right c j (c + j) refl (omega arith),
      right.2 (c + j) (omega arith),
      ap (λ (i : ℕ). get_or starts i 0) next,
    )

module _ {A : Type 0} (n : ℕ) (starts : List ℕ) (xs : List A) (starts2 : List ℕ) (ys old : List A)
    (right : StartsOf n (length xs) starts) (right2 : StartsOf n (length ys) starts2) (room : length xs + length ys ≤ length old) where
  stacked_more : (c : ℕ) → stacked (c + 1) starts xs starts2 ys ≡ stacked c starts xs starts2 ys ++ stacked_column starts xs starts2 ys c
  stacked_more c =
      ap (join (stacked_column starts xs starts2 ys)) (below_more c)
      ∙ join-append (stacked_column starts xs starts2 ys) (below c) (c ∷ [])
      ∙ ap (λ (rs : List A). stacked c starts xs starts2 ys ++ rs) (append-nil (stacked_column starts xs starts2 ys c))

  -- columns in which the second matrix has no entry
  stacked-rest : (c j e : ℕ) → e ≡ c + j → e ≤ n → get_or starts2 e 0 ≤ get_or starts2 c 0
      → stacked e starts xs starts2 ys ≡ stacked c starts xs starts2 ys ++ part (get_or starts c 0) (get_or starts e 0) xs
  stacked-rest c zero e at l h =
      let same : c ≡ e = omega arith in
      let earlier = stacked c starts xs starts2 ys in
      ap (λ (i : ℕ). stacked i starts xs starts2 ys) (sym same) ∙ sym (append-nil earlier)
      ∙ ap (λ (rs : List A). earlier ++ rs) (sym (part_none (get_or starts c 0) (get_or starts e 0) xs (omega (arith, ap (λ (i : ℕ). get_or starts i 0) same))))
  stacked-rest c (suc j) e at l h =
      let k = c + j in
      let next : suc k ≡ e = omega arith in
      let before : k < n = omega arith in
      let up = starts_rise n (length xs) starts right c j k refl (omega arith) in
      let up2 = starts_rise n (length ys) starts2 right2 c j k refl (omega arith) in
      let none2 : get_or starts2 (suc k) 0 ≤ get_or starts2 c 0 = omega (arith, h, ap (λ (i : ℕ). get_or starts2 i 0) next) in
      let earlier = stacked c starts xs starts2 ys in
      let column = part (get_or starts k 0) (get_or starts (suc k) 0) xs in
      let alone : stacked_column starts xs starts2 ys k ≡ column =
      ap (λ (rs : List A). column ++ rs) (part_none (get_or starts2 k 0) (get_or starts2 (suc k) 0) ys (omega (arith, up2, none2))) ∙ append-nil column in
      subst (λ (i : ℕ). stacked i starts xs starts2 ys ≡ earlier ++ part (get_or starts c 0) (get_or starts i 0) xs) next
      (ap (λ (i : ℕ). stacked i starts xs starts2 ys) (sym (add-one k)) ∙ stacked_more k
      ∙ ap₂ (λ (rs ts : List A). rs ++ ts) (stacked-rest c j k refl (omega arith) (omega (arith, right2.2 k before, none2))) alone
      ∙ append_assoc earlier (part (get_or starts c 0) (get_or starts k 0) xs) column
      ∙ ap (λ (rs : List A). earlier ++ rs)
      (part-joined (get_or starts c 0) (get_or starts k 0) (get_or starts (suc k) 0) xs up (right.2 k before) (right.3 k (omega arith))))

  pub stacking_starts : Stacking starts xs starts2 ys old 0 0 0 old
  stacking_starts = record {
    size = omega arith;
    here = sym right.1;
    here2 = sym right2.1;
    holds = refl;
  }

  module _ {c first first2 : ℕ} {out : List A} (s : Stacking starts xs starts2 ys old c first first2 out) (l : c ≤ n) where
    -- what is written, and what of xs is not, fits in the output
    pub stacking_fits : (length out ≡ length old) × (first ≤ get_or starts n 0) × (get_or starts n 0 ≤ length xs)
        × (first2 ≤ get_or starts2 n 0) × (get_or starts2 n 0 ≤ length ys)
    stacking_fits = (
      ap length s.holds
          ∙ length-written (stacked c starts xs starts2 ys) old (omega (arith, s.size, s.here, s.here2, right.3 c l, right2.3 c l)),
      omega (arith, s.here, starts_rise n (length xs) starts right c (n - c) n (omega arith) (omega arith)),
      right.3 n (omega arith),
      omega (arith, s.here2, starts_rise n (length ys) starts2 right2 c (n - c) n (omega arith) (omega arith)),
      right2.3 n (omega arith),
    )

    -- where the second matrix has an entry left there is a column left
    pub column-left : first2 < get_or starts2 n 0 → c < n
    column-left h = go (ltb c n) refl
      where
        go : (t : Bool) → ltb c n ≡ t → c < n
        go true e = ltb-true c n e
        go false e =
            let end : c ≡ n = omega (arith, ltb-false c n e) in
            absurd (omega (arith, h, s.here2, ap (λ (k : ℕ). get_or starts2 k 0) end))

    -- what is left of the first matrix is written after the columns before c
    pub stacking_done : (last : ℕ) → last ≡ get_or starts2 n 0 → last ≤ first2 → {new : List A}
        → new ≡ written (take (first + first2) out ++ (part first (get_or starts n 0) xs ++ part first2 last ys)) out
        → (new ≡ written (stacked n starts xs starts2 ys) old) × (length new ≡ length old)
    stacking_done last at none e =
        let earlier = stacked c starts xs starts2 ys in
        let end = get_or starts n 0 in
        let rest = part first end xs in
        let fits = stacking_fits in
        let room : length earlier + length rest ≤ length old = omega (arith, s.size, fits, part_length xs first end fits.2) in
        let alone = ap (λ (rs : List A). rest ++ rs) (part_none first2 last ys none) ∙ append-nil rest in
        let both = e ∙ written_on earlier (rest ++ part first2 last ys) old (first + first2) (sym s.size) s.holds ∙ ap (λ (rs : List A). written (earlier ++ rs) old) alone in (
          both
              ∙ ap (λ (rs : List A). written rs old)
              (ap (λ (i : ℕ). earlier ++ part i end xs) s.here ∙ sym (stacked-rest c (n - c) n (omega arith) (omega arith) (omega (arith, none, at, s.here2)))),
          ap length both ∙ length-written (earlier ++ rest) old (omega (arith, room, length-append earlier rest)),
        )

  module _ {c first first2 : ℕ} {out : List A} (s : Stacking starts xs starts2 ys old c first first2 out) (more : c < n) where
    abbrev end : ℕ
    end = get_or starts (c + 1) 0

    abbrev end2 : ℕ
    end2 = get_or starts2 (c + 1) 0

    -- column c lies within the tables
    pub inside : (first ≤ end) × (end ≤ length xs) × (first2 ≤ end2) × (end2 ≤ length ys)
    inside = rw add-one (
      omega (arith, s.here, right.2 c more),
      right.3 (suc c) more,
      omega (arith, s.here2, right2.2 c more),
      right2.3 (suc c) more,
    )

    -- column c is written after those before it
    pub stacking_more : {next : List A} → next ≡ written (take (first + first2) out ++ (part first end xs ++ part first2 end2 ys)) out
        → Stacking starts xs starts2 ys old (c + 1) end end2 next
    stacking_more e =
        let new = part first end xs ++ part first2 end2 ys in
        let earlier = stacked c starts xs starts2 ys in
        let one_more : stacked (c + 1) starts xs starts2 ys ≡ earlier ++ new =
        stacked_more c
        ∙ ap (λ (rs : List A). earlier ++ rs)
        (ap (λ (k : ℕ). part (get_or starts c 0) (get_or starts k 0) xs ++ part (get_or starts2 c 0) (get_or starts2 k 0) ys) (sym (add-one c))
        ∙ ap₂ (λ (a b : ℕ). part a end xs ++ part b end2 ys) (sym s.here) (sym s.here2)) in
        let count : length (earlier ++ new) ≡ end + end2 =
        omega (
          arith,
          s.size,
          length-append earlier new,
          length-append (part first end xs) (part first2 end2 ys),
          part_length xs first end inside.1,
          part_length ys first2 end2 inside.3,
          inside,
        ) in record {
          size = ap length one_more ∙ count;
          here = refl;
          here2 = refl;
          holds =
              e ∙ written_on earlier new old (first + first2) (sym s.size) s.holds
              ∙ ap (λ (rs : List A). written rs old) (sym one_more);
        }

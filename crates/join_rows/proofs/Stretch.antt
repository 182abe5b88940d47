-- Values joined over a range of rows do not depend on the rows before and after it, nor on where it starts.
use Prim.Native.Nat.{ℕ, zero, suc, ◌+◌, ◌≤◌, ◌<◌, zero-le, suc-le-suc}
use native.Mathlib.Nat.{le_of_suc-le-suc, not-suc-le-zero}
use native.Mathlib.Omega.{arith}
use mathlib.Core.Path.{◌≡◌, refl, sym, ap, ap₂, ◌∙◌}
use mathlib.Core.Bool.{Bool, true, false, cond}
use mathlib.Core.List.{List, [], ◌∷◌, ◌++◌, map, append_assoc, map-append}
use lib.ListN.{length, get_or, set, take, drop, replicate, length-append, length-map, length-set, get_or-append}
use lib.Seq.{get_or-append-add, get_or-append_seam, set-append_seam, set-append_left}
use lib.Ieee.{Float, nan}
use Rattle.layout.specs.General.Lists.{join, up_from, walk}
use Rattle.layout.specs.General.Triangle.{pair_index}
use Rattle.layout.specs.Problems.Patterns.{Pattern, clique_at}
use Rattle.layout.specs.Rows.Blocks.{Pair, pair, owned, overlap, pair_row, block, row_of, in_separator, parent_row}
use Rattle.layout.specs.Joinings.Reverse.{add_at, add_row}
use Rattle.layout.proofs.Lists.Walks.{walk-append, walk_as}
use Rattle.join_cones.proofs.Inside.{pair_rows}

-- ---- a value joined by g with the value on its row

module _ (g : Float → Float → Float) where
  abbrev pub join_at : ℕ → Float → List Float → List Float
  join_at o v ws = set ws o (g (get_or ws o nan) v)

  -- joining on a row of the middle part changes the middle part alone
  one_shifted : (o : ℕ) (v : Float) (pre mid tail : List Float) → o < length mid
      → join_at (length pre + o) v (pre ++ (mid ++ tail)) ≡ pre ++ (join_at o v mid ++ tail)
  one_shifted o v pre mid tail l =
      ap (λ (x : Float). set (pre ++ (mid ++ tail)) (length pre + o) (g x v)) (get_or-append-add pre (mid ++ tail) o nan ∙ get_or-append mid tail nan o l)
      ∙ set_behind pre (mid ++ tail) o (g (get_or mid o nan) v)
      ∙ ap (λ (r : List Float). pre ++ r) (set-append_left mid tail o (g (get_or mid o nan) v) l)
    where
      set_behind : (xs ys : List Float) (i : ℕ) (x : Float) → set (xs ++ ys) (length xs + i) x ≡ xs ++ set ys i x
      set_behind [] ys i x = ap (λ (k : ℕ). set ys k x) (omega arith)
      set_behind (y ∷ xs) ys i x =
          ap (λ (k : ℕ). set (y ∷ (xs ++ ys)) k x) (suc_behind xs i) ∙ ap {B = List Float} (λ r. y ∷ r) (set_behind xs ys i x)
        where
          suc_behind : (xs : List Float) (i : ℕ) → length (y ∷ xs) + i ≡ suc (length xs + i)
          suc_behind xs i = omega arith

  pub shifted : (os : List ℕ) (vs pre mid tail : List Float) → ((k : ℕ) → k < length os → get_or os k 0 < length mid)
      → walk join_at (map (λ o. length pre + o) os) vs (pre ++ (mid ++ tail)) ≡ pre ++ (walk join_at os vs mid ++ tail)
  shifted [] vs pre mid tail h = refl
  shifted (o ∷ os) [] pre mid tail h = refl
  shifted (o ∷ os) (v ∷ vs) pre mid tail h =
      let mid' = join_at o v mid in
      ap (walk join_at (map (λ o. length pre + o) os) vs) (one_shifted o v pre mid tail (h 0 (suc-le-suc zero-le)))
      ∙ shifted os vs pre mid' tail (λ k l. omega (arith, h (suc k) (suc-le-suc l), length-set mid o (g (get_or mid o nan) v)))

  -- joining values on n rows in order, each with the value d before
  pub fresh : (n : ℕ) (d : Float) (vs pre tail : List Float) → n ≤ length vs
      → walk join_at (up_from (length pre) n) vs (pre ++ (replicate n d ++ tail)) ≡ pre ++ (map (g d) (take n vs) ++ tail)
  fresh zero d vs pre tail h = refl
  fresh (suc n) d [] pre tail h = absurd (not-suc-le-zero h)
  fresh (suc n) d (v ∷ vs) pre tail h =
      let pre' = pre ++ (g d v ∷ []) in
      let here : join_at (length pre) v (pre ++ (d ∷ (replicate n d ++ tail))) ≡ pre' ++ (replicate n d ++ tail) =
      ap (λ (x : Float). set (pre ++ (d ∷ (replicate n d ++ tail))) (length pre) (g x v)) (get_or-append_seam pre d (replicate n d ++ tail) nan)
      ∙ set-append_seam pre d (replicate n d ++ tail) (g d v) ∙ sym (append_assoc pre (g d v ∷ []) (replicate n d ++ tail)) in
      let next : suc (length pre) ≡ length pre' = omega (arith, length-append pre (g d v ∷ [])) in
      ap (walk join_at (up_from (suc (length pre)) n) vs) here
      ∙ ap (λ (k : ℕ). walk join_at (up_from k n) vs (pre' ++ (replicate n d ++ tail))) next
      ∙ fresh n d vs pre' tail (le_of_suc-le-suc h)
      ∙ append_assoc pre (g d v ∷ []) (map (g d) (take n vs) ++ tail)

-- ---- the rows of a pattern

module _ (p : Pattern) where
  -- the rows of a cone that starts at row base are base plus those of a cone that starts at row 0
  pub rows_shifted : (base : ℕ) (cs : List ℕ) → pair_rows p base cs ≡ map (λ o. base + o) (pair_rows p 0 cs)
  rows_shifted base [] = refl
  rows_shifted base (c ∷ cs) =
      ap₂ ◌++◌ (by-pair (block p c)) (rows_shifted base cs) ∙ sym (map-append (λ o. base + o) (map (pair_row 0) (block p c)) (pair_rows p 0 cs))
    where
      by-pair : (xs : List Pair) → map (pair_row base) xs ≡ map (λ o. base + o) (map (pair_row 0) xs)
      by-pair [] = refl
      by-pair (pair i j ∷ xs) = ap₂ {C = List ℕ} (λ x ys. x ∷ ys) (ap (λ (k : ℕ). base + k) (zero-first (pair_index i j))) (by-pair xs)
        where
          zero-first : (k : ℕ) → k ≡ 0 + k
          zero-first k = omega arith

  -- no row of a block is copied: s adds on each
  module _ (base first : ℕ) where
    adds : (c : ℕ) (xs : List Pair) (vs ws : List Float) → walk add_row (map (row_of p base first c) xs) vs ws ≡ walk add_at (map (pair_row base) xs) vs ws
    adds c xs vs ws =
        sym (walk_as (λ x v s. add_row (row_of p base first c x) v s) add_row (row_of p base first c) (λ x v s. refl) xs vs ws)
        ∙ walk_as (λ x v s. add_row (row_of p base first c x) v s) add_at (pair_row base) one xs vs ws
      where
        pick : (b : Bool) (o r : ℕ) (v : Float) (s : List Float) → add_row (cond b (overlap o r) (owned o)) v s ≡ add_at o v s
        pick true o r v s = refl
        pick false o r v s = refl

        one : (x : Pair) (v : Float) (s : List Float) → add_row (row_of p base first c x) v s ≡ add_at (pair_row base x) v s
        one (pair i j) v s = pick (in_separator p c (pair i j)) (base + pair_index i j) (parent_row p first (clique_at p c).parent (pair i j)) v s

    pub adds-all : (cs : List ℕ) (vs ws : List Float)
        → walk add_row (join (λ c. map (row_of p base first c) (block p c)) cs) vs ws ≡ walk add_at (pair_rows p base cs) vs ws
    adds-all [] vs ws = refl
    adds-all (c ∷ cs) vs ws =
        let X = map (row_of p base first c) (block p c) in
        let Y = map (pair_row base) (block p c) in
        let same : length X ≡ length Y = length-map (block p c) (row_of p base first c) ∙ sym (length-map (block p c) (pair_row base)) in
        walk-append add_row X (join (λ c. map (row_of p base first c) (block p c)) cs) vs ws
        ∙ adds-all cs (drop (length X) vs) (walk add_row X vs ws)
        ∙ ap₂ (λ (n : ℕ) (s : List Float). walk add_at (pair_rows p base cs) (drop n vs) s) same (adds c (block p c) vs ws)
        ∙ sym (walk-append add_at Y (pair_rows p base cs) vs ws)

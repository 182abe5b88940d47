-- Values joined entry by entry, list by list and block by block, the counts of the standard route, and the rows of a pattern's cliques.
use Prim.Native.Nat.{ℕ, zero, suc, ◌+◌, ◌-◌, ◌≤◌, ◌<◌}
use native.Mathlib.Nat.{le_of_eq}
use native.Mathlib.Numerals.{add-one}
use native.Mathlib.Omega.{arith}
use mathlib.Core.Path.{◌≡◌, refl, ap, ap₂, sym, subst, ◌∙◌}
use mathlib.Core.Bool.{Bool, true, false}
use mathlib.Core.Logic.{inl, inr}
use mathlib.Core.List.{List, [], ◌∷◌, ◌++◌, map, map-map, reverse, reverse-cons}
use lib.ListN.{length, get_or, take, drop, set, length-append, length-drop, length-map, length-reverse, get_or-append}
use lib.Seq.{take_all, take-suc, drop-cons, drop-drop, get_or-drop, length-take-le, get_or-set_same, get_or-set_other, get_or-append_seam}
use lib.Dec.{T, eqb}
use lib.Ieee.{Float, nan}
use borrow.Author.Tests.{eqb-true, eqb-false}
use Rattle.layout.specs.General.Lists.{below, join, walk, rises}
use Rattle.layout.specs.General.Triangle.{triangle}
use Rattle.layout.specs.Problems.Patterns.{Pattern, no_clique, members, block_size, clique_at, clique_count}
use Rattle.layout.specs.Rows.Blocks.{block, block_rows, pairs, pair_row}
use Rattle.layout.specs.Checks.{RightPattern}
use Rattle.layout.specs.Joinings.Reverse.{add_at, add_columns, column_count}
use Rattle.layout.proofs.Lists.Counting.{count-append}
use Rattle.layout.proofs.Lists.Distinct.{length-keep}
use Rattle.layout.proofs.Lists.Tests.{lt_or_le}
use Rattle.layout.proofs.Lists.Walks.{walk-append}
use Rattle.layout.proofs.Lists.Joins.{join_same, reverse-below}
use Rattle.layout.proofs.Lists.Starts.{join-map, part_at}
use Rattle.layout.proofs.Patterns.Pairs.{length_pairs}
use Rattle.layout.proofs.Rows.Rows.{block-length}
use Rattle.rows_blocks.specs.Vertices.{sorted_of}
use Rattle.rows_blocks.specs.Columns.{ColumnsFit}
use Rattle.rows_blocks.specs.Cliques.{vertices_here, rows_here}
use Rattle.rows_blocks.proofs.Cliques.{vertices_rise, vertices_fit}
use Rattle.rows_blocks.proofs.Patterns.{sorted-by, standard_rows-count, original-rows-count}
use Rattle.rows_blocks.proofs.Offsets.{StandAt, reverse-map, rows-block}
use Rattle.reverse_standard.specs.Routes.{z_value}
use Rattle.join_blocks.specs.Joins.{z_at, join_z, Counts, Countable, block_rows_of, own_rows, rows_up, down_sizes}

-- a result of f x is that of f y for an equal y
pub by_same : {A B : Type 0} (f : A → B) {x y : A} {r : B} → r ≡ f x → x ≡ y → r ≡ f y
by_same f e h = e ∙ ap f h

-- the value that one turn of the loop stores in z
pub z_stored : (standard : Bool) (o : ℕ) (v : Float) (ws : List Float) → set ws o (z_value standard (get_or ws o nan) v) ≡ z_at standard o v ws
z_stored true o v ws = refl
z_stored false o v ws = refl

-- ---- walks, as loops make them

module _ {A B S : Type 0} (f : A → B → S → S) where
  -- one more element walked
  walk_one : (xs : List A) (vs : List B) (s : S) (i : ℕ) (a : A) (b : B) → i < length xs → i < length vs
      → f (get_or xs i a) (get_or vs i b) (walk f (take i xs) vs s) ≡ walk f (take (i + 1) xs) vs s
  walk_one xs vs s i a b h l =
      let done = walk f (take i xs) vs s in
      let here : drop (length (take i xs)) vs ≡ get_or vs i b ∷ drop (suc i) vs =
      ap (λ (n : ℕ). drop n vs) (length-take-le i xs (omega arith)) ∙ drop-cons vs i b l in
      sym (ap (λ (ys : List A). walk f ys vs s) (ap (λ (n : ℕ). take n xs) (add-one i) ∙ take-suc xs i a h)
      ∙ walk-append f (take i xs) (get_or xs i a ∷ []) vs s
      ∙ ap (λ (ws : List B). walk f (get_or xs i a ∷ []) ws done) here)

  -- the same for a store at the row that the code computes, where the values start at index t
  pub walk_stored : (xs : List A) (vs : List B) (s : S) {old new : S} (t i : ℕ) (o a : A) (b : B) → new ≡ f o (get_or vs (t + i) b) old
      → old ≡ walk f (take i xs) (drop t vs) s → o ≡ get_or xs i a → i < length xs → t + i < length vs → new ≡ walk f (take (i + 1) xs) (drop t vs) s
  walk_stored xs vs s t i o a b p q e h l =
      let v = get_or (drop t vs) i b in
      p ∙ ap (f o (get_or vs (t + i) b)) q ∙ ap (λ (w : B). f o w (walk f (take i xs) (drop t vs) s)) (sym (get_or-drop t vs i b))
      ∙ ap (λ (x : A). f x v (walk f (take i xs) (drop t vs) s)) e ∙ walk_one xs (drop t vs) s i a b h (omega (arith, length-drop t vs))

  -- one more list walked by a call, whose values start at index t, after those of the lists before it
  pub walk-joined : (xs ys zs : List A) (vs : List B) (s : S) {old new : S} (first t : ℕ) → new ≡ walk f ys (drop t vs) old → old ≡ walk f xs (drop first vs) s
      → t ≡ first + length xs → xs ++ ys ≡ zs → new ≡ walk f zs (drop first vs) s
  walk-joined xs ys zs vs s first t p q e m =
      p ∙ ap (walk f ys (drop t vs)) q
      ∙ ap (λ (ws : List B). walk f ys ws (walk f xs (drop first vs) s)) (ap (λ (n : ℕ). drop n vs) e ∙ sym (drop-drop (length xs) first vs))
      ∙ sym (walk-append f xs ys (drop first vs) s) ∙ ap (λ (os : List A). walk f os (drop first vs) s) m

  -- after a call walked ys, whose values start at index t, zs are left to walk from index r on
  walk-left : (ys zs : List A) (vs : List B) (old : S) {new : S} (t r : ℕ) → new ≡ walk f ys (drop t vs) old → r ≡ t + length ys
      → walk f zs (drop r vs) new ≡ walk f (ys ++ zs) (drop t vs) old
  walk-left ys zs vs old {new} t r p e =
      ap (λ (ws : List B). walk f zs ws new) (ap (λ (n : ℕ). drop n vs) e ∙ sym (drop-drop (length ys) t vs))
      ∙ ap (walk f zs (drop (length ys) (drop t vs))) p ∙ sym (walk-append f ys zs (drop t vs) old)

-- ---- counts

pub counts-none : (standard : Bool) (counts : List ℕ) → Counts standard [] counts counts
counts-none true counts = λ o l. omega arith
counts-none false counts = tt

counts_more : (standard : Bool) (xs ys a b c : List ℕ) → length c ≤ length b → Counts standard xs a b → Counts standard ys b c
    → Counts standard (xs ++ ys) a c
counts_more true xs ys a b c n h g = λ o l. omega (arith, h o (omega arith), g o l, count-append (eqb o) xs ys)
counts_more false xs ys a b c n h g = tt

-- counts over one list and then another are counts over the joined list
pub counts-joined : (standard : Bool) (xs ys zs a b c : List ℕ) → length c ≡ length b → Counts standard xs a b → Counts standard ys b c → xs ++ ys ≡ zs
    → Counts standard zs a c
counts-joined standard xs ys zs a b c n h g m = subst (λ (os : List ℕ). Counts standard os a c) m (counts_more standard xs ys a b c (le_of_eq n) h g)

-- one more row counted, at the row that the code computes
pub counts-next : (standard : Bool) (xs : List ℕ) (i o : ℕ) (a b c : List ℕ) → i < length xs → o ≡ get_or xs i 0 → length c ≡ length b
    → Counts standard (take i xs) a b → Counts standard (o ∷ []) b c → Counts standard (take (i + 1) xs) a c
counts-next standard xs i o a b c l e n h g =
    counts-joined standard (take i xs) (o ∷ []) (take (i + 1) xs) a b c n h g
    (ap (λ (q : ℕ). take i xs ++ (q ∷ [])) e ∙ sym (ap (λ (k : ℕ). take k xs) (add-one i) ∙ take-suc xs i 0 l))

-- one column counted on row o
pub counts_one : (counts : List ℕ) (o : ℕ) → o < length counts → Counts true (o ∷ []) counts (set counts o (get_or counts o 0 + 1))
counts_one counts o l q m = pick (eqb q o) refl
  where
    pick : (b : Bool) → eqb q o ≡ b → get_or (set counts o (get_or counts o 0 + 1)) q 0 ≡ get_or counts q 0 + column_count (o ∷ []) q
    pick true e =
        let same : q ≡ o = eqb-true q o e in
        let here : column_count (o ∷ []) q ≡ 1 = rw e in
        ap (λ (x : ℕ). get_or (set counts o (get_or counts o 0 + 1)) x 0) same ∙ get_or-set_same counts o (get_or counts o 0 + 1) 0 l
        ∙ omega (arith, ap (λ (x : ℕ). get_or counts x 0) same, here)
    pick false e =
        let here : column_count (o ∷ []) q ≡ 0 = rw e in
        get_or-set_other counts o q (get_or counts o 0 + 1) 0 (eqb-false q o e) ∙ omega (arith, here)

-- counts that allow n rows and k more columns allow fewer of both
pub countable_less : (standard : Bool) (n m k l : ℕ) (counts : List ℕ) → m ≤ n → l ≤ k → Countable standard n k counts → Countable standard m l counts
countable_less true n m k l counts h g c = (omega (arith, c.0), λ o q. omega (arith, c.1 o (omega arith)))
countable_less false n m k l counts h g c = tt

-- after the rows xs are counted, the counts allow as many fewer
pub countable_left : (standard : Bool) (n k l : ℕ) (xs a b : List ℕ) → length b ≡ length a → length xs + l ≤ k → Counts standard xs a b
    → Countable standard n k a → Countable standard n l b
countable_left true n k l xs a b e h g c =
    (omega (arith, c.0), λ o q. omega (arith, c.1 o q, g o (omega (arith, c.0)), length-keep (eqb o) xs))
countable_left false n k l xs a b e h g c = tt

-- ---- blocks joined one after the other

-- The rows os are left to join, with values from index t of s and z on: joining them to s₁, z₁ and c₁ joins the rows `all` to s₀, z₀ and c₀, with values from
-- index `first` on.
pub record Left (standard : Bool) (s z : List Float) (first : ℕ) (all : List ℕ) (s₀ z₀ : List Float) (c₀ : List ℕ) (t : ℕ) (os : List ℕ) (s₁ z₁ : List Float) (c₁ : List ℕ) : Type 0 where
  pub ends : t + length os ≡ first + length all
  pub s_long : length s₁ ≡ length s₀
  pub z_long : length z₁ ≡ length z₀
  pub counts_long : length c₁ ≡ length c₀
  pub s_left : add_columns os (drop t s) s₁ ≡ add_columns all (drop first s) s₀
  pub z_left : join_z standard os (drop t z) z₁ ≡ join_z standard all (drop first z) z₀
  pub countable : Countable standard (length s₀) (length os) c₁
  pub counted : (c : List ℕ) → length c ≡ length c₁ → Counts standard os c₁ c → Counts standard all c₀ c

-- what `join_block` requires and what it ensures, of the block over vertices vs
abbrev pub BlockFits : Bool → List ℕ → ℕ → List Float → List Float → List Float → List Float → List ℕ → Type 0
BlockFits standard vs t s z s₁ z₁ c₁ =
    (T (rises vs) × ColumnsFit 0 vs (length s₁))
    × (((t + triangle (length vs) ≤ length s) × (t + triangle (length vs) ≤ length z))
    × (((length z₁ ≡ length s₁) × (length s₁ ≤ 65536)) × Countable standard (length s₁) (triangle (length vs)) c₁))

abbrev pub BlockJoined : Bool → List ℕ → ℕ → List Float → List Float → List Float → List Float → List ℕ → ℕ → List Float → List Float → List ℕ → Type 0
BlockJoined standard vs t s z s₁ z₁ c₁ r s₂ z₂ c₂ =
    (r ≡ t + triangle (length vs))
    × ((s₂ ≡ add_columns (block_rows_of vs) (drop t s) s₁) × ((z₂ ≡ join_z standard (block_rows_of vs) (drop t z) z₁) × Counts standard (block_rows_of vs) c₁ c₂))

pub length-block : (vs : List ℕ) → length (block_rows_of vs) ≡ triangle (length vs)
length-block vs = length-map (pairs vs) (pair_row 0) ∙ length_pairs vs

module _ (standard : Bool) (s z : List Float) (first : ℕ) (all : List ℕ) (s₀ z₀ : List Float) (c₀ : List ℕ) where
  pub none-joined : Countable standard (length s₀) (length all) c₀ → Left standard s z first all s₀ z₀ c₀ first all s₀ z₀ c₀
  none-joined h =
      record {
        ends = refl;
        s_long = refl;
        z_long = refl;
        counts_long = refl;
        s_left = refl;
        z_left = refl;
        countable = h;
        counted = λ c e g. g;
      }

  module _ (t : ℕ) (os : List ℕ) (s₁ z₁ : List Float) (c₁ : List ℕ) (left : Left standard s z first all s₀ z₀ c₀ t os s₁ z₁ c₁) where
    pub all-joined : os ≡ []
        → (t ≡ first + length all) × ((s₁ ≡ add_columns all (drop first s) s₀) × ((z₁ ≡ join_z standard all (drop first z) z₀) × Counts standard all c₀ c₁))
    all-joined e = (
      omega (arith, left.ends, ap length e),
      (
        ap (λ (rs : List ℕ). add_columns rs (drop t s) s₁) (sym e) ∙ left.s_left,
        (
          ap (λ (rs : List ℕ). join_z standard rs (drop t z) z₁) (sym e) ∙ left.z_left,
          left.counted c₁ refl (subst (λ (rs : List ℕ). Counts standard rs c₁ c₁) (sym e) (counts-none standard c₁)),
        ),
      ),
    )

    -- the next block is that of the clique at word `at`, with vertices vs
    module _ (ws ordering : List ℕ) (at : ℕ) (vs rest : List ℕ) (found : vs ≡ vertices_here ws ordering at) (more : os ≡ block_rows_of vs ++ rest) where
      size : length os ≡ triangle (length vs) + length rest
      size = ap length more ∙ length-append (block_rows_of vs) rest ∙ ap (λ (n : ℕ). n + length rest) (length-block vs)

      pub block-fits : first + length all ≤ length s → length z ≡ length s
          → (triangle (length ordering) ≤ length s₀) × (length z₀ ≡ length s₀) × (length s₀ ≤ 65536) → BlockFits standard vs t s z s₁ z₁ c₁
      block-fits s-room e room =
          let s-fits : t + triangle (length vs) ≤ length s = omega (arith, size, left.ends) in (
            (
              subst (λ (us : List ℕ). T (rises us)) (sym found) (vertices_rise ws ordering at),
              subst (λ (us : List ℕ). ColumnsFit 0 us (length s₁)) (sym found) (vertices_fit ws ordering at 0 (length s₁) (omega (arith, left.s_long, room.0))),
            ),
            (
              (s-fits, omega (arith, s-fits, e)),
              (
                (omega (arith, left.s_long, left.z_long, room.1), omega (arith, left.s_long, room.2)),
                countable_less standard (length s₀) (length s₁) (length os) (triangle (length vs)) c₁ (le_of_eq left.s_long) (omega (arith, size)) left.countable,
              ),
            ),
          )

      pub block-left : (r : ℕ) (s₂ z₂ : List Float) (c₂ : List ℕ) → length s₂ ≡ length s₁ → length z₂ ≡ length z₁ → length c₂ ≡ length c₁
          → BlockJoined standard vs t s z s₁ z₁ c₁ r s₂ z₂ c₂ → Left standard s z first all s₀ z₀ c₀ r rest s₂ z₂ c₂
      block-left r s₂ z₂ c₂ s-kept z-kept counts-kept (to, (s-is, (z-is, counts_are))) =
          let next : r ≡ t + length (block_rows_of vs) = to ∙ ap (λ (n : ℕ). t + n) (sym (length-block vs)) in
          record {
            ends = omega (arith, to, size, left.ends);
            s_long = s-kept ∙ left.s_long;
            z_long = z-kept ∙ left.z_long;
            counts_long = counts-kept ∙ left.counts_long;
            s_left = walk-left add_at (block_rows_of vs) rest s s₁ t r s-is next ∙ ap (λ (rs : List ℕ). add_columns rs (drop t s) s₁) (sym more) ∙ left.s_left;
            z_left = walk-left (z_at standard) (block_rows_of vs) rest z z₁ t r z-is next ∙ ap (λ (rs : List ℕ). join_z standard rs (drop t z) z₁) (sym more) ∙ left.z_left;
            countable =
                countable_left standard (length s₀) (length os) (length rest) (block_rows_of vs) c₁ c₂ counts-kept (omega (arith, size, length-block vs)) counts_are left.countable;
            counted = λ c e g. left.counted c (e ∙ counts-kept) (counts-joined standard (block_rows_of vs) rest os c₁ c₂ c e counts_are g (sym more));
          }

-- ---- a pattern's cliques

-- an element of a reversed list, counted from the end of the list
pub reverse-at : (xs : List ℕ) (i : ℕ) → i < length xs → get_or (reverse xs) i 0 ≡ get_or xs (length xs - 1 - i) 0
reverse-at [] i h = absurd (omega arith)
reverse-at (x ∷ xs) i h =
    ap (λ (ys : List ℕ). get_or ys i 0) (reverse-cons x xs)
    ∙ elim (lt_or_le i (length xs)) [
      | inl l ↦
          get_or-append (reverse xs) (x ∷ []) 0 i (omega (arith, length-reverse xs)) ∙ reverse-at xs i l
          ∙ ap (λ (k : ℕ). get_or (x ∷ xs) k 0) (behind l)
      | inr g ↦
          ap (λ (k : ℕ). get_or (reverse xs ++ (x ∷ [])) k 0) (last g) ∙ get_or-append_seam (reverse xs) x [] 0
          ∙ ap (λ (k : ℕ). get_or (x ∷ xs) k 0) (first g)
    ]
  where
    behind : i < length xs → suc (length xs - 1 - i) ≡ length (x ∷ xs) - 1 - i
    behind l = omega arith

    last : length xs ≤ i → i ≡ length (reverse xs)
    last g = omega (arith, length-reverse xs)

    first : length xs ≤ i → 0 ≡ length (x ∷ xs) - 1 - i
    first g = omega arith

module _ (p : Pattern) (ok : RightPattern p) where
  -- a pattern's rows from its cliques
  pub rows-cliques : rows_up p.ordering p.cliques ≡ own_rows true p
  rows-cliques =
      ap (join (λ q. block_rows_of (sorted_of p.ordering (members q)))) (sym (part_at no_clique p.cliques 0 (clique_count p) (omega arith) ∙ take_all (clique_count p) p.cliques (le_of_eq refl)))
      ∙ join-map (λ q. block_rows_of (sorted_of p.ordering (members q))) (clique_at p) (below (clique_count p))
      ∙ join_same (λ c. block_rows_of (sorted_of p.ordering (members (clique_at p c)))) (λ c. map (pair_row 0) (block p c)) (below (clique_count p))
      (λ c h. ap block_rows_of (sorted-by p ok (members (clique_at p c))))

  pub length-own : (standard : Bool) → length (own_rows standard p) ≡ block_rows p
  length-own true = standard_rows-count p ok 0
  length-own false = original-rows-count p ok 0 0

-- the block sizes from the offsets of the cliques
map-down : (f g : ℕ → ℕ) (k : ℕ) → ((c : ℕ) → c < k → f c ≡ g c) → map f (reverse (below k)) ≡ map g (reverse (below k))
map-down f g zero h = refl
map-down f g (suc k) h =
    ap (map f) (reverse-below k) ∙ ap₂ {C = List ℕ} (λ n ns. n ∷ ns) (h k (omega arith)) (map-down f g k (λ c l. h c (omega arith))) ∙ ap (map g) (sym (reverse-below k))

pub sizes-down : (p : Pattern) → RightPattern p → (ws os : List ℕ) (k : ℕ) → clique_count p ≡ k → k ≤ length os → StandAt ws p.cliques os
    → map (λ o. length (rows_here 0 ws p.ordering o)) (reverse (take k os)) ≡ down_sizes p
sizes-down p ok ws os k count room st =
    ap (λ (l : List ℕ). map f (reverse l)) (sym (part_at 0 os 0 k (omega arith))) ∙ ap (map f) (reverse-map (λ c. get_or os c 0) (below k))
    ∙ map-map f (λ c. get_or os c 0) (reverse (below k)) ∙ map-down (λ c. f (get_or os c 0)) (λ c. triangle (block_size (clique_at p c))) k (λ c l. size c (omega arith))
    ∙ ap (λ (n : ℕ). map (λ c. triangle (block_size (clique_at p c))) (reverse (below n))) (sym count)
  where
    f : ℕ → ℕ
    f o = length (rows_here 0 ws p.ordering o)

    size : (c : ℕ) → c < clique_count p → f (get_or os c 0) ≡ triangle (block_size (clique_at p c))
    size c l = ap length (rows-block p ok ws os st 0 c l) ∙ length-map (block p c) (pair_row 0) ∙ block-length p ok c l

-- Reversing the order of blocks: the result's length, that a second reversal restores the order, and how the rows of the two routes
-- correspond.
use Prim.Native.Nat.{ℕ, zero, suc, ◌+◌, ◌≤◌, ◌<◌}
use native.Mathlib.Nat.{zero-add, not-suc-le-zero}
use native.Mathlib.Omega.{arith}
use mathlib.Core.Path.{◌≡◌, refl, sym, ap, ap₂, subst, ◌∙◌}
use mathlib.Core.Bool.{Bool}
use mathlib.Core.List.{List, [], ◌∷◌, ◌++◌, map, reverse, append-nil, append_assoc, map-append, map-map, reverse-cons, reverse-reverse}
use lib.ListN.{length, get_or, take, drop, length-append, length-map, length-drop, take-append-drop}
use lib.Seq.{length-take-le, take-append-le, drop-append-le, take-append_seam, drop-append_seam, drop-append-add, take-take, take-add, drop-drop, take_at, drop_at}
use lib.Dec.{T}
use Rattle.layout.specs.General.Lists.{all, sum, join, below, up_from}
use Rattle.layout.specs.General.Triangle.{triangle}
use Rattle.layout.specs.Problems.Cones.{row_count}
use Rattle.layout.specs.Problems.Patterns.{Pattern, Clique, clique_at, clique_count, block_size, no_clique}
use Rattle.layout.specs.Rows.Blocks.{Part, whole, cut, kept, original_row, Pair, pair, block, pair_row, row_of, first_row, pattern_rows, rows_from, standard_rows, part_rows, block_rows, block_row_count}
use Rattle.layout.specs.Checks.{Laid}
use Rattle.layout.specs.Rows.Orders.{block_lengths, last_first, groups_last_first, compact_order, standard_order}
use Rattle.layout.proofs.Lists.Tests.{and_iff}
use Rattle.layout.proofs.Lists.Walks.{all_append}
use Rattle.layout.proofs.Lists.Members.{all_of_both, has-below, length-up_from}
use Rattle.layout.proofs.Lists.Joins.{map_same, map-join, map-drop, take-map, drop-map, join_same, length-join}
use Rattle.layout.proofs.Lists.Starts.{join-append, sum-append}
use Rattle.layout.proofs.Rows.Rows.{block-length, row-original}

sum-reverse : (ks : List ℕ) → sum (reverse ks) ≡ sum ks
sum-reverse [] = refl
sum-reverse (k ∷ ks) = ap sum (reverse-cons k ks) ∙ omega (arith, sum-append (reverse ks) (k ∷ []), sum-reverse ks)

-- block c and the later blocks have at most as many rows as all blocks
block-fits : (ks : List ℕ) (c : ℕ) → c < length ks → sum (drop (suc c) ks) + get_or ks c 0 ≤ sum ks
block-fits [] c l = absurd (not-suc-le-zero l)
block-fits (k ∷ ks) zero l = omega arith
block-fits (k ∷ ks) (suc c) l = omega (arith, block-fits ks c (omega arith))

-- ---- one group of blocks

module _ {A : Type 0} where
  pub length_last : (ks : List ℕ) (vs : List A) → sum ks ≤ length vs → length (last_first ks vs) ≡ sum ks
  length_last [] vs l = refl
  length_last (k ∷ ks) vs l =
      omega (
        arith,
        length-append (last_first ks (drop k vs)) (take k vs),
        length_last ks (drop k vs) (omega (arith, length-drop k vs)),
        length-take-le k vs (omega arith),
      )

  -- values past the last block are ignored
  pub last_front : (ks : List ℕ) (vs ws : List A) → sum ks ≤ length vs → last_first ks (vs ++ ws) ≡ last_first ks vs
  last_front [] vs ws l = refl
  last_front (k ∷ ks) vs ws l =
      ap₂ ◌++◌
      (ap (last_first ks) (drop-append-le k vs ws (omega arith)) ∙ last_front ks (drop k vs) ws (omega (arith, length-drop k vs)))
      (take-append-le k vs ws (omega arith))

  -- reversing two appended lists of blocks puts the second list's blocks first
  last_append : (ks js : List ℕ) (vs ws : List A) → length vs ≡ sum ks
      → last_first (ks ++ js) (vs ++ ws) ≡ last_first js ws ++ last_first ks vs
  last_append [] js [] ws e = sym (append-nil (last_first js ws))
  last_append [] js (v ∷ vs) ws e = absurd (omega arith)
  last_append (k ∷ ks) js vs ws e =
      ap₂ ◌++◌
      (ap (last_first (ks ++ js)) (drop-append-le k vs ws (omega arith)) ∙ last_append ks js (drop k vs) ws (omega (arith, length-drop k vs)))
      (take-append-le k vs ws (omega arith))
      ∙ append_assoc (last_first js ws) (last_first ks (drop k vs)) (take k vs)

  -- a second reversal, by the reversed lengths, restores the order
  last_back : (ks : List ℕ) (vs : List A) → sum ks ≤ length vs → last_first (reverse ks) (last_first ks vs) ≡ take (sum ks) vs
  last_back [] vs l = refl
  last_back (k ∷ ks) vs l =
      let rest : sum ks ≤ length (drop k vs) = omega (arith, length-drop k vs) in
      ap (λ (js : List ℕ). last_first js (last_first ks (drop k vs) ++ take k vs)) (reverse-cons k ks)
      ∙ last_append (reverse ks) (k ∷ []) (last_first ks (drop k vs)) (take k vs) (length_last ks (drop k vs) rest ∙ sym (sum-reverse ks))
      ∙ ap₂ ◌++◌ (take-take k k vs (omega arith)) (last_back ks (drop k vs) rest)
      ∙ sym (take-add k (sum ks) vs)

  -- block c has the later blocks before it after the reversal, and the earlier ones before the reversal
  last_block : (ks : List ℕ) (vs : List A) (c : ℕ) → sum ks ≤ length vs → c < length ks
      → take (get_or ks c 0) (drop (sum (drop (suc c) ks)) (last_first ks vs)) ≡ take (get_or ks c 0) (drop (sum (take c ks)) vs)
  last_block [] vs c l m = absurd (not-suc-le-zero m)
  last_block (k ∷ ks) vs zero l m =
      let size : length (last_first ks (drop k vs)) ≡ sum ks = length_last ks (drop k vs) (omega (arith, length-drop k vs)) in
      ap (take k) (drop_at (last_first ks (drop k vs)) (take k vs) (sum ks) size) ∙ take-take k k vs (omega arith)
  last_block (k ∷ ks) vs (suc c) l m =
      let rest : sum ks ≤ length (drop k vs) = omega (arith, length-drop k vs) in
      let before = last_first ks (drop k vs) in
      let a : ℕ = sum (drop (suc c) ks) in
      let fits : a + get_or ks c 0 ≤ length before = omega (arith, length_last ks (drop k vs) rest, block-fits ks c (omega arith)) in
      ap (take (get_or ks c 0)) (drop-append-le a before (take k vs) (omega arith))
      ∙ take-append-le (get_or ks c 0) (drop a before) (take k vs) (omega (arith, length-drop a before))
      ∙ last_block ks (drop k vs) c rest (omega arith)
      ∙ ap (take (get_or ks c 0)) (drop-drop (sum (take c ks)) k vs)

-- reversing the blocks of a join gives the join from last to first
last_join : {A B : Type 0} (g : B → List A) (cs : List B) (rest : List A)
    → last_first (map (λ c. length (g c)) cs) (join g cs ++ rest) ≡ join g (reverse cs)
last_join g [] rest = refl
last_join {A} g (c ∷ cs) rest =
    let split : (g c ++ join g cs) ++ rest ≡ g c ++ (join g cs ++ rest) = append_assoc (g c) (join g cs) rest in
    ap₂ ◌++◌
    (ap (λ (vs : List A). last_first (map (λ c. length (g c)) cs) (drop (length (g c)) vs)) split
    ∙ ap (last_first (map (λ c. length (g c)) cs)) (drop-append_seam (g c) (join g cs ++ rest))
    ∙ last_join g cs rest)
    (ap (take (length (g c))) split ∙ take-append_seam (g c) (join g cs ++ rest))
    ∙ sym (ap (join g) (reverse-cons c cs) ∙ join-append g (reverse cs) (c ∷ [])
    ∙ ap (λ (xs : List A). join g (reverse cs) ++ xs) (append-nil (g c)))

-- a test that all values pass is passed by all values after the reversal
module _ {A : Type 0} (q : A → Bool) where
  all-part : (k : ℕ) (vs : List A) → T (all q vs) → T (all q (take k vs)) × T (all q (drop k vs))
  all-part k vs h =
      (and_iff (all q (take k vs)) (all q (drop k vs))).0
      (subst T (ap (all q) (sym (take-append-drop k vs)) ∙ all_append q (take k vs) (drop k vs)) h)

  last_all : (ks : List ℕ) (vs : List A) → T (all q vs) → T (all q (last_first ks vs))
  last_all [] vs h = tt
  last_all (k ∷ ks) vs h =
      all_of_both q (last_first ks (drop k vs)) (take k vs) (last_all ks (drop k vs) (all-part k vs h).1) (all-part k vs h).0

  groups_all : (kss : List (List ℕ)) (vs : List A) → T (all q vs) → T (all q (groups_last_first kss vs))
  groups_all [] vs h = tt
  groups_all (ks ∷ kss) vs h =
      all_of_both q (last_first ks vs) (groups_last_first kss (drop (sum ks) vs)) (last_all ks vs h)
      (groups_all kss (drop (sum ks) vs) (all-part (sum ks) vs h).1)

-- mapping a function over the values commutes with the reversal
module _ {A B : Type 0} (f : A → B) where
  last_map : (ks : List ℕ) (vs : List A) → last_first ks (map f vs) ≡ map f (last_first ks vs)
  last_map [] vs = refl
  last_map (k ∷ ks) vs =
      ap₂ ◌++◌ (ap (last_first ks) (drop-map f k vs) ∙ last_map ks (drop k vs)) (take-map f k vs)
      ∙ sym (map-append f (last_first ks (drop k vs)) (take k vs))

  groups_map : (kss : List (List ℕ)) (vs : List A) → groups_last_first kss (map f vs) ≡ map f (groups_last_first kss vs)
  groups_map [] vs = refl
  groups_map (ks ∷ kss) vs =
      ap₂ ◌++◌ (last_map ks vs) (ap (groups_last_first kss) (drop-map f (sum ks) vs) ∙ groups_map kss (drop (sum ks) vs))
      ∙ sym (map-append f (last_first ks vs) (groups_last_first kss (drop (sum ks) vs)))

-- ---- several groups of blocks

module _ {A : Type 0} where
  length_groups : (kss : List (List ℕ)) (vs : List A) → sum (map sum kss) ≤ length vs
      → length (groups_last_first kss vs) ≡ sum (map sum kss)
  length_groups [] vs l = refl
  length_groups (ks ∷ kss) vs l =
      omega (
        arith,
        length-append (last_first ks vs) (groups_last_first kss (drop (sum ks) vs)),
        length_last ks vs (omega arith),
        length_groups kss (drop (sum ks) vs) (omega (arith, length-drop (sum ks) vs)),
      )

  groups_back : (kss : List (List ℕ)) (vs : List A) → length vs ≡ sum (map sum kss)
      → groups_last_first (map reverse kss) (groups_last_first kss vs) ≡ vs
  groups_back [] [] e = refl
  groups_back [] (v ∷ vs) e = absurd (omega arith)
  groups_back (ks ∷ kss) vs e =
      let here = last_first ks vs in
      let rest = groups_last_first kss (drop (sum ks) vs) in
      let size : length here ≡ sum (reverse ks) = length_last ks vs (omega arith) ∙ sym (sum-reverse ks) in
      ap₂ ◌++◌
      (last_front (reverse ks) here rest (omega arith) ∙ last_back ks vs (omega arith))
      (ap (groups_last_first (map reverse kss)) (drop_at here rest (sum (reverse ks)) size)
      ∙ groups_back kss (drop (sum ks) vs) (omega (arith, length-drop (sum ks) vs)))
      ∙ take-append-drop (sum ks) vs

  groups_block : (jss : List (List ℕ)) (ks : List ℕ) (kss : List (List ℕ)) (vs : List A) (c : ℕ)
      → sum (map sum (jss ++ (ks ∷ kss))) ≤ length vs → c < length ks
      → take (get_or ks c 0) (drop (sum (map sum jss) + sum (drop (suc c) ks)) (groups_last_first (jss ++ (ks ∷ kss)) vs))
      ≡ take (get_or ks c 0) (drop (sum (map sum jss) + sum (take c ks)) vs)
  groups_block [] ks kss vs c l m =
      let here = last_first ks vs in
      let rest = groups_last_first kss (drop (sum ks) vs) in
      let a : ℕ = sum (drop (suc c) ks) in
      let fits : a + get_or ks c 0 ≤ length here = omega (arith, length_last ks vs (omega arith), block-fits ks c m) in
      ap (λ (n : ℕ). take (get_or ks c 0) (drop n (here ++ rest))) (zero-add a)
      ∙ ap (take (get_or ks c 0)) (drop-append-le a here rest (omega arith))
      ∙ take-append-le (get_or ks c 0) (drop a here) rest (omega (arith, length-drop a here))
      ∙ last_block ks vs c (omega arith) m
      ∙ ap (λ (n : ℕ). take (get_or ks c 0) (drop n vs)) (sym (zero-add (sum (take c ks))))
  groups_block (js ∷ jss) ks kss vs c l m =
      let here = last_first js vs in
      let rest = groups_last_first (jss ++ (ks ∷ kss)) (drop (sum js) vs) in
      let a : ℕ = sum (map sum jss) + sum (drop (suc c) ks) in
      let b : ℕ = sum (map sum jss) + sum (take c ks) in
      let size : length here ≡ sum js = length_last js vs (omega arith) in
      let far : sum js + sum (map sum jss) + sum (drop (suc c) ks) ≡ length here + a = omega arith in
      let there : sum js + b ≡ sum js + sum (map sum jss) + sum (take c ks) = omega arith in
      ap (λ (n : ℕ). take (get_or ks c 0) (drop n (here ++ rest))) far
      ∙ ap (take (get_or ks c 0)) (drop-append-add here rest a)
      ∙ groups_block jss ks kss (drop (sum js) vs) c (omega (arith, length-drop (sum js) vs)) m
      ∙ ap (take (get_or ks c 0)) (drop-drop b (sum js) vs ∙ ap (λ (n : ℕ). drop n vs) there)

-- ---- the blocks of parts

sum-lengths : (x : Part) → sum (block_lengths x) ≡ part_rows x
sum-lengths (whole i c row) = omega arith
sum-lengths (cut i row k p) = refl

pub all-lengths : (ps : List Part) → sum (map sum (map block_lengths ps)) ≡ block_row_count ps
all-lengths [] = refl
all-lengths (x ∷ ps) = omega (arith, sum-lengths x, all-lengths ps)

all-lengths-back : (ps : List Part) → sum (map sum (map (λ x. reverse (block_lengths x)) ps)) ≡ block_row_count ps
all-lengths-back [] = refl
all-lengths-back (x ∷ ps) = omega (arith, sum-reverse (block_lengths x), sum-lengths x, all-lengths-back ps)

lengths-back : (ps : List Part) → map reverse (map block_lengths ps) ≡ map (λ x. reverse (block_lengths x)) ps
lengths-back ps = map-map reverse block_lengths ps

lengths-again : (ps : List Part) → map reverse (map (λ x. reverse (block_lengths x)) ps) ≡ map block_lengths ps
lengths-again [] = refl
lengths-again (x ∷ ps) =
    ap₂ {C = List (List ℕ)} (λ (ks : List ℕ) (kss : List (List ℕ)). ks ∷ kss) (reverse-reverse (block_lengths x)) (lengths-again ps)

-- the compact order of parts is that of the first part, then that of the parts after it
pub length_part : {A : Type 0} (x : Part) (vs : List A) → part_rows x ≤ length vs → length (last_first (block_lengths x) vs) ≡ part_rows x
length_part x vs l = length_last (block_lengths x) vs (omega (arith, sum-lengths x)) ∙ sum-lengths x

pub compact_cons : {A : Type 0} (x : Part) (ps : List Part) (vs : List A)
    → compact_order (x ∷ ps) vs ≡ last_first (block_lengths x) vs ++ compact_order ps (drop (part_rows x) vs)
compact_cons x ps vs = ap (λ (n : ℕ). last_first (block_lengths x) vs ++ compact_order ps (drop n vs)) (sum-lengths x)

-- on the compact route a clique's block starts after the rows of the later cliques
pub first-row : (i row k : ℕ) (p : Pattern) (first c : ℕ) → first_row p first c ≡ first + sum (drop (suc c) (block_lengths (cut i row k p)))
first-row i row k p first c =
    ap (λ (ks : List ℕ). first + sum ks) (sym (drop-map (λ (q : Clique). triangle (block_size q)) (suc c) p.cliques))

module _ {A : Type 0} (ps : List Part) (vs : List A) (e : length vs ≡ block_row_count ps) where
  pub length_compact : length (compact_order ps vs) ≡ block_row_count ps
  length_compact = length_groups (map block_lengths ps) vs (omega (arith, all-lengths ps)) ∙ all-lengths ps

  pub length_standard : length (standard_order ps vs) ≡ block_row_count ps
  length_standard =
      length_groups (map (λ x. reverse (block_lengths x)) ps) vs (omega (arith, all-lengths-back ps)) ∙ all-lengths-back ps

  -- the two orders are inverse to each other
  pub standard_compact : standard_order ps (compact_order ps vs) ≡ vs
  standard_compact =
      ap (λ (kss : List (List ℕ)). groups_last_first kss (compact_order ps vs)) (sym (lengths-back ps))
      ∙ groups_back (map block_lengths ps) vs (e ∙ sym (all-lengths ps))

  pub compact_standard : compact_order ps (standard_order ps vs) ≡ vs
  compact_standard =
      ap (λ (kss : List (List ℕ)). groups_last_first kss (standard_order ps vs)) (sym (lengths-again ps))
      ∙ groups_back (map (λ x. reverse (block_lengths x)) ps) vs (e ∙ sym (all-lengths-back ps))

pub compact_map : {A B : Type 0} (f : A → B) (ps : List Part) (vs : List A) → compact_order ps (map f vs) ≡ map f (compact_order ps vs)
compact_map f ps vs = groups_map f (map block_lengths ps) vs

-- a test that all values pass is passed by all values in compact order
pub all_compact : {A : Type 0} (q : A → Bool) (ps : List Part) (vs : List A) → T (all q vs) → T (all q (compact_order ps vs))
all_compact q ps vs h = groups_all q (map block_lengths ps) vs h

-- The block of clique c of a part moves unchanged: on the standard route it comes after the part's earlier cliques, on the compact
-- route after the later ones.
pub block-moved : {A : Type 0} (qs : List Part) (x : Part) (rs : List Part) (vs : List A) (c : ℕ)
    → length vs ≡ block_row_count (qs ++ (x ∷ rs)) → c < length (block_lengths x)
    → take (get_or (block_lengths x) c 0) (drop (block_row_count qs + sum (drop (suc c) (block_lengths x))) (compact_order (qs ++ (x ∷ rs)) vs))
    ≡ take (get_or (block_lengths x) c 0) (drop (block_row_count qs + sum (take c (block_lengths x))) vs)
block-moved {A} qs x rs vs c e l =
    let ks = block_lengths x in
    let split : map block_lengths (qs ++ (x ∷ rs)) ≡ map block_lengths qs ++ (ks ∷ map block_lengths rs) = map-append block_lengths qs (x ∷ rs) in
    let total = ap (λ (kss : List (List ℕ)). sum (map sum kss)) split in
    ap₂ (λ (n : ℕ) (kss : List (List ℕ)). take (get_or ks c 0) (drop (n + sum (drop (suc c) ks)) (groups_last_first kss vs)))
    (sym (all-lengths qs)) split
    ∙ groups_block (map block_lengths qs) ks (map block_lengths rs) vs c (omega (arith, total, all-lengths (qs ++ (x ∷ rs)))) l
    ∙ ap (λ (n : ℕ). take (get_or ks c 0) (drop (n + sum (take c ks)) vs)) (all-lengths qs)

-- ---- blocks by clique

module _ {A : Type 0} (f : Part → ℕ → List A) where
  -- a part's values, cliques from first to last: f gives the values of each clique's block, and an undecomposed cone has only block 0
  abbrev first_to_last : Part → List A
  first_to_last (whole i c row) = f (whole i c row) 0
  first_to_last (cut i row k p) = join (f (cut i row k p)) (below (clique_count p))

  abbrev last_to_first : Part → List A
  last_to_first (whole i c row) = f (whole i c row) 0
  last_to_first (cut i row k p) = join (f (cut i row k p)) (reverse (below (clique_count p)))

  -- f gives one value for each row of each block
  abbrev Sized : List Part → Type 0
  Sized [] = Unit {0}
  Sized (whole i c row ∷ ps) = (length (f (whole i c row) 0) ≡ row_count c) × Sized ps
  Sized (cut i row k p ∷ ps) =
      ((c : ℕ) → c < clique_count p → length (f (cut i row k p) c) ≡ triangle (block_size (clique_at p c))) × Sized ps

  cut-lengths : (i row k : ℕ) (p : Pattern)
      → ((c : ℕ) → c < clique_count p → length (f (cut i row k p) c) ≡ triangle (block_size (clique_at p c)))
      → map (λ c. length (f (cut i row k p) c)) (below (clique_count p)) ≡ block_lengths (cut i row k p)
  cut-lengths i row k p h =
      let size : Clique → ℕ = λ q. triangle (block_size q) in
      map_same (λ c. length (f (cut i row k p) c)) (λ c. size (clique_at p c)) (below (clique_count p))
      (λ c m. h c ((has-below c (clique_count p)).0 m))
      ∙ sym (map-drop size no_clique p.cliques 0 (clique_count p) (omega arith))

  -- the compact order of the values with cliques from first to last is the values with cliques from last to first
  order_blocks : (ps : List Part) → Sized ps → compact_order ps (join first_to_last ps) ≡ join last_to_first ps
  order_blocks [] h = refl
  order_blocks (whole i c row ∷ ps) h =
      let x = f (whole i c row) 0 in
      let rest = join first_to_last ps in
      let size : length x ≡ row_count c + 0 = omega (arith, h.0) in
      ap₂ ◌++◌ (take_at x rest (row_count c) h.0)
      (ap (compact_order ps) (drop_at x rest (row_count c + 0) size) ∙ order_blocks ps h.1)
  order_blocks (cut i row k p ∷ ps) h =
      let g = f (cut i row k p) in
      let rest = join first_to_last ps in
      let same = cut-lengths i row k p h.0 in
      ap₂ ◌++◌
      (ap (λ (ks : List ℕ). last_first ks (join g (below (clique_count p)) ++ rest)) (sym same)
      ∙ last_join g (below (clique_count p)) rest)
      (ap (compact_order ps) (drop_at (join g (below (clique_count p))) rest (sum (block_lengths (cut i row k p)))
      (length-join g (below (clique_count p)) ∙ ap sum same))
      ∙ order_blocks ps h.1)

-- ---- the original rows of the blocks

-- the original row of each row of clique d's block
abbrev block_originals : Part → ℕ → List ℕ
block_originals (whole i c row) d = up_from row (row_count c)
block_originals (cut i row k p) d = map (pair_row row) (block p d)

standard_joined : (ps : List Part) → standard_rows ps ≡ join (first_to_last block_originals) ps
standard_joined [] = refl
standard_joined (whole i c row ∷ ps) = ap (λ (r : List ℕ). up_from row (row_count c) ++ r) (standard_joined ps)
standard_joined (cut i row k p ∷ ps) =
    ap (λ (r : List ℕ). join (λ c. map (pair_row row) (block p c)) (below (clique_count p)) ++ r) (standard_joined ps)

pair-original : (p : Pattern) (base first c : ℕ) (xs : List Pair) → map original_row (map (row_of p base first c) xs) ≡ map (pair_row base) xs
pair-original p base first c [] = refl
pair-original p base first c (pair i j ∷ xs) =
    ap₂ {C = List ℕ} (λ (o : ℕ) (os : List ℕ). o ∷ os) (row-original p base first c i j) (pair-original p base first c xs)

-- kept rows have the original rows that they are made of
pub kept-original : (os : List ℕ) → map original_row (map kept os) ≡ os
kept-original [] = refl
kept-original (o ∷ os) = ap {B = List ℕ} (λ r. o ∷ r) (kept-original os)

compact_joined : (first : ℕ) (ps : List Part) → map original_row (rows_from first ps) ≡ join (last_to_first block_originals) ps
compact_joined first [] = refl
compact_joined first (whole i c row ∷ ps) =
    map-append original_row (map kept (up_from row (row_count c))) (rows_from (first + row_count c) ps)
    ∙ ap₂ ◌++◌ (kept-original (up_from row (row_count c)))
    (compact_joined (first + row_count c) ps)
compact_joined first (cut i row k p ∷ ps) =
    map-append original_row (pattern_rows p row first) (rows_from (first + block_rows p) ps)
    ∙ ap₂ ◌++◌
    (map-join original_row (λ c. map (row_of p row first c) (block p c)) (reverse (below (clique_count p)))
    ∙ join_same (λ c. map original_row (map (row_of p row first c) (block p c))) (λ c. map (pair_row row) (block p c)) (reverse (below (clique_count p)))
    (λ c h. pair-original p row first c (block p c)))
    (compact_joined (first + block_rows p) ps)

originals-sized : (row : ℕ) (ps : List Part) → Laid row ps → Sized block_originals ps
originals-sized row [] h = tt
originals-sized row (whole i c r ∷ ps) h = (length-up_from r (row_count c), originals-sized (row + row_count c) ps h.1)
originals-sized row (cut i r k p ∷ ps) h = (
  λ c l. length-map (block p c) (pair_row r) ∙ block-length p h.1 c l,
  originals-sized (row + triangle p.vertex_count) ps h.2,
)

-- the original rows of H's columns, put in compact order, are those of the compact route's rows
pub rows_order : (first row : ℕ) (ps : List Part) → Laid row ps
    → map original_row (rows_from first ps) ≡ compact_order ps (standard_rows ps)
rows_order first row ps h =
    compact_joined first ps ∙ sym (order_blocks block_originals ps (originals-sized row ps h))
    ∙ ap (compact_order ps) (sym (standard_joined ps))

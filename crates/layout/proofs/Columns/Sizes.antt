-- The lengths of the cut's outputs in closed form, for a problem that the route accepts.
use Prim.Native.Nat.{ℕ, suc, ◌+◌, ◌*◌}
use native.Mathlib.Nat.{le_refl}
use native.Mathlib.Omega.{arith}
use mathlib.Core.Path.{◌≡◌, refl, sym, ap, ap₂, ◌∙◌}
use mathlib.Core.List.{List, [], ◌∷◌, ◌++◌, map, map-append, map-map, reverse}
use lib.ListN.{length, replicate, length-append, length-map, length-replicate, length-reverse}
use Rattle.layout.specs.General.Lists.{below, up_from, sum, join}
use Rattle.layout.specs.General.Floats.{zero64}
use Rattle.layout.specs.General.Triangle.{triangle}
use Rattle.layout.specs.Problems.Problem.{Problem, Csc, standard, compact}
use Rattle.layout.specs.Problems.Cones.{row_count}
use Rattle.layout.specs.Problems.Patterns.{Pattern, Clique, clique_at, clique_count, block_size, no_clique}
use Rattle.layout.specs.Rows.Blocks.{Row, Part, whole, cut, block, block_rows, pair_row, compact_rows, standard_rows, block_row_count, overlap_count, part_cones, part_rows, cone_count}
use Rattle.layout.specs.Checks.{layout, refusal, RightPattern, Laid}
use Rattle.layout.specs.Cuts.Compact.{Entry, column, summed, summed_a, augmented_column, overlap_columns, compact_a, row_value, psd_words, compact_part, MapEntry, whole_cone, block_of, block_entry, map_part, map_from, map_words, compact_b, compact_p, cone_map, compact_columns}
use Rattle.layout.specs.Cuts.Standard.{block_columns, standard_a, standard_p, standard_part, standard_cones}
use Rattle.layout.specs.Calls.Cut.{sizes}
use Rattle.layout.proofs.Lists.Members.{length-up_from, has-below, length-below}
use Rattle.layout.proofs.Lists.Joins.{map_same, map-drop, length-join}
use Rattle.layout.proofs.Lists.Starts.{sum-append, length-starts}
use Rattle.layout.proofs.Checks.Accepted.{accepted_checked}
use Rattle.layout.proofs.Rows.Rows.{block-length}
use Rattle.layout.proofs.Rows.Laid.{accepted-laid, accepted-count}
use Rattle.layout.proofs.Columns.Columns.{RightStarts, columns_sum, entry_count, even, right_A, right_P}
use Rattle.layout.proofs.Columns.Repeats.{summed-column, right-summed}
use Rattle.layout.proofs.Equations.Links.{Link, links}
use Rattle.layout.proofs.Equations.RowSums.{link_column, overlap_columns_lem}
use Rattle.layout.proofs.Columns.Cut.{link_count, all_columns_count}
use Rattle.layout.proofs.Columns.Augmented.{columns_keep}

-- ---- cones

parts-length : {A : Type 0} (f : Part → List A) (w : ℕ) → ((x : Part) → length (f x) ≡ w * part_cones x)
    → (ps : List Part) → length (join f ps) ≡ w * cone_count ps
parts-length f w h [] = omega arith
parts-length f w h (x ∷ ps) = omega (arith, length-append (f x) (join f ps), h x, parts-length f w h ps)

words-length : (f : ℕ → ℕ) (cs : List ℕ) → length (join (λ c. psd_words (f c)) cs) ≡ 3 * length cs
words-length f [] = refl
words-length f (c ∷ cs) = omega (arith, words-length f cs)

down-count : (k : ℕ) → length (reverse (below k)) ≡ k
down-count k = length-reverse (below k) ∙ length-below k

compact_part_lem : (x : Part) → length (compact_part x) ≡ 3 * part_cones x
compact_part_lem (whole i c row) = refl
compact_part_lem (cut i row k p) =
    omega (arith, words-length (λ c. block_size (clique_at p c)) (reverse (below (clique_count p))), down-count (clique_count p))

standard_part_lem : (x : Part) → length (standard_part x) ≡ 3 * part_cones x
standard_part_lem (whole i c row) = refl
standard_part_lem (cut i row k p) =
    omega (arith, words-length (λ c. block_size (clique_at p c)) (below (clique_count p)), length-up_from 0 (clique_count p))

-- a part has one cone map entry for each of its new cones
pub map-part : (first : ℕ) (x : Part) → length (map_part first x) ≡ part_cones x
map-part first (whole i c row) = refl
map-part first (cut i row k p) =
    length-map (reverse (below (clique_count p))) (block_entry i k p first) ∙ down-count (clique_count p)

-- the cone map has one entry for each new cone
pub map-count : (first : ℕ) (ps : List Part) → length (map_from first ps) ≡ cone_count ps
map-count first [] = refl
map-count first (x ∷ ps) =
    omega (arith, length-append (map_part first x) (map_from (first + part_rows x) ps), map-part first x, map-count (first + part_rows x) ps)

-- a cone map entry has five words
pub entries-length : (es : List MapEntry) → length (map_words es) ≡ 5 * length es
entries-length [] = refl
entries-length (whole_cone i first rows ∷ es) = omega (arith, entries-length es)
entries-length (block_of i k c first rows ∷ es) = omega (arith, entries-length es)

-- ---- entries

-- the entry count of the columns below n and of the columns ds after them
two_parts : (f : ℕ → List Entry) (n : ℕ) (ds : List (List Entry))
    → sum (map length (map f (below n) ++ ds)) ≡ sum (map (λ c. length (f c)) (below n)) + sum (map length ds)
two_parts f n ds =
    ap sum (map-append length (map f (below n)) ds) ∙ sum-append (map length (map f (below n))) (map length ds)
    ∙ ap (λ (l : List ℕ). sum l + sum (map length ds)) (map-map length f (below n))

links_entries : (L : List Link) → sum (map length (map link_column L)) ≡ 2 * length L
links_entries [] = refl
links_entries (l ∷ L) = omega (arith, links_entries L)

blocks-entries : (r : ℕ) (os : List ℕ) → sum (map length (block_columns r os)) ≡ 2 * length os
blocks-entries r [] = refl
blocks-entries r (o ∷ os) = omega (arith, blocks-entries (suc r) os)

pub blocks-count : (r : ℕ) (os : List ℕ) → length (block_columns r os) ≡ length os
blocks-count r [] = refl
blocks-count r (o ∷ os) = ap suc (blocks-count (suc r) os)

-- ---- the standard route's rows

pattern_count : (p : Pattern) → RightPattern p → (row : ℕ)
    → length (join (λ c. map (pair_row row) (block p c)) (below (clique_count p))) ≡ block_rows p
pattern_count p h row =
    let size : Clique → ℕ = λ q. triangle (block_size q) in
    length-join (λ c. map (pair_row row) (block p c)) (below (clique_count p))
    ∙ ap sum (map_same (λ c. length (map (pair_row row) (block p c))) (λ c. size (clique_at p c)) (below (clique_count p))
    (λ c k. length-map (block p c) (pair_row row) ∙ block-length p h c ((has-below c (clique_count p)).0 k))
    ∙ sym (map-drop size no_clique p.cliques 0 (clique_count p) (omega arith)))

pub standard_count : (row : ℕ) (ps : List Part) → Laid row ps → length (standard_rows ps) ≡ block_row_count ps
standard_count row [] h = refl
standard_count row (whole i c r ∷ ps) h =
    omega (
      arith,
      length-append (up_from r (row_count c)) (standard_rows ps),
      length-up_from r (row_count c),
      standard_count (row + row_count c) ps h.1,
    )
standard_count row (cut i r k p ∷ ps) h =
    omega (
      arith,
      length-append (join (λ c. map (pair_row r) (block p c)) (below (clique_count p))) (standard_rows ps),
      pattern_count p h.1 r,
      standard_count (row + triangle p.vertex_count) ps h.2,
    )

-- the entry counts of the columns sum to the entry count of the matrix
column-entries : (n : ℕ) (M : Csc) → RightStarts n M → sum (map (λ c. length (column M c)) (below n)) ≡ length M.values
column-entries n M right = columns_sum n M right n (le_refl n) ∙ right.last ∙ right.even

extended : {A : Type 0} (xs : List A) (n k : ℕ) (a : A) → length xs ≡ n → length (xs ++ replicate k a) ≡ n + k
extended xs n k a e = length-append xs (replicate k a) ∙ ap₂ ◌+◌ e (length-replicate k a)

-- ---- the sizes

module _ (p : Problem) (ok : refusal compact p ≡ 0) where
  abbrev k : ℕ
  k = overlap_count (layout p)

  abbrev R : List Row
  R = compact_rows (layout p)

  abbrev moving : ℕ → List Entry
  moving c = augmented_column (summed (column p.A c)) 0 R

  compact_columns_lem : length (map length (compact_columns p)) ≡ p.n + k
  compact_columns_lem =
      length-map (compact_columns p) length ∙ all_columns_count p ok
      ∙ ap (λ (j : ℕ). p.n + j) (link_count p ok)

  compact_starts : length (compact_a p).starts ≡ suc (p.n + k)
  compact_starts = length-starts 0 (map length (compact_columns p)) ∙ ap suc compact_columns_lem

  compact_entries : length (compact_a p).values ≡ length (summed_a p).values + 2 * k
  compact_entries =
      entry_count (compact_columns p) ∙ two_parts moving p.n (overlap_columns 0 R)
      ∙ ap₂ ◌+◌
      (ap sum (map_same (λ c. length (moving c)) (λ c. length (column (summed_a p) c)) (below p.n)
      (λ c h. let l = (has-below c p.n).0 h in columns_keep p ok c l ∙ ap length (sym (summed-column p c l))))
      ∙ column-entries p.n (summed_a p) (right-summed p))
      (ap (λ (cs : List (List Entry)). sum (map length cs)) (overlap_columns_lem 0 R) ∙ links_entries (links 0 R)
      ∙ ap (λ (j : ℕ). 2 * j) (link_count p ok))

  compact_rows_lem : length (compact_a p).rows ≡ length (summed_a p).values + 2 * k
  compact_rows_lem = even (compact_columns p) ∙ compact_entries

  -- the augmented b has one value for each block row
  pub compact_b_lem : length (compact_b p) ≡ block_row_count (layout p)
  compact_b_lem = length-map R (row_value p.b) ∙ accepted-count compact p ok

  compact_p_lem : length (compact_p p).starts ≡ suc (p.n + k)
  compact_p_lem = omega (arith, extended p.P.starts (suc p.n) k (length p.P.values) (right_P compact p ok).count)

  compact_map : length (map_words (cone_map (layout p))) ≡ 5 * cone_count (layout p)
  compact_map = omega (arith, map-count 0 (layout p), entries-length (cone_map (layout p)))

-- the compact cut's output lengths, from n, the entry counts of P and of A with its repeats summed, the number of α and the parts
abbrev pub compact_sizes : ℕ → ℕ → ℕ → ℕ → List Part → List ℕ
compact_sizes n entries_p entries_a alphas ps =
    let added = overlap_count ps in
    let moved = entries_a + 2 * added in
    suc (n + added) ∷ entries_p ∷ entries_p ∷ (n + added)
    ∷ suc (n + added) ∷ moved ∷ moved ∷ block_row_count ps
    ∷ (3 * cone_count ps) ∷ alphas ∷ (5 * cone_count ps) ∷ []

pub compact_sizes_lem : (p : Problem) → refusal compact p ≡ 0
    → sizes compact p ≡ compact_sizes p.n (length p.P.values) (length (summed_a p).values) (length p.alphas) (layout p)
compact_sizes_lem p ok =
    let q-length = extended p.q p.n (overlap_count (layout p)) zero64 (accepted_checked compact p ok).length_q in
    λ i.
    compact_p_lem p ok i ∷ (right_P compact p ok).even i ∷ length p.P.values ∷ q-length i
    ∷ compact_starts p ok i ∷ compact_rows_lem p ok i ∷ compact_entries p ok i ∷ compact_b_lem p ok i
    ∷ parts-length compact_part 3 compact_part_lem (layout p) i ∷ length p.alphas ∷ compact_map p ok i ∷ []

module _ (p : Problem) (ok : refusal standard p ≡ 0) where
  abbrev rows : ℕ
  rows = block_row_count (layout p)

  rows-count : length (standard_rows (layout p)) ≡ rows
  rows-count = standard_count 0 (layout p) (accepted-laid standard p ok).0

  standard_columns : length (map (column p.A) (below p.n) ++ block_columns p.m (standard_rows (layout p))) ≡ p.n + rows
  standard_columns =
      length-append (map (column p.A) (below p.n)) (block_columns p.m (standard_rows (layout p)))
      ∙ ap₂ ◌+◌ (length-map (below p.n) (column p.A) ∙ length-up_from 0 p.n)
      (blocks-count p.m (standard_rows (layout p)) ∙ rows-count)

  standard_starts : length (standard_a p).starts ≡ suc (p.n + rows)
  standard_starts =
      let cs = map (column p.A) (below p.n) ++ block_columns p.m (standard_rows (layout p)) in
      length-starts 0 (map length cs) ∙ ap suc (length-map cs length ∙ standard_columns)

  standard_entries : length (standard_a p).values ≡ length p.A.values + 2 * rows
  standard_entries =
      let os = standard_rows (layout p) in
      entry_count (map (column p.A) (below p.n) ++ block_columns p.m os)
      ∙ two_parts (column p.A) p.n (block_columns p.m os)
      ∙ ap₂ ◌+◌ (column-entries p.n p.A (right_A standard p ok)) (blocks-entries p.m os ∙ ap (λ (j : ℕ). 2 * j) rows-count)

  standard_rows_lem : length (standard_a p).rows ≡ length p.A.values + 2 * rows
  standard_rows_lem = even (map (column p.A) (below p.n) ++ block_columns p.m (standard_rows (layout p))) ∙ standard_entries

  standard_p_lem : length (standard_p p).starts ≡ suc (p.n + rows)
  standard_p_lem = omega (arith, extended p.P.starts (suc p.n) rows (length p.P.values) (right_P standard p ok).count)

  standard_cones_lem : length (standard_cones p) ≡ 3 * suc (cone_count (layout p))
  standard_cones_lem = omega (arith, parts-length standard_part 3 standard_part_lem (layout p))

-- the standard cut's output lengths, from n, m, the entry counts of P and of A, the number of α and the parts
abbrev pub standard_sizes : ℕ → ℕ → ℕ → ℕ → ℕ → List Part → List ℕ
standard_sizes n m entries_p entries_a alphas ps =
    let added = block_row_count ps in
    let beside = entries_a + 2 * added in
    suc (n + added) ∷ entries_p ∷ entries_p ∷ (n + added)
    ∷ suc (n + added) ∷ beside ∷ beside ∷ (m + added)
    ∷ (3 * suc (cone_count ps)) ∷ alphas ∷ 0 ∷ []

pub standard_sizes_lem : (p : Problem) → refusal standard p ≡ 0
    → sizes standard p ≡ standard_sizes p.n p.m (length p.P.values) (length p.A.values) (length p.alphas) (layout p)
standard_sizes_lem p ok =
    let q-length = extended p.q p.n (block_row_count (layout p)) zero64 (accepted_checked standard p ok).length_q in
    let b-length = extended p.b p.m (block_row_count (layout p)) zero64 (accepted_checked standard p ok).length_b in
    λ i.
    standard_p_lem p ok i ∷ (right_P standard p ok).even i ∷ length p.P.values ∷ q-length i
    ∷ standard_starts p ok i ∷ standard_rows_lem p ok i ∷ standard_entries p ok i ∷ b-length i
    ∷ standard_cones_lem p ok i ∷ length p.alphas ∷ 0 ∷ []

-- The cones and map entries of a decomposed cone, and their number of words.
use Prim.Native.Nat.{ℕ, zero, suc, ◌+◌, ◌*◌, ◌≤◌}
use native.Mathlib.Omega.{arith}
use mathlib.Core.Path.{◌≡◌, refl, sym, ap, ◌∙◌}
use mathlib.Core.Bool.{true}
use mathlib.Core.List.{List, [], ◌∷◌, ◌++◌, map, map-append, reverse, reverse-cons}
use lib.ListN.{length, drop, length-append, length-reverse, drop_of_length-le}
use lib.Seq.{drop-cons}
use lib.Dec.{leb→le}
use Rattle.layout.specs.General.Lists.{all, below, join, sum, up_from}
use Rattle.layout.specs.Problems.Patterns.{Pattern, Clique, no_clique, block_size, clique_at, clique_count}
use Rattle.layout.specs.Rows.Blocks.{cut}
use Rattle.layout.specs.Cuts.Compact.{MapEntry, block_of, entry_words, psd_words, block_entry, compact_part, map_part, map_words}
use Rattle.layout.specs.Cuts.Standard.{standard_part}
use Rattle.layout.proofs.Lists.Members.{length-below}
use Rattle.layout.proofs.Lists.Joins.{map-drop}
use Rattle.layout.proofs.Lists.Tests.{passes}
use Rattle.layout.proofs.Lists.Starts.{join-append, join-map}
use Rattle.layout.proofs.Columns.Sizes.{map-part, entries-length}
use Rattle.supernode_tree.specs.Sizes.{block_at_most, dim_of}
use Rattle.supernode_tree.proofs.Sizes.{all_cons}
use Rattle.rows_tables.specs.Tables.{entries_down}
use Rattle.rows_blocks.proofs.Offsets.{reverse-map}
use Rattle.rows_tables.proofs.Laws.{threes}

module _ (p : Pattern) where
  abbrev size_at : ℕ → ℕ
  size_at c = block_size (clique_at p c)

  -- the block sizes by clique number
  sizes-by : map block_size p.cliques ≡ map size_at (below (clique_count p))
  sizes-by = map-drop block_size no_clique p.cliques 0 (clique_count p) (omega arith)

  pub sizes-up : (i row k : ℕ) → join psd_words (map block_size p.cliques) ≡ standard_part (cut i row k p)
  sizes-up i row k = ap (join psd_words) sizes-by ∙ join-map psd_words size_at (below (clique_count p))

  pub sizes-down : (i row k : ℕ) → join psd_words (reverse (map block_size p.cliques)) ≡ compact_part (cut i row k p)
  sizes-down i row k =
      ap (λ (xs : List ℕ). join psd_words (reverse xs)) sizes-by ∙ ap (join psd_words) (reverse-map size_at (below (clique_count p)))
      ∙ join-map psd_words size_at (reverse (below (clique_count p)))

  pub standard_words : (i row k : ℕ) → length (standard_part (cut i row k p)) ≡ clique_count p * 3
  standard_words i row k =
      threes (λ c. psd_words (size_at c)) (λ c. refl) (below (clique_count p)) ∙ ap (λ (n : ℕ). n * 3) (length-below (clique_count p))

  downs : length (reverse (below (clique_count p))) * 3 ≡ clique_count p * 3
  downs = ap (λ (n : ℕ). n * 3) (length-reverse (below (clique_count p)) ∙ length-below (clique_count p))

  pub compact_words : (i row k : ℕ) → length (compact_part (cut i row k p)) ≡ clique_count p * 3
  compact_words i row k = threes (λ c. psd_words (size_at c)) (λ c. refl) (reverse (below (clique_count p))) ∙ downs

  pub map-words : (first i row k : ℕ) → length (map_words (map_part first (cut i row k p))) ≡ clique_count p * 5
  map-words first i row k = omega (arith, entries-length (map_part first (cut i row k p)), map-part first (cut i row k p))

  -- the map entries of the cliques from number c on, from last to first
  down-from : (i k first c n : ℕ) → c + n ≡ clique_count p → map (block_entry i k p first) (reverse (up_from c n)) ≡ entries_down i k c first (drop c p.cliques)
  down-from i k first c zero e = sym (ap (entries_down i k c first) (drop_of_length-le p.cliques {i = c} (omega arith)))
  down-from i k first c (suc n) e =
      ap (map (block_entry i k p first)) (reverse-cons c (up_from (suc c) n))
      ∙ map-append (block_entry i k p first) (reverse (up_from (suc c) n)) (c ∷ [])
      ∙ ap (λ (es : List MapEntry). es ++ (block_entry i k p first c ∷ [])) (down-from i k first (suc c) n (omega arith))
      ∙ sym (ap (entries_down i k c first) (drop-cons p.cliques c no_clique (omega arith)))

  pub entries-down : (i row k first : ℕ) → map_part first (cut i row k p) ≡ entries_down i k 0 first p.cliques
  entries-down i row k first = down-from i k first 0 (clique_count p) (omega arith)

-- there are as many entries as cliques
pub down-length : (i k c first : ℕ) (cs : List Clique) → length (entries_down i k c first cs) ≡ length cs
down-length i k c first [] = refl
down-length i k c first (q ∷ cs) =
    omega (arith, length-append (entries_down i k (suc c) first cs) (block_of i k c (first + sum (map dim_of cs)) (dim_of q) ∷ []), down-length i k (suc c) first cs)

-- the words of these entries
abbrev pub down_words : ℕ → ℕ → ℕ → ℕ → List Clique → List ℕ
down_words i k c first cs = map_words (entries_down i k c first cs)

pub down_more : (i k c first : ℕ) (q : Clique) (cs : List Clique)
    → down_words i k c first (q ∷ cs) ≡ down_words i k (suc c) first cs ++ (i ∷ k ∷ c ∷ (first + sum (map dim_of cs)) ∷ dim_of q ∷ [])
down_more i k c first q cs = join-append entry_words (entries_down i k (suc c) first cs) (block_of i k c (first + sum (map dim_of cs)) (dim_of q) ∷ [])

-- the words of the cliques' cones, from first to last and from last to first
abbrev pub cones_of : List Clique → List ℕ
cones_of cs = join psd_words (map block_size cs)

abbrev pub cones_back : List Clique → List ℕ
cones_back cs = join psd_words (reverse (map block_size cs))

pub back_more : (q : Clique) (cs : List Clique) → cones_back (q ∷ cs) ≡ cones_back cs ++ psd_words (block_size q)
back_more q cs =
    ap (join psd_words) (reverse-cons (block_size q) (map block_size cs)) ∙ join-append psd_words (reverse (map block_size cs)) (block_size q ∷ [])

-- the first of cliques with at most 256 vertices each has at most 256
pub first_small : (q : Clique) (cs ds : List Clique) → ds ≡ q ∷ cs → all (block_at_most 256) ds ≡ true → block_size q ≤ 256
first_small q cs ds e h = leb→le (block_size q) 256 (passes _ (all_cons (block_at_most 256) q cs ds e h).0)

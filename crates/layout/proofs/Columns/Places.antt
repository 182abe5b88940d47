-- A's values do not affect where its entries go: problems that agree in n, m, their layout and the starts and rows of A have equal
-- augmented starts and rows, and so do problems that differ only in A's values.
use Prim.Native.Nat.{ℕ, suc, ◌-◌}
use mathlib.Core.Path.{◌≡◌, refl, sym, ap, ap₂, ◌∙◌}
use mathlib.Core.Bool.{Bool, true, false, cond}
use mathlib.Core.List.{List, [], ◌∷◌, ◌++◌, map, map-append, map-map}
use lib.ListN.{length, get_or, length-map}
use lib.Dec.{eqb}
use lib.Ieee.{Float}
use Rattle.layout.specs.General.Lists.{below, up_from, keep, join, starts_from}
use Rattle.layout.specs.Problems.Problem.{Problem, Csc}
use Rattle.layout.specs.Rows.Blocks.{Part, Row, kept, owned, overlap, compact_rows, standard_rows}
use Rattle.layout.specs.Checks.{layout}
use Rattle.layout.specs.Cuts.Compact.{Entry, column, csc, summed, summed_a, moved, row_entries, augmented_column, overlap_columns, compact_columns, compact_a, rows_of}
use Rattle.layout.specs.Cuts.Standard.{block_columns, standard_a}
use Rattle.layout.proofs.Lists.Joins.{map_same}
use Rattle.layout.proofs.Columns.Columns.{entries-rows}
use Rattle.layout.proofs.Columns.Compressed.{rows-joined}
use Rattle.layout.proofs.Columns.Repeats.{runs, summed-rows}

-- ---- columns with equal row indices give equal starts and rows

lengths_of : (cs : List (List Entry)) → map length cs ≡ map length (map rows_of cs)
lengths_of [] = refl
lengths_of (c ∷ cs) = ap₂ {C = List ℕ} (λ n r. n ∷ r) (sym (length-map c (λ (e : Entry). e.row))) (lengths_of cs)

abbrev pub SamePlaces : Csc → Csc → Type 0
SamePlaces M N = (M.starts ≡ N.starts) × (M.rows ≡ N.rows)

csc_places : (cs ds : List (List Entry)) → map rows_of cs ≡ map rows_of ds → SamePlaces (csc cs) (csc ds)
csc_places cs ds e = (
  ap (starts_from 0) (lengths_of cs ∙ ap (map length) e ∙ sym (lengths_of ds)),
  rows-joined cs ∙ ap (join (λ r. r)) e ∙ sym (rows-joined ds),
)

-- columns 0 to n - 1 with equal row indices, followed by the same columns ds
columns_rows : (f g : ℕ → List Entry) (n : ℕ) (ds : List (List Entry)) → ((c : ℕ) → rows_of (f c) ≡ rows_of (g c))
    → map rows_of (map f (below n) ++ ds) ≡ map rows_of (map g (below n) ++ ds)
columns_rows f g n ds h =
    map-append rows_of (map f (below n)) ds
    ∙ ap (λ (r : List (List ℕ)). r ++ map rows_of ds)
    (map-map rows_of f (below n) ∙ map_same (λ c. rows_of (f c)) (λ c. rows_of (g c)) (below n) (λ c k. h c)
    ∙ sym (map-map rows_of g (below n)))
    ∙ sym (map-append rows_of (map g (below n)) ds)

-- ---- an augmented column's row indices, from the column's row indices

rows_from : List ℕ → ℕ → Row → List ℕ
rows_from rs q (kept o) = map (λ r. q) (keep (λ r. eqb r o) rs)
rows_from rs q (owned o) = map (λ r. q) (keep (λ r. eqb r o) rs)
rows_from rs q (overlap o s) = []

rows_on : List ℕ → ℕ → List Row → List ℕ
rows_on rs i [] = []
rows_on rs i (x ∷ R) = rows_from rs i x ++ rows_on rs (suc i) R

moved-rows : (o q : ℕ) (es : List Entry) → rows_of (moved o q es) ≡ map (λ r. q) (keep (λ r. eqb r o) (rows_of es))
moved-rows o q [] = refl
moved-rows o q (e ∷ es) = go (eqb e.row o) (moved-rows o q es)
  where
    rest : List Entry
    rest = keep (λ (e : Entry). eqb e.row o) es

    others : List ℕ
    others = keep (λ r. eqb r o) (rows_of es)

    go : (b : Bool) → rows_of (moved o q es) ≡ map (λ r. q) others
        → rows_of (map (λ (e : Entry). record { row = q; value = e.value }) (cond b (e ∷ rest) rest))
        ≡ map (λ r. q) (cond b (e.row ∷ others) others)
    go true h = ap {B = List ℕ} (λ r. q ∷ r) h
    go false h = h

row-rows : (es : List Entry) (q : ℕ) (x : Row) → rows_of (row_entries es q x) ≡ rows_from (rows_of es) q x
unfolding rows_from
row-rows es q (kept o) = moved-rows o q es
row-rows es q (owned o) = moved-rows o q es
row-rows es q (overlap o s) = refl

augmented-rows : (es : List Entry) (i : ℕ) (R : List Row) → rows_of (augmented_column es i R) ≡ rows_on (rows_of es) i R
unfolding rows_on
augmented-rows es i [] = refl
augmented-rows es i (x ∷ R) =
    map-append (λ (e : Entry). e.row) (row_entries es i x) (augmented_column es (suc i) R)
    ∙ ap₂ ◌++◌ (row-rows es i x) (augmented-rows es (suc i) R)

-- ---- problems that agree in n, layout and the starts and rows of A

column_places : (M N : Csc) → SamePlaces M N → (c : ℕ) → rows_of (column M c) ≡ rows_of (column N c)
column_places M N e c =
    let a : Csc → ℕ = λ M. get_or M.starts c 0 in
    let k : Csc → ℕ = λ M. get_or M.starts (suc c) 0 - get_or M.starts c 0 in
    entries-rows (a M) (k M) M
    ∙ ap₂ (λ (s r : List ℕ). map (λ t. get_or r t 0) (up_from (get_or s c 0) (get_or s (suc c) 0 - get_or s c 0))) e.0 e.1
    ∙ sym (entries-rows (a N) (k N) N)

-- the same after repeated entries are summed
summed_places : (M N : Csc) → SamePlaces M N → (c : ℕ) → rows_of (summed (column M c)) ≡ rows_of (summed (column N c))
summed_places M N e c = summed-rows (column M c) ∙ ap runs (column_places M N e c) ∙ sym (summed-rows (column N c))

pub summed_same : (p q : Problem) → p.n ≡ q.n → SamePlaces p.A q.A → SamePlaces (summed_a p) (summed_a q)
summed_same p q n places =
    csc_places (map (λ c. summed (column p.A c)) (below p.n)) (map (λ c. summed (column q.A c)) (below q.n))
    (map-map rows_of (λ c. summed (column p.A c)) (below p.n)
    ∙ map_same (λ c. rows_of (summed (column p.A c))) (λ c. rows_of (summed (column q.A c))) (below p.n)
    (λ c k. summed_places p.A q.A places c)
    ∙ sym (map-map rows_of (λ c. summed (column q.A c)) (below p.n))
    ∙ ap (λ (n : ℕ). map rows_of (map (λ c. summed (column q.A c)) (below n))) n)

module _ (p q : Problem) (n : p.n ≡ q.n) (parts : layout p ≡ layout q) (places : SamePlaces p.A q.A) where
  pub compact_same : SamePlaces (compact_a p) (compact_a q)
  compact_same =
      let R = compact_rows (layout p) in
      csc_places (compact_columns p) (compact_columns q)
      (columns_rows (λ c. augmented_column (summed (column p.A c)) 0 R) (λ c. augmented_column (summed (column q.A c)) 0 R)
      p.n (overlap_columns 0 R)
      (λ c. augmented-rows (summed (column p.A c)) 0 R ∙ ap (λ (rs : List ℕ). rows_on rs 0 R) (summed_places p.A q.A places c)
      ∙ sym (augmented-rows (summed (column q.A c)) 0 R))
      ∙ ap₂ (λ (n : ℕ) (ps : List Part).
      map rows_of (map (λ c. augmented_column (summed (column q.A c)) 0 (compact_rows ps)) (below n) ++ overlap_columns 0 (compact_rows ps))) n parts)

  pub standard_same : p.m ≡ q.m → SamePlaces (standard_a p) (standard_a q)
  standard_same m =
      let cs : Problem → ℕ → ℕ → List Part → List (List Entry) =
      λ p n m ps. map (column p.A) (below n) ++ block_columns m (standard_rows ps) in
      csc_places (cs p p.n p.m (layout p)) (cs q q.n q.m (layout q))
      (columns_rows (column p.A) (column q.A) p.n (block_columns p.m (standard_rows (layout p))) (column_places p.A q.A places)
      ∙ λ i. map rows_of (cs q (n i) (m i) (parts i)))

-- ---- problems that differ only in A's values

abbrev with_values : List Float → Problem → Problem
with_values vs p = record {
  n = p.n;
  m = p.m;
  P = p.P;
  q = p.q;
  A = record { starts = p.A.starts; rows = p.A.rows; values = vs };
  b = p.b;
  cones = p.cones;
  alphas = p.alphas;
  pattern_count = p.pattern_count;
  pattern_words = p.pattern_words;
}

module _ (vs : List Float) (p : Problem) where
  pub compact_places : SamePlaces (compact_a (with_values vs p)) (compact_a p)
  compact_places = compact_same (with_values vs p) p refl refl (refl, refl)

  pub standard_places : SamePlaces (standard_a (with_values vs p)) (standard_a p)
  standard_places = standard_same (with_values vs p) p refl refl (refl, refl) refl

-- What the cuts write for a pool: the first problem's rows above the second's, and its added columns before the second's.
use Prim.Native.Nat.{ℕ, suc, ◌+◌, ◌≤◌, ◌<◌}
use native.Mathlib.Omega.{arith}
use mathlib.Core.Path.{◌≡◌, refl, sym, ap, ap₂, subst, fun_ext, ◌∙◌}
use mathlib.Core.Logic.{inl, inr}
use mathlib.Core.Bool.{Bool, true, false, cond}
use mathlib.Core.List.{List, [], ◌∷◌, ◌++◌, map, map-append, map-map, append_assoc, append-nil, reverse}
use lib.ListN.{length, get_or, take, drop, replicate, length-append, length-map, get_or-append}
use lib.Seq.{take_all, drop_at, get_or-append-add}
use lib.Dec.{T, eqb, eqb→eq}
use lib.Ieee.{Float, nan}
use borrow.Author.Tests.{ne_eqb}
use Rattle.layout.specs.General.Lists.{has, keep, below, up_from, sum, join}
use Rattle.layout.specs.General.Floats.{zero64}
use Rattle.layout.specs.Problems.Problem.{Problem, Csc, compact}
use Rattle.layout.specs.Problems.Cones.{records, row_count}
use Rattle.layout.specs.General.Triangle.{triangle, pair_index}
use Rattle.layout.specs.Problems.Patterns.{Pattern, patterns, clique_at, clique_count, block_size}
use Rattle.layout.specs.Rows.Blocks.{Pair, pair, Part, whole, cut, parts, Row, kept, owned, overlap, original_row, block, block_rows, first_row, parent_row, in_separator, row_of, pattern_rows, rows_from, compact_rows, part_rows, part_overlaps, block_row_count, overlap_count}
use Rattle.layout.specs.Checks.{Sound, Checked, layout, refusal}
use Rattle.layout.specs.Cuts.Compact.{Entry, rows_of, column, csc, plus, summed_from, summed, moved, row_entries, augmented_column, overlap_column, overlap_columns, compact_columns, compact_a, row_value, compact_b, extended_p, compact_p, compact_q, compact_part, compact_cones, MapEntry, whole_cone, block_of, block_entry, map_part, map_from, cone_map, no_pattern_number, entry_words, map_words}
use Rattle.layout.specs.Cuts.Standard.{standard_part, standard_cones}
use Rattle.layout.specs.Calls.Cut.{augmented}
use Rattle.layout.specs.Calls.Pool.{raised_entries, stacked_columns, raised_pattern, pool, raised_map_entry, raised_map_words, columns_from, pooled_cut}
use Rattle.layout.proofs.Lists.Tests.{eqb_shift, cond_failed}
use Rattle.layout.proofs.Lists.Members.{has-cons, has-map, has-up_from, has-below}
use Rattle.layout.proofs.Lists.Keeps.{keep_append}
use Rattle.layout.proofs.Lists.Joins.{up_from_shift, map_same, map-join}
use Rattle.layout.proofs.Lists.Starts.{part_at, join-append, join-map, sum-append}
use Rattle.layout.proofs.Checks.Accepted.{accepted_checked}
use Rattle.layout.proofs.Rows.Laid.{sound-count, sound-rows}
use Rattle.layout.proofs.Rows.Overlaps.{sound-overlaps}
use Rattle.layout.proofs.Columns.Columns.{column-csc}
use Rattle.layout.proofs.Columns.Compressed.{ruled_count, csc_ruled}
use Rattle.layout.proofs.Columns.Repeats.{summed-append, runs-has, summed-rows}
use Rattle.layout.proofs.Equations.Links.{links, links_count}
use Rattle.layout.proofs.Rows.ConeMap.{Told, map-told}
use Rattle.layout.proofs.Equations.RowSums.{link_column, overlap_columns_lem}
use Rattle.layout.proofs.Pools.Pool.{raised_part, pool-layout}
use Rattle.layout.proofs.Pools.PoolChecks.{raised-rows, rows_inside, stacked-column}

-- ---- rows that follow others

-- an augmented row with r original and a augmented rows before it
abbrev raised_row : ℕ → ℕ → Row → Row
raised_row r a (kept o) = kept (r + o)
raised_row r a (owned o) = owned (r + o)
raised_row r a (overlap o q) = overlap (r + o) (a + q)

-- with a augmented rows before it, the first row of a clique's block is raised by a
first-row-raised : (p : Pattern) (d a first c : ℕ) → first_row (raised_pattern d p) (a + first) c ≡ a + first_row p first c
first-row-raised p d a first c = omega arith

module _ (d r t a : ℕ) where
  row-raised : (p : Pattern) (base first c : ℕ) (x : Pair)
      → row_of (raised_pattern d p) (r + base) (a + first) c x ≡ raised_row r a (row_of p base first c x)
  row-raised p base first c (pair i j) =
      pick (in_separator p c (pair i j)) (r + base + pair_index i j) (base + pair_index i j)
      (parent_row (raised_pattern d p) (a + first) (clique_at p c).parent (pair i j)) (parent_row p first (clique_at p c).parent (pair i j))
      (omega arith) (omega arith)
    where
      pick : (b : Bool) (o' o q' q : ℕ) → o' ≡ r + o → q' ≡ a + q
          → cond b (overlap o' q') (owned o') ≡ raised_row r a (cond b (overlap o q) (owned o))
      pick true o' o q' q eo eq = ap₂ overlap eo eq
      pick false o' o q' q eo eq = ap owned eo

  pattern_raised : (p : Pattern) (base first : ℕ)
      → pattern_rows (raised_pattern d p) (r + base) (a + first) ≡ map (raised_row r a) (pattern_rows p base first)
  pattern_raised p base first =
      let cs = reverse (below (clique_count p)) in
      ap (λ (f : ℕ → List Row). join f cs) (fun_ext (λ c.
      ap (λ (f : Pair → Row). map f (block p c)) (fun_ext (row-raised p base first c))
      ∙ sym (map-map (raised_row r a) (row_of p base first c) (block p c))))
      ∙ sym (map-join (raised_row r a) (λ c. map (row_of p base first c) (block p c)) cs)

  rows-raised : (first : ℕ) (ps : List Part)
      → rows_from (a + first) (map (raised_part d r t) ps) ≡ map (raised_row r a) (rows_from first ps)
  rows-raised first [] = refl
  rows-raised first (whole i c row ∷ ps) =
      let n : ℕ = row_count c in
      let next : a + first + n ≡ a + (first + n) = omega arith in
      ap₂ ◌++◌
      (ap (map kept) (up_from_shift r row n) ∙ map-map kept (λ o. r + o) (up_from row n) ∙ sym (map-map (raised_row r a) kept (up_from row n)))
      (ap (λ (f : ℕ). rows_from f (map (raised_part d r t) ps)) next ∙ rows-raised (first + n) ps)
      ∙ sym (map-append (raised_row r a) (map kept (up_from row n)) (rows_from (first + n) ps))
  rows-raised first (cut i row k p ∷ ps) =
      let next : a + first + block_rows p ≡ a + (first + block_rows p) = omega arith in
      ap₂ ◌++◌ (pattern_raised p row first)
      (ap (λ (f : ℕ). rows_from f (map (raised_part d r t) ps)) next ∙ rows-raised (first + block_rows p) ps)
      ∙ sym (map-append (raised_row r a) (pattern_rows p row first) (rows_from (first + block_rows p) ps))

-- the rows of appended parts are those of the first list, then those of the second
rows_append : (first : ℕ) (ps qs : List Part) → rows_from first (ps ++ qs) ≡ rows_from first ps ++ rows_from (first + block_row_count ps) qs
rows_append first [] qs = ap (λ (f : ℕ). rows_from f qs) (omega arith)
rows_append first (whole i c row ∷ ps) qs =
    let n : ℕ = row_count c in
    let next : first + n + block_row_count ps ≡ first + (n + block_row_count ps) = omega arith in
    ap (λ (R : List Row). map kept (up_from row n) ++ R)
    (rows_append (first + n) ps qs ∙ ap (λ (f : ℕ). rows_from (first + n) ps ++ rows_from f qs) next)
    ∙ sym (append_assoc (map kept (up_from row n)) (rows_from (first + n) ps) (rows_from (first + (n + block_row_count ps)) qs))
rows_append first (cut i row k p ∷ ps) qs =
    let n : ℕ = block_rows p in
    let next : first + n + block_row_count ps ≡ first + (n + block_row_count ps) = omega arith in
    ap (λ (R : List Row). pattern_rows p row first ++ R)
    (rows_append (first + n) ps qs ∙ ap (λ (f : ℕ). rows_from (first + n) ps ++ rows_from f qs) next)
    ∙ sym (append_assoc (pattern_rows p row first) (rows_from (first + n) ps) (rows_from (first + (n + block_row_count ps)) qs))

-- ---- the cone map

-- the cone map of appended parts is that of the first list, then that of the second
map-from-append : (first : ℕ) (ps qs : List Part)
    → map_from first (ps ++ qs) ≡ map_from first ps ++ map_from (first + block_row_count ps) qs
map-from-append first [] qs = ap (λ (f : ℕ). map_from f qs) (omega arith)
map-from-append first (x ∷ ps) qs =
    let next : first + part_rows x + block_row_count ps ≡ first + (part_rows x + block_row_count ps) = omega arith in
    ap (λ (es : List MapEntry). map_part first x ++ es)
    (map-from-append (first + part_rows x) ps qs ∙ ap (λ (f : ℕ). map_from (first + part_rows x) ps ++ map_from f qs) next)
    ∙ sym (append_assoc (map_part first x) (map_from (first + part_rows x) ps) (map_from (first + (part_rows x + block_row_count ps)) qs))

module _ (d r t a : ℕ) where
  -- the cone map of raised parts has raised entries
  part-raised : (first : ℕ) (x : Part) → map_part (a + first) (raised_part d r t x) ≡ map (raised_map_entry d t a) (map_part first x)
  part-raised first (whole i c row) = refl
  part-raised first (cut i row k p) =
      ap (λ (f : ℕ → MapEntry). map f (reverse (below (clique_count p)))) (fun_ext (λ c.
      ap (λ (f : ℕ). block_of (d + i) (t + k) c f (triangle (block_size (clique_at p c)))) (first-row-raised p d a first c)))
      ∙ sym (map-map (raised_map_entry d t a) (block_entry i k p first) (reverse (below (clique_count p))))

  part-rows-raised : (x : Part) → part_rows (raised_part d r t x) ≡ part_rows x
  part-rows-raised (whole i c row) = refl
  part-rows-raised (cut i row k p) = refl

  map-from-raised : (first : ℕ) (ps : List Part) → map_from (a + first) (map (raised_part d r t) ps) ≡ map (raised_map_entry d t a) (map_from first ps)
  map-from-raised first [] = refl
  map-from-raised first (x ∷ ps) =
      let next : a + first + part_rows (raised_part d r t x) ≡ a + (first + part_rows x) = omega (arith, part-rows-raised x) in
      ap₂ ◌++◌ (part-raised first x)
      (ap (λ (f : ℕ). map_from f (map (raised_part d r t) ps)) next ∙ map-from-raised (first + part_rows x) ps)
      ∙ sym (map-append (raised_map_entry d t a) (map_part first x) (map_from (first + part_rows x) ps))

-- the words of raised entries are the raised words
raised-words : (k t a : ℕ) (es : List MapEntry) → Told es → map_words (map (raised_map_entry k t a) es) ≡ raised_map_words k t a (map_words es)
raised-words k t a [] h = refl
raised-words k t a (whole_cone i first rows ∷ es) h =
    ap (λ (ws : List ℕ). (k + i) ∷ no_pattern_number ∷ 0 ∷ (a + first) ∷ rows ∷ ws) (raised-words k t a es h)
raised-words k t a (block_of i j c first rows ∷ es) h =
    rw (ne_eqb j no_pattern_number (λ e. omega (arith, h.0)))
    (ap (λ (ws : List ℕ). (k + i) ∷ (t + j) ∷ c ∷ (a + first) ∷ rows ∷ ws) (raised-words k t a es h.1))

-- ---- repeated entries summed

raised_below : (m : ℕ) (fs : List Entry) (o : ℕ) → T (has o (rows_of (raised_entries m fs))) → m ≤ o
raised_below m fs o k =
    let (i, l, e) = (has-map 0 (λ r. m + r) o (rows_of fs)).0 (subst (λ (rs : List ℕ). T (has o rs)) (raised-rows m fs) k) in
    omega (arith, e)

from-raised : (k : ℕ) (e : Entry) (es : List Entry)
    → summed_from (record { row = k + e.row; value = e.value }) (raised_entries k es) ≡ raised_entries k (summed_from e es)
from-raised k e [] = refl
from-raised k e (f ∷ es) =
    rw (eqb_shift k e.row f.row) (go (eqb e.row f.row) (from-raised k (plus e f) es) (from-raised k f es))
  where
    up : Entry → Entry
    up x = record { row = k + x.row; value = x.value }

    go : (b : Bool) → summed_from (up (plus e f)) (raised_entries k es) ≡ raised_entries k (summed_from (plus e f) es)
        → summed_from (up f) (raised_entries k es) ≡ raised_entries k (summed_from f es)
        → cond b (summed_from (up (plus e f)) (raised_entries k es)) (up e ∷ summed_from (up f) (raised_entries k es))
        ≡ raised_entries k (cond b (summed_from (plus e f) es) (e ∷ summed_from f es))
    go true h j = h
    go false h j = ap {B = List Entry} (λ l. up e ∷ l) j

summed-raised : (k : ℕ) (es : List Entry) → summed (raised_entries k es) ≡ raised_entries k (summed es)
summed-raised k [] = refl
summed-raised k (e ∷ es) = from-raised k e es

summed-inside : (m : ℕ) (es : List Entry) → ((o : ℕ) → T (has o (rows_of es)) → o < m) → (o : ℕ) → T (has o (rows_of (summed es))) → o < m
summed-inside m es inside o h =
    inside o ((runs-has o (rows_of es)).0 (subst (λ (rs : List ℕ). T (has o rs)) (summed-rows es) h))

-- summing repeats in es stacked above fs sums them in each of the two
summed-stacked : (m : ℕ) (es fs : List Entry) → ((o : ℕ) → T (has o (rows_of es)) → o < m)
    → summed (es ++ raised_entries m fs) ≡ summed es ++ raised_entries m (summed fs)
summed-stacked m es fs inside =
    summed-append es (raised_entries m fs) (λ x y h k. omega (arith, inside x h, raised_below m fs y k))
    ∙ ap (λ (l : List Entry). summed es ++ l) (summed-raised m fs)

-- ---- entries moved to augmented rows

-- no entry is on row o
abbrev Off : ℕ → List Entry → Type 0
Off o es = T (has o (rows_of es)) → ⊥

keep_off : (o : ℕ) (es : List Entry) → Off o es → keep (λ (e : Entry). eqb e.row o) es ≡ []
keep_off o [] n = refl
keep_off o (e ∷ es) n =
    cond_failed (eqb e.row o) (e ∷ keep (λ (e : Entry). eqb e.row o) es) (keep (λ (e : Entry). eqb e.row o) es)
    (λ t. n ((has-cons o e.row (rows_of es)).1 (inl (sym (eqb→eq e.row o t)))))
    ∙ keep_off o es (λ k. n ((has-cons o e.row (rows_of es)).1 (inr k)))

keep-raised : (k o : ℕ) (es : List Entry)
    → keep (λ (e : Entry). eqb e.row (k + o)) (raised_entries k es) ≡ raised_entries k (keep (λ (e : Entry). eqb e.row o) es)
keep-raised k o [] = refl
keep-raised k o (e ∷ es) = rw (eqb_shift k e.row o, keep-raised k o es) (pick (eqb e.row o))
  where
    rest : List Entry
    rest = keep (λ (e : Entry). eqb e.row o) es

    pick : (b : Bool) → cond b (record { row = k + e.row; value = e.value } ∷ raised_entries k rest) (raised_entries k rest)
        ≡ raised_entries k (cond b (e ∷ rest) rest)
    pick true = refl
    pick false = refl

-- moving the entries on row o to row i moves those of one of two appended lists, if the other has none on row o
moved-first : (o i : ℕ) (es fs : List Entry) → Off o fs → moved o i (es ++ fs) ≡ moved o i es
moved-first o i es fs n =
    ap (map {B = Entry} (λ e. record { row = i; value = e.value }))
    (keep_append (λ (e : Entry). eqb e.row o) es fs
    ∙ ap (λ (l : List Entry). keep (λ (e : Entry). eqb e.row o) es ++ l) (keep_off o fs n)
    ∙ append-nil (keep (λ (e : Entry). eqb e.row o) es))

moved-second : (o i : ℕ) (es fs : List Entry) → Off o es → moved o i (es ++ fs) ≡ moved o i fs
moved-second o i es fs n =
    ap (map {B = Entry} (λ e. record { row = i; value = e.value }))
    (keep_append (λ (e : Entry). eqb e.row o) es fs
    ∙ ap (λ (l : List Entry). l ++ keep (λ (e : Entry). eqb e.row o) fs) (keep_off o es n))

moved-raised : (k a o i : ℕ) (es : List Entry) → moved (k + o) (a + i) (raised_entries k es) ≡ raised_entries a (moved o i es)
moved-raised k a o i es =
    let stays : List Entry = keep (λ (e : Entry). eqb e.row o) es in
    ap (map {B = Entry} (λ e. record { row = a + i; value = e.value })) (keep-raised k o es)
    ∙ map-map {B = Entry} {C = Entry} (λ e. record { row = a + i; value = e.value }) (λ e. record { row = k + e.row; value = e.value }) stays
    ∙ sym (map-map {B = Entry} {C = Entry} (λ e. record { row = a + e.row; value = e.value }) (λ e. record { row = i; value = e.value }) stays)

row_first : (es fs : List Entry) (i : ℕ) (x : Row) → Off (original_row x) fs → row_entries (es ++ fs) i x ≡ row_entries es i x
row_first es fs i (kept o) n = moved-first o i es fs n
row_first es fs i (owned o) n = moved-first o i es fs n
row_first es fs i (overlap o q) n = refl

row-second : (es fs : List Entry) (i : ℕ) (x : Row) → Off (original_row x) es → row_entries (es ++ fs) i x ≡ row_entries fs i x
row-second es fs i (kept o) n = moved-second o i es fs n
row-second es fs i (owned o) n = moved-second o i es fs n
row-second es fs i (overlap o q) n = refl

-- no entry is on an original row of R
abbrev AllOff : List Row → List Entry → Type 0
AllOff R es = (o : ℕ) → T (has o (map original_row R)) → Off o es

column-first : (es fs : List Entry) (i : ℕ) (R : List Row) → AllOff R fs → augmented_column (es ++ fs) i R ≡ augmented_column es i R
column-first es fs i [] n = refl
column-first es fs i (x ∷ R) n =
    ap₂ ◌++◌ (row_first es fs i x (n (original_row x) ((has-cons (original_row x) (original_row x) (map original_row R)).1 (inl refl))))
    (column-first es fs (suc i) R (λ o k. n o ((has-cons o (original_row x) (map original_row R)).1 (inr k))))

column-second : (es fs : List Entry) (i : ℕ) (R : List Row) → AllOff R es → augmented_column (es ++ fs) i R ≡ augmented_column fs i R
column-second es fs i [] n = refl
column-second es fs i (x ∷ R) n =
    ap₂ ◌++◌ (row-second es fs i x (n (original_row x) ((has-cons (original_row x) (original_row x) (map original_row R)).1 (inl refl))))
    (column-second es fs (suc i) R (λ o k. n o ((has-cons o (original_row x) (map original_row R)).1 (inr k))))

column-append : (es : List Entry) (i : ℕ) (R S : List Row)
    → augmented_column es i (R ++ S) ≡ augmented_column es i R ++ augmented_column es (i + length R) S
column-append es i [] S = ap (λ (j : ℕ). augmented_column es j S) (omega arith)
column-append es i (x ∷ R) S =
    let next : suc i + length R ≡ i + suc (length R) = omega arith in
    ap (λ (l : List Entry). row_entries es i x ++ l)
    (column-append es (suc i) R S ∙ ap (λ (j : ℕ). augmented_column es (suc i) R ++ augmented_column es j S) next)
    ∙ sym (append_assoc (row_entries es i x) (augmented_column es (suc i) R) (augmented_column es (i + suc (length R)) S))

module _ (r a : ℕ) where
  row-entries-raised : (es : List Entry) (i : ℕ) (x : Row)
      → row_entries (raised_entries r es) (a + i) (raised_row r a x) ≡ raised_entries a (row_entries es i x)
  row-entries-raised es i (kept o) = moved-raised r a o i es
  row-entries-raised es i (owned o) = moved-raised r a o i es
  row-entries-raised es i (overlap o q) = refl

  column-raised : (es : List Entry) (i : ℕ) (R : List Row)
      → augmented_column (raised_entries r es) (a + i) (map (raised_row r a) R) ≡ raised_entries a (augmented_column es i R)
  column-raised es i [] = refl
  column-raised es i (x ∷ R) =
      let next : suc (a + i) ≡ a + suc i = omega arith in
      ap₂ ◌++◌ (row-entries-raised es i x)
      (ap (λ (j : ℕ). augmented_column (raised_entries r es) j (map (raised_row r a) R)) next ∙ column-raised es (suc i) R)
      ∙ sym (map-append {B = Entry} (λ e. record { row = a + e.row; value = e.value }) (row_entries es i x) (augmented_column es (suc i) R))

  overlap-raised : (i : ℕ) (x : Row) → overlap_column (a + i) (raised_row r a x) ≡ map (raised_entries a) (overlap_column i x)
  overlap-raised i (kept o) = refl
  overlap-raised i (owned o) = refl
  overlap-raised i (overlap o q) = refl

  overlaps-raised : (i : ℕ) (R : List Row) → overlap_columns (a + i) (map (raised_row r a) R) ≡ map (raised_entries a) (overlap_columns i R)
  overlaps-raised i [] = refl
  overlaps-raised i (x ∷ R) =
      let next : suc (a + i) ≡ a + suc i = omega arith in
      ap₂ ◌++◌ (overlap-raised i x) (ap (λ (j : ℕ). overlap_columns j (map (raised_row r a) R)) next ∙ overlaps-raised (suc i) R)
      ∙ sym (map-append (raised_entries a) (overlap_column i x) (overlap_columns (suc i) R))

overlaps-append : (i : ℕ) (R S : List Row) → overlap_columns i (R ++ S) ≡ overlap_columns i R ++ overlap_columns (i + length R) S
overlaps-append i [] S = ap (λ (j : ℕ). overlap_columns j S) (omega arith)
overlaps-append i (x ∷ R) S =
    let next : suc i + length R ≡ i + suc (length R) = omega arith in
    ap (λ (l : List (List Entry)). overlap_column i x ++ l)
    (overlaps-append (suc i) R S ∙ ap (λ (j : ℕ). overlap_columns (suc i) R ++ overlap_columns j S) next)
    ∙ sym (append_assoc (overlap_column i x) (overlap_columns (suc i) R) (overlap_columns (i + suc (length R)) S))

-- entries es stacked above fs, over the rows R above S: no entry of one moves to a row of the other
stacked-augmented : (m a : ℕ) (R S : List Row) (es fs : List Entry) → length R ≡ a
    → ((o : ℕ) → T (has o (map original_row R)) → o < m) → ((o : ℕ) → T (has o (rows_of es)) → o < m)
    → augmented_column (es ++ raised_entries m fs) 0 (R ++ map (raised_row m a) S)
    ≡ augmented_column es 0 R ++ raised_entries a (augmented_column fs 0 S)
stacked-augmented m a R S es fs e inside above =
    let both = es ++ raised_entries m fs in
    let T' = map (raised_row m a) S in
    let start : 0 + length R ≡ a + 0 = omega arith in
    column-append both 0 R T'
    ∙ ap₂ ◌++◌ (column-first es (raised_entries m fs) 0 R (λ o k j. omega (arith, inside o k, raised_below m fs o j)))
    (column-second es (raised_entries m fs) (0 + length R) T' (λ o k j. omega (arith, above o j, lower_row o k))
    ∙ ap (λ (i : ℕ). augmented_column (raised_entries m fs) i T') start ∙ column-raised m a fs 0 S)
  where
    raised-original : (x : Row) → original_row (raised_row m a x) ≡ m + original_row x
    raised-original (kept o) = refl
    raised-original (owned o) = refl
    raised-original (overlap o q) = refl

    lower_row : (o : ℕ) → T (has o (map original_row (map (raised_row m a) S))) → m ≤ o
    lower_row o k =
        let (i, l, e) = (has-map (kept 0) (λ x. original_row (raised_row m a x)) o S).0
        (subst (λ (rs : List ℕ). T (has o rs)) (map-map original_row (raised_row m a) S) k) in
        omega (arith, e, raised-original (get_or S i (kept 0)))

-- ---- columns below n given by a function, followed by other columns

csc-after : (f : ℕ → List Entry) (n : ℕ) (ds : List (List Entry)) (k : ℕ) → length ds ≡ k → columns_from n k (csc (map f (below n) ++ ds)) ≡ ds
csc-after f n ds k e =
    let ruled : List (List Entry) = map f (below n) in
    let count : length ruled ≡ n = ruled_count f n ds in
    map_same (column (csc (ruled ++ ds))) (λ c. get_or (ruled ++ ds) c []) (up_from n k)
    (λ c h. column-csc (ruled ++ ds) c (omega (arith, (has-up_from c n k).0 h, length-append ruled ds, count)))
    ∙ part_at [] (ruled ++ ds) n k (omega (arith, length-append ruled ds, count))
    ∙ ap (take k) (drop_at ruled ds n count)
    ∙ take_all k ds (omega arith)

-- ---- the cuts

-- there is a column for each overlap
overlap-count : {m : ℕ} {cones : List ℕ} {count : ℕ} {words : List ℕ} → Sound m cones count words
    → let ps = parts (records cones) (patterns count words) in
    length (overlap_columns 0 (compact_rows ps)) ≡ overlap_count ps
overlap-count {m} {cones} {count} {words} h =
    let rows = compact_rows (parts (records cones) (patterns count words)) in
    ap length (overlap_columns_lem 0 rows) ∙ length-map (links 0 rows) link_column ∙ links_count 0 rows ∙ sound-overlaps h

module _ (p q : Problem) (hp : Checked p) (hq : Checked q) where
  -- the first problem's cone count and its number of augmented rows
  abbrev d : ℕ
  d = length (records p.cones)

  abbrev a : ℕ
  a = block_row_count (layout p)

  abbrev R : List Row
  R = compact_rows (layout p)

  abbrev S : List Row
  S = compact_rows (layout q)

  abbrev raised_parts : List Part
  raised_parts = map (raised_part d p.m p.pattern_count) (layout q)

  abbrev laid : layout (pool p q) ≡ layout p ++ raised_parts
  laid = pool-layout p q hp.sound hq.sound

  -- the second problem's rows follow the first's: original rows are raised by the first's m, augmented rows by its augmented row count
  pool_compact_rows : compact_rows (layout (pool p q))
      ≡ compact_rows (layout p) ++ map (raised_row p.m (block_row_count (layout p))) (compact_rows (layout q))
  pool_compact_rows =
      let start : 0 + a ≡ a + 0 = omega arith in
      ap (rows_from 0) laid ∙ rows_append 0 (layout p) raised_parts
      ∙ ap (λ (X : List Row). R ++ X)
      (ap (λ (i : ℕ). rows_from i raised_parts) start ∙ rows-raised d p.m p.pattern_count a 0 (layout q))

  -- a sum over the pool's parts is the sum over both problems' parts, if raising a part does not change its term
  parts-sum : (f : Part → ℕ) → ((x : Part) → f (raised_part d p.m p.pattern_count x) ≡ f x)
      → sum (map f (layout (pool p q))) ≡ sum (map f (layout p)) + sum (map f (layout q))
  parts-sum f free =
      ap (λ (xs : List Part). sum (map f xs)) laid ∙ ap sum (map-append f (layout p) raised_parts)
      ∙ sum-append (map f (layout p)) (map f raised_parts)
      ∙ ap (λ (xs : List ℕ). sum (map f (layout p)) + sum xs)
      (map-map f (raised_part d p.m p.pattern_count) (layout q) ∙ ap (λ (g : Part → ℕ). map g (layout q)) (fun_ext free))

  pool-overlap-count : overlap_count (layout (pool p q)) ≡ overlap_count (layout p) + overlap_count (layout q)
  pool-overlap-count = parts-sum part_overlaps free
    where
      free : (x : Part) → part_overlaps (raised_part d p.m p.pattern_count x) ≡ part_overlaps x
      free (whole i c row) = refl
      free (cut i row k x) = refl

  -- a join over the pool's parts is the join over the first problem's parts, then over the second's raised parts
  parts-joined : {B : Type 0} (f : Part → List B)
      → join f (layout (pool p q)) ≡ join f (layout p) ++ join (λ x. f (raised_part d p.m p.pattern_count x)) (layout q)
  parts-joined {B} f =
      ap (join f) laid ∙ join-append f (layout p) raised_parts
      ∙ ap (λ (l : List B). join f (layout p) ++ l) (join-map f (raised_part d p.m p.pattern_count) (layout q))

  -- the cone map: the second problem's entries follow the first's, raised
  pub pool-cone-map : cone_map (layout (pool p q))
      ≡ cone_map (layout p)
      ++ map (raised_map_entry (length (records p.cones)) p.pattern_count (block_row_count (layout p))) (cone_map (layout q))
  pool-cone-map =
      let start : 0 + a ≡ a + 0 = omega arith in
      ap (map_from 0) laid ∙ map-from-append 0 (layout p) raised_parts
      ∙ ap (λ (es : List MapEntry). cone_map (layout p) ++ es)
      (ap (λ (i : ℕ). map_from i raised_parts) start ∙ map-from-raised d p.m p.pattern_count a 0 (layout q))

  pub pool-map-words : map_words (cone_map (layout (pool p q)))
      ≡ map_words (cone_map (layout p))
      ++ raised_map_words (length (records p.cones)) p.pattern_count (block_row_count (layout p)) (map_words (cone_map (layout q)))
  pool-map-words =
      ap map_words pool-cone-map
      ∙ join-append entry_words (cone_map (layout p)) (map (raised_map_entry d p.pattern_count a) (cone_map (layout q)))
      ∙ ap (λ (ws : List ℕ). map_words (cone_map (layout p)) ++ ws) (raised-words d p.pattern_count a (cone_map (layout q)) (map-told hq.sound))

  -- ---- compact

  pool_compact_cones : compact_cones (pool p q) ≡ compact_cones p ++ compact_cones q
  pool_compact_cones =
      parts-joined compact_part ∙ ap (λ (f : Part → List ℕ). compact_cones p ++ join f (layout q)) (fun_ext free)
    where
      free : (x : Part) → compact_part (raised_part d p.m p.pattern_count x) ≡ compact_part x
      free (whole i c row) = refl
      free (cut i row k x) = refl

  pool_compact_P : compact_p (pool p q) ≡ extended_p (overlap_count (layout p) + overlap_count (layout q)) p.P
  pool_compact_P = ap (λ (k : ℕ). extended_p k p.P) pool-overlap-count

  pool_compact_q : compact_q (pool p q) ≡ p.q ++ replicate (overlap_count (layout p) + overlap_count (layout q)) zero64
  pool_compact_q = ap (λ (k : ℕ). p.q ++ replicate k zero64) pool-overlap-count

  -- the original rows of the first problem's augmented rows are below its m
  covered_inside : (o : ℕ) → T (has o (map original_row R)) → o < p.m
  covered_inside o k =
      let (i, l, e) = (has-map (kept 0) original_row o R).0 k in
      omega (arith, e, (sound-rows hp.sound).inside i l)

  pool_compact_b : compact_b (pool p q) ≡ compact_b p ++ compact_b q
  pool_compact_b =
      ap (map (row_value (p.b ++ q.b))) pool_compact_rows
      ∙ map-append (row_value (p.b ++ q.b)) R (map (raised_row p.m a) S)
      ∙ ap₂ ◌++◌ (above R (λ o k. omega (arith, covered_inside o k, hp.length_b)))
      (map-map (row_value (p.b ++ q.b)) (raised_row p.m a) S
      ∙ ap (λ (f : Row → Float). map f S) (fun_ext under))
    where
      first : (x : Row) → original_row x < length p.b → row_value (p.b ++ q.b) x ≡ row_value p.b x
      first (kept o) l = rw (get_or-append p.b q.b nan o l)
      first (owned o) l = rw (get_or-append p.b q.b nan o l)
      first (overlap o t) l = refl

      above : (R : List Row) → ((o : ℕ) → T (has o (map original_row R)) → o < length p.b)
          → map (row_value (p.b ++ q.b)) R ≡ map (row_value p.b) R
      above [] h = refl
      above (x ∷ R) h =
          ap₂ {C = List Float} (λ v vs. v ∷ vs)
          (first x (h (original_row x) ((has-cons (original_row x) (original_row x) (map original_row R)).1 (inl refl))))
          (above R (λ o k. h o ((has-cons o (original_row x) (map original_row R)).1 (inr k))))

      second : (o : ℕ) → get_or (p.b ++ q.b) (p.m + o) nan ≡ get_or q.b o nan
      second o = ap (λ (n : ℕ). get_or (p.b ++ q.b) (n + o) nan) (sym hp.length_b) ∙ get_or-append-add p.b q.b o nan

      under : (x : Row) → row_value (p.b ++ q.b) (raised_row p.m a x) ≡ row_value q.b x
      under (kept o) = rw (second o)
      under (owned o) = rw (second o)
      under (overlap o t) = refl

  module _ (same : p.n ≡ q.n) where
    -- column c of the first problem over its augmented rows; `lower`: column c of the second over its own
    abbrev upper : ℕ → List Entry
    upper c = augmented_column (summed (column p.A c)) 0 R

    abbrev lower : ℕ → List Entry
    lower c = augmented_column (summed (column q.A c)) 0 S

    pool_columns : compact_columns (pool p q)
        ≡ map (λ c. upper c ++ raised_entries a (lower c)) (below p.n)
        ++ (overlap_columns 0 R ++ map (raised_entries a) (overlap_columns 0 S))
    pool_columns =
        let T' = R ++ map (raised_row p.m a) S in
        let count = sound-count hp.sound in
        let start : 0 + length R ≡ a + 0 = omega arith in
        ap (λ (X : List Row). map (λ c. augmented_column (summed (column (pool p q).A c)) 0 X) (below p.n) ++ overlap_columns 0 X) pool_compact_rows
        ∙ ap₂ ◌++◌
        (map_same (λ c. augmented_column (summed (column (pool p q).A c)) 0 T') (λ c. upper c ++ raised_entries a (lower c)) (below p.n) (λ c k.
        let l = (has-below c p.n).0 k in
        let inside : (o : ℕ) → T (has o (rows_of (column p.A c))) → o < p.m = λ o j. rows_inside p hp c o l j in
        ap (λ (es : List Entry). augmented_column es 0 T')
        (ap summed (stacked-column p.n p.m p.A q.A c l) ∙ summed-stacked p.m (column p.A c) (column q.A c) inside)
        ∙ stacked-augmented p.m a R S (summed (column p.A c)) (summed (column q.A c)) count covered_inside
        (summed-inside p.m (column p.A c) inside)))
        (overlaps-append 0 R (map (raised_row p.m a) S)
        ∙ ap (λ (l : List (List Entry)). overlap_columns 0 R ++ l)
        (ap (λ (i : ℕ). overlap_columns i (map (raised_row p.m a) S)) start ∙ overlaps-raised p.m a 0 S))

    -- each column has the first's rows above the second's; then come the first's overlap columns, then the second's
    pool_compact_A : compact_a (pool p q)
        ≡ csc (stacked_columns p.n (block_row_count (layout p)) (compact_a p) (compact_a q)
        ++ (columns_from p.n (overlap_count (layout p)) (compact_a p)
        ++ map (raised_entries (block_row_count (layout p))) (columns_from q.n (overlap_count (layout q)) (compact_a q))))
    pool_compact_A =
        ap csc (pool_columns ∙ ap₂ ◌++◌
        (map_same (λ c. upper c ++ raised_entries a (lower c)) (λ c. column (compact_a p) c ++ raised_entries a (column (compact_a q) c)) (below p.n)
        (λ c k.
        let l = (has-below c p.n).0 k in
        ap₂ (λ (es fs : List Entry). es ++ raised_entries a fs)
        (sym (csc_ruled upper p.n (overlap_columns 0 R) c l)) (sym (csc_ruled lower q.n (overlap_columns 0 S) c (omega arith)))))
        (ap₂ (λ (xs ys : List (List Entry)). xs ++ map (raised_entries a) ys)
        (sym (csc-after upper p.n (overlap_columns 0 R) (overlap_count (layout p)) (overlap-count hp.sound)))
        (sym (csc-after lower q.n (overlap_columns 0 S) (overlap_count (layout q)) (overlap-count hq.sound)))))

    pub pool_compact_column : (c : ℕ) → c < p.n
        → column (compact_a (pool p q)) c ≡ column (compact_a p) c ++ raised_entries (block_row_count (layout p)) (column (compact_a q) c)
    pool_compact_column c l =
        ap (λ (M : Csc). column M c) pool_compact_A
        ∙ csc_ruled (λ c. column (compact_a p) c ++ raised_entries a (column (compact_a q) c)) p.n
        (columns_from p.n (overlap_count (layout p)) (compact_a p)
        ++ map (raised_entries a) (columns_from q.n (overlap_count (layout q)) (compact_a q))) c l

    -- the pool's whole compact cut
    pool_compact : augmented compact (pool p q) ≡ pooled_cut p q
    pool_compact = λ i. record {
      P = pool_compact_P i;
      q = pool_compact_q i;
      A = pool_compact_A i;
      b = pool_compact_b i;
      cones = pool_compact_cones i;
      alphas = p.alphas ++ q.alphas;
      map = pool-map-words i;
    }

  -- ---- standard

  -- one Zero cone over all original rows, then the cones after the first's Zero cone, then those after the second's
  pub pool_standard_cones : standard_cones (pool p q) ≡ 0 ∷ (p.m + q.m) ∷ 0 ∷ (drop 3 (standard_cones p) ++ drop 3 (standard_cones q))
  pool_standard_cones =
      ap (λ (l : List ℕ). 0 ∷ (p.m + q.m) ∷ 0 ∷ l)
      (parts-joined standard_part ∙ ap (λ (f : Part → List ℕ). join standard_part (layout p) ++ join f (layout q)) (fun_ext free))
    where
      free : (x : Part) → standard_part (raised_part d p.m p.pattern_count x) ≡ standard_part x
      free (whole i c row) = refl
      free (cut i row k x) = refl

-- if the compact route accepts both problems and their n agree, `pooledCut` is the pool's compact cut
pub accepted-pool : (p q : Problem) → refusal compact p ≡ 0 → refusal compact q ≡ 0 → p.n ≡ q.n
    → augmented compact (pool p q) ≡ pooled_cut p q
accepted-pool p q hp hq same = pool_compact p q (accepted_checked compact p hp) (accepted_checked compact q hq) same

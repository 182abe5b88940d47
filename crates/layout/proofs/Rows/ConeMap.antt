-- The cone map's first rows and row counts: each entry starts where the one before it ends, its rows are its block's, and a joining that
-- walks over the entries gives what a walk over all augmented rows gives. The map's pattern numbers are below the no-pattern mark.
use Prim.Native.Nat.{ℕ, zero, suc, ◌+◌, ◌*◌, ◌≤◌, ◌<◌}
use native.Mathlib.Nat.{not-suc-le-zero, le_of_suc-le-suc, le_refl}
use native.Mathlib.Omega.{arith}
use mathlib.Core.Path.{◌≡◌, refl, sym, ap, ap₂, subst, ◌∙◌}
use mathlib.Core.Bool.{Bool, true, false, cond}
use mathlib.Core.List.{List, [], ◌∷◌, ◌++◌, map, reverse, map-append}
use lib.ListN.{length, get_or, take, drop, drop_of_length-le, length-map}
use lib.Seq.{drop-cons, drop-drop, get_or-drop, take_at, drop_at}
use lib.Dec.{eqb}
use lib.Ieee.{Float}
use Rattle.layout.specs.General.Lists.{below, up_from, sum, join, walk}
use Rattle.layout.specs.General.Triangle.{triangle}
use Rattle.layout.specs.Problems.Cones.{Cone, records, row_count}
use Rattle.layout.specs.Problems.Patterns.{Pattern, Clique, patterns, clique_count, block_size, no_clique}
use Rattle.layout.specs.Rows.Blocks.{Part, whole, cut, parts_from, Row, kept, block, row_of, block_rows, first_row, rows_from, compact_rows, part_rows, block_row_count}
use Rattle.layout.specs.Checks.{Sound, RightPattern, Laid}
use Rattle.layout.specs.Cuts.Compact.{MapEntry, whole_cone, block_of, block_entry, map_part, map_from, cone_map, no_pattern_number, entry_words, map_words}
use Rattle.layout.specs.Calls.Join.{joined_parts}
use Rattle.layout.specs.Joinings.Reverse.{add_row, add_rows, put_row, put_rows}
use Rattle.layout.proofs.Lists.Members.{length-up_from}
use Rattle.layout.proofs.Checks.Accepted.{sound-cone-count}
use Rattle.layout.proofs.Lists.Joins.{reverse-below}
use Rattle.layout.proofs.Lists.Starts.{join-append, join-map}
use Rattle.layout.proofs.Rows.Rows.{block-length}
use Rattle.layout.proofs.Lists.Walks.{walk-append, walk-take}

-- ---- first rows

-- an entry's first row and its row count
abbrev pub entry_first : MapEntry → ℕ
entry_first (whole_cone i first rows) = first
entry_first (block_of i k c first rows) = first

abbrev pub entry_rows : MapEntry → ℕ
entry_rows (whole_cone i first rows) = rows
entry_rows (block_of i k c first rows) = rows

-- the entries cover the rows from a to b, one after the other
abbrev pub Follow : ℕ → List MapEntry → ℕ → Type 0
Follow a [] b = a ≡ b
Follow a (e ∷ es) b = (entry_first e ≡ a) × Follow (a + entry_rows e) es b

follow_append : (a b c : ℕ) (es fs : List MapEntry) → Follow a es b → Follow b fs c → Follow a (es ++ fs) c
follow_append a b c [] fs h g = subst (λ (k : ℕ). Follow k fs c) (sym h) g
follow_append a b c (e ∷ es) fs h g = (h.0, follow_append (a + entry_rows e) b c es fs h.1 g)

abbrev size : Clique → ℕ
size q = triangle (block_size q)

-- the entries of a pattern's cliques below c, from last to first, cover rows one after the other
cliques_follow : (i k : ℕ) (p : Pattern) (first c : ℕ) → c ≤ clique_count p
    → Follow (first + sum (map size (drop c p.cliques))) (map (block_entry i k p first) (reverse (below c))) (first + block_rows p)
cliques_follow i k p first zero l = refl
cliques_follow i k p first (suc c) l =
    subst (λ (cs : List ℕ). Follow (first_row p first c) (map (block_entry i k p first) cs) (first + block_rows p)) (sym (reverse-below c)) (
      refl,
      subst (λ (a : ℕ). Follow a (map (block_entry i k p first) (reverse (below c))) (first + block_rows p))
          (omega (arith, ap (λ (qs : List Clique). sum (map size qs)) (drop-cons p.cliques c no_clique l)))
          (cliques_follow i k p first c (omega arith)),
    )

part_follows : (first : ℕ) (x : Part) → Follow first (map_part first x) (first + part_rows x)
part_follows first (whole i c row) = (refl, refl)
part_follows first (cut i row k p) =
    subst (λ (a : ℕ). Follow a (map_part first (cut i row k p)) (first + block_rows p))
    (omega (arith, ap (λ (qs : List Clique). sum (map size qs)) (drop_of_length-le p.cliques (le_refl (clique_count p)))))
    (cliques_follow i k p first (clique_count p) (le_refl (clique_count p)))

pub map_follows : (first : ℕ) (ps : List Part) → Follow first (map_from first ps) (first + block_row_count ps)
map_follows first [] = omega arith
map_follows first (x ∷ ps) =
    follow_append first (first + part_rows x) (first + block_row_count (x ∷ ps)) (map_part first x) (map_from (first + part_rows x) ps)
    (part_follows first x)
    (subst (λ (b : ℕ). Follow (first + part_rows x) (map_from (first + part_rows x) ps) b) (omega arith) (map_follows (first + part_rows x) ps))

follow_at : (a b : ℕ) (es : List MapEntry) (k : ℕ) (d : MapEntry) → Follow a es b → k < length es
    → entry_first (get_or es k d) ≡ a + sum (take k (map entry_rows es))
follow_at a b [] k d h l = absurd (not-suc-le-zero l)
follow_at a b (e ∷ es) zero d h l = omega (arith, h.0)
follow_at a b (e ∷ es) (suc k) d h l = omega (arith, follow_at (a + entry_rows e) b es k d h.1 (le_of_suc-le-suc l))

follow_sum : (a b : ℕ) (es : List MapEntry) → Follow a es b → a + sum (map entry_rows es) ≡ b
follow_sum a b [] h = omega arith
follow_sum a b (e ∷ es) h = omega (arith, follow_sum (a + entry_rows e) b es h.1)

-- the first row of entry k is the sum of the row counts before it
pub first-at : (ps : List Part) (k : ℕ) (d : MapEntry) → k < length (cone_map ps)
    → entry_first (get_or (cone_map ps) k d) ≡ sum (take k (map entry_rows (cone_map ps)))
first-at ps k d l = omega (arith, follow_at 0 (0 + block_row_count ps) (cone_map ps) k d (map_follows 0 ps) l)

-- the row counts of all entries add up to the number of augmented rows
pub rows-sum : (ps : List Part) → sum (map entry_rows (cone_map ps)) ≡ block_row_count ps
rows-sum ps = omega (arith, follow_sum 0 (0 + block_row_count ps) (cone_map ps) (map_follows 0 ps))

-- ---- the rows of each entry

-- the rows of each new cone of a part, and of parts, whose rows start at `first`
abbrev part_blocks : ℕ → Part → List (List Row)
part_blocks first (whole i c row) = map kept (up_from row (row_count c)) ∷ []
part_blocks first (cut i row k p) = map (λ c. map (row_of p row first c) (block p c)) (reverse (below (clique_count p)))

abbrev pub blocks_from : ℕ → List Part → List (List Row)
blocks_from first [] = []
blocks_from first (x ∷ ps) = part_blocks first x ++ blocks_from (first + part_rows x) ps

-- joined one after the other they are the augmented rows
blocks-joined : (first : ℕ) (ps : List Part) → join (λ R. R) (blocks_from first ps) ≡ rows_from first ps
blocks-joined first [] = refl
blocks-joined first (whole i c row ∷ ps) =
    ap (λ (r : List Row). map kept (up_from row (row_count c)) ++ r) (blocks-joined (first + row_count c) ps)
blocks-joined first (cut i row k p ∷ ps) =
    join-append (λ R. R) (part_blocks first (cut i row k p)) (blocks_from (first + block_rows p) ps)
    ∙ ap₂ ◌++◌ (join-map (λ R. R) (λ c. map (row_of p row first c) (block p c)) (reverse (below (clique_count p)))) (blocks-joined (first + block_rows p) ps)

cliques_long : (i k row first : ℕ) (p : Pattern) → RightPattern p → (c : ℕ) → c ≤ clique_count p
    → map length (map (λ c. map (row_of p row first c) (block p c)) (reverse (below c))) ≡ map entry_rows (map (block_entry i k p first) (reverse (below c)))
cliques_long i k row first p h zero l = refl
cliques_long i k row first p h (suc c) l =
    subst (λ (cs : List ℕ). map length (map (λ c. map (row_of p row first c) (block p c)) cs) ≡ map entry_rows (map (block_entry i k p first) cs))
    (sym (reverse-below c))
    (ap₂ {C = List ℕ} (λ n ns. n ∷ ns) (length-map (block p c) (row_of p row first c) ∙ block-length p h c l) (cliques_long i k row first p h c (omega arith)))

-- each is as long as its entry's row count
blocks_long : (first row : ℕ) (ps : List Part) → Laid row ps → map length (blocks_from first ps) ≡ map entry_rows (map_from first ps)
blocks_long first row [] h = refl
blocks_long first row (whole i c r ∷ ps) h =
    ap₂ {C = List ℕ} (λ n ns. n ∷ ns) (length-map (up_from r (row_count c)) kept ∙ length-up_from r (row_count c))
    (blocks_long (first + row_count c) (row + row_count c) ps h.1)
blocks_long first row (cut i r k p ∷ ps) h =
    map-append length (part_blocks first (cut i r k p)) (blocks_from (first + block_rows p) ps)
    ∙ ap₂ ◌++◌ (cliques_long i k r first p h.1 (clique_count p) (le_refl (clique_count p)))
    (blocks_long (first + block_rows p) (row + triangle p.vertex_count) ps h.2)
    ∙ sym (map-append entry_rows (map_part first (cut i r k p)) (map_from (first + block_rows p) ps))

-- the part of a list that an entry covers, from its first row on
abbrev entry_part : {A : Type 0} → MapEntry → List A → List A
entry_part e vs = take (entry_rows e) (drop (entry_first e) vs)

part_of : (a b : ℕ) (es : List MapEntry) (Rs : List (List Row)) (S : List Row) (k : ℕ) (d : MapEntry) → Follow a es b → map length Rs ≡ map entry_rows es
    → drop a S ≡ join (λ R. R) Rs → k < length es → entry_part (get_or es k d) S ≡ get_or Rs k []
part_of a b [] Rs S k d h g j l = absurd (not-suc-le-zero l)
part_of a b (e ∷ es) [] S k d h g j l = absurd (omega (arith, ap length g))
part_of a b (e ∷ es) (R ∷ Rs) S zero d h g j l =
    ap₂ (λ (n m : ℕ). take n (drop m S)) (sym same) h.0 ∙ ap (take (length R)) j ∙ take_at R (join (λ R. R) Rs) (length R) refl
  where
    same : length R ≡ entry_rows e
    same = ap (λ (ns : List ℕ). get_or ns 0 0) g
part_of a b (e ∷ es) (R ∷ Rs) S (suc k) d h g j l =
    part_of (a + entry_rows e) b es Rs S k d h.1 (ap (drop 1) g)
    (ap (λ (n : ℕ). drop (a + n) S) (sym same) ∙ sym (drop-drop (length R) a S) ∙ ap (drop (length R)) j ∙ drop_at R (join (λ R. R) Rs) (length R) refl)
    (le_of_suc-le-suc l)
  where
    same : length R ≡ entry_rows e
    same = ap (λ (ns : List ℕ). get_or ns 0 0) g

-- the augmented rows that an entry covers are its block's rows
pub block_at : (ps : List Part) → Laid 0 ps → (k : ℕ) (d : MapEntry) → k < length (cone_map ps)
    → entry_part (get_or (cone_map ps) k d) (compact_rows ps) ≡ get_or (blocks_from 0 ps) k []
block_at ps h k d l =
    part_of 0 (0 + block_row_count ps) (cone_map ps) (blocks_from 0 ps) (compact_rows ps) k d (map_follows 0 ps) (blocks_long 0 0 ps h)
    (sym (blocks-joined 0 ps)) l

-- ---- a joining by the map

-- entry by entry: the rows of its block are walked with the values from its first row on
abbrev by_map : {S : Type 0} → (Row → Float → S → S) → List Float → List MapEntry → List (List Row) → S → S
by_map f vs es Rs w = walk (λ e R w. walk f R (entry_part e vs) w) es Rs w

follow_walk : {S : Type 0} (f : Row → Float → S → S) (vs : List Float) (a b : ℕ) (es : List MapEntry) (Rs : List (List Row)) (w : S)
    → Follow a es b → map length Rs ≡ map entry_rows es → by_map f vs es Rs w ≡ walk f (join (λ R. R) Rs) (drop a vs) w
follow_walk f vs a b [] [] w h g = refl
follow_walk f vs a b [] (R ∷ Rs) w h g = absurd (omega (arith, ap length g))
follow_walk f vs a b (e ∷ es) [] w h g = absurd (omega (arith, ap length g))
follow_walk {S} f vs a b (e ∷ es) (R ∷ Rs) w h g =
    ap (λ (m : ℕ). by_map f vs es Rs (walk f R (take (entry_rows e) (drop m vs)) w)) h.0
    ∙ ap (λ (s : S). by_map f vs es Rs s) (walk-take f R (drop a vs) w (entry_rows e) (omega (arith, same)))
    ∙ follow_walk f vs (a + entry_rows e) b es Rs (walk f R (drop a vs) w) h.1 (ap (drop 1) g)
    ∙ ap (λ (us : List Float). walk f (join (λ R. R) Rs) us (walk f R (drop a vs) w))
    (ap (λ (n : ℕ). drop (a + n) vs) (sym same) ∙ sym (drop-drop (length R) a vs))
    ∙ sym (walk-append f R (join (λ R. R) Rs) (drop a vs) w)
  where
    same : length R ≡ entry_rows e
    same = ap (λ (ns : List ℕ). get_or ns 0 0) g

pub by_map_lem : {S : Type 0} (f : Row → Float → S → S) (ps : List Part) → Laid 0 ps → (vs : List Float) (w : S)
    → by_map f vs (cone_map ps) (blocks_from 0 ps) w ≡ walk f (compact_rows ps) vs w
by_map_lem f ps h vs w =
    follow_walk f vs 0 (0 + block_row_count ps) (cone_map ps) (blocks_from 0 ps) w (map_follows 0 ps) (blocks_long 0 0 ps h)
    ∙ ap (λ (R : List Row). walk f R vs w) (blocks-joined 0 ps)

-- by the map, s and z of a compact joining
pub add-by-map : (ps : List Part) → Laid 0 ps → (s ws : List Float) → by_map add_row s (cone_map ps) (blocks_from 0 ps) ws ≡ add_rows (compact_rows ps) s ws
add-by-map ps h s ws = by_map_lem add_row ps h s ws

pub put-by-map : (ps : List Part) → Laid 0 ps → (z ws : List Float) → by_map put_row z (cone_map ps) (blocks_from 0 ps) ws ≡ put_rows (compact_rows ps) z ws
put-by-map ps h z ws = by_map_lem put_row ps h z ws

-- ---- words

-- the map's words are those of its parts, one after the other
pub words-part : (first : ℕ) (x : Part) (ps : List Part)
    → map_words (map_from first (x ∷ ps)) ≡ map_words (map_part first x) ++ map_words (map_from (first + part_rows x) ps)
words-part first x ps = join-append entry_words (map_part first x) (map_from (first + part_rows x) ps)

five : (n : ℕ) → 5 + n ≡ suc (suc (suc (suc (suc n))))
five n = omega arith

past : (e : MapEntry) (ws : List ℕ) (m n : ℕ) → m ≡ 5 + n → drop m (entry_words e ++ ws) ≡ drop n ws
past (whole_cone i first rows) ws m n e = rw (e ∙ five n)
past (block_of i k c first rows) ws m n e = rw (e ∙ five n)

-- the words of entry k start at index 5 k
pub words-at : (es : List MapEntry) (k : ℕ) (d : MapEntry) → k < length es
    → drop (5 * k) (map_words es) ≡ entry_words (get_or es k d) ++ map_words (drop (suc k) es)
words-at [] k d l = absurd (not-suc-le-zero l)
words-at (e ∷ es) zero d l = refl
words-at (e ∷ es) (suc k) d l = past e (map_words es) (5 * suc k) (5 * k) (omega arith) ∙ words-at es k d (le_of_suc-le-suc l)

-- so word 5 k + 3 is its first row, and word 5 k + 4 its row count
pub first_word : (es : List MapEntry) (k : ℕ) (d : MapEntry) → k < length es → get_or (map_words es) (5 * k + 3) 0 ≡ entry_first (get_or es k d)
first_word es k d l = sym (get_or-drop (5 * k) (map_words es) 3 0) ∙ ap (λ (ws : List ℕ). get_or ws 3 0) (words-at es k d l) ∙ third (get_or es k d)
  where
    third : (e : MapEntry) → get_or (entry_words e ++ map_words (drop (suc k) es)) 3 0 ≡ entry_first e
    third (whole_cone i first rows) = refl
    third (block_of i k c first rows) = refl

pub rows_word : (es : List MapEntry) (k : ℕ) (d : MapEntry) → k < length es → get_or (map_words es) (5 * k + 4) 0 ≡ entry_rows (get_or es k d)
rows_word es k d l = sym (get_or-drop (5 * k) (map_words es) 4 0) ∙ ap (λ (ws : List ℕ). get_or ws 4 0) (words-at es k d l) ∙ fourth (get_or es k d)
  where
    fourth : (e : MapEntry) → get_or (entry_words e ++ map_words (drop (suc k) es)) 4 0 ≡ entry_rows e
    fourth (whole_cone i first rows) = refl
    fourth (block_of i k c first rows) = refl

-- ---- pattern numbers

-- every pattern number in the map is below the no-pattern mark
abbrev pub Told : List MapEntry → Type 0
Told [] = Unit {0}
Told (whole_cone i first rows ∷ es) = Told es
Told (block_of i k c first rows ∷ es) = (k < no_pattern_number) × Told es

told-append : (es fs : List MapEntry) → Told es → Told fs → Told (es ++ fs)
told-append [] fs h g = g
told-append (whole_cone i a n ∷ es) fs h g = told-append es fs h g
told-append (block_of i k c a n ∷ es) fs h g = (h.0, told-append es fs h.1 g)

told_blocks : (i k : ℕ) (p : Pattern) (first : ℕ) (cs : List ℕ) → k < no_pattern_number → Told (map (block_entry i k p first) cs)
told_blocks i k p first [] l = tt
told_blocks i k p first (c ∷ cs) l = (l, told_blocks i k p first cs l)

-- as a pattern's number is at most its cone's, and there are at most 1024 cones, it is below the mark
told-parts : (i row k first : ℕ) (cs : List Cone) (ps : List Pattern) → k ≤ i → i + length cs ≤ 1024 → Told (map_from first (parts_from i row k cs ps))
told-parts i row k first [] ps l few = tt
told-parts i row k first (c ∷ cs) [] l few = told-parts (suc i) (row + row_count c) k (first + row_count c) cs [] (omega arith) (omega arith)
told-parts i row k first (c ∷ cs) (p ∷ ps) l few =
    go (eqb p.orig_index i) (λ k' first' qs l'. told-parts (suc i) (row + row_count c) k' first' cs qs l' (omega arith))
  where
    go : (b : Bool) → ((k' first' : ℕ) (qs : List Pattern) → k' ≤ suc i → Told (map_from first' (parts_from (suc i) (row + row_count c) k' cs qs)))
        → Told (map_from first (cond b (cut i row k p) (whole i c row) ∷ parts_from (suc i) (row + row_count c) (cond b (suc k) k) cs (cond b ps (p ∷ ps))))
    go true later =
        told-append (map_part first (cut i row k p)) (map_from (first + part_rows (cut i row k p)) (parts_from (suc i) (row + row_count c) (suc k) cs ps))
        (told_blocks i k p first (reverse (below (clique_count p))) (omega arith)) (later (suc k) (first + part_rows (cut i row k p)) ps (omega arith))
    go false later = later k (first + row_count c) (p ∷ ps) (omega arith)

pub map-told : {m : ℕ} {cones : List ℕ} {count : ℕ} {words : List ℕ} → Sound m cones count words → Told (cone_map (joined_parts cones count words))
map-told {m} {cones} {count} {words} h = told-parts 0 0 0 0 (records cones) (patterns count words) (omega arith) (omega (arith, sound-cone-count h))

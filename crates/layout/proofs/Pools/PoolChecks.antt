-- A pool of two problems with the same n that pass checks 1 to 7 passes them too, unless it exceeds one of three bounds of check 1.
use Prim.Native.Nat.{ℕ, zero, suc, ◌+◌, ◌≤◌, ◌<◌}
use native.Mathlib.Nat.{le_refl}
use native.Mathlib.Omega.{arith}
use mathlib.Core.Path.{◌≡◌, refl, sym, ap, ap₂, subst, ◌∙◌}
use mathlib.Core.Logic.{inl, inr}
use mathlib.Core.Bool.{Bool, true, false, cond, ◌&&◌}
use mathlib.Core.List.{List, [], ◌++◌, map, map-append, map-map}
use lib.ListN.{length, get_or, drop, length-append, length-map, get_or-append}
use lib.Seq.{get_or-append-add}
use lib.Dec.{T, eqb, ltb, leb, eqb→eq, ltb→lt, lt→ltb, le→leb}
use Rattle.layout.specs.General.Lists.{has, all, below, sum, rises, never_falls, is_permutation}
use Rattle.layout.specs.Problems.Problem.{Problem, Csc}
use Rattle.layout.specs.Problems.Cones.{Cone, records, whole_records, reads, row_count, alpha_count, is_psd}
use Rattle.layout.specs.Problems.Patterns.{Pattern, read_patterns, patterns, ends_right}
use Rattle.layout.specs.Checks.{problem_checks, Checked, check1, check2, check3, check4, starts_right, rows_in_order, rows_right, sizes_bounded, cones_read, alphas_as_many, no_cone, names_its_cone, origins_rise, orderings_right, patterns_read, tree_right, cliques_right}
use Rattle.layout.specs.Cuts.Compact.{Entry, column, csc, rows_of}
use Rattle.layout.specs.Calls.Answers.{problem_refusal}
use Rattle.layout.specs.Calls.Pool.{raised_entries, stacked_columns, raised_pattern, pool}
use Rattle.layout.proofs.Lists.Tests.{and_iff, eqb_iff, ltb_iff, passed}
use Rattle.layout.proofs.Checks.Order.{one_fails}
use Rattle.layout.proofs.Lists.Members.{get_or_map, has-append, has-map, has_get_or, all-has, all_map, all_so, all_of_both, length-below, get_or-below}
use Rattle.layout.proofs.Lists.Rising.{rises-append, rises-raised, never_append, never_raised}
use Rattle.layout.proofs.Lists.Starts.{sum-append}
use Rattle.layout.proofs.Columns.Columns.{RightStarts, starts-right, column-csc, column-length, column-all, rows_never_fall}
use Rattle.layout.proofs.Columns.Compressed.{csc_in_order, csc-starts}
use Rattle.layout.proofs.Patterns.Records.{whole_append}
use Rattle.layout.proofs.Checks.Accepted.{sound_rise, sound_names, sound_orders, sound-whole, sound-reads, sound-cone-rows, sound-inside}
use Rattle.layout.proofs.Pools.Pool.{pool-ends, pool-patterns, pool-records}

-- whether the pool is within the bounds of check 1 that it can exceed although both problems pass checks 1 to 7 with the same n
abbrev pub pool_bounded : Problem → Problem → Bool
pool_bounded p q =
    leb (p.m + q.m) 65536 && leb (length p.A.values + length q.A.values) 262144
    && leb (length (records p.cones) + length (records q.cones)) 1024

-- ---- the row indices of A are below m

pub rows_inside : (p : Problem) → Checked p → (c r : ℕ) → c < p.n → T (has r (rows_of (column p.A c))) → r < p.m
rows_inside p h c r l k =
    let right = starts-right p.n p.A h.starts_a in
    let inside = column-all p.n p.A right c l (λ r. ltb r p.m) (simp and_iff at h.rows_a).0 in
    (ltb_iff r p.m).0 ((all-has (λ r. ltb r p.m) (rows_of (column p.A c))).0
    (subst T (sym (all_map (λ r. ltb r p.m) (λ (e : Entry). e.row) (column p.A c))) inside) r k)

-- ---- one A stacked above the other

raised-length : (k : ℕ) (es : List Entry) → length (raised_entries k es) ≡ length es
raised-length k es = length-map {B = Entry} es (λ e. record { row = k + e.row; value = e.value })

pub raised-rows : (k : ℕ) (es : List Entry) → rows_of (raised_entries k es) ≡ map (λ r. k + r) (rows_of es)
raised-rows k es =
    map-map (λ (e : Entry). e.row) (λ (e : Entry). record { row = k + e.row; value = e.value }) es
    ∙ sym (map-map (λ r. k + r) (λ (e : Entry). e.row) es)

module _ (n k : ℕ) (M N : Csc) where
  stacked-count : length (stacked_columns n k M N) ≡ n
  stacked-count = length-map (below n) (λ c. column M c ++ raised_entries k (column N c)) ∙ length-below n

  stacked-at : (c : ℕ) → c < n → get_or (stacked_columns n k M N) c [] ≡ column M c ++ raised_entries k (column N c)
  stacked-at c l =
      get_or_map (λ c. column M c ++ raised_entries k (column N c)) (below n) c 0 [] (omega (arith, length-below n))
      ∙ ap (λ (i : ℕ). column M i ++ raised_entries k (column N i)) (get_or-below n c 0 l)

  pub stacked-column : (c : ℕ) → c < n → column (csc (stacked_columns n k M N)) c ≡ column M c ++ raised_entries k (column N c)
  stacked-column c l = column-csc (stacked_columns n k M N) c (omega (arith, stacked-count)) ∙ stacked-at c l

  stacked-rows : (c : ℕ) → c < n
      → rows_of (get_or (stacked_columns n k M N) c []) ≡ rows_of (column M c) ++ map (λ r. k + r) (rows_of (column N c))
  stacked-rows c l =
      ap rows_of (stacked-at c l) ∙ map-append (λ (e : Entry). e.row) (column M c) (raised_entries k (column N c))
      ∙ ap (λ (rs : List ℕ). rows_of (column M c) ++ rs) (raised-rows k (column N c))

  pub stacked-right : RightStarts n (csc (stacked_columns n k M N))
  stacked-right =
      starts-right n (csc (stacked_columns n k M N))
      (subst (λ (j : ℕ). T (starts_right j (csc (stacked_columns n k M N)))) stacked-count (csc-starts (stacked_columns n k M N)))

  -- a stacked column starts at the sum of its starts in M and in N
  pub stacked-starts : RightStarts n M → RightStarts n N → (c : ℕ) → c ≤ n
      → get_or (csc (stacked_columns n k M N)).starts c 0 ≡ get_or M.starts c 0 + get_or N.starts c 0
  stacked-starts right_m right_n zero l = stacked-right.zeroth ∙ omega (arith, right_m.zeroth, right_n.zeroth)
  stacked-starts right_m right_n (suc c) l =
      omega (
        arith,
        stacked-starts right_m right_n c (omega arith),
        column-length n (csc (stacked_columns n k M N)) stacked-right c l,
        ap length (stacked-column c l),
        length-append (column M c) (raised_entries k (column N c)),
        raised-length k (column N c),
        column-length n M right_m c l,
        column-length n N right_n c l,
      )

  stacked-entries : RightStarts n M → RightStarts n N
      → length (csc (stacked_columns n k M N)).values ≡ length M.values + length N.values
  stacked-entries right_m right_n =
      omega (arith, stacked-starts right_m right_n n (le_refl n), stacked-right.last, stacked-right.even, right_m.last, right_m.even, right_n.last, right_n.even)

-- ---- the checks

-- a pattern that names its cone in cs also names it in ds, by number o, if the cone of number o in ds is the same
names_elsewhere : (cs ds : List Cone) (x : Pattern) (o : ℕ)
    → (x.orig_index < length cs → (o < length ds) × (get_or ds o no_cone ≡ get_or cs x.orig_index no_cone)) → T (names_its_cone cs x)
    → T (names_its_cone ds (record { orig_index = o; vertex_count = x.vertex_count; ordering = x.ordering; cliques = x.cliques }))
names_elsewhere cs ds x o there h =
    let c = get_or cs x.orig_index no_cone in
    let e = get_or ds o no_cone in
    let ((low, psd), size) = taken h in
    let (l, same) = there (ltb→lt x.orig_index (length cs) low) in
    (and_iff (ltb o (length ds) && is_psd e) (eqb e.first x.vertex_count)).1 (
      (and_iff (ltb o (length ds)) (is_psd e)).1 (lt→ltb o (length ds) l, subst (λ (c : Cone). T (is_psd c)) (sym same) psd),
      subst (λ (c : Cone). T (eqb c.first x.vertex_count)) (sym same) size,
    )
  where
    taken : T (names_its_cone cs x)
        → (T (ltb x.orig_index (length cs)) × T (is_psd (get_or cs x.orig_index no_cone)))
        × T (eqb (get_or cs x.orig_index no_cone).first x.vertex_count)
    taken h =
        let c = get_or cs x.orig_index no_cone in
        let (front, size) = (and_iff (ltb x.orig_index (length cs) && is_psd c) (eqb c.first x.vertex_count)).0 h in
        ((and_iff (ltb x.orig_index (length cs)) (is_psd c)).0 front, size)

module _ (p q : Problem) (hp : Checked p) (hq : Checked q) (same : p.n ≡ q.n) where
  abbrev cs : List (List Entry)
  cs = stacked_columns p.n p.m p.A q.A

  abbrev ps : List Pattern
  ps = patterns p.pattern_count p.pattern_words

  abbrev qs : List Pattern
  qs = patterns q.pattern_count q.pattern_words

  abbrev d : ℕ
  d = length (records p.cones)

  abbrev raised_qs : List Pattern
  raised_qs = map (raised_pattern d) qs

  -- in the pool, row indices from the second problem are at least the first's m and below the sum of both m
  raised-inside : (c r : ℕ) → c < p.n → T (has r (map (λ r. p.m + r) (rows_of (column q.A c)))) → (p.m ≤ r) × (r < p.m + q.m)
  raised-inside c r l k =
      let (i, li, e) = (has-map 0 (λ r. p.m + r) r (rows_of (column q.A c))).0 k in
      let below = rows_inside q hq c (get_or (rows_of (column q.A c)) i 0) (omega arith) (has_get_or (rows_of (column q.A c)) i 0 li) in
      omega (arith, e, below)

  two : T (check2 (pool p q))
  two = (and_iff (starts_right p.n (csc cs)) (starts_right p.n p.P)).1 (
    subst (λ (n : ℕ). T (starts_right n (csc cs))) (stacked-count p.n p.m p.A q.A) (csc-starts cs),
    hp.starts_p,
  )

  rows_right_lem : T (rows_in_order (p.m + q.m) p.n (csc cs))
  rows_right_lem = subst (λ (n : ℕ). T (rows_in_order (p.m + q.m) n (csc cs))) many (csc_in_order cs (p.m + q.m)
      (λ c l r k. inside c (omega (arith, many)) r (subst (λ (rs : List ℕ). T (has r rs)) (rows c (omega (arith, many))) k))
      (λ c l. subst (λ (rs : List ℕ). T (never_falls rs)) (sym (rows c (omega (arith, many)))) (never c (omega (arith, many)))))
    where
      many : length cs ≡ p.n
      many = stacked-count p.n p.m p.A q.A

      rows : (c : ℕ) → c < p.n → rows_of (get_or cs c []) ≡ rows_of (column p.A c) ++ map (λ r. p.m + r) (rows_of (column q.A c))
      rows c l = stacked-rows p.n p.m p.A q.A c l

      inside : (c : ℕ) → c < p.n → (r : ℕ)
          → T (has r (rows_of (column p.A c) ++ map (λ r. p.m + r) (rows_of (column q.A c)))) → r < p.m + q.m
      inside c l r k = elim ((has-append r (rows_of (column p.A c)) (map (λ r. p.m + r) (rows_of (column q.A c)))).0 k) [
        | inl m ↦ omega (arith, rows_inside p hp c r l m)
        | inr m ↦ (raised-inside c r l m).1
      ]

      never : (c : ℕ) → c < p.n → T (never_falls (rows_of (column p.A c) ++ map (λ r. p.m + r) (rows_of (column q.A c))))
      never c l =
          never_append (rows_of (column p.A c)) (map (λ r. p.m + r) (rows_of (column q.A c)))
          (rows_never_fall p.m p.n p.A (starts-right p.n p.A hp.starts_a) hp.rows_a c l)
          (never_raised p.m (rows_of (column q.A c))
          (rows_never_fall q.m q.n q.A (starts-right q.n q.A hq.starts_a) hq.rows_a c (omega arith)))
          (λ x y j k. omega (arith, rows_inside p hp c x l j, raised-inside c y l k))

  three : T (check3 (pool p q))
  three = (and_iff (rows_in_order (p.m + q.m) p.n (csc cs)) (rows_right p.n p.n p.P)).1 (rows_right_lem, hp.rows_p)

  -- a sum over the cone records of the pool is the sum over both problems' records
  records-sum : (f : Cone → ℕ) → sum (map f (records (p.cones ++ q.cones))) ≡ sum (map f (records p.cones)) + sum (map f (records q.cones))
  records-sum f =
      ap (λ (r : List Cone). sum (map f r)) (pool-records p q hp.sound hq.sound)
      ∙ ap sum (map-append f (records p.cones) (records q.cones))
      ∙ sum-append (map f (records p.cones)) (map f (records q.cones))

  records-all : (f : Cone → Bool) → T (all f (records p.cones)) → T (all f (records q.cones))
      → T (all f (records (p.cones ++ q.cones)))
  records-all f h k =
      subst (λ (r : List Cone). T (all f r)) (sym (pool-records p q hp.sound hq.sound))
      (all_of_both f (records p.cones) (records q.cones) h k)

  pool-cones : T (cones_read (p.m + q.m) (p.cones ++ q.cones))
  pool-cones =
      let ws = p.cones ++ q.cones in
      let total : Bool = eqb (sum (map row_count (records ws))) (p.m + q.m) in
      (and_iff (whole_records ws && all reads (records ws)) total).1 (
        (and_iff (whole_records ws) (all reads (records ws))).1 (
          subst T (sym (whole_append p.cones q.cones (sound-whole hp.sound))) (sound-whole hq.sound),
          records-all reads (sound-reads hp.sound) (sound-reads hq.sound),
        ),
        (eqb_iff (sum (map row_count (records ws))) (p.m + q.m)).1
            (omega (arith, records-sum row_count, sound-cone-rows hp.sound, sound-cone-rows hq.sound)),
      )

  pool-alphas : T (alphas_as_many (p.cones ++ q.cones) (p.alphas ++ q.alphas))
  pool-alphas =
      (eqb_iff (sum (map alpha_count (records (p.cones ++ q.cones)))) (length (p.alphas ++ q.alphas))).1 (omega (
        arith,
        records-sum alpha_count,
        length-append p.alphas q.alphas,
        eqb→eq (sum (map alpha_count (records p.cones))) (length p.alphas) hp.alphas,
        eqb→eq (sum (map alpha_count (records q.cones))) (length q.alphas) hq.alphas,
      ))

  four : T (check4 (pool p q))
  four =
      let read : Bool = cones_read (p.m + q.m) (p.cones ++ q.cones) in
      let alphas : Bool = alphas_as_many (p.cones ++ q.cones) (p.alphas ++ q.alphas) in
      let length_q : Bool = eqb (length p.q) p.n in
      let length_b : Bool = eqb (length (p.b ++ q.b)) (p.m + q.m) in
      (and_iff (read && alphas && length_q) length_b).1 (
        (and_iff (read && alphas) length_q).1 (
          (and_iff read alphas).1 (pool-cones, pool-alphas),
          (eqb_iff (length p.q) p.n).1 hp.length_q,
        ),
        (eqb_iff (length (p.b ++ q.b)) (p.m + q.m)).1 (omega (arith, length-append p.b q.b, hp.length_b, hq.length_b)),
      )

  -- a test that ignores orig_index and that all patterns of both problems pass is passed by all patterns of the pool
  patterns-all : (f : Pattern → Bool) → ((x : Pattern) → f (raised_pattern d x) ≡ f x) → T (all f ps) → T (all f qs)
      → T (all f (patterns (pool p q).pattern_count (pool p q).pattern_words))
  patterns-all f free h k =
      subst (λ (xs : List Pattern). T (all f xs)) (sym (pool-patterns p q hp.sound hq.sound))
      (all_of_both f ps raised_qs h (subst T (sym (all_map f (raised_pattern d) qs))
      (all_so f (λ x. f (raised_pattern d x)) (λ x j. subst T (sym (free x)) j) qs k)))

  abbrev both_cones : List Cone
  both_cones = records p.cones ++ records q.cones

  names : T (all (names_its_cone (records (p.cones ++ q.cones))) (patterns (pool p q).pattern_count (pool p q).pattern_words))
  names =
      subst (λ (cs : List Cone). T (all (names_its_cone cs) (patterns (pool p q).pattern_count (pool p q).pattern_words)))
      (sym (pool-records p q hp.sound hq.sound))
      (subst (λ (xs : List Pattern). T (all (names_its_cone both_cones) xs)) (sym (pool-patterns p q hp.sound hq.sound))
      (all_of_both (names_its_cone both_cones) ps raised_qs first second))
    where
      more : length both_cones ≡ d + length (records q.cones)
      more = length-append (records p.cones) (records q.cones)

      first : T (all (names_its_cone both_cones) ps)
      first = all_so (names_its_cone (records p.cones)) (names_its_cone both_cones) (λ x h.
          names_elsewhere (records p.cones) both_cones x x.orig_index
          (λ l. (omega (arith, more), get_or-append (records p.cones) (records q.cones) no_cone x.orig_index l)) h)
          ps (sound_names hp.sound)

      second : T (all (names_its_cone both_cones) raised_qs)
      second =
          subst T (sym (all_map (names_its_cone both_cones) (raised_pattern d) qs))
          (all_so (names_its_cone (records q.cones)) (λ x. names_its_cone both_cones (raised_pattern d x)) (λ x h.
          names_elsewhere (records q.cones) both_cones x (d + x.orig_index)
          (λ l. (omega (arith, more), get_or-append-add (records p.cones) (records q.cones) x.orig_index no_cone)) h)
          qs (sound_names hq.sound))

  rise : T (origins_rise (patterns (pool p q).pattern_count (pool p q).pattern_words))
  rise = subst (λ (xs : List ℕ). T (rises xs)) (sym origins)
      (rises-append (map origin ps) (map (λ i. d + i) (map origin qs)) (sound_rise hp.sound)
      (rises-raised d (map origin qs) (sound_rise hq.sound))
      (λ x y j k.
      let (i, l, e) = (has-map 0 (λ i. d + i) y (map origin qs)).0 k in
      omega (arith, e, sound-inside hp.sound x j)))
    where
      origin : Pattern → ℕ
      origin x = x.orig_index

      origins : map origin (patterns (pool p q).pattern_count (pool p q).pattern_words)
          ≡ map origin ps ++ map (λ i. d + i) (map origin qs)
      origins =
          ap (map origin) (pool-patterns p q hp.sound hq.sound) ∙ map-append origin ps raised_qs
          ∙ ap (λ (xs : List ℕ). map origin ps ++ xs) (map-map origin (raised_pattern d) qs ∙ sym (map-map (λ i. d + i) origin qs))

  five : T (patterns_read (p.cones ++ q.cones) (pool p q).pattern_count (pool p q).pattern_words)
  five =
      let xs = patterns (pool p q).pattern_count (pool p q).pattern_words in
      let ends : Bool = ends_right (read_patterns (pool p q).pattern_count (pool p q).pattern_words) in
      let named : Bool = all (names_its_cone (records (p.cones ++ q.cones))) xs in
      (and_iff (ends && origins_rise xs && named) (orderings_right xs)).1 (
        (and_iff (ends && origins_rise xs) named).1 (
          (and_iff ends (origins_rise xs)).1 (pool-ends p q hp.sound hq.sound, rise),
          names,
        ),
        patterns-all (λ x. is_permutation x.ordering) (λ x. refl) (sound_orders hp.sound) (sound_orders hq.sound),
      )

  six : T (all tree_right (patterns (pool p q).pattern_count (pool p q).pattern_words))
  six = patterns-all tree_right (λ x. refl) hp.sound.trees hq.sound.trees

  seven : T (all cliques_right (patterns (pool p q).pattern_count (pool p q).pattern_words))
  seven = patterns-all cliques_right (λ x. refl) hp.sound.cliques hq.sound.cliques

  -- ---- what can still fail

  -- of checks 1 to 7 only check 1 can refuse the pool
  pub pool-refusal : problem_refusal (pool p q) ≡ cond (check1 (pool p q)) 0 1
  pool-refusal =
      one_fails [] 1 (check1 (pool p q)) (drop 1 (problem_checks (pool p q))) tt (two, (three, (four, (five, (six, (seven, tt))))))

  -- ---- check 1

  pub right-first : RightStarts p.n p.A
  right-first = starts-right p.n p.A hp.starts_a

  pub right-second : RightStarts p.n q.A
  right-second = subst (λ (n : ℕ). RightStarts n q.A) (sym same) (starts-right q.n q.A hq.starts_a)

  pub pool-entries : length (pool p q).A.values ≡ length p.A.values + length q.A.values
  pool-entries = stacked-entries p.n p.m p.A q.A right-first right-second

  pool-cone-count : length (records (pool p q).cones) ≡ length (records p.cones) + length (records q.cones)
  pool-cone-count = ap length (pool-records p q hp.sound hq.sound) ∙ length-append (records p.cones) (records q.cones)

  -- of check 1 only three bounds can fail
  pub pool-bounds : check1 (pool p q) ≡ pool_bounded p q
  pool-bounds =
      let cones = p.cones ++ q.cones in
      let few = leb p.n 65536 in
      let few_p = leb (length p.P.values) 262144 in
      let sizes = all sizes_bounded (records cones) in
      choose few few_p sizes (leb (p.m + q.m) 65536) (leb (length (pool p q).A.values) 262144) (leb (length (records cones)) 1024)
      (passed few (le→leb p.n 65536 hp.few_columns))
      (passed few_p (le→leb (length p.P.values) 262144 hp.few_entries_p))
      (passed sizes (records-all sizes_bounded
      ((and_iff (leb (length (records p.cones)) 1024) (all sizes_bounded (records p.cones))).0 hp.sound.bounded).1
      ((and_iff (leb (length (records q.cones)) 1024) (all sizes_bounded (records q.cones))).0 hq.sound.bounded).1))
      ∙ ap₂ (λ (a c : ℕ). leb (p.m + q.m) 65536 && leb a 262144 && leb c 1024) pool-entries pool-cone-count
    where
      choose : (n e s m a c : Bool) → n ≡ true → e ≡ true → s ≡ true → (n && m && a && e && (c && s)) ≡ (m && a && c)
      choose n e s true true true hn he hs = rw (hn, he, hs)
      choose n e s true true false hn he hs = rw (hn, he)
      choose n e s true false c hn he hs = rw hn
      choose n e s false a c hn he hs = rw hn

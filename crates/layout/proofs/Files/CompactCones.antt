-- The compact problem's cones: their records are bounded, read as kinds, and have the augmented rows and the problem's α.
use Prim.Native.Nat.{ℕ, zero, suc, ◌+◌, ◌≤◌, ◌<◌, zero-le, suc-le-suc}
use native.Mathlib.Omega.{arith}
use mathlib.Core.Path.{◌≡◌, refl, sym, ap, ap₂, subst, ◌∙◌}
use mathlib.Core.Bool.{Bool, true, false, cond, ◌&&◌}
use mathlib.Core.List.{List, [], ◌∷◌, ◌++◌, map, map-append, map-map, reverse}
use lib.ListN.{length, get_or, length-append, length-map, length-reverse}
use lib.Dec.{T, leb, eqb, le→leb, eqb→eq}
use Rattle.layout.specs.General.Lists.{all, below, sum, join}
use Rattle.layout.specs.General.Triangle.{triangle}
use Rattle.layout.specs.Problems.Cones.{Cone, records, reads, row_count, alpha_count, kind_of, alphas}
use Rattle.layout.specs.Problems.Patterns.{Pattern, Clique, patterns, clique_at, clique_count, block_size, no_clique, no_pattern}
use Rattle.layout.specs.Rows.Blocks.{Part, whole, cut, parts_from, parts, part_rows, block_row_count}
use Rattle.layout.specs.Checks.{Sound, RightPattern, sizes_bounded, names_its_cone, no_cone}
use Rattle.layout.specs.Cuts.Compact.{cone_words, psd_words, compact_part}
use Rattle.layout.proofs.Lists.Tests.{and_iff, eqb_iff}
use Rattle.layout.proofs.Lists.Members.{EveryAt, every_cons, all-at, all_map, all_of_both, length-below}
use Rattle.layout.proofs.Lists.Joins.{reverse-below, sum-down, map-drop}
use Rattle.layout.proofs.Lists.Starts.{sum-append, join-append}
use Rattle.layout.proofs.Checks.Accepted.{sound-patterns, sound_names, sound-reads}
use Rattle.layout.proofs.Patterns.WordCounts.{clique-size, vertices-few}

-- ---- the records

-- the record of a PSD cone, as each clique has one
abbrev psd : ℕ → Cone
psd k = record { kind = 6; first = k; second = 0 }

abbrev part_records : Part → List Cone
part_records (whole i c row) = c ∷ []
part_records (cut i row k p) = map (λ c. psd (block_size (clique_at p c))) (reverse (below (clique_count p)))

abbrev pub new_cones : List Part → List Cone
new_cones ps = join part_records ps

psd-words : (f : ℕ → ℕ) (xs : List ℕ) → join (λ c. psd_words (f c)) xs ≡ join cone_words (map (λ c. psd (f c)) xs)
psd-words f [] = refl
psd-words f (x ∷ xs) = ap (λ (l : List ℕ). 6 ∷ f x ∷ 0 ∷ l) (psd-words f xs)

part-words : (x : Part) → compact_part x ≡ join cone_words (part_records x)
part-words (whole i c row) = refl
part-words (cut i row k p) = psd-words (λ c. block_size (clique_at p c)) (reverse (below (clique_count p)))

pub cones-words : (ps : List Part) → join compact_part ps ≡ join cone_words (new_cones ps)
cones-words [] = refl
cones-words (x ∷ ps) = ap₂ ◌++◌ (part-words x) (cones-words ps) ∙ sym (join-append cone_words (part_records x) (new_cones ps))

-- ---- what checks 1 to 7 ensure for the parts

record RightCone (c : Cone) : Type 0 where
  bounded : T (sizes_bounded c)
  read : T (reads c)

abbrev RightPart : Part → Type 0
RightPart (whole i c row) = RightCone c
RightPart (cut i row k p) = RightPattern p × (p.vertex_count ≤ 256)

abbrev RightParts : List Part → Type 0
RightParts [] = Unit {0}
RightParts (x ∷ ps) = RightPart x × RightParts ps

-- the number of values that a part takes from the table of α
abbrev part_alphas : Part → ℕ
part_alphas (whole i c row) = alpha_count c
part_alphas (cut i row k p) = 0

-- the pattern's cone, if among the cones from number i on, takes no value of α
abbrev TakesNone : ℕ → List Cone → Pattern → Type 0
TakesNone i cs p = (n : ℕ) → n < length cs → p.orig_index ≡ i + n → alpha_count (get_or cs n no_cone) ≡ 0

abbrev Named : ℕ → List Cone → Pattern → Type 0
Named i cs p = (RightPattern p × (p.vertex_count ≤ 256)) × TakesNone i cs p

later : (i : ℕ) (c : Cone) (cs : List Cone) (ps : List Pattern) → EveryAt no_pattern (Named i (c ∷ cs)) ps → EveryAt no_pattern (Named (suc i) cs) ps
later i c cs ps h n l = ((h n l).0, λ m lm e. (h n l).1 (suc m) (suc-le-suc lm) (omega arith))

abbrev Over : List Cone → List Part → Type 0
Over cs ps = RightParts ps × (sum (map part_alphas ps) ≡ sum (map alpha_count cs))

parts-right : (i row k : ℕ) (cs : List Cone) (ps : List Pattern) → EveryAt no_cone RightCone cs → EveryAt no_pattern (Named i cs) ps
    → Over cs (parts_from i row k cs ps)
parts-right i row k [] ps g h = (tt, refl)
parts-right i row k (c ∷ cs) [] g h =
    let (here, others) = (every_cons no_cone RightCone c cs).0 g in
    let (right, count) = parts-right (suc i) (row + row_count c) k cs [] others (later i c cs [] h) in
    ((here, right), omega arith)
parts-right i row k (c ∷ cs) (p ∷ ps) g h =
    let (here, others) = (every_cons no_cone RightCone c cs).0 g in
    pick (eqb p.orig_index i) (eqb→eq p.orig_index i) here (λ k' qs f. parts-right (suc i) (row + row_count c) k' cs qs others f)
  where
    pick : (b : Bool) → (T b → p.orig_index ≡ i) → RightCone c
        → ((k' : ℕ) (qs : List Pattern) → EveryAt no_pattern (Named (suc i) cs) qs → Over cs (parts_from (suc i) (row + row_count c) k' cs qs))
        → Over (c ∷ cs) (cond b (cut i row k p) (whole i c row)
        ∷ parts_from (suc i) (row + row_count c) (cond b (suc k) k) cs (cond b ps (p ∷ ps)))
    pick true f here rest =
        let (named, others) = (every_cons no_pattern (Named i (c ∷ cs)) p ps).0 h in
        let none : alpha_count c ≡ 0 = named.1 0 (suc-le-suc zero-le) (omega (arith, f tt)) in
        let (right, count) = rest (suc k) ps (later i c cs ps others) in
        ((named.0, right), omega arith)
    pick false f here rest =
        let (right, count) = rest k (p ∷ ps) (later i c cs (p ∷ ps) h) in
        ((here, right), omega arith)

-- ---- the new cones

-- a test that every number below k passes holds for them in decreasing order
all-down : (test : ℕ → Bool) (k : ℕ) → ((c : ℕ) → c < k → T (test c)) → T (all test (reverse (below k)))
all-down test zero h = tt
all-down test (suc k) h =
    subst (λ (l : List ℕ). T (all test l)) (sym (reverse-below k))
    ((and_iff (test k) (all test (reverse (below k)))).1 (h k (omega arith), all-down test k (λ c l. h c (omega arith))))

psd-bounded : (k : ℕ) → k ≤ 256 → T (sizes_bounded (psd k))
psd-bounded k h =
    (and_iff (leb k 65536 && true) (leb k 256)).1 (
      (and_iff (leb k 65536) true).1 (le→leb k 65536 (omega arith), tt),
      le→leb k 256 h,
    )

part_right : (x : Part) → RightPart x → T (all sizes_bounded (part_records x)) × T (all reads (part_records x))
part_right (whole i c row) h = ((and_iff (sizes_bounded c) true).1 (h.bounded, tt), (and_iff (reads c) true).1 (h.read, tt))
part_right (cut i row k p) h =
    let one : ℕ → Cone = λ c. psd (block_size (clique_at p c)) in
    let down : List ℕ = reverse (below (clique_count p)) in (
      subst T (sym (all_map sizes_bounded one down)) (all-down (λ c. sizes_bounded (one c)) (clique_count p)
          (λ c l. psd-bounded (block_size (clique_at p c)) (omega (arith, clique-size p h.0 c l)))),
      subst T (sym (all_map reads one down)) (all-down (λ c. reads (one c)) (clique_count p) (λ c l. tt)),
    )

all_right : (ps : List Part) → RightParts ps → T (all sizes_bounded (new_cones ps)) × T (all reads (new_cones ps))
all_right [] h = (tt, tt)
all_right (x ∷ ps) h =
    let (b, r) = part_right x h.0 in
    let (bs, rs) = all_right ps h.1 in
    (all_of_both sizes_bounded (part_records x) (new_cones ps) b bs, all_of_both reads (part_records x) (new_cones ps) r rs)

-- a sum over the new cones is a sum over the parts
counted : (f : Cone → ℕ) (g : Part → ℕ) → ((x : Part) → sum (map f (part_records x)) ≡ g x)
    → (ps : List Part) → sum (map f (new_cones ps)) ≡ sum (map g ps)
counted f g h [] = refl
counted f g h (x ∷ ps) =
    ap sum (map-append f (part_records x) (new_cones ps)) ∙ sum-append (map f (part_records x)) (map f (new_cones ps))
    ∙ ap₂ ◌+◌ (h x) (counted f g h ps)

part-rows : (x : Part) → sum (map row_count (part_records x)) ≡ part_rows x
part-rows (whole i c row) = omega arith
part-rows (cut i row k p) =
    let size : Clique → ℕ = λ q. triangle (block_size q) in
    ap sum (map-map row_count (λ c. psd (block_size (clique_at p c))) (reverse (below (clique_count p))))
    ∙ sum-down (λ c. size (clique_at p c)) (clique_count p)
    ∙ ap sum (sym (map-drop size no_clique p.cliques 0 (clique_count p) (omega arith)))

none_taken : (f : ℕ → ℕ) (xs : List ℕ) → sum (map alpha_count (map (λ c. psd (f c)) xs)) ≡ 0
none_taken f [] = refl
none_taken f (x ∷ xs) = omega (arith, none_taken f xs)

part-alphas : (x : Part) → sum (map alpha_count (part_records x)) ≡ part_alphas x
part-alphas (whole i c row) = omega arith
part-alphas (cut i row k p) = none_taken (λ c. block_size (clique_at p c)) (reverse (below (clique_count p)))

-- there are at most as many new cones as cones and cliques together
pub new_few : (i row k : ℕ) (cs : List Cone) (ps : List Pattern)
    → length (new_cones (parts_from i row k cs ps)) ≤ length cs + sum (map clique_count ps)
new_few i row k [] ps = omega arith
new_few i row k (c ∷ cs) [] = omega (arith, new_few (suc i) (row + row_count c) k cs [])
new_few i row k (c ∷ cs) (p ∷ ps) = pick (eqb p.orig_index i) (λ k' qs. new_few (suc i) (row + row_count c) k' cs qs)
  where
    pick : (b : Bool) → ((k' : ℕ) (qs : List Pattern)
        → length (new_cones (parts_from (suc i) (row + row_count c) k' cs qs)) ≤ length cs + sum (map clique_count qs))
        → length (new_cones (cond b (cut i row k p) (whole i c row)
        ∷ parts_from (suc i) (row + row_count c) (cond b (suc k) k) cs (cond b ps (p ∷ ps)))) ≤ suc (length cs) + sum (map clique_count (p ∷ ps))
    pick true rest =
        let down : List ℕ = reverse (below (clique_count p)) in
        omega (
          arith,
          length-append (part_records (cut i row k p)) (new_cones (parts_from (suc i) (row + row_count c) (suc k) cs ps)),
          length-map down (λ c. psd (block_size (clique_at p c))),
          length-reverse (below (clique_count p)),
          length-below (clique_count p),
          rest (suc k) ps,
        )
    pick false rest = omega (arith, rest k (p ∷ ps))

module _ {m : ℕ} {cones : List ℕ} {count : ℕ} {words : List ℕ} (h : Sound m cones count words) where
  abbrev cs : List Cone
  cs = records cones

  abbrev ps : List Pattern
  ps = patterns count words

  right-cones : EveryAt no_cone RightCone cs
  right-cones i l = record {
    bounded = (all-at no_cone sizes_bounded cs).0 ((and_iff (leb (length cs) 1024) (all sizes_bounded cs)).0 h.bounded).1 i l;
    read = (all-at no_cone reads cs).0 (sound-reads h) i l;
  }

  psd_takes : (c : Cone) → c.kind ≡ 6 → alpha_count c ≡ 0
  psd_takes c e = ap (λ (k : ℕ). alphas (kind_of k) c.first) e

  named : EveryAt no_pattern (Named 0 cs) ps
  named i l =
      let p = get_or ps i no_pattern in
      let names = simp (and_iff, eqb_iff) at ((all-at no_pattern (names_its_cone cs) ps).0 (sound_names h) i l) in (
        (sound-patterns no_pattern h i l, vertices-few h i l),
        λ n ln e.
            let here : p.orig_index ≡ n = omega arith in
            subst (λ (j : ℕ). alpha_count (get_or cs j no_cone) ≡ 0) here (psd_takes (get_or cs p.orig_index no_cone) names.0.1),
      )

  over : Over cs (parts cs ps)
  over = parts-right 0 0 0 cs ps right-cones named

  -- each new cone is bounded and reads as a kind; together they have the blocks' rows and take the problem's α
  pub cones-right : T (all sizes_bounded (new_cones (parts cs ps))) × T (all reads (new_cones (parts cs ps)))
  cones-right = all_right (parts cs ps) over.0

  pub cones-rows : sum (map row_count (new_cones (parts cs ps))) ≡ block_row_count (parts cs ps)
  cones-rows = counted row_count part_rows part-rows (parts cs ps)

  pub cones-alphas : sum (map alpha_count (new_cones (parts cs ps))) ≡ sum (map alpha_count cs)
  cones-alphas = counted alpha_count part_alphas part-alphas (parts cs ps) ∙ over.1

-- The augmented rows of a whole problem: its parts follow one another, each covering the rows of its cone.
use Prim.Native.Nat.{ℕ, suc, ◌+◌, ◌<◌, zero-le, suc-le-suc}
use native.Mathlib.Omega.{arith}
use mathlib.Core.Path.{◌≡◌, refl, sym, ap, subst, ◌∙◌}
use mathlib.Core.Bool.{Bool, true, false, cond}
use mathlib.Core.List.{List, [], ◌∷◌, ◌++◌, map}
use lib.ListN.{length, get_or, length-append, length-map}
use lib.Dec.{T, eqb, eqb→eq}
use Rattle.layout.specs.General.Lists.{sum, up_from}
use Rattle.layout.specs.General.Triangle.{triangle}
use Rattle.layout.specs.Problems.Problem.{Problem, Route}
use Rattle.layout.specs.Problems.Cones.{Cone, records, row_count, kind_of, nvars}
use Rattle.layout.specs.Problems.Patterns.{Pattern, no_pattern, patterns}
use Rattle.layout.specs.Rows.Blocks.{Part, whole, cut, parts, parts_from, Row, kept, pattern_rows, block_rows, rows_from, compact_rows, block_row_count, cone_rows}
use Rattle.layout.specs.Checks.{Sound, no_cone, names_its_cone, refusal, layout, RightPattern, Laid}
use Rattle.layout.proofs.Lists.Tests.{and_iff, eqb_iff}
use Rattle.layout.proofs.Lists.Members.{EveryAt, every_cons, all-at, length-up_from}
use Rattle.layout.proofs.Rows.Rows.{rows-count}
use Rattle.layout.proofs.Checks.Accepted.{sound_names, sound-cone-rows, sound-patterns, accepted-sound}
use Rattle.layout.proofs.Rows.Moves.{RightRows, nil-rows, kept-rows, append-rows, pattern_rows_lem}

-- there is one part for each cone
pub parts-count : (i row k : ℕ) (cs : List Cone) (ps : List Pattern) → length (parts_from i row k cs ps) ≡ length cs
parts-count i row k [] ps = refl
parts-count i row k (c ∷ cs) ps = ap suc (parts-count (suc i) (row + row_count c) _ cs _)

-- ---- the augmented rows of parts that are `Laid`

pub length-rows : (first row : ℕ) (ps : List Part) → Laid row ps → length (rows_from first ps) ≡ block_row_count ps
length-rows first row [] h = refl
length-rows first row (whole i c r ∷ ps) h =
    omega (
      arith,
      length-append (map kept (up_from r (row_count c))) (rows_from (first + row_count c) ps),
      length-map (up_from r (row_count c)) kept,
      length-up_from r (row_count c),
      length-rows (first + row_count c) (row + row_count c) ps h.1,
    )
length-rows first row (cut i r k p ∷ ps) h =
    omega (
      arith,
      length-append (pattern_rows p r first) (rows_from (first + block_rows p) ps),
      rows-count p h.1 r first,
      length-rows (first + block_rows p) (row + triangle p.vertex_count) ps h.2,
    )

join-rows : (first row k n total : ℕ) (R S : List Row) → length R ≡ k → RightRows first row (row + n) R
    → RightRows (first + k) (row + n) (row + n + total) S → RightRows first row (row + (n + total)) (R ++ S)
join-rows first row k n total R S e left right =
    let same : row + n + total ≡ row + (n + total) = omega arith in
    subst (λ (hi : ℕ). RightRows first row hi (R ++ S)) same
    (append-rows first row (row + n) (row + n + total) R S left
    (subst (λ (x : ℕ). RightRows (first + x) (row + n) (row + n + total) S) (sym e) right) (omega arith) (omega arith))

pub laid-rows : (first row : ℕ) (ps : List Part) → Laid row ps
    → RightRows first row (row + sum (map cone_rows ps)) (rows_from first ps)
laid-rows first row [] h =
    let e : row ≡ row + 0 = omega arith in
    subst (λ (hi : ℕ). RightRows first row hi []) e (nil-rows first row)
laid-rows first row (whole i c r ∷ ps) h =
    let n : ℕ = row_count c in
    let R : List Row = map kept (up_from r n) in
    join-rows first row n n (sum (map cone_rows ps)) R (rows_from (first + n) ps)
    (length-map (up_from r n) kept ∙ length-up_from r n)
    (subst (λ (b : ℕ). RightRows first b (b + n) R) h.0 (kept-rows first r n))
    (laid-rows (first + n) (row + n) ps h.1)
laid-rows first row (cut i r k p ∷ ps) h =
    let n : ℕ = triangle p.vertex_count in
    let R : List Row = pattern_rows p r first in
    join-rows first row (block_rows p) n (sum (map cone_rows ps)) R (rows_from (first + block_rows p) ps)
    (rows-count p h.1 r first)
    (subst (λ (b : ℕ). RightRows first b (b + n) R) h.0 (pattern_rows_lem p h.1 r first))
    (laid-rows (first + block_rows p) (row + n) ps h.2)

-- ---- the parts of an accepted problem are `Laid`

-- the pattern's cone, if it is among the cones cs numbered from i on, has one row for each pair of the pattern's vertices
abbrev Fits : ℕ → List Cone → Pattern → Type 0
Fits i cs p = (n : ℕ) → n < length cs → p.orig_index ≡ i + n → row_count (get_or cs n no_cone) ≡ triangle p.vertex_count

abbrev RightIn : ℕ → List Cone → Pattern → Type 0
RightIn i cs p = RightPattern p × Fits i cs p

after_first : (d : Pattern) (i : ℕ) (c : Cone) (cs : List Cone) (ps : List Pattern)
    → EveryAt d (RightIn i (c ∷ cs)) ps → EveryAt d (RightIn (suc i) cs) ps
after_first d i c cs ps h n l = ((h n l).0, λ m lm e. (h n l).1 (suc m) (suc-le-suc lm) (omega arith))

-- the parts are `Laid` from `row` on, and they have as many original rows as the cones
abbrev LaidOver : ℕ → List Cone → List Part → Type 0
LaidOver row cs ps = Laid row ps × (sum (map cone_rows ps) ≡ sum (map row_count cs))

parts-laid : (d : Pattern) (i row k : ℕ) (cs : List Cone) (ps : List Pattern) → EveryAt d (RightIn i cs) ps
    → LaidOver row cs (parts_from i row k cs ps)
parts-laid d i row k [] ps h = (tt, refl)
parts-laid d i row k (c ∷ cs) [] h =
    let (laid, count) = parts-laid d (suc i) (row + row_count c) k cs [] (after_first d i c cs [] h) in
    ((refl, laid), omega arith)
parts-laid d i row k (c ∷ cs) (p ∷ ps) h =
    pick (eqb p.orig_index i) (eqb→eq p.orig_index i) (λ k' qs g. parts-laid d (suc i) (row + row_count c) k' cs qs g)
  where
    pick : (b : Bool) → (T b → p.orig_index ≡ i)
        → ((k' : ℕ) (qs : List Pattern) → EveryAt d (RightIn (suc i) cs) qs
        → LaidOver (row + row_count c) cs (parts_from (suc i) (row + row_count c) k' cs qs))
        → LaidOver row (c ∷ cs) (cond b (cut i row k p) (whole i c row)
        ∷ parts_from (suc i) (row + row_count c) (cond b (suc k) k) cs (cond b ps (p ∷ ps)))
    pick true f rest =
        let (here, others) = (every_cons d (RightIn i (c ∷ cs)) p ps).0 h in
        let fits : row_count c ≡ triangle p.vertex_count = here.1 0 (suc-le-suc zero-le) (omega (arith, f tt)) in
        let (laid, count) = rest (suc k) ps (after_first d i c cs ps others) in (
          (refl, here.0, subst (λ (n : ℕ). Laid (row + n) (parts_from (suc i) (row + row_count c) (suc k) cs ps)) fits laid),
          omega arith,
        )
    pick false f rest =
        let (laid, count) = rest k (p ∷ ps) (after_first d i c cs (p ∷ ps) h) in
        ((refl, laid), omega arith)

psd-rows : (c : Cone) → c.kind ≡ 6 → row_count c ≡ triangle c.first
psd-rows c e = ap (λ (k : ℕ). nvars (kind_of k) c.first c.second) e

pub names_fits : (cs : List Cone) (p : Pattern) → T (names_its_cone cs p) → Fits 0 cs p
names_fits cs p h n l e =
    let k = simp (and_iff, eqb_iff) at h in
    let q : p.orig_index ≡ n = omega arith in
    subst (λ (m : ℕ). row_count (get_or cs m no_cone) ≡ triangle p.vertex_count) q
    (psd-rows (get_or cs p.orig_index no_cone) k.0.1 ∙ ap triangle k.1)

module _ {m : ℕ} {cones : List ℕ} {count : ℕ} {words : List ℕ} (h : Sound m cones count words) where
  abbrev ps : List Part
  ps = parts (records cones) (patterns count words)

  pub sound-laid : LaidOver 0 (records cones) (parts (records cones) (patterns count words))
  sound-laid = parts-laid no_pattern 0 0 0 (records cones) (patterns count words) (λ n l. (
    sound-patterns no_pattern h n l,
    names_fits (records cones) (get_or (patterns count words) n no_pattern)
        ((all-at no_pattern (names_its_cone (records cones)) (patterns count words)).0 (sound_names h) n l),
  ))

  -- the parts have m original rows in all
  pub sound-total : sum (map cone_rows ps) ≡ m
  sound-total = sound-laid.1 ∙ sound-cone-rows h

  pub sound-count : length (compact_rows (parts (records cones) (patterns count words))) ≡ block_row_count (parts (records cones) (patterns count words))
  sound-count = length-rows 0 0 ps sound-laid.0

  pub sound-rows : RightRows 0 0 m (compact_rows (parts (records cones) (patterns count words)))
  sound-rows =
      subst (λ (hi : ℕ). RightRows 0 0 hi (compact_rows ps)) (omega (arith, sound-total)) (laid-rows 0 0 ps sound-laid.0)

module _ (route : Route) (p : Problem) (e : refusal route p ≡ 0) where
  pub accepted-laid : LaidOver 0 (records p.cones) (layout p)
  accepted-laid = sound-laid (accepted-sound route p e)

  pub accepted-count : length (compact_rows (layout p)) ≡ block_row_count (layout p)
  accepted-count = sound-count (accepted-sound route p e)

  -- the augmented rows of an accepted problem satisfy `RightRows`
  pub accepted-rows : RightRows 0 0 p.m (compact_rows (layout p))
  accepted-rows = sound-rows (accepted-sound route p e)

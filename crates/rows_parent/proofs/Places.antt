-- The table of places, filled one vertex after the other, and the codes that it gives.
use Prim.Native.Nat.{ℕ, zero, suc, ◌+◌, ◌-◌, ◌≤◌, ◌<◌}
use native.Mathlib.Numerals.{add-one}
use native.Mathlib.Decide.{ℕ_discrete}
use native.Mathlib.Omega.{arith}
use mathlib.Core.Path.{◌≡◌, refl, ap, ap₂, sym, subst, ◌∙◌}
use mathlib.Core.Logic.{inl, inr}
use mathlib.Core.Bool.{Bool, true, false, cond, not, ◌&&◌}
use mathlib.Core.List.{List, map, map-map}
use lib.ListN.{length, get_or, set, replicate}
use lib.Seq.{get_or-set_same, get_or-set_other}
use lib.Dec.{T, eqb}
use mir.Syntax.{w32}
use mir.Val.{Fits}
use borrow.Author.Tests.{eq-eqb, ne_eqb}
use Rattle.layout.specs.General.Lists.{has, rises, below, place_in}
use Rattle.layout.specs.General.Triangle.{triangle, pair_index}
use Rattle.layout.specs.Rows.Blocks.{Pair, pair, pair_row}
use Rattle.layout.proofs.Lists.Tests.{tested, and_iff, cond_failed}
use Rattle.layout.proofs.Lists.Members.{has-at, has_get_or, has-below}
use Rattle.layout.proofs.Lists.Joins.{map_same}
use Rattle.layout.proofs.Lists.Rising.{rises-at, place_at, place_says, place_mono}
use Rattle.layout.proofs.Numbers.Triangles.{triangle_mono, pair_index-le}
use Rattle.rows_blocks.specs.Vertices.{vertex_marked}
use Rattle.rows_blocks.specs.Columns.{column_pairs}
use Rattle.rows_blocks.proofs.Columns.{rises-le}
use Rattle.rows_parent.specs.Places.{Places, Climbing, tie_code, place_code, tied_entry}

-- ---- filling the table

-- the places of the first i vertices of vs are in the table, and all other entries are 0
pub record Noted (vs : List ℕ) (i : ℕ) (places : List ℕ) : Type 0 where
  pub at : (k : ℕ) → k < i → get_or places (get_or vs k 0) 0 ≡ suc k
  pub clear : (v : ℕ) → ((k : ℕ) → k < i → get_or vs k 0 ≡ v → ⊥) → get_or places v 0 ≡ 0

zeros : (n v : ℕ) → get_or {A = ℕ} (replicate n 0) v 0 ≡ 0
zeros zero v = refl
zeros (suc n) zero = refl
zeros (suc n) (suc v) = zeros n v

pub noted_none : (vs places : List ℕ) (n : ℕ) → places ≡ replicate n 0 → Noted vs 0 places
noted_none vs places n e = record { at = λ k l. absurd (omega arith); clear = λ v h. rw e (zeros n v) }

module _ (vs places : List ℕ) (i : ℕ) (rising : T (rises vs)) (inside : i < length vs) (room : get_or vs i 0 < length places) (n : Noted vs i places) where
  pub noted_more : Noted vs (i + 1) (set places (get_or vs i 0) (i + 1))
  noted_more = record { at = λ k l. go k l (ℕ_discrete k i); clear = λ v h. other v h }
    where
      go : (k : ℕ) → k < i + 1 → Dec (k ≡ i) → get_or (set places (get_or vs i 0) (i + 1)) (get_or vs k 0) 0 ≡ suc k
      go k l (yes e) = rw (e, get_or-set_same places (get_or vs i 0) (i + 1) 0 room) (add-one i)
      go k l (no ne) =
          let m : k < i = omega (arith, ne) in
          get_or-set_other places (get_or vs i 0) (get_or vs k 0) (i + 1) 0 (λ e. omega (arith, rises-at vs k i 0 rising m inside)) ∙ n.at k m

      other : (v : ℕ) → ((k : ℕ) → k < i + 1 → get_or vs k 0 ≡ v → ⊥) → get_or (set places (get_or vs i 0) (i + 1)) v 0 ≡ 0
      other v h =
          get_or-set_other places (get_or vs i 0) v (i + 1) 0 (λ e. h i (omega arith) (sym e))
          ∙ n.clear v (λ k l. h k (omega arith))

pub noted_all : (vs places : List ℕ) → T (rises vs) → Noted vs (length vs) places → Places vs places
noted_all vs places rising n = record {
  held = λ v h.
      let (k, l, e) = (has-at 0 v vs).0 h in
      ap (λ (w : ℕ). get_or places w 0) e ∙ n.at k l ∙ ap suc (sym (ap (place_in vs) e ∙ place_at vs k 0 rising l));
  others = λ v h. n.clear v (λ k l e. h (subst (λ (w : ℕ). T (has w vs)) e (has_get_or vs k 0 l)));
}

-- ---- properties of the table

module _ (vs places : List ℕ) (rising : T (rises vs)) (ps : Places vs places) where
  pub places_climb : length vs ≤ 256 → Climbing places
  places_climb few = record { few = small; climbs = up }
    where
      small : (v : ℕ) → get_or places v 0 ≤ 256
      small v = elim (tested (has v vs)) [
        | inl h ↦ omega (arith, ps.held v h, (place_says vs v rising h).0)
        | inr h ↦ omega (arith, ps.others v h)
      ]

      up : (v w : ℕ) → v ≤ w → 0 < get_or places v 0 → 0 < get_or places w 0 → get_or places v 0 ≤ get_or places w 0
      up v w l a b = elim (tested (has v vs)) [
        | inl h ↦ elim (tested (has w vs)) [
          | inl k ↦ omega (arith, ps.held v h, ps.held w k, place_mono vs v w l)
          | inr k ↦ absurd (omega (arith, ps.others w k))
        ]
        | inr h ↦ absurd (omega (arith, ps.others v h))
      ]

  marked-held : (v : ℕ) → vertex_marked places v ≡ has v vs
  marked-held v = go (has v vs) (λ h. ps.held v h) (λ h. ps.others v h)
    where
      go : (b : Bool) → (T b → get_or places v 0 ≡ suc (place_in vs v)) → ((T b → ⊥) → get_or places v 0 ≡ 0) → not (eqb (get_or places v 0) 0) ≡ b
      go true h n = ap not (ne_eqb (get_or places v 0) 0 (λ e. omega (arith, h tt)))
      go false h n = ap not (eq-eqb (get_or places v 0) 0 (n (λ t. t)))

  place-held : (v : ℕ) → T (has v vs) → get_or places v 0 - 1 ≡ place_in vs v
  place-held v h = omega (arith, ps.held v h)

  -- the code computed from the table is the code of the pair
  pub code_places : (base start : ℕ) (x : Pair) → place_code places base start x ≡ tie_code vs base start x
  code_places base start (pair i j) =
      rw (marked-held i, marked-held j)
      (go (has i vs && has j vs) _ _ _ (λ h.
      let (a, b) = (and_iff (has i vs) (has j vs)).0 h in
      ap (λ (k : ℕ). 65536 + (start + k)) (ap₂ pair_index (place-held i a) (place-held j b))))
    where
      go : (b : Bool) (x y z : ℕ) → (T b → x ≡ y) → cond b x z ≡ cond b y z
      go true x y z e = e tt
      go false x y z e = refl

-- ---- a column

module _ (places : List ℕ) (base start v c : ℕ) (l : v ≤ c) where
  -- a vertex without a place makes an owned entry
  code_own : get_or places c 0 ≡ 0 → place_code places base start (pair v c) ≡ base + pair_index v c
  code_own e = cond_failed (vertex_marked places v && vertex_marked places c) _ _
      (λ h. subst (λ (k : ℕ). T (not (eqb k 0))) e ((and_iff (vertex_marked places v) (vertex_marked places c)).0 h).1)

  -- the code of an entry whose column has a place
  code_tied : Climbing places → (place : ℕ) → get_or places c 0 ≡ suc place
      → place_code places base start (pair v c)
      ≡ cond (eqb (get_or places v 0) 0) (base + triangle c + v) (65536 + start + triangle place + (get_or places v 0 - 1))
  code_tied up place h =
      let m : vertex_marked places c ≡ true = ap not (ne_eqb (get_or places c 0) 0 (λ e. omega arith)) in
      let p : get_or places c 0 - 1 ≡ place = omega arith in
      rw (m, p) (go (ℕ_discrete (get_or places v 0) 0))
    where
      own : base + pair_index v c ≡ base + triangle c + v
      own = omega (arith, pair_index-le v c l)

      tied : (get_or places v 0 ≡ 0 → ⊥)
          → 65536 + (start + pair_index (get_or places v 0 - 1) place) ≡ 65536 + start + triangle place + (get_or places v 0 - 1)
      tied n =
          let e = pair_index-le (get_or places v 0 - 1) place (omega (arith, up.climbs v c l (omega (arith, n)) (omega (arith, h)), h)) in
          omega arith

      go : Dec (get_or places v 0 ≡ 0)
          → cond (not (eqb (get_or places v 0) 0) && true)
          (65536 + (start + pair_index (get_or places v 0 - 1) place))
          (base + pair_index v c)
          ≡ cond (eqb (get_or places v 0) 0) (base + triangle c + v) (65536 + start + triangle place + (get_or places v 0 - 1))
      go (yes e) = rw (eq-eqb (get_or places v 0) 0 e) own
      go (no n) = rw (ne_eqb (get_or places v 0) 0 n) (tied n)

-- the table's entry of a vertex that has a place
pub place-some : {n : ℕ} → (n ≡ 0 → ⊥) → 1 ≤ n
place-some h = omega (arith, h)

pub place-small : (n : ℕ) → (n ≡ 0 → ⊥) → n ≤ 256 → (n ≡ suc (n - 1)) × (n - 1 < 256)
place-small n h l = (omega (arith, h), omega (arith, h))

-- the original rows of column c are small, and so is c
pub column-small : (base c : ℕ) → base + triangle (suc c) ≤ 65536 → c ≤ 65535
column-small base c h = omega arith

pub row_small : (base c n : ℕ) → base + triangle (suc c) ≤ 65536 → n ≡ triangle c → Fits w32 (base + n) × (base + n + c ≤ 65536)
row_small base c n h e = (omega arith, omega arith)

pub tied_small : (start k n : ℕ) → start ≤ 262144 → k < 256 → n ≡ triangle k → 65536 + start + n ≤ 393216
tied_small start k n h l e = omega (arith, triangle_mono k 255 (omega arith))

-- two rules that agree on the pairs of a column give equal lists
column_same : (f g : Pair → ℕ) (vs : List ℕ) (j : ℕ) → T (rises vs) → j < length vs
    → ((v : ℕ) → v ≤ get_or vs j 0 → f (pair v (get_or vs j 0)) ≡ g (pair v (get_or vs j 0)))
    → map f (column_pairs vs j) ≡ map g (column_pairs vs j)
column_same f g vs j rising l same =
    let at : ℕ → Pair = λ i. pair (get_or vs i 0) (get_or vs j 0) in
    map-map f at (below (suc j))
    ∙ map_same (λ i. f (at i)) (λ i. g (at i)) (below (suc j))
    (λ i h. same (get_or vs i 0) (rises-le vs i j rising (omega (arith, (has-below i (suc j)).0 h)) l))
    ∙ sym (map-map g at (below (suc j)))

module _ (places vs : List ℕ) (base start j : ℕ) (rising : T (rises vs)) (l : j < length vs) where
  -- a column whose vertex has no place
  pub own-column : get_or places (get_or vs j 0) 0 ≡ 0 → map (pair_row base) (column_pairs vs j) ≡ map (place_code places base start) (column_pairs vs j)
  own-column e = column_same (pair_row base) (place_code places base start) vs j rising l
      (λ v m. sym (code_own places base start v (get_or vs j 0) m e))

  -- a column whose vertex has a place
  pub tied_column_lem : Climbing places → (place : ℕ) → get_or places (get_or vs j 0) 0 ≡ suc place
      → let c = get_or vs j 0 in
      map (tied_entry places (base + triangle c) (65536 + start + triangle place)) (column_pairs vs j)
      ≡ map (place_code places base start) (column_pairs vs j)
  tied_column_lem up place e =
      let c = get_or vs j 0 in
      column_same (tied_entry places (base + triangle c) (65536 + start + triangle place)) (place_code places base start) vs j rising l
      (λ v m. sym (code_tied places base start v c m up place e))

-- The averages of z on the standard route, part by part: the columns of H on a row all belong to the part with that row.
use Prim.Native.Nat.{ℕ, ◌+◌, ◌≤◌, ◌<◌}
use native.Mathlib.Omega.{arith}
use mathlib.Core.Path.{◌≡◌, refl, sym, ap, ap₂, subst, ◌∙◌}
use mathlib.Core.Bool.{Bool, true, false}
use mathlib.Core.List.{List, [], ◌∷◌, ◌++◌, map, map-map, map-append}
use lib.ListN.{length, get_or, drop, length-map, length-drop, get_or-append}
use lib.Seq.{take_all, get_or-append-add}
use lib.Dec.{T, eqb, eqb→eq, eqb_refl}
use lib.Ieee.{Float, nan}
use borrow.Author.Tests.{eqb-true, eqb-false, eq-eqb, ne_eqb}
use Rattle.layout.specs.General.Lists.{has, sum, up_from, below}
use Rattle.layout.specs.General.Triangle.{triangle}
use Rattle.layout.specs.Problems.Cones.{row_count}
use Rattle.layout.specs.Problems.Patterns.{clique_count}
use Rattle.layout.specs.Rows.Blocks.{Part, whole, cut, standard_rows, part_rows, block_row_count, cone_rows}
use Rattle.layout.specs.Joinings.Reverse.{add_at, column_count, averaged}
use Rattle.layout.proofs.Lists.Members.{get_or_map, get_or-below, length-up_from, has-below}
use Rattle.layout.proofs.Lists.Joins.{map_same, up_from_shift, up_from-append}
use Rattle.layout.proofs.Lists.Counting.{count-append, count_map, count_same, count_nowhere, count-once}
use Rattle.layout.proofs.Lists.Starts.{part_at}
use Rattle.layout.proofs.Lists.Walks.{walk_same}
use Rattle.layout.specs.Checks.{Laid}
use Rattle.reverse_standard.specs.Averages.{shared}
use Rattle.join_blocks.specs.Joins.{z_at, join_z, own_rows}
use Rattle.join_cones.specs.Parts.{s_part, z_part, s_cut, values_from}
use Rattle.join_cones.proofs.Inside.{rows_inside}
use Rattle.join_rows.proofs.Stretch.{rows_shifted}
use Rattle.join_rows.proofs.Parts.{zeros, laid-first, laid-rest, standard_part, standard_more, s_size, length_s_cut}

-- ---- numbers from a on

below_split : (n k : ℕ) → below (n + k) ≡ below n ++ map (λ o. n + o) (below k)
below_split n k =
    up_from-append 0 n k ∙ ap (λ (r : List ℕ). below n ++ r) (ap (λ (b : ℕ). up_from b k) (omega arith) ∙ up_from_shift n 0 k)

-- ---- the columns of H on the rows of a part

-- the original rows of a part's columns, counted from the first row of its cone
own_part : Part → List ℕ
own_part (whole i c row) = below (row_count c)
own_part (cut i row k p) = own_rows true p

part_shifted : (row : ℕ) (x : Part) → Laid row (x ∷ []) → standard_part x ≡ map (λ o. row + o) (own_part x)
unfolding own_part
part_shifted row (whole i c r) h = ap (λ (a : ℕ). up_from a (row_count c)) (omega (arith, h.0)) ∙ up_from_shift row 0 (row_count c)
part_shifted row (cut i r k p) h =
    ap (λ (a : ℕ). standard_part (cut i a k p)) h.0 ∙ rows_shifted p row (below (clique_count p))

own-inside : (x : Part) (k : ℕ) → k < length (own_part x) → get_or (own_part x) k 0 < cone_rows x
unfolding own_part
own-inside (whole i c row) k l =
    let m : k < row_count c = omega (arith, length-up_from 0 (row_count c)) in
    omega (arith, get_or-below (row_count c) k 0 m)
own-inside (cut i row k p) n l = rows_inside p (below (clique_count p)) n l

module _ (row : ℕ) (x : Part) (h : Laid row (x ∷ [])) where
  part-at-row : (i : ℕ) → i < length (standard_part x) → (k : ℕ) × (k < cone_rows x) × (get_or (standard_part x) i 0 ≡ row + k)
  part-at-row i l =
      let e = part_shifted row x h in
      let m : i < length (own_part x) = omega (arith, ap length e, length-map (own_part x) (λ o. row + o)) in
      (get_or (own_part x) i 0, own-inside x i m, ap (λ (xs : List ℕ). get_or xs i 0) e ∙ get_or_map (λ o. row + o) (own_part x) i 0 0 m)

  -- a row has as many of the part's columns as counted from the cone's first row
  part_columns : (o : ℕ) → column_count (standard_part x) (row + o) ≡ column_count (own_part x) o
  part_columns o =
      ap (λ (xs : List ℕ). column_count xs (row + o)) (part_shifted row x h) ∙ count_map (eqb (row + o)) (λ q. row + q) (own_part x)
      ∙ count_same (λ q. eqb (row + o) (row + q)) (eqb o) (own_part x) (λ q. same q (eqb o q) refl)
    where
      same : (q : ℕ) (b : Bool) → eqb o q ≡ b → eqb (row + o) (row + q) ≡ eqb o q
      same q true e = eq-eqb (row + o) (row + q) (omega (arith, eqb-true o q e)) ∙ sym e
      same q false e = ne_eqb (row + o) (row + q) (λ s. eqb-false o q e (omega (arith, s))) ∙ sym e

  -- the part has no columns on rows before its cone or after it
  no_columns : (q : ℕ) → ((k : ℕ) → k < cone_rows x → q ≡ row + k → ⊥) → column_count (standard_part x) q ≡ 0
  no_columns q out = count_nowhere (eqb q) 0 (standard_part x) outside
    where
      outside : (i : ℕ) → i < length (standard_part x) → T (eqb q (get_or (standard_part x) i 0)) → ⊥
      outside i l t = let (k, m, e) = part-at-row i l in out k m (eqb→eq q (get_or (standard_part x) i 0) t ∙ e)

none_before : (row : ℕ) (ps : List Part) → Laid row ps → (q : ℕ) → q < row → column_count (standard_rows ps) q ≡ 0
none_before row [] laid q h = refl
none_before row (x ∷ ps) laid q h =
    omega (
      arith,
      ap (λ (xs : List ℕ). column_count xs q) (standard_more x ps),
      count-append (eqb q) (standard_part x) (standard_rows ps),
      no_columns row x (laid-first row x ps laid) q (λ k m e. omega (arith, e)),
      none_before (row + cone_rows x) ps (laid-rest row x ps laid) q (omega arith),
    )

-- ---- the averages

part-averaged : (x : Part) (vs : List Float) → part_rows x ≤ length vs
    → map (λ o. shared (column_count (own_part x) o) (get_or (s_part true x vs) o nan)) (below (cone_rows x)) ≡ z_part true x vs
unfolding own_part
part-averaged (whole i c row) vs room =
    let n = row_count c in
    let S = s_part true (whole i c row) vs in
    let size : length S ≡ n = s_size true (whole i c row) vs room in
    let once : (o : ℕ) → o < n → column_count (below n) o ≡ 1 =
    λ o l. count-once (eqb o) 0 (below n) o (omega (arith, length-up_from 0 n)) (subst (λ (q : ℕ). T (eqb o q)) (sym (get_or-below n o 0 l)) (eqb_refl o))
    (λ j m t. sym (eqb→eq o (get_or (below n) j 0) t ∙ get_or-below n j 0 (omega (arith, length-up_from 0 n)))) in
    map_same (λ o. shared (column_count (below n) o) (get_or S o nan)) (λ o. get_or S o nan) (below n) (λ o k. ap (λ (q : ℕ). shared q (get_or S o nan)) (once o ((has-below o n).0 k)))
    ∙ part_at nan S 0 n (omega (arith, size)) ∙ take_all n S (omega (arith, size))
part-averaged (cut i row k p) vs room =
    let os = own_rows true p in
    let Z = zeros (triangle p.vertex_count) in
    let same : s_cut true p vs ≡ join_z true os vs Z = walk_same add_at (z_at true) (λ o v s. refl) os vs Z in
    ap (λ (ws : List Float). map (averaged os ws) (below (triangle p.vertex_count))) same
    ∙ ap (λ (n : ℕ). map (averaged os (join_z true os vs Z)) (below n)) (sym (sym (ap length same) ∙ length_s_cut true p vs))

pub z_standard : (row : ℕ) (ps : List Part) → Laid row ps → (vs : List Float) → block_row_count ps ≤ length vs
    → map (λ o. shared (column_count (standard_rows ps) (row + o)) (get_or (values_from (s_part true) ps vs) o nan)) (below (sum (map cone_rows ps))) ≡ values_from (z_part true) ps vs
z_standard row [] laid vs room = refl
z_standard row (x ∷ ps) laid vs room =
    ap (map here) (below_split n total) ∙ map-append here (below n) (map (λ o. n + o) (below total))
    ∙ ap₂ ◌++◌ (map_same here alone (below n) front ∙ part-averaged x vs (omega arith))
    (map-map here (λ o. n + o) (below total) ∙ map_same (λ o. here (n + o)) later (below total) back
    ∙ z_standard (row + n) ps (laid-rest row x ps laid) (drop (part_rows x) vs) (omega (arith, length-drop (part_rows x) vs)))
  where
    n : ℕ
    n = cone_rows x

    total : ℕ
    total = sum (map cone_rows ps)

    S : List Float
    S = s_part true x vs

    rest : List Float
    rest = values_from (s_part true) ps (drop (part_rows x) vs)

    size : length S ≡ n
    size = s_size true x vs (omega arith)

    here : ℕ → Float
    here o = shared (column_count (standard_rows (x ∷ ps)) (row + o)) (get_or (S ++ rest) o nan)

    alone : ℕ → Float
    alone o = shared (column_count (own_part x) o) (get_or S o nan)

    later : ℕ → Float
    later o = shared (column_count (standard_rows ps) (row + n + o)) (get_or rest o nan)

    both : (q : ℕ) → column_count (standard_rows (x ∷ ps)) q ≡ column_count (standard_part x) q + column_count (standard_rows ps) q
    both q = ap (λ (xs : List ℕ). column_count xs q) (standard_more x ps) ∙ count-append (eqb q) (standard_part x) (standard_rows ps)

    front : (o : ℕ) → T (has o (below n)) → here o ≡ alone o
    front o k =
        let l : o < n = (has-below o n).0 k in
        let columns : column_count (standard_rows (x ∷ ps)) (row + o) ≡ column_count (own_part x) o =
        omega (arith, both (row + o), part_columns row x (laid-first row x ps laid) o, none_before (row + n) ps (laid-rest row x ps laid) (row + o) (omega arith)) in
        ap₂ shared columns (get_or-append S rest nan o (omega (arith, size)))

    back : (o : ℕ) → T (has o (below total)) → here (n + o) ≡ later o
    back o k =
        let there : row + (n + o) ≡ row + n + o = omega arith in
        let columns : column_count (standard_rows (x ∷ ps)) (row + (n + o)) ≡ column_count (standard_rows ps) (row + n + o) =
        omega (
          arith,
          both (row + (n + o)),
          no_columns row x (laid-first row x ps laid) (row + (n + o)) (λ j m e. omega (arith, e)),
          ap (column_count (standard_rows ps)) there,
        ) in
        ap₂ shared columns (ap (λ (j : ℕ). get_or (S ++ rest) (j + o) nan) (sym size) ∙ get_or-append-add S rest o nan)

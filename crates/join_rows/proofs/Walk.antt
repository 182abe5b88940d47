-- One output during the walk over the cones, and at its end.
use Prim.Native.Nat.{ℕ, ◌+◌, ◌-◌, ◌≤◌}
use native.Mathlib.Nat.{add-sub_cancel_left}
use native.Mathlib.Omega.{arith}
use mathlib.Core.Path.{◌≡◌, refl, sym, ap, ap₂, ◌∙◌}
use mathlib.Core.Bool.{Bool, true, false}
use mathlib.Core.List.{List, [], ◌∷◌, ◌++◌, map, append_assoc, append-nil}
use lib.ListN.{length, get_or, take, drop, replicate, length-append, length-drop, take-append-drop}
use lib.Seq.{length-take-le, take_at, take-append-add, drop-append-add, drop-drop}
use lib.Ieee.{Float, nan}
use Rattle.layout.specs.General.Lists.{sum, below, written, part}
use Rattle.layout.specs.General.Floats.{zero64}
use Rattle.layout.specs.Problems.Cones.{Cone, row_count}
use Rattle.layout.specs.Rows.Blocks.{Part, whole, part_rows, compact_rows, standard_rows, block_row_count, cone_rows}
use Rattle.layout.specs.Checks.{Sound}
use Rattle.layout.specs.Calls.Join.{joined_parts}
use Rattle.layout.specs.Joinings.Reverse.{add_rows, put_rows, add_columns, column_count, averaged}
use Rattle.layout.proofs.Lists.Joins.{map_same}
use Rattle.layout.proofs.Lists.Starts.{length-written}
use Rattle.layout.proofs.Rows.Laid.{sound-laid, sound-total}
use Rattle.reverse_standard.specs.Averages.{shared}
use Rattle.join_cones.specs.Parts.{whole_values, s_part, z_part, values_from, written_at}
use Rattle.join_cones.proofs.Laws.{length_whole}
use Rattle.join_rows.specs.Joined.{Joinable, joined_of, route_if, first_of}
use Rattle.join_rows.proofs.Parts.{zeros, s_standard, s_compact, z_compact}
use Rattle.join_rows.proofs.Averages.{z_standard}

-- ---- the walk: the rows before `row` are joined, those of the parts ahead are still to join, and nothing from m on is written

pub record Joins (f : Part → List Float → List Float) (m : ℕ) (full vs old : List Float) (ahead : List Part) (row t : ℕ) (out : List Float) : Type 0 where
  pub size : length out ≡ length old
  pub front : take row out ++ values_from f ahead (drop t vs) ≡ full
  pub rest : drop m out ≡ drop m old

module _ (f : Part → List Float → List Float) (m : ℕ) (vs old : List Float) (room : m ≤ length old) where
  pub joins_none : (ps ahead : List Part) (t : ℕ) → ahead ≡ ps → Joins f m (values_from f ps (drop t vs)) vs old ahead 0 t old
  joins_none ps ahead t e = record { size = refl; front = ap (λ (qs : List Part). values_from f qs (drop t vs)) e; rest = refl }

  -- the state after the next part's rows are joined
  pub joins_more : (full : List Float) (x : Part) (ps ahead : List Part) (row t n next : ℕ) (out new : List Float) → Joins f m full vs old ahead row t out → ahead ≡ x ∷ ps
      → row + n ≤ m → next ≡ t + part_rows x → length (f x (drop t vs)) ≡ n → new ≡ written_at row (f x (drop t vs)) out → Joins f m full vs old ps (row + n) next new
  joins_more full x ps ahead row t n next out new h e fits used wide w = record {
    size = ap length w ∙ length-append A (written xs (drop row out)) ∙ omega (arith, before, length-written xs (drop row out) (omega (arith, behind)), behind, h.size);
    front =
        ap (λ (r : List Float). r ++ later (drop next vs)) (ap (take (row + n)) w ∙ joined)
        ∙ append_assoc A xs (later (drop next vs))
        ∙ ap (λ (r : List Float). A ++ (xs ++ later r)) (ap (λ (j : ℕ). drop j vs) used ∙ sym (drop-drop (part_rows x) t vs))
        ∙ ap (λ (qs : List Part). A ++ values_from f qs (drop t vs)) (sym e) ∙ h.front;
    rest = ap (drop m) w ∙ kept ∙ h.rest;
  }
    where
      xs : List Float
      xs = f x (drop t vs)

      A : List Float
      A = take row out

      later : List Float → List Float
      later = values_from f ps

      before : length A ≡ row
      before = length-take-le row out (omega (arith, h.size))

      behind : length (drop row out) ≡ length out - row
      behind = length-drop row out

      joined : take (row + n) (written_at row xs out) ≡ A ++ xs
      joined =
          ap (λ (k : ℕ). take (k + n) (A ++ written xs (drop row out))) (sym before) ∙ take-append-add A (written xs (drop row out)) n
          ∙ ap (λ (r : List Float). A ++ r) (take_at xs (drop (length xs) (drop row out)) n wide)

      kept : drop m (written_at row xs out) ≡ drop m out
      kept =
          let d : ℕ = m - (row + n) in
          let one : m ≡ length A + (n + d) = omega (arith, before) in
          let two : n + d ≡ length xs + d = omega (arith, wide) in
          let three : row + (length xs + d) ≡ m = omega (arith, wide) in
          ap (λ (k : ℕ). drop k (A ++ written xs (drop row out))) one ∙ drop-append-add A (written xs (drop row out)) (n + d)
          ∙ ap (λ (k : ℕ). drop k (written xs (drop row out))) two ∙ drop-append-add xs (drop (length xs) (drop row out)) d
          ∙ drop-drop d (length xs) (drop row out) ∙ drop-drop (length xs + d) row out
          ∙ ap (λ (k : ℕ). drop k out) three

  -- the state after an undecomposed cone
  pub joins_whole : (full : List Float) (standard : Bool) (i : ℕ) (c : Cone) (at : ℕ) (ps ahead : List Part) (row t n : ℕ) (out new : List Float)
      → ((ws : List Float) → f (whole i c at) ws ≡ whole_values standard (take (row_count c) ws)) → Joins f m full vs old ahead row t out → ahead ≡ whole i c at ∷ ps
      → row + n ≤ m → n ≡ row_count c → t + n ≤ length vs → new ≡ written_at row (whole_values standard (part t (t + n) vs)) out → Joins f m full vs old ps (row + n) (t + n) new
  joins_whole full standard i c at ps ahead row t n out new is h e fits used inside w =
      joins_more full (whole i c at) ps ahead row t n (t + n) out new h e fits (ap (λ (k : ℕ). t + k) used) wide (w ∙ ap (λ (xs : List Float). written_at row xs out) values)
    where
      values : whole_values standard (part t (t + n) vs) ≡ f (whole i c at) (drop t vs)
      values = ap (λ (k : ℕ). whole_values standard (take k (drop t vs))) (add-sub_cancel_left t n ∙ used) ∙ sym (is (drop t vs))

      wide : length (f (whole i c at) (drop t vs)) ≡ n
      wide =
          ap length (is (drop t vs)) ∙ length_whole standard (take (row_count c) (drop t vs))
          ∙ length-take-le (row_count c) (drop t vs) (omega (arith, length-drop t vs)) ∙ sym used

  -- if no part is left, the output is complete
  pub joins_done : (full : List Float) (ahead : List Part) (row t : ℕ) (out : List Float) → Joins f m full vs old ahead row t out → ahead ≡ [] → row ≡ m
      → out ≡ written full old
  joins_done full ahead row t out h e r =
      let all : take m out ≡ full =
      sym (append-nil (take m out)) ∙ ap (λ (k : ℕ). take k out ++ []) (sym r) ∙ ap (λ (qs : List Part). take row out ++ values_from f qs (drop t vs)) (sym e) ∙ h.front in
      let wide : m ≡ length full = sym (length-take-le m out (omega (arith, h.size))) ∙ ap length all in
      sym (take-append-drop m out) ∙ ap₂ ◌++◌ all (h.rest ∙ ap (λ (k : ℕ). drop k old) wide)

-- ---- the values of the parts are those of the layout, for cones and patterns that passed the checks

module _ {m : ℕ} {cones : List ℕ} {count : ℕ} {words : List ℕ} (h : Sound m cones count words) (vs : List Float)
    (room : block_row_count (joined_parts cones count words) ≤ length vs) where
  abbrev ps : List Part
  ps = joined_parts cones count words

  rows : sum (map cone_rows ps) ≡ m
  rows = sound-total h

  standard_s : values_from (s_part true) (joined_parts cones count words) vs ≡ add_columns (standard_rows (joined_parts cones count words)) vs (replicate m zero64)
  standard_s = sym (s_standard 0 ps (sound-laid h).0 vs [] refl room) ∙ ap (λ (n : ℕ). add_columns (standard_rows ps) vs (zeros n)) rows

  standard_z : values_from (z_part true) (joined_parts cones count words) vs
      ≡ map (averaged (standard_rows (joined_parts cones count words)) (add_columns (standard_rows (joined_parts cones count words)) vs (replicate m zero64))) (below m)
  standard_z =
      let os = standard_rows ps in
      let ws = values_from (s_part true) ps vs in
      sym (z_standard 0 ps (sound-laid h).0 vs room)
      ∙ map_same (λ o. shared (column_count os (0 + o)) (get_or ws o nan)) (averaged os ws) (below (sum (map cone_rows ps)))
      (λ o k. let e : 0 + o ≡ o = omega arith in ap (λ (q : ℕ). shared (column_count os q) (get_or ws o nan)) e)
      ∙ ap₂ (λ (xs : List Float) (n : ℕ). map (averaged os xs) (below n)) standard_s rows

  compact_s : values_from (s_part false) (joined_parts cones count words) vs ≡ add_rows (compact_rows (joined_parts cones count words)) vs (replicate m zero64)
  compact_s = sym (s_compact 0 0 ps (sound-laid h).0 vs [] refl room) ∙ ap (λ (n : ℕ). add_rows (compact_rows ps) vs (zeros n)) rows

  compact_z : values_from (z_part false) (joined_parts cones count words) vs ≡ put_rows (compact_rows (joined_parts cones count words)) vs (replicate m zero64)
  compact_z = sym (z_compact 0 0 ps (sound-laid h).0 vs [] refl room) ∙ ap (λ (n : ℕ). put_rows (compact_rows ps) vs (zeros n)) rows

-- ---- what the checks establish of s and z, on either route

-- the values of the parts come last in s and z
pub values_last : (standard : Bool) {m : ℕ} {cones : List ℕ} {count : ℕ} {words : List ℕ} {s z : List Float} → Joinable (route_if standard) m cones count words s z
    → length s ≡ first_of standard m + block_row_count (joined_parts cones count words)
values_last true j = j.slacks
values_last false j = omega (arith, j.slacks)

pub same_count : (standard : Bool) {m : ℕ} {cones : List ℕ} {count : ℕ} {words : List ℕ} {s z : List Float} → Joinable (route_if standard) m cones count words s z
    → length z ≡ length s
same_count standard j = j.duals ∙ sym j.slacks

pub joined_s : (standard : Bool) {m : ℕ} {cones : List ℕ} {count : ℕ} {words : List ℕ} {s z : List Float} → Joinable (route_if standard) m cones count words s z
    → values_from (s_part standard) (joined_parts cones count words) (drop (first_of standard m) s) ≡ (joined_of (route_if standard) m cones count words s z).s
joined_s true {m} {s = s} j = standard_s j.sound (drop m s) (omega (arith, length-drop m s, j.slacks))
joined_s false {s = s} j = compact_s j.sound s (omega (arith, j.slacks))

pub joined_z : (standard : Bool) {m : ℕ} {cones : List ℕ} {count : ℕ} {words : List ℕ} {s z : List Float} → Joinable (route_if standard) m cones count words s z
    → values_from (z_part standard) (joined_parts cones count words) (drop (first_of standard m) z) ≡ (joined_of (route_if standard) m cones count words s z).z
joined_z true {m} {z = z} j = standard_z j.sound (drop m z) (omega (arith, length-drop m z, j.duals))
joined_z false {z = z} j = compact_z j.sound z (omega (arith, j.duals))

-- The values joined part by part are those of the layout.
use Prim.Native.Nat.{ℕ, ◌+◌, ◌≤◌}
use native.Mathlib.Omega.{arith}
use mathlib.Core.Path.{◌≡◌, refl, sym, ap, ap₂, ◌∙◌}
use mathlib.Core.Bool.{Bool, true, false}
use mathlib.Core.List.{List, [], ◌∷◌, ◌++◌, map, reverse, append_assoc, map-id}
use lib.ListN.{length, get_or, take, drop, replicate, length-set, length-append, length-drop, length-map, length-replicate, replicate-append-replicate}
use lib.Seq.{length-take-le}
use lib.Ieee.{Float, nan, add, binary64}
use Rattle.layout.specs.General.Lists.{sum, up_from, below, walk}
use Rattle.layout.specs.General.Floats.{zero64}
use Rattle.layout.specs.General.Triangle.{triangle}
use Rattle.layout.specs.Problems.Cones.{row_count}
use Rattle.layout.specs.Problems.Patterns.{Pattern, clique_count}
use Rattle.layout.specs.Rows.Blocks.{Part, whole, cut, Row, kept, original_row, pattern_rows, rows_from, standard_rows, part_rows, block_row_count, cone_rows}
use Rattle.layout.specs.Joinings.Reverse.{add_at, put_at, add_row, put_row, add_rows, put_rows, add_columns, averaged}
use Rattle.layout.proofs.Lists.Members.{length-up_from}
use Rattle.layout.proofs.Lists.Walks.{walk-append, walk_as, length-walk}
use Rattle.layout.proofs.Rows.Rows.{rows-count}
use Rattle.layout.specs.Checks.{Laid}
use Rattle.rows_blocks.specs.Codes.{standard_pattern_rows}
use Rattle.rows_blocks.proofs.Patterns.{original-rows, standard_rows-count}
use Rattle.join_blocks.specs.Joins.{join_z, own_rows}
use Rattle.join_cones.specs.Parts.{s_cut, z_cut, s_part, z_part, values_from}
use Rattle.join_cones.proofs.Laws.{length_whole}
use Rattle.join_cones.proofs.Inside.{pair_rows, rows_inside}
use Rattle.join_rows.proofs.Stretch.{join_at, shifted, fresh, rows_shifted, adds-all}

-- ---- any joining that goes part by part

-- if parts are laid out from a row on, the first of them is
pub laid-first : (row : ℕ) (x : Part) (ps : List Part) → Laid row (x ∷ ps) → Laid row (x ∷ [])
laid-first row (whole i c r) ps h = (h.0, tt)
laid-first row (cut i r k p) ps h = (h.0, h.1, tt)

pub laid-rest : (row : ℕ) (x : Part) (ps : List Part) → Laid row (x ∷ ps) → Laid (row + cone_rows x) ps
laid-rest row (whole i c r) ps h = h.1
laid-rest row (cut i r k p) ps h = h.2

module _ {A : Type 0} (f : A → Float → List Float → List Float) (own : Part → List Float → List Float)
    (R : ℕ → Part → List A) (all : ℕ → List Part → List A)
    (none : (first : ℕ) → all first [] ≡ []) (more : (first : ℕ) (x : Part) (ps : List Part) → all first (x ∷ ps) ≡ R first x ++ all (first + part_rows x) ps)
    (count : (first row : ℕ) (x : Part) → Laid row (x ∷ []) → length (R first x) ≡ part_rows x)
    (size : (x : Part) (vs : List Float) → part_rows x ≤ length vs → length (own x vs) ≡ cone_rows x)
    (alone : (first row : ℕ) (x : Part) → Laid row (x ∷ []) → (vs pre tail : List Float) → length pre ≡ row → part_rows x ≤ length vs
    → walk f (R first x) vs (pre ++ (replicate (cone_rows x) zero64 ++ tail)) ≡ pre ++ (own x vs ++ tail)) where
  by_parts : (first row : ℕ) (ps : List Part) → Laid row ps → (vs pre : List Float) → length pre ≡ row → block_row_count ps ≤ length vs
      → walk f (all first ps) vs (pre ++ replicate (sum (map cone_rows ps)) zero64) ≡ pre ++ values_from own ps vs
  by_parts first row [] laid vs pre e room = ap (λ (xs : List A). walk f xs vs (pre ++ [])) (none first)
  by_parts first row (x ∷ ps) laid vs pre e room =
      let n = cone_rows x in
      let zeros = replicate (sum (map cone_rows ps)) zero64 in
      let one = laid-first row x ps laid in
      let rest = all (first + part_rows x) ps in
      let pre' = pre ++ own x vs in
      let here : part_rows x ≤ length vs = omega arith in
      let wide : length pre' ≡ row + n = omega (arith, length-append pre (own x vs), size x vs here) in
      ap₂ (λ (xs : List A) (ws : List Float). walk f xs vs (pre ++ ws)) (more first x ps) (sym (replicate-append-replicate n (sum (map cone_rows ps)) zero64))
      ∙ walk-append f (R first x) rest vs (pre ++ (replicate n zero64 ++ zeros))
      ∙ ap₂ (λ (k : ℕ) (ws : List Float). walk f rest (drop k vs) ws) (count first row x one) (alone first row x one vs pre zeros e here ∙ sym (append_assoc pre (own x vs) zeros))
      ∙ by_parts (first + part_rows x) (row + n) ps (laid-rest row x ps laid) (drop (part_rows x) vs) pre' wide (omega (arith, length-drop (part_rows x) vs))
      ∙ append_assoc pre (own x vs) (values_from own ps (drop (part_rows x) vs))

-- ---- the number of values of a part

length-added : (os : List ℕ) (vs ws : List Float) → length (add_columns os vs ws) ≡ length ws
length-added os vs ws = length-walk add_at (λ o v s. length-set s o (add binary64 (get_or s o nan) v)) os vs ws

length-joined : (standard : Bool) (os : List ℕ) (vs ws : List Float) → length (join_z standard os vs ws) ≡ length ws
length-joined true os vs ws = length-added os vs ws
length-joined false os vs ws = length-walk put_at (λ o v s. length-set s o v) os vs ws

pub length_s_cut : (standard : Bool) (p : Pattern) (vs : List Float) → length (s_cut standard p vs) ≡ triangle p.vertex_count
length_s_cut standard p vs =
    length-added (own_rows standard p) vs (replicate (triangle p.vertex_count) zero64) ∙ length-replicate (triangle p.vertex_count) zero64

pub length_z_cut : (standard : Bool) (p : Pattern) (vs : List Float) → length (z_cut standard p vs) ≡ triangle p.vertex_count
length_z_cut standard p vs = averaged-length standard ∙ length-joined standard (own_rows standard p) vs zeros ∙ length-replicate (triangle p.vertex_count) zero64
  where
    zeros : List Float
    zeros = replicate (triangle p.vertex_count) zero64

    averaged-length : (standard : Bool) → length (z_cut standard p vs) ≡ length (join_z standard (own_rows standard p) vs zeros)
    averaged-length true =
        let ws = join_z true (own_rows true p) vs zeros in
        length-map (below (length ws)) (averaged (own_rows true p) ws) ∙ length-up_from 0 (length ws)
    averaged-length false = refl

-- ---- the standard route's s

abbrev pub zeros : ℕ → List Float
zeros n = replicate n zero64

abbrev pub standard_part : Part → List ℕ
standard_part (whole i c row) = up_from row (row_count c)
standard_part (cut i row k p) = standard_pattern_rows p row

pub standard_more : (x : Part) (ps : List Part) → standard_rows (x ∷ ps) ≡ standard_part x ++ standard_rows ps
standard_more (whole i c row) ps = refl
standard_more (cut i row k p) ps = refl

standard_count : (row : ℕ) (x : Part) → Laid row (x ∷ []) → length (standard_part x) ≡ part_rows x
standard_count row (whole i c r) h = length-up_from r (row_count c)
standard_count row (cut i r k p) h = standard_rows-count p h.1 r

pub s_size : (standard : Bool) (x : Part) (vs : List Float) → part_rows x ≤ length vs → length (s_part standard x vs) ≡ cone_rows x
s_size standard (whole i c row) vs h = length_whole standard (take (row_count c) vs) ∙ length-take-le (row_count c) vs h
s_size standard (cut i row k p) vs h = length_s_cut standard p vs

z_size : (standard : Bool) (x : Part) (vs : List Float) → part_rows x ≤ length vs → length (z_part standard x vs) ≡ cone_rows x
z_size standard (whole i c row) vs h = length_whole standard (take (row_count c) vs) ∙ length-take-le (row_count c) vs h
z_size standard (cut i row k p) vs h = length_z_cut standard p vs

-- the rows of a cone joined on their own: an undecomposed cone, or a decomposed one with rows cs
module _ (g : Float → Float → Float) (row : ℕ) (vs pre tail : List Float) (e : length pre ≡ row) where
  whole_alone : (r n : ℕ) → r ≡ row → n ≤ length vs → walk (join_at g) (up_from r n) vs (pre ++ (zeros n ++ tail)) ≡ pre ++ (map (g zero64) (take n vs) ++ tail)
  whole_alone r n q h = ap (λ (a : ℕ). walk (join_at g) (up_from a n) vs (pre ++ (zeros n ++ tail))) (q ∙ sym e) ∙ fresh g n zero64 vs pre tail h

  cut_alone : (r : ℕ) (p : Pattern) (cs : List ℕ) → r ≡ row
      → walk (join_at g) (pair_rows p r cs) vs (pre ++ (zeros (triangle p.vertex_count) ++ tail)) ≡ pre ++ (walk (join_at g) (pair_rows p 0 cs) vs (zeros (triangle p.vertex_count)) ++ tail)
  cut_alone r p cs q =
      let mid = zeros (triangle p.vertex_count) in
      ap (λ (a : ℕ). walk (join_at g) (pair_rows p a cs) vs (pre ++ (mid ++ tail))) (q ∙ sym e)
      ∙ ap (λ (os : List ℕ). walk (join_at g) os vs (pre ++ (mid ++ tail))) (rows_shifted p (length pre) cs)
      ∙ shifted g (pair_rows p 0 cs) vs pre mid tail (λ k l. omega (arith, rows_inside p cs k l, length-replicate (triangle p.vertex_count) zero64))

abbrev added : Float → Float → Float
added = add binary64

abbrev put : Float → Float → Float
put old v = v

standard_alone : (row : ℕ) (x : Part) → Laid row (x ∷ []) → (vs pre tail : List Float) → length pre ≡ row → part_rows x ≤ length vs
    → walk add_at (standard_part x) vs (pre ++ (zeros (cone_rows x) ++ tail)) ≡ pre ++ (s_part true x vs ++ tail)
standard_alone row (whole i c r) h vs pre tail e room = whole_alone added row vs pre tail e r (row_count c) h.0 room
standard_alone row (cut i r k p) h vs pre tail e room = cut_alone added row vs pre tail e r p (below (clique_count p)) h.0

pub s_standard : (row : ℕ) (ps : List Part) → Laid row ps → (vs pre : List Float) → length pre ≡ row → block_row_count ps ≤ length vs
    → add_columns (standard_rows ps) vs (pre ++ zeros (sum (map cone_rows ps))) ≡ pre ++ values_from (s_part true) ps vs
s_standard row ps =
    by_parts add_at (s_part true) (λ first. standard_part) (λ first. standard_rows) (λ first. refl) (λ first. standard_more) (λ first. standard_count) (s_size true)
    (λ first. standard_alone) 0 row ps

-- ---- the compact route

compact_part : ℕ → Part → List Row
compact_part first (whole i c row) = map kept (up_from row (row_count c))
compact_part first (cut i row k p) = pattern_rows p row first

compact_more : (first : ℕ) (x : Part) (ps : List Part) → rows_from first (x ∷ ps) ≡ compact_part first x ++ rows_from (first + part_rows x) ps
unfolding compact_part
compact_more first (whole i c row) ps = refl
compact_more first (cut i row k p) ps = refl

compact_count : (first row : ℕ) (x : Part) → Laid row (x ∷ []) → length (compact_part first x) ≡ part_rows x
unfolding compact_part
compact_count first row (whole i c r) h = length-map (up_from r (row_count c)) kept ∙ length-up_from r (row_count c)
compact_count first row (cut i r k p) h = rows-count p h.1 r first

-- the values of an undecomposed cone are copied, for s and for z
kept_put : (f : Row → Float → List Float → List Float) → ((o : ℕ) (v : Float) (s : List Float) → put_at o v s ≡ f (kept o) v s)
    → (row r n : ℕ) → r ≡ row → (vs pre tail : List Float) → length pre ≡ row → n ≤ length vs
    → walk f (map kept (up_from r n)) vs (pre ++ (zeros n ++ tail)) ≡ pre ++ (take n vs ++ tail)
kept_put f same row r n q vs pre tail e room =
    sym (walk_as put_at f kept same (up_from r n) vs (pre ++ (zeros n ++ tail))) ∙ whole_alone put row vs pre tail e r n q room
    ∙ ap (λ (xs : List Float). pre ++ (xs ++ tail)) (map-id (take n vs))

s_alone : (first row : ℕ) (x : Part) → Laid row (x ∷ []) → (vs pre tail : List Float) → length pre ≡ row → part_rows x ≤ length vs
    → walk add_row (compact_part first x) vs (pre ++ (zeros (cone_rows x) ++ tail)) ≡ pre ++ (s_part false x vs ++ tail)
unfolding compact_part
s_alone first row (whole i c r) h vs pre tail e room = kept_put add_row (λ o v s. refl) row r (row_count c) h.0 vs pre tail e room
s_alone first row (cut i r k p) h vs pre tail e room =
    let cs = reverse (below (clique_count p)) in
    adds-all p r first cs vs (pre ++ (zeros (triangle p.vertex_count) ++ tail)) ∙ cut_alone added row vs pre tail e r p cs h.0
    ∙ ap (λ (os : List ℕ). pre ++ (add_columns os vs (zeros (triangle p.vertex_count)) ++ tail)) (sym (original-rows p h.1 0 0))

z_alone : (first row : ℕ) (x : Part) → Laid row (x ∷ []) → (vs pre tail : List Float) → length pre ≡ row → part_rows x ≤ length vs
    → walk put_row (compact_part first x) vs (pre ++ (zeros (cone_rows x) ++ tail)) ≡ pre ++ (z_part false x vs ++ tail)
unfolding compact_part
z_alone first row (whole i c r) h vs pre tail e room = kept_put put_row (λ o v s. refl) row r (row_count c) h.0 vs pre tail e room
z_alone first row (cut i r k p) h vs pre tail e room =
    let cs = reverse (below (clique_count p)) in
    let mid = zeros (triangle p.vertex_count) in
    walk_as put_row put_at original_row (λ x v s. refl) (pattern_rows p r first) vs (pre ++ (mid ++ tail))
    ∙ ap (λ (os : List ℕ). walk put_at os vs (pre ++ (mid ++ tail))) (original-rows p h.1 r first)
    ∙ cut_alone put row vs pre tail e r p cs h.0
    ∙ ap (λ (os : List ℕ). pre ++ (walk put_at os vs mid ++ tail)) (sym (original-rows p h.1 0 0))

pub s_compact : (first row : ℕ) (ps : List Part) → Laid row ps → (vs pre : List Float) → length pre ≡ row → block_row_count ps ≤ length vs
    → add_rows (rows_from first ps) vs (pre ++ zeros (sum (map cone_rows ps))) ≡ pre ++ values_from (s_part false) ps vs
s_compact = by_parts add_row (s_part false) compact_part rows_from (λ first. refl) compact_more compact_count (s_size false) s_alone

pub z_compact : (first row : ℕ) (ps : List Part) → Laid row ps → (vs pre : List Float) → length pre ≡ row → block_row_count ps ≤ length vs
    → put_rows (rows_from first ps) vs (pre ++ zeros (sum (map cone_rows ps))) ≡ pre ++ values_from (z_part false) ps vs
z_compact = by_parts put_row (z_part false) compact_part rows_from (λ first. refl) compact_more compact_count (z_size false) z_alone

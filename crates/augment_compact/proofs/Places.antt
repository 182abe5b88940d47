-- The table from original row to augmented row, and the conditions that the columns of an accepted problem meet.
use Prim.Native.Nat.{ℕ, zero, suc, ◌+◌, ◌≤◌, ◌<◌, suc-le-suc, zero-le}
use native.Mathlib.Nat.{le_of_suc-le-suc, not-suc-le-zero, zero-add}
use native.Mathlib.Omega.{arith}
use mathlib.Core.Path.{◌≡◌, refl, ap, sym, ◌∙◌}
use mathlib.Core.Bool.{Bool, true, false, cond}
use mathlib.Core.List.{List, [], ◌∷◌, map}
use lib.ListN.{length, get_or, set, length-set, length-map}
use lib.Seq.{get_or-set_same, get_or-set_other}
use lib.Dec.{T, ltb, leb}
use borrow.Author.Tests.{lt-ltb}
use Rattle.layout.specs.General.Lists.{has, all, below, Below, never_falls}
use Rattle.layout.specs.Problems.Problem.{Problem, compact}
use Rattle.layout.specs.Rows.Blocks.{Row, kept, owned, overlap, original_row, compact_rows, block_row_count, overlap_count}
use Rattle.layout.specs.Checks.{layout, refusal, checks, column_rows, covered_rows}
use Rattle.layout.proofs.Lists.Tests.{and_iff, leb_iff, ltb_iff}
use Rattle.layout.proofs.Lists.Members.{get_or_map, has-map, has_get_or, has-below, all-has}
use Rattle.layout.proofs.Checks.Order.{passed}
use Rattle.layout.proofs.Checks.Accepted.{accepted_checked}
use Rattle.layout.proofs.Rows.Laid.{accepted-count}
use Rattle.layout.proofs.Rows.Moves.{row_at, is_moved, RightRows}
use Rattle.layout.proofs.Columns.Cut.{right-rows, covered_entries}
use Rattle.layout.proofs.Columns.Columns.{right_A}
use Rattle.rows_codes.specs.Codes.{cut_code}
use Rattle.rows_codes.proofs.Rows.{rows_inside}
use Rattle.cut_columns.specs.Marks.{Placing}
use Rattle.augment_compact.specs.Places.{row_table, ColumnsInOrder}

-- ---- the table

choice_length : (b : Bool) (t : List ℕ) (c r : ℕ) → length (cond b (set t c r) t) ≡ length t
choice_length true t c r = length-set t c r
choice_length false t c r = refl

length_placed : (r : ℕ) (cs t : List ℕ) → length (row_table r cs t) ≡ length t
length_placed r [] t = refl
length_placed r (c ∷ cs) t =
    length_placed (suc r) cs (cond (ltb c 65536) (set t c r) t) ∙ choice_length (ltb c 65536) t c r

-- a row that is no code keeps its entry in the table
placed_other : (r : ℕ) (cs t : List ℕ) (o : ℕ) → ((j : ℕ) → j < length cs → get_or cs j 0 ≡ o → ⊥) → get_or (row_table r cs t) o 0 ≡ get_or t o 0
placed_other r [] t o h = refl
placed_other r (c ∷ cs) t o h =
    placed_other (suc r) cs (cond (ltb c 65536) (set t c r) t) o (λ j l. h (suc j) (suc-le-suc l)) ∙ pick (ltb c 65536)
  where
    pick : (b : Bool) → get_or (cond b (set t c r) t) o 0 ≡ get_or t o 0
    pick true = get_or-set_other t c o r 0 (λ e. h 0 (suc-le-suc zero-le) (sym e))
    pick false = refl

-- a row that is the code at exactly one index i is mapped to r + i
placed_here : (r : ℕ) (cs t : List ℕ) (i : ℕ) → i < length cs → get_or cs i 0 < 65536 → get_or cs i 0 < length t
    → ((j : ℕ) → j < length cs → get_or cs j 0 ≡ get_or cs i 0 → j ≡ i) → get_or (row_table r cs t) (get_or cs i 0) 0 ≡ r + i
placed_here r [] t i l s b once = absurd (not-suc-le-zero l)
placed_here r (c ∷ cs) t zero l s b once =
    rw (lt-ltb c 65536 s)
    (placed_other (suc r) cs (set t c r) c (λ j m e. let z = once (suc j) (suc-le-suc m) e in absurd (omega arith))
    ∙ get_or-set_same t c r 0 b ∙ omega arith)
placed_here r (c ∷ cs) t (suc i) l s b once =
    placed_here (suc r) cs (cond (ltb c 65536) (set t c r) t) i (le_of_suc-le-suc l) s (omega (arith, choice_length (ltb c 65536) t c r))
    (λ j m e. let z = once (suc j) (suc-le-suc m) e in omega arith)
    ∙ omega arith

-- ---- codes of rows

module _ (m : ℕ) (few : m ≤ 65536) (R : List Row) (right : RightRows 0 0 m R) where
  abbrev codes : List ℕ
  codes = map cut_code R

  size : length codes ≡ length R
  size = length-map R cut_code

  code_at : (r : ℕ) → r < length R → get_or codes r 0 ≡ cut_code (row_at R r)
  code_at r l = get_or_map cut_code R r (kept 0) 0 l

  -- the code of a row whose values are moved is its original row
  code_moved : (x : Row) → T (is_moved x) → cut_code x ≡ original_row x
  code_moved (kept o) h = refl
  code_moved (owned o) h = refl
  code_moved (overlap o q) h = absurd h

  moved-small : (x : Row) → cut_code x < 65536 → T (is_moved x)
  moved-small (kept o) l = tt
  moved-small (owned o) l = tt
  moved-small (overlap o q) l = absurd (omega arith)

  -- codes below 65,536 are duplicate-free
  code_once : (r s : ℕ) → r < length codes → s < length codes → get_or codes s 0 ≡ get_or codes r 0 → get_or codes r 0 < 65536 → s ≡ r
  code_once r s l k e small =
      let lr : r < length R = omega (arith, size) in
      let ls : s < length R = omega (arith, size) in
      let er = code_at r lr in
      let es = code_at s ls in
      let mr = moved-small (row_at R r) (rw er at small) in
      let ms = moved-small (row_at R s) (omega (arith, es, e, small)) in
      right.once s r ls lr ms mr (sym (code_moved (row_at R s) ms) ∙ sym es ∙ e ∙ er ∙ code_moved (row_at R r) mr)

  places_own : (t : List ℕ) → m ≤ length t → (r : ℕ) → r < length (map cut_code R) → get_or (map cut_code R) r 0 < 65536
      → get_or (row_table 0 (map cut_code R) t) (get_or (map cut_code R) r 0) 0 ≡ r
  places_own t b r l s =
      placed_here 0 codes t r l s (rows_inside (length t) R (λ j k. omega (arith, (right.inside j k).1)) r l s) (λ j k e. code_once r j l k e s) ∙ zero-add r

  -- a code is below 65,536 plus the number of augmented rows
  code_small : (r : ℕ) → r < length R → (x : Row) → row_at R r ≡ x → original_row x < m → cut_code x < 65536 + length R
  code_small r l (kept o) e i = omega arith
  code_small r l (owned o) e i = omega arith
  code_small r l (overlap o q) e i = let (s, k, f, g) = right.tied r o q l e in omega arith

  codes_small : (r : ℕ) → r < length (map cut_code R) → get_or (map cut_code R) r 0 < 65536 + length R
  codes_small r l =
      let k : r < length R = omega (arith, size) in
      rw (code_at r k) (code_small r k (row_at R r) refl (right.inside r k).1)

  -- a covered row occurs among the codes
  code_found : (o : ℕ) → T (has o (map original_row R)) → (s : ℕ) × (s < length codes) × (get_or codes s 0 ≡ o)
  code_found o h =
      let (r, l, e) = (has-map (kept 0) original_row o R).0 h in
      let (s, k, moves, f) = right.before r l in
      let ls : s < length R = omega arith in
      (s, omega (arith, size), code_at s ls ∙ code_moved (row_at R s) moves ∙ f ∙ sym e)

  rows-placing : (t rows : List ℕ) → m ≤ length t → length R ≤ 262144 → length rows ≤ 262144 → Below m rows
      → ((k : ℕ) → k < length rows → T (has (get_or rows k 0) (map original_row R))) → Placing (map cut_code R) (row_table 0 (map cut_code R) t) rows
  rows-placing t rows b few-rows short known covered = record {
    few = omega (arith, size);
    short = short;
    small = λ r l. omega (arith, codes_small r l);
    own = places_own t b;
    original = λ k l. omega (arith, known k l);
    known = λ k l. omega (arith, known k l, length_placed 0 codes t);
    inside = λ k l. let (s, i, e) = code_found (get_or rows k 0) (covered k l) in rw (at k l s i e) i;
    found = λ k l. let (s, i, e) = code_found (get_or rows k 0) (covered k l) in rw (at k l s i e) e;
  }
    where
      at : (k : ℕ) → k < length rows → (s : ℕ) → s < length codes → get_or codes s 0 ≡ get_or rows k 0
          → get_or (row_table 0 codes t) (get_or rows k 0) 0 ≡ s
      at k l s i e =
          let small : get_or codes s 0 < 65536 = omega (arith, known k l) in
          ap (λ (o : ℕ). get_or (row_table 0 codes t) o 0) (sym e) ∙ places_own t b s i small

-- ---- an accepted problem

module _ (p : Problem) (ok : refusal compact p ≡ 0) where
  abbrev R : List Row
  R = compact_rows (layout p)

  pub few-rows : length (map cut_code (compact_rows (layout p))) ≤ 262144
  few-rows =
      let k = (and_iff (leb (block_row_count (layout p)) 262144) (leb (overlap_count (layout p)) 131072)).0 (passed 10 (checks compact p) tt ok) in
      omega (arith, length-map R cut_code, accepted-count compact p ok, (leb_iff (block_row_count (layout p)) 262144).0 k.0)

  pub rows-known : Below p.m p.A.rows
  rows-known t l =
      (ltb_iff (get_or p.A.rows t 0) p.m).0
      ((all-has (λ r. ltb r p.m) p.A.rows).0
      ((and_iff (all (λ r. ltb r p.m) p.A.rows) (all (λ c. never_falls (column_rows p.A c)) (below p.n))).0 (accepted_checked compact p ok).rows_a).0
      (get_or p.A.rows t 0) (has_get_or p.A.rows t 0 l))

  -- the precondition of `write_columns` on A's columns
  pub accepted_order : ColumnsInOrder p.n p.A
  accepted_order c l =
      (all-has (λ c. never_falls (column_rows p.A c)) (below p.n)).0
      ((and_iff (all (λ r. ltb r p.m) p.A.rows) (all (λ c. never_falls (column_rows p.A c)) (below p.n))).0 (accepted_checked compact p ok).rows_a).1
      c ((has-below c p.n).1 l)

  pub accepted-placing : (t : List ℕ) → p.m ≤ length t
      → Placing (map cut_code (compact_rows (layout p))) (row_table 0 (map cut_code (compact_rows (layout p))) t) p.A.rows
  accepted-placing t b =
      rows-placing p.m (accepted_checked compact p ok).sound.few R (right-rows p ok) t p.A.rows b (omega (arith, few-rows, length-map R cut_code))
      (omega (arith, (right_A compact p ok).even, (accepted_checked compact p ok).few_entries_a)) rows-known
      (λ k l. (all-has (λ r. has r (covered_rows (layout p))) p.A.rows).0 (covered_entries p ok) (get_or p.A.rows k 0) (has_get_or p.A.rows k 0 l))

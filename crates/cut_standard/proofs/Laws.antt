-- What a caller of the writers needs: the tables of the cut in terms of the parts' lists, and bounds on the lengths from the checks.
use Prim.Native.Nat.{ℕ, suc, ◌+◌, ◌-◌, ◌*◌, ◌≤◌, ◌<◌}
use native.Mathlib.Omega.{arith}
use mathlib.Core.Path.{◌≡◌, refl, sym, ap, ◌∙◌}
use mathlib.Core.List.{List, [], ◌∷◌, ◌++◌, append-nil}
use lib.ListN.{length, take, drop, set, length-set, length-drop, length-append, drop_of_length-le}
use lib.Seq.{take_all, take_at, drop_at, drop-drop, length-take-le}
use Rattle.layout.specs.General.Lists.{written}
use Rattle.layout.specs.General.Floats.{one64, minus_one64}
use Rattle.layout.specs.Problems.Problem.{Problem, Csc, Route, standard}
use Rattle.layout.specs.Rows.Blocks.{Part, standard_rows, block_row_count}
use Rattle.layout.specs.Checks.{Sound, layout, refusal, checks}
use Rattle.layout.specs.Cuts.Standard.{standard_a}
use Rattle.layout.specs.Calls.Join.{joined_parts}
use Rattle.layout.proofs.Lists.Tests.{leb_iff}
use Rattle.layout.proofs.Checks.Order.{passed}
use Rattle.layout.proofs.Checks.Accepted.{accepted_checked}
use Rattle.layout.proofs.Rows.Laid.{sound-laid}
use Rattle.layout.proofs.Columns.Columns.{right_P}
use Rattle.layout.proofs.Columns.Sizes.{standard_count}
use Rattle.rows_tables.proofs.Laws.{three_more}
use Rattle.augment_standard.specs.Beside.{h_rows, pair_values, beside_starts, beside_rows, beside_values, beside_h}
use Rattle.augment_standard.specs.Constraints.{Accepted}
use Rattle.augment_standard.proofs.Constraints.{whole, sound, few-entries, starts-right, same_b}
use Rattle.augment_standard.proofs.Columns.{length-h_rows, length_pairs}
use Rattle.augment_standard.proofs.Beside.{beside_standard}
use Rattle.layout.proofs.Lists.Buffers.{written_after}

-- storing the first three words keeps the length
pub length_three : (old : List ℕ) (a b c : ℕ) → length (set (set (set old 0 a) 1 b) 2 c) ≡ length old
length_three old a b c =
    length-set (set (set old 0 a) 1 b) 2 c ∙ length-set (set old 0 a) 1 b ∙ length-set old 0 a

-- three words, and a list written to the slice after them
pub three_then : (a b c : ℕ) (ys old : List ℕ) {vs : List ℕ} → 3 + length ys ≤ length old
    → let ws = set (set (set old 0 a) 1 b) 2 c in
    vs ≡ written ys (take (length ws - 3) (drop 3 ws))
    → take 3 ws ++ (vs ++ drop (length ws - 3) (drop 3 ws)) ≡ written (a ∷ b ∷ c ∷ ys) old
three_then a b c ys old h e = written_after (a ∷ b ∷ c ∷ []) ys old 3 refl h (three_more [] old a b c 0 refl (omega arith)) e

-- the original rows of k columns of H, written at index k and then spread over 2k elements
module _ (m k : ℕ) (os old : List ℕ) (e : length os ≡ k) (room : 2 * k ≤ length old) where
  abbrev table : List ℕ
  table = take k old ++ (os ++ drop k (drop k old))

  placed : {vs : List ℕ} → vs ≡ written os (take (length old - k) (drop k old))
      → take k old ++ (vs ++ drop (length old - k) (drop k old)) ≡ table
  placed f =
      rw (
        f,
        e,
        take_all (length old - k) (drop k old) (omega (arith, length-drop k old)),
        drop_of_length-le (drop k old) {i = length old - k} (omega (arith, length-drop k old)),
        append-nil (os ++ drop k (drop k old)),
      )

  after : drop k table ≡ os ++ drop k (drop k old)
  after = drop_at (take k old) (os ++ drop k (drop k old)) k (length-take-le k old (omega arith))

  kept : drop (k + k) table ≡ drop (k + k) old
  kept = sym (drop-drop k k table) ∙ ap (drop k) after ∙ drop_at os (drop k (drop k old)) k e ∙ drop-drop k k old

  pub spread_in_place : {vs : List ℕ} → vs ≡ written os (take (length old - k) (drop k old))
      → let ws = take k old ++ (vs ++ drop (length old - k) (drop k old)) in
      written (h_rows m (take k (drop k ws))) ws ≡ written (h_rows m os) old
  spread_in_place f =
      let twice : length (h_rows m os) ≡ k + k = omega (arith, length-h_rows m os) in
      rw (placed f, after, take_at os (drop k (drop k old)) k e, twice) (ap (λ (rest : List ℕ). h_rows m os ++ rest) kept)

-- the number of columns of H
module _ {m : ℕ} {cones : List ℕ} {count : ℕ} {words : List ℕ} (h : Sound m cones count words) where
  abbrev ps : List Part
  ps = joined_parts cones count words

  pub rows-count : length (standard_rows (joined_parts cones count words)) ≡ block_row_count (joined_parts cones count words)
  rows-count = standard_count 0 ps (sound-laid h).0

-- ---- a problem that the route accepts

module _ (route : Route) (p : Problem) (ok : refusal route p ≡ 0) where
  -- the precondition of `write_objective`, from the lengths of its outputs
  pub rooms_P : (k starts rows values costs alphas : ℕ)
      → (suc (p.n + k) ≤ starts) × (length p.P.values ≤ rows) × (length p.P.values ≤ values) × (p.n + k ≤ costs) × (length p.alphas ≤ alphas)
      → (length p.P.starts + k ≤ starts) × (length p.P.rows ≤ rows) × (length p.P.values ≤ values) × (length p.q + k ≤ costs) × (length p.alphas ≤ alphas)
  rooms_P k starts rows values costs alphas r =
      (omega (arith, (right_P route p ok).count, r.0), omega (arith, (right_P route p ok).even, r.1), r.2, omega (arith, (accepted_checked route p ok).length_q, r.3), r.4)

-- ---- constraints that the standard route accepts

module _ {p : Problem} (h : Accepted standard p) where
  -- A beside H is the A of the standard cut
  beside : beside_h p.A p.m (standard_rows (layout p)) ≡ standard_a p
  beside = beside_standard p (starts-right h)

  pub rows_A : beside_rows p.A.rows p.m (standard_rows (layout p)) ≡ (standard_a p).rows
  rows_A = ap (λ (M : Csc). M.rows) beside

  -- where k is the number of block rows
  module _ (k : ℕ) (e : k ≡ block_row_count (layout p)) where
    pub few-rows : p.m + k ≤ 262144
    few-rows = omega (arith, e, (leb_iff (p.m + block_row_count (layout p)) 262144).0 (passed 10 (checks standard (whole h)) tt h.accepted))

    pub few-ends : length p.A.values + 2 * k < 4294967296
    few-ends = omega (arith, few-entries h, few-rows)

    columns : k ≡ length (standard_rows (layout p))
    columns = e ∙ sym (rows-count (sound h))

    pub values_A : beside_values p.A.values k ≡ (standard_a p).values
    values_A = ap (beside_values p.A.values) columns ∙ ap (λ (M : Csc). M.values) beside

    -- the outputs are long enough for the rows and the values of A and H, and for b with zeros
    pub room-rows : (room : ℕ) → length (standard_a p).rows ≤ room → length p.A.rows + 2 * k ≤ room
    room-rows room r =
        let os = standard_rows (layout p) in
        omega (arith, ap length rows_A, length-append p.A.rows (h_rows p.m os), length-h_rows p.m os, columns, r)

    pub room-values : (room : ℕ) → length (standard_a p).values ≤ room → length p.A.values + 2 * k ≤ room
    room-values room r =
        let vs = pair_values one64 minus_one64 k in
        omega (arith, ap length values_A, length-append p.A.values vs, length_pairs one64 minus_one64 k, r)

    pub room_b : (room : ℕ) → p.m + block_row_count (layout p) ≤ room → length p.b + k ≤ room
    room_b room r = omega (arith, same_b h, e, r)

    pub starts_A : beside_starts p.A.starts (length p.A.values) k ≡ (standard_a p).starts
    starts_A = ap (beside_starts p.A.starts (length p.A.values)) columns ∙ ap (λ (M : Csc). M.starts) beside

-- A pool that is not refused: the preconditions of its writers, and the tables that they write.
use Prim.Native.Nat.{ℕ, suc, ◌+◌, ◌≤◌}
use native.Mathlib.Omega.{arith}
use mathlib.Core.Path.{◌≡◌, sym, ap, subst, ◌∙◌}
use mathlib.Core.Bool.{true}
use mathlib.Core.List.{List, ◌++◌, map}
use lib.ListN.{length, get_or}
use lib.Dec.{T, ltb, lt→ltb}
use Rattle.layout.specs.General.Lists.{all, below}
use Rattle.layout.specs.Problems.Problem.{Problem, Csc}
use Rattle.layout.specs.Problems.Cones.{records}
use Rattle.layout.specs.Problems.Patterns.{read_patterns, ends_right, patterns}
use Rattle.layout.specs.Checks.{column_rows, names_its_cone}
use Rattle.layout.specs.Calls.Answers.{roomy}
use Rattle.layout.specs.Calls.Pool.{pool}
use Rattle.layout.specs.Calls.Tables.{Tables, table_rooms}
use Rattle.layout.proofs.Lists.Tests.{and_iff, leb_iff, ltb_iff, passed}
use Rattle.layout.proofs.Lists.Members.{has_get_or, all-has, all_so}
use Rattle.layout.proofs.Lists.Joins.{join_same}
use Rattle.layout.proofs.Checks.Accepted.{sound-cone-count, sound-ends, sound_names}
use Rattle.layout.proofs.Columns.Columns.{RightStarts}
use Rattle.layout.proofs.Pools.PoolChecks.{right-first, right-second}
use Rattle.layout.proofs.Pools.PoolTables.{Pooled, pool_A_starts, pool_A_rows, pool_A_values}
use Rattle.pool_tables.specs.Stacked.{StartsIn, raised, Raisable, origin_raisable, OriginsRaisable, start_sums, SumsFit, stacked}
use Rattle.pool_tables.proofs.Columns.{part-raised}
use Rattle.pool_refusals.proofs.Refusals.{lengths-given}

-- ---- valid column starts

starts_of : (n : ℕ) (M : Csc) → RightStarts n M → StartsIn n M
starts_of n M r = (
  (r.count, r.zeroth, r.rise, r.inside),
  (r.count, r.zeroth, r.rise, λ c l. subst (λ (k : ℕ). get_or M.starts c 0 ≤ k) r.even (r.inside c l)),
)

-- each output is long enough for what is written
pub record PoolFits (one two : Problem) (t : Tables) : Type 0 where
  pub p_starts : length one.P.starts ≤ length t.P.starts
  pub p_rows : length one.P.rows ≤ length t.P.rows
  pub p_values : length one.P.values ≤ length t.P.values
  pub q : length one.q ≤ length t.q
  pub a_starts : length one.A.starts ≤ length t.A.starts
  pub a_rows : length one.A.rows + length two.A.rows ≤ length t.A.rows
  pub a_values : length one.A.values + length two.A.values ≤ length t.A.values
  pub b : length one.b + length two.b ≤ length t.b
  pub cones : length one.cones + length two.cones ≤ length t.cones
  pub alphas : length one.alphas + length two.alphas ≤ length t.alphas
  pub words : length one.pattern_words + length two.pattern_words ≤ length t.pattern_words

module _ (p q : Problem) (t : Tables) (h : Pooled p q (table_rooms t)) where
  pub pool-fits : PoolFits p q t
  pool-fits =
      let each = simp (and_iff, leb_iff) at (subst (λ (ks : List ℕ). T (roomy ks (table_rooms t))) (sym (lengths-given p q h.first h.second h.same)) h.roomy) in
      record {
        p_starts = omega arith;
        p_rows = omega arith;
        p_values = omega arith;
        q = omega arith;
        a_starts = omega arith;
        a_rows = omega arith;
        a_values = omega arith;
        b = omega arith;
        cones = omega arith;
        alphas = omega arith;
        words = omega arith;
      }

  right : RightStarts p.n p.A
  right = right-first p q h.first h.second h.same

  right2 : RightStarts p.n q.A
  right2 = right-second p q h.first h.second h.same

  pub pool-count : suc p.n ≤ length t.A.starts
  pool-count = omega (arith, pool-fits.a_starts, right.count)

  pub pool-starts_of : StartsIn p.n p.A × StartsIn p.n q.A
  pool-starts_of = (starts_of p.n p.A right, starts_of p.n q.A right2)

  pub pool-sums_fit : SumsFit p.n p.A.starts q.A.starts
  pool-sums_fit c l =
      omega (arith, right.inside c l, right2.inside c l, right.even, right2.even, h.first.few_entries_a, h.second.few_entries_a)

  pub pool-raisable : Raisable p.m q.A.rows
  pool-raisable i l =
      let inside = ((and_iff (all (λ r. ltb r q.m) q.A.rows) _).0 h.second.rows_a).0 in
      let low = (ltb_iff (get_or q.A.rows i 0) q.m).0 ((all-has (λ r. ltb r q.m) q.A.rows).0 inside (get_or q.A.rows i 0) (has_get_or q.A.rows i 0 l)) in
      omega (arith, low, h.first.sound.few, h.second.sound.few)

  pub pool-words_end : ends_right (read_patterns q.pattern_count q.pattern_words) ≡ true
  pool-words_end = passed _ (sound-ends h.second.sound)

  pub pool_origins : OriginsRaisable (length (records p.cones)) (patterns q.pattern_count q.pattern_words)
  pool_origins =
      all_so (names_its_cone (records q.cones)) (origin_raisable d) (λ x named.
      lt→ltb (d + x.orig_index) 4294967296
      (omega (arith, sound-cone-count h.first.sound, sound-cone-count h.second.sound, (simp (and_iff, ltb_iff) at named).0.0)))
      (patterns q.pattern_count q.pattern_words) (sound_names h.second.sound)
    where
      d : ℕ
      d = length (records p.cones)

  -- ---- what is written

  pub starts-written : start_sums p.n p.A.starts q.A.starts ≡ (pool p q).A.starts
  starts-written = sym (pool_A_starts p q h.first h.second h.same)

  pub rows_written : stacked p.n p.A.starts p.A.rows q.A.starts (raised p.m q.A.rows) ≡ (pool p q).A.rows
  rows_written =
      join_same _ (λ c. column_rows p.A c ++ map (λ r. p.m + r) (column_rows q.A c)) (below p.n) (λ c l.
      ap (λ (rs : List ℕ). column_rows p.A c ++ rs)
      (sym (part-raised p.m q.A.rows (get_or q.A.starts c 0) (get_or q.A.starts (suc c) 0))))
      ∙ sym (pool_A_rows p q h.first h.second h.same)

  pub values-written : stacked p.n p.A.starts p.A.values q.A.starts q.A.values ≡ (pool p q).A.values
  values-written = sym (pool_A_values p q h.first h.second h.same)

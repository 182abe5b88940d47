-- The pool in terms of written outputs: what the cut of a pool writes, given what the cuts of the two problems write. Only the contracts
-- of the pool call and of the three cuts are used.
use Prim.Native.Nat.{ℕ, ◌+◌}
use mathlib.Core.Path.{◌≡◌, refl, sym, ap, ap₂, ◌∙◌}
use mathlib.Core.List.{◌∷◌, ◌++◌}
use lib.ListN.{drop}
use Rattle.layout.specs.Problems.Problem.{Problem, compact, standard}
use Rattle.layout.specs.Cuts.Standard.{standard_cones}
use Rattle.layout.specs.Calls.Cut.{Augmented, lengths, augmented, Cut, front_on}
use Rattle.layout.specs.Calls.Answers.{route_of}
use Rattle.layout.specs.Calls.Pool.{pool, pooled_of, Pool}
use Rattle.layout.specs.Calls.Tables.{Tables, table_rooms}
use Rattle.layout.specs.Written.PoolWritten.{pool_at, cut_at}
use Rattle.layout.proofs.Lists.Buffers.{front_read}
use Rattle.layout.proofs.Promises.{taken, tables_front}
use Rattle.layout.proofs.Theorems.PoolCuts.{accepted-pool, pool_standard_cones}
use Rattle.layout.proofs.Pools.PoolTables.{Pooled, pooled}

-- the outputs of a cut that returns 0 start with the tables of the cut
cut_front : (k : ℕ) (p : Problem) {before after : Augmented} → Cut k p before after 0 → cut_at (route_of k) p after ≡ augmented (route_of k) p
cut_front k p {before} {after} cut =
    let new = augmented (route_of k) p in
    let o = cut.tables.objective in
    let c = cut.tables.constrained in
    λ i. record {
      P = record {
        starts = front_read new.P.starts before.P.starts o.p_starts i;
        rows = front_read new.P.rows before.P.rows o.p_rows i;
        values = front_read new.P.values before.P.values o.p_values i;
      };
      q = front_read new.q before.q o.q i;
      A = record {
        starts = front_read new.A.starts before.A.starts c.a_starts i;
        rows = front_read new.A.rows before.A.rows c.a_rows i;
        values = front_read new.A.values before.A.values c.a_values i;
      };
      b = front_read new.b before.b c.b i;
      cones = front_read new.cones before.cones c.cones i;
      alphas = front_read new.alphas before.alphas o.alphas i;
      map = front_read new.map before.map cut.tables.map i;
    }

module _ (one two : Problem) {tables₀ tables : Tables} (call : Pool one two tables₀ tables 0) where
  accepted : Pooled one two (table_rooms tables₀)
  accepted = pooled one two (table_rooms tables₀) (sym call.number)

  -- the outputs of the pool call start with the tables of the pool
  pub pool_front : pool_at one two tables ≡ pool one two
  pool_front = tables_front 0 (pool one two) tables₀ tables refl call.tables

  -- If the pool call and the compact cuts of both problems and of the pool return 0, the last writes the first's rows above the second's.
  pub pool-written : {before before2 before3 after after2 after3 : Augmented}
      → Cut 1 one before after 0 → Cut 1 two before2 after2 0 → Cut 1 (pool_at one two tables) before3 after3 0
      → cut_at compact (pool_at one two tables) after3 ≡ pooled_of one two (cut_at compact one after) (cut_at compact two after2)
  pool-written {before} {before2} cut cut2 cut3 =
      cut_front 1 (pool_at one two tables) cut3
      ∙ ap (augmented compact) pool_front
      ∙ accepted-pool one two (taken 1 one (lengths before) (sym cut.number)).1.0 (taken 1 two (lengths before2) (sym cut2.number)).1.0 accepted.same
      ∙ sym (ap₂ (pooled_of one two) (cut_front 1 one cut) (cut_front 1 two cut2))

  -- On the standard route: one Zero cone over all original rows, then the cones after the first's Zero cone, then those after the
  -- second's.
  pub pool-cones-written : {before before2 before3 after after2 after3 : Augmented}
      → Cut 0 one before after 0 → Cut 0 two before2 after2 0 → Cut 0 (pool_at one two tables) before3 after3 0
      → front_on standard (pool_at one two tables) 8 after3.cones
      ≡ 0 ∷ (one.m + two.m) ∷ 0 ∷ (drop 3 (front_on standard one 8 after.cones) ++ drop 3 (front_on standard two 8 after2.cones))
  pool-cones-written cut cut2 cut3 =
      ap (λ (a : Augmented). a.cones) (cut_front 0 (pool_at one two tables) cut3)
      ∙ ap standard_cones pool_front
      ∙ pool_standard_cones one two accepted.first accepted.second
      ∙ sym (ap₂ (λ (a b : Augmented). 0 ∷ (one.m + two.m) ∷ 0 ∷ (drop 3 a.cones ++ drop 3 b.cones)) (cut_front 0 one cut) (cut_front 0 two cut2))

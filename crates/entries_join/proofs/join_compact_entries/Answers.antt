use Rattle.std.proofs.Common.{◌∙◌, ℕ, List, ap}
use Rattle.layout.specs.Problems.Problem.{solution, compact}
use Rattle.layout.specs.Calls.Join.{rejoined, rejoined_rooms, join_refusal}
use Rattle.entries_join.proofs.Order.{as_entries, front_taken}
use Rattle.entries_join.proofs.join_compact_entries.Goals as goal

pub returns : goal.returns
returns c =
    let a = c.args in
    let sol = solution a.x.now a.s.now a.z.now a.tau a.kappa in
    let rooms = rejoined_rooms (rejoined a.x_out.now a.s_out.now a.z_out.now a.scalars_out.now) in
    let front = front_taken a.map.now c.words_of-taken.result _ c.write_words.new.out c.words_of-taken.ensures c.write_words.ensures in
    record {
      number = c.join_words.ensures.number
          ∙ ap (λ (us : List ℕ). join_refusal compact a.n a.m a.cones.now a.count a.words.now sol us rooms) front
          ∙ as_entries a.n a.m a.cones.now a.count a.words.now sol a.map.now rooms;
      tables = c.join_words.ensures.tables;
    }

use Prim.Native.Nat.{ℕ}
use mathlib.Core.Path.{ap, ◌∙◌}
use mathlib.Core.List.{◌++◌}
use Rattle.layout.specs.General.Lists.{written}
use Rattle.layout.specs.Problems.Patterns.{patterns}
use Rattle.layout.specs.Calls.Pool.{raised_words}
use Rattle.pool_tables.proofs.write_layout.Goals as goal

pub write_words-requires : goal.write_words-requires
write_words-requires c =
    let e = c.record_count-k.ensures in record { words2_value = c.requires.words2_value.0; origins_raisable = rw e c.requires.words2_value.1; words2_in_bounds = c.requires.cones2_in_bounds.2 }

pub returns : goal.returns
returns c =
    let a = c.args in record {
      cones_out_after = c.append.ensures;
      alphas_out_after = c.append-2.ensures;
      words_out_after = c.write_words.ensures
          ∙ ap (λ (i : ℕ). written (a.words.now ++ raised_words i (patterns a.count2 a.words2.now)) a.words_out.now) c.record_count-k.ensures;
    }

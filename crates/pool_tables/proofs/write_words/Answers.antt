use native.Mathlib.Omega.{arith}
use mathlib.Core.Path.{refl}
use lib.ListN.{length}
use Rattle.layout.specs.Problems.Patterns.{patterns}
use Rattle.layout.specs.Calls.Pool.{raised_words}
use Rattle.layout.proofs.Lists.Buffers.{written_after, length_tail}
use Rattle.pool_tables.proofs.Words.{raised-length}
use Rattle.pool_tables.proofs.write_words.Goals as goal

pub raise_words-requires : goal.raise_words-requires
raise_words-requires c =
    record { words_value = c.requires.words2_value; origins_raisable = c.requires.origins_raisable; words_in_bounds = omega (arith, c.requires.words2_in_bounds, length_tail c.copy_front.new.out (length c.args.words.now), c.copy_front.auto.out) }

pub returns : goal.returns
returns c =
    let a = c.args in
    let new = raised_words a.k (patterns a.count2 a.words2.now) in
    written_after a.words.now new a.out.now (length a.words.now) refl
    (omega (arith, c.requires.words2_in_bounds, raised-length a.k a.count2 a.words2.now c.requires.words2_value)) c.copy_front.ensures c.raise_words.ensures

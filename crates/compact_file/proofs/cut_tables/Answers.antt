use Prim.Native.Nat.{◌*◌, ◌/◌}
use native.Mathlib.Omega.{arith}
use mathlib.Core.Path.{sym}
use lib.ListN.{length, replicate}
use lib.Seq.{length-take-le}
use Rattle.compact_file.proofs.Laws.{halves_fit, patterns-read, values-read}
use Rattle.compact_file.proofs.cut_tables.Goals as goal

pub slice_bounds-write_patterns-end : goal.slice_bounds-write_patterns-end
slice_bounds-write_patterns-end c =
    let ws = c.args.words.now in
    sym (length-take-le (2 * (length ws / 2)) ws (omega arith))

pub write_patterns-requires : goal.write_patterns-requires
write_patterns-requires c =
    halves_fit c.args.words.now 1024 (omega (arith, c.requires.1.few))

pub slice_bounds-write_floats-end : goal.slice_bounds-write_floats-end
slice_bounds-write_floats-end c =
    sym (length-take-le (length c.args.words.now / 2) c.write_patterns.new.out (omega (arith, c.requires.1.few, c.write_patterns.auto.out)))

pub write_floats-requires : goal.write_floats-requires
write_floats-requires c =
    omega (arith, c.requires.1.few, length-take-le (length c.args.words.now / 2) c.write_patterns.new.out (omega (arith, c.requires.1.few, c.write_patterns.auto.out)))

pub slice_bounds-cut_doubles-end : goal.slice_bounds-cut_doubles-end
slice_bounds-cut_doubles-end c =
    sym (length-take-le (length c.args.words.now / 2) c.write_patterns.new.out (omega (arith, c.requires.1.few, c.write_patterns.auto.out)))

pub slice_bounds-cut_doubles-end-2 : goal.slice_bounds-cut_doubles-end-2
slice_bounds-cut_doubles-end-2 c =
    sym (length-take-le (length c.args.words.now / 2) c.write_floats.new.out (omega (arith, c.requires.1.few, c.write_floats.auto.out)))

pub cut_doubles-requires : goal.cut_doubles-requires
cut_doubles-requires c =
    let ws = c.args.words.now in
    let pats = patterns-read ws (replicate 1024 0) c.write_patterns.ensures in record { well_shaped = (c.requires.0, pats, values-read ws _ pats c.write_floats.ensures); small = (c.requires.1, c.requires.2) }

pub returns : goal.returns
returns c = c.cut_doubles.ensures

use Prim.Native.Nat.{ℕ, suc, ◌+◌, ◌*◌}
use native.Mathlib.Omega.{arith}
use mathlib.Core.Path.{◌≡◌, refl, ap, ◌∙◌}
use lib.ListN.{get_or}
use lib.Dec.{lit<}
use Rattle.layout.specs.General.Lists.{written}
use Rattle.layout.specs.Files.FileWords.{pairs_of, words_at}
use Rattle.file_shape.proofs.Parts.{stands_long, inside-words, inside-doubles}
use Rattle.problem_file.proofs.read_constraints.Goals as goal

pub count_at-n-requires : goal.count_at-n-requires
count_at-n-requires c = omega (arith, stands_long c.args.words.now c.requires.well_shaped)

pub count_at-m-requires : goal.count_at-m-requires
count_at-m-requires c = omega (arith, stands_long c.args.words.now c.requires.well_shaped)

pub count_at-a-requires : goal.count_at-a-requires
count_at-a-requires c = omega (arith, stands_long c.args.words.now c.requires.well_shaped)

pub read_matrix-requires : goal.read_matrix-requires
read_matrix-requires c =
    let ws = c.args.words.now in
    let ok = c.requires.well_shaped in
    let room = c.requires.fact in
    let (n, low) = c.count_at-n.ensures in
    let (entries, _) = c.count_at-a.ensures in
    let (rows, _) = c.count_at-m.ensures in record {
      first_bound = (omega arith, low);
      inside = (
        inside-words ws ok 4 (c.count_at-n.result + 1) (suc (get_or ws 0 0)) (lit< tt) refl (omega (arith, n)),
        inside-words ws ok 5 c.count_at-a.result (get_or ws 3 0) (lit< tt) refl entries,
        inside-doubles ws ok 6 c.count_at-a.result (get_or ws 3 0) (lit< tt) refl entries,
        inside-doubles ws ok 7 c.count_at-m.result (get_or ws 1 0) (lit< tt) refl rows,
      );
      n_in_bounds = (omega (arith, n, room.0), omega (arith, entries, room.1), omega (arith, entries, room.2), omega (arith, rows, room.3));
    }

pub shape_of-starts_out : goal.shape_of-starts_out
shape_of-starts_out c = c.read_matrix.auto.starts_out

pub shape_of-rows_out : goal.shape_of-rows_out
shape_of-rows_out c = c.read_matrix.auto.rows_out

pub shape_of-values_out : goal.shape_of-values_out
shape_of-values_out c = c.read_matrix.auto.values_out

pub shape_of-b_out : goal.shape_of-b_out
shape_of-b_out c = c.read_matrix.auto.side_out

pub returns : goal.returns
returns c =
    let ws = c.args.words.now in
    let call = c.read_matrix.ensures in
    let (n, low) = c.count_at-n.ensures in
    let (entries, _) = c.count_at-a.ensures in
    let (rows, _) = c.count_at-m.ensures in
    let starts : c.count_at-n.result + 1 ≡ suc (get_or ws 0 0) = omega (arith, n) in record {
      starts_out_after = call.starts_out_after ∙ ap (λ (k : ℕ). written (words_at ws 4 k) c.args.starts_out.now) starts;
      rows_out_after = call.rows_out_after ∙ ap (λ (k : ℕ). written (words_at ws 5 k) c.args.rows_out.now) entries;
      values_out_after = call.values_out_after ∙ ap (λ (k : ℕ). written (pairs_of (words_at ws 6 (2 * k))) c.args.values_out.now) entries;
      b_out_after = call.side_out_after ∙ ap (λ (k : ℕ). written (pairs_of (words_at ws 7 (2 * k))) c.args.b_out.now) rows;
    }

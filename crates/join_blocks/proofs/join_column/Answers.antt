use Rattle.std.proofs.Common.{ℕ, suc, List, ◌+◌, ◌≡◌, ◌≤◌, ◌<◌, length, get_or, take, drop, refl, ap, subst, ◌∙◌, arith}
use lib.ListN.{set}
use lib.Seq.{take_all, length-take-le}
use lib.Ieee.{nan}
use Rattle.layout.specs.General.Triangle.{triangle}
use Rattle.layout.specs.Rows.Blocks.{pair_row}
use Rattle.layout.specs.Joinings.Reverse.{add_at, add_columns}
use Rattle.rows_blocks.proofs.Columns.{rises-le, length-column, row-at}
use Rattle.join_blocks.specs.Joins.{z_at, join_z, Counts, block_column_rows}
use Rattle.join_blocks.proofs.Laws.{z_stored, walk_stored, counts-next, countable_less, countable_left, by_same}
use Rattle.join_blocks.proofs.join_column.Goals as goal
use Rattle.join_blocks.proofs.join_column.Goals.{In-loop-i}

-- c is the column's vertex, a the column's first row, d this turn's vertex
row_inside : (c d n a : ℕ) → d ≤ c → triangle (suc c) ≤ n → a ≡ triangle c → a + d < n
row_inside c d n a h l e = omega arith

row_as : (a b d o : ℕ) → o ≡ 0 + b + d → a ≡ b → a + d ≡ o
row_as a b d o e q = omega arith

-- ---- one turn of the loop

module _ (c : In-loop-i) where
  abbrev rows : List ℕ
  rows = block_column_rows c.args.vertices.now c.args.j

  -- the row of this turn, as the code computes it
  abbrev coded : ℕ
  coded = c.triangular_number-row.result + get_or c.args.vertices.now c.loop-i.i 0

  turn : c.loop-i.i ≤ c.args.j
  turn = omega (arith, c.loop-i-test.true)

  in_rows : c.loop-i.i < length rows
  in_rows = omega (arith, turn, length-column (pair_row 0) c.args.vertices.now c.args.j)

  row_is : coded ≡ get_or rows c.loop-i.i 0
  row_is =
      let vs = c.args.vertices.now in
      row_as c.triangular_number-row.result (triangle (get_or vs c.args.j 0)) (get_or vs c.loop-i.i 0) (get_or rows c.loop-i.i 0)
      (row-at 0 vs c.args.j c.loop-i.i c.requires.t.0 turn c.requires.t.1) c.triangular_number-row.ensures

  inside : coded < length c.args.s_out.now
  inside =
      let vs = c.args.vertices.now in
      row_inside (get_or vs c.args.j 0) (get_or vs c.loop-i.i 0) (length c.args.s_out.now) c.triangular_number-row.result
      (rises-le vs c.loop-i.i c.args.j c.requires.t.0 turn c.requires.t.1) c.requires.j_in_bounds.0 c.triangular_number-row.ensures

pub overflow_add-o : goal.overflow_add-o
overflow_add-o c = omega (arith, inside (goal.at.overflow_add-o c).In-loop-i, c.requires.j_in_bounds.2)

pub bounds-s_out-o : goal.bounds-s_out-o
bounds-s_out-o c = omega (arith, inside (goal.at.bounds-s_out-o c).In-loop-i)

pub bounds-s_out-o-in-loop-i : goal.bounds-s_out-o-in-loop-i
bounds-s_out-o-in-loop-i c = omega (arith, inside (goal.at.bounds-s_out-o-in-loop-i c).In-loop-i)

pub bounds-z_out-o : goal.bounds-z_out-o
bounds-z_out-o c = omega (arith, inside (goal.at.bounds-z_out-o c).In-loop-i)

pub bounds-z_out-o-in-loop-i : goal.bounds-z_out-o-in-loop-i
bounds-z_out-o-in-loop-i c = omega (arith, inside (goal.at.bounds-z_out-o-in-loop-i c).In-loop-i)

pub count_column-requires : goal.count_column-requires
count_column-requires c =
    let k = (goal.at.count_column-requires c).In-loop-i in
    let a = c.args in
    let i = c.loop-i.i in
    let room : length (take i (rows k)) + 1 ≤ suc a.j = omega (arith, turn k, length-take-le i (rows k) (omega (arith, in_rows k))) in
    countable_less a.standard (length a.s_out.now) (suc (coded k)) 1 1 c.loop-i.counts (inside k) (omega arith)
    (countable_left a.standard (length a.s_out.now) (suc a.j) 1 (take i (rows k)) a.counts.now c.loop-i.counts c.loop-i.auto.counts room c.loop-i.invariant.2 c.requires.countable)

pub loop-i-preserved : goal.loop-i-preserved
loop-i-preserved c =
    let k = (goal.at.loop-i-preserved c).In-loop-i in
    let a = c.args in
    let i = c.loop-i.i in
    let o = coded k in (
      walk_stored add_at (rows k) a.s.now a.s_out.now a.t i o 0 nan refl c.loop-i.invariant.0 (row_is k) (in_rows k) (omega (arith, turn k, c.requires.t.2)),
      walk_stored (z_at a.standard) (rows k) a.z.now a.z_out.now a.t i o 0 nan
          (ap (set c.loop-i.z_out o) c.z_value.ensures ∙ z_stored a.standard o (get_or a.z.now (a.t + i) nan) c.loop-i.z_out)
          c.loop-i.invariant.1 (row_is k) (in_rows k) (omega (arith, turn k, c.requires.t.3)),
      counts-next a.standard (rows k) i o a.counts.now c.loop-i.counts c.count_column.new.counts (in_rows k) (row_is k) c.count_column.auto.counts c.loop-i.invariant.2
          c.count_column.ensures,
    )

-- ---- the end

pub returns-clause-s_out_after : goal.returns-clause-s_out_after
returns-clause-s_out_after c =
    let a = c.args in
    let rs : List ℕ = block_column_rows a.vertices.now a.j in
    let all : take c.loop-i.i rs ≡ rs = take_all c.loop-i.i rs (omega (arith, length-column (pair_row 0) a.vertices.now a.j, c.loop-i-test.false)) in
    by_same (λ (os : List ℕ). add_columns os (drop a.t a.s.now) a.s_out.now) c.loop-i.invariant.0 all

pub returns-clause-z_out_after : goal.returns-clause-z_out_after
returns-clause-z_out_after c =
    let a = c.args in
    let rs : List ℕ = block_column_rows a.vertices.now a.j in
    let all : take c.loop-i.i rs ≡ rs = take_all c.loop-i.i rs (omega (arith, length-column (pair_row 0) a.vertices.now a.j, c.loop-i-test.false)) in
    by_same (λ (os : List ℕ). join_z a.standard os (drop a.t a.z.now) a.z_out.now) c.loop-i.invariant.1 all

pub returns-clause-counts : goal.returns-clause-counts
returns-clause-counts c =
    let a = c.args in
    let rs : List ℕ = block_column_rows a.vertices.now a.j in
    let all : take c.loop-i.i rs ≡ rs = take_all c.loop-i.i rs (omega (arith, length-column (pair_row 0) a.vertices.now a.j, c.loop-i-test.false)) in
    subst (λ (os : List ℕ). Counts a.standard os a.counts.now c.loop-i.counts) all c.loop-i.invariant.2

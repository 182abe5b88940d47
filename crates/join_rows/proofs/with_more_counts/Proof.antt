use Prim.Native.Nat.{ℕ}
use mathlib.Core.Path.{sym, subst, ◌∙◌}
use lib.Dec.{T}
use Rattle.utils.proofs.Tables.{filled-length}
use Rattle.join_rows.proofs.Counts.{counts_some, counts-many}
use Rattle.join_rows.proofs.with_more_counts.Statement.{statement}
use Rattle.join_rows.proofs.with_more_counts.Tie as tie

abbrev start : tie.After-rows_few → tie.Start
start k = k.before.before.before.before.before.before.before.before

rows-few-requires : tie.Need-rows_few-requires
rows-few-requires c κs = tt

slice-aggregate-join-parts : tie.Need-slice_bounds-join_parts-end
slice-aggregate-join-parts c = filled-length {A = ℕ} 4096 0

join-parts-requires : tie.Need-join_parts-requires
join-parts-requires c κs =
    let t = c.before.before.before in
    let k = t.before in
    let s = start k in
    (s.requires.0, ((s.requires.1.0.0, s.requires.1.0.1, counts_some s.args.standard s.args.m s.args.cones.now (subst T (sym (sym k.rows_few.ensures ∙ t.if-rows_few.true)) tt)), s.requires.1.1))

same_length : tie.Need-shape_of-s_out-then-rows_few
same_length c = c.join_parts.auto.s_out

same-length-2 : tie.Need-shape_of-z_out-then-rows_few
same-length-2 c = c.join_parts.auto.z_out

returns : tie.Need-returns-then-rows_few
returns c = c.join_parts.ensures

slice-aggregate-join-parts-2 : tie.Need-slice_bounds-join_parts-end-2
slice-aggregate-join-parts-2 c = filled-length {A = ℕ} 32896 0

join-parts-requires-2 : tie.Need-join_parts-requires-2
join-parts-requires-2 c κs =
    let s = start c.before.before.before.before in
    (s.requires.0, ((s.requires.1.0.0, s.requires.1.0.1, counts-many s.args.standard s.args.m s.args.cones.now), s.requires.1.1))

same-length-3 : tie.Need-shape_of-s_out
same-length-3 c = c.join_parts-2.auto.s_out

same-length-4 : tie.Need-shape_of-z_out
same-length-4 c = c.join_parts-2.auto.z_out

returns-2 : tie.Need-returns
returns-2 c = c.join_parts-2.ensures

pub with_more_counts_spec : {M : Type 1} → statement M
with_more_counts_spec =
    tie.close
    (tie.spec
    rows-few-requires
    slice-aggregate-join-parts
    join-parts-requires
    same_length
    same-length-2
    returns
    slice-aggregate-join-parts-2
    join-parts-requires-2
    same-length-3
    same-length-4
    returns-2)

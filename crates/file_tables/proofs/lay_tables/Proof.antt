use Prim.Native.Nat.{ℕ, ◌-◌}
use native.Mathlib.Nat.{le_trans}
use mathlib.Core.Path.{◌≡◌, refl, ap, ◌∙◌}
use mathlib.Core.List.{List, [], ◌++◌, map}
use lib.ListN.{length, take, drop}
use Rattle.layout.specs.General.Lists.{written}
use Rattle.layout.specs.Files.File.{end_from, laid_from}
use Rattle.file_tables.specs.Groups.{matrix_bytes, layout_bytes}
use Rattle.file_tables.proofs.Laid.{end_before, end_low, laid-length, laid-inside, laid-room, laid-after}
use borrow.Author.Rules.{rules}
use Rattle.file_tables.proofs.lay_tables.Statement.{statement}
use Rattle.file_tables.proofs.lay_tables.Tie as tie

abbrev first : tie.Start → List (List ℕ)
first s = matrix_bytes s.args.p_starts.now s.args.p_rows.now s.args.p_values.now s.args.q.now

abbrev second : tie.Start → List (List ℕ)
second s = matrix_bytes s.args.a_starts.now s.args.a_rows.now s.args.a_values.now s.args.b.now

abbrev third : tie.Start → List (List ℕ)
third s = layout_bytes s.args.cones.now s.args.alphas.now s.args.pattern_words.now

-- the contents of the output after each call, and the byte where they end
abbrev out1 : tie.After-lay_matrix-end1 → List ℕ
out1 c = c.lay_matrix-end1.new.out

stage1 : (c : tie.After-lay_matrix-end1) → let s = c.before.before.before.before.before.before.before.before.before.before.before.before.before.before in
    (c.lay_matrix-end1.result ≡ end_from 80 (map length (first s))) × (out1 c ≡ written (laid_from 80 (first s)) s.args.out.now)
    × (length (out1 c) ≡ length s.args.out.now)
stage1 c = let e = c.lay_matrix-end1.ensures in (e.0, e.1, c.lay_matrix-end1.auto.out)

abbrev out2 : tie.After-lay_matrix-end2 → List ℕ
out2 c =
    let w = c.before.before.before.before in
    let at = w.lay_matrix-end1.result - 80 in
    take at (out1 w) ++ (c.lay_matrix-end2.new.out ++ drop (length (out1 w) - at) (drop at (out1 w)))

stage2 : (c : tie.After-lay_matrix-end2) → let s = c.before.before.before.before.before.before.before.before.before.before.before.before.before.before.before.before.before.before in
    (c.lay_matrix-end2.result ≡ end_from 80 (map length (first s ++ second s))) × (out2 c ≡ written (laid_from 80 (first s ++ second s)) s.args.out.now)
    × (length (out2 c) ≡ length s.args.out.now)
stage2 c =
    let w = c.before.before.before.before in
    let s = c.before.before.before.before.before.before.before.before.before.before.before.before.before.before.before.before.before.before in
    let (at, o, same) = stage1 w in
    let room = le_trans (end_before 80 (first s ++ second s) (third s)) s.requires.0 in
    let out = laid-after 80 (first s) (second s) s.args.out.now w.lay_matrix-end1.result at room o c.lay_matrix-end2.ensures.1 in (
      c.lay_matrix-end2.ensures.0 ∙ ap (λ (k : ℕ). end_from k (map length (second s))) at,
      out,
      laid-length 80 (first s ++ second s) s.args.out.now room out,
    )

abbrev out3 : tie.After-lay_layout → List ℕ
out3 c =
    let w = c.before.before.before.before in
    let at = w.lay_matrix-end2.result - 80 in
    take at (out2 w) ++ (c.lay_layout.new.out ++ drop (length (out2 w) - at) (drop at (out2 w)))

stage3 : (c : tie.After-lay_layout) → let s = c.before.before.before.before.before.before.before.before.before.before.before.before.before.before.before.before.before.before.before.before.before.before in
    (out3 c ≡ written (laid_from 80 (first s ++ (second s ++ third s))) s.args.out.now) × (length (out3 c) ≡ length s.args.out.now)
stage3 c =
    let w = c.before.before.before.before in
    let s = c.before.before.before.before.before.before.before.before.before.before.before.before.before.before.before.before.before.before.before.before.before.before in
    let (at, o, same) = stage2 w in
    let room = s.requires.0 in
    let out = laid-after 80 (first s ++ second s) (third s) s.args.out.now w.lay_matrix-end2.result at room o c.lay_layout.ensures in
    (out, laid-length 80 (first s ++ (second s ++ third s)) s.args.out.now room out)

lay-matrix-requires : tie.Need-lay_matrix-end1-requires
lay-matrix-requires c κs =
    let s = c.before.before.before.before.before.before.before.before.before.before.before.before.before in
    (le_trans (end_before 80 (first s) (second s ++ third s)) s.requires.0, end_low 4294967296 80 (first s) (second s ++ third s) (end_from 80 (map length (first s))) refl s.requires.1)

sub-lay-matrix : tie.Need-overflow_sub-end1
sub-lay-matrix c =
    let w = c.before.before in
    let s = c.before.before.before.before.before.before.before.before.before.before.before.before.before.before.before.before in
    let (at, o, same) = stage1 w in
    let (low, high) = laid-inside 80 (first s) s.args.out.now (out1 w) w.lay_matrix-end1.result at (le_trans (end_before 80 (first s) (second s ++ third s)) s.requires.0) same in
    low

sub-lay-matrix-2 : tie.Need-slice_bounds-lay_matrix-count
sub-lay-matrix-2 c =
    let w = c.before.before in
    let s = c.before.before.before.before.before.before.before.before.before.before.before.before.before.before.before.before in
    let (at, o, same) = stage1 w in
    let (low, high) = laid-inside 80 (first s) s.args.out.now (out1 w) w.lay_matrix-end1.result at (le_trans (end_before 80 (first s) (second s ++ third s)) s.requires.0) same in
    high

part-lay-matrix-start : tie.Need-slice_bounds-lay_matrix-start
part-lay-matrix-start c =
    let w = c.before.before in
    let s = c.before.before.before.before.before.before.before.before.before.before.before.before.before.before.before.before in
    let (at, o, same) = stage1 w in
    let (low, high) = laid-inside 80 (first s) s.args.out.now (out1 w) w.lay_matrix-end1.result at (le_trans (end_before 80 (first s) (second s ++ third s)) s.requires.0) same in
    high

part-lay-matrix-end : tie.Need-slice_bounds-lay_matrix-end
part-lay-matrix-end c = search rules

lay-matrix-requires-2 : tie.Need-lay_matrix-end2-requires
lay-matrix-requires-2 c κs =
    let w = c.before.before.before in
    let s = c.before.before.before.before.before.before.before.before.before.before.before.before.before.before.before.before.before in
    let (at, o, same) = stage1 w in
    let next = ap (λ (k : ℕ). end_from k (map length (second s))) at in (
      laid-room 80 (first s) (second s) s.args.out.now (out1 w) w.lay_matrix-end1.result at (le_trans (end_before 80 (first s ++ second s) (third s)) s.requires.0) same,
      end_low 4294967296 80 (first s ++ second s) (third s) (end_from w.lay_matrix-end1.result (map length (second s))) next s.requires.1,
    )

sub-lay-layout : tie.Need-overflow_sub-end2
sub-lay-layout c =
    let w = c.before.before in
    let s = c.before.before.before.before.before.before.before.before.before.before.before.before.before.before.before.before.before.before.before.before in
    let (at, o, same) = stage2 w in
    let (low, high) = laid-inside 80 (first s ++ second s) s.args.out.now (out2 w) w.lay_matrix-end2.result at (le_trans (end_before 80 (first s ++ second s) (third s)) s.requires.0) same in
    low

sub-lay-layout-2 : tie.Need-slice_bounds-lay_layout-count
sub-lay-layout-2 c =
    let w = c.before.before in
    let s = c.before.before.before.before.before.before.before.before.before.before.before.before.before.before.before.before.before.before.before.before in
    let (at, o, same) = stage2 w in
    let (low, high) = laid-inside 80 (first s ++ second s) s.args.out.now (out2 w) w.lay_matrix-end2.result at (le_trans (end_before 80 (first s ++ second s) (third s)) s.requires.0) same in
    high

part-lay-layout-start : tie.Need-slice_bounds-lay_layout-start
part-lay-layout-start c =
    let w = c.before.before in
    let s = c.before.before.before.before.before.before.before.before.before.before.before.before.before.before.before.before.before.before.before.before in
    let (at, o, same) = stage2 w in
    let (low, high) = laid-inside 80 (first s ++ second s) s.args.out.now (out2 w) w.lay_matrix-end2.result at (le_trans (end_before 80 (first s ++ second s) (third s)) s.requires.0) same in
    high

part-lay-layout-end : tie.Need-slice_bounds-lay_layout-end
part-lay-layout-end c = search rules

lay-layout-requires : tie.Need-lay_layout-requires
lay-layout-requires c κs =
    let w = c.before.before.before in
    let s = c.before.before.before.before.before.before.before.before.before.before.before.before.before.before.before.before.before.before.before.before.before in
    let (at, o, same) = stage2 w in
    let next = ap (λ (k : ℕ). end_from k (map length (third s))) at in (
      laid-room 80 (first s ++ second s) (third s) s.args.out.now (out2 w) w.lay_matrix-end2.result at s.requires.0 same,
      end_low 4294967296 80 (first s ++ (second s ++ third s)) [] (end_from w.lay_matrix-end2.result (map length (third s))) next s.requires.1,
    )

same_length : tie.Need-shape_of-out
same_length c = (stage3 c.before.before).1

returns : tie.Need-returns
returns c = (stage3 c.before.before).0

pub lay_tables_spec : {M : Type 1} → statement M
lay_tables_spec =
    tie.close
    (tie.spec
    lay-matrix-requires
    sub-lay-matrix
    sub-lay-matrix-2
    part-lay-matrix-start
    part-lay-matrix-end
    lay-matrix-requires-2
    sub-lay-layout
    sub-lay-layout-2
    part-lay-layout-start
    part-lay-layout-end
    lay-layout-requires
    same_length
    returns)

use Prim.Native.Nat.{ℕ, ◌-◌}
use native.Mathlib.Nat.{le_trans}
use mathlib.Core.Path.{◌≡◌, refl, ap, ◌∙◌}
use mathlib.Core.List.{List, [], ◌∷◌, ◌++◌, map}
use lib.ListN.{length, take, drop}
use Rattle.layout.specs.General.Lists.{written}
use Rattle.layout.specs.General.Bytes.{table_bytes}
use Rattle.layout.specs.Files.File.{end_from, laid_from}
use Rattle.file_tables.proofs.Laid.{end_before, end_low, laid-length, laid-inside, laid-room, laid-after}
use borrow.Author.Rules.{rules}
use Rattle.file_tables.proofs.lay_layout.Statement.{statement}
use Rattle.file_tables.proofs.lay_layout.Tie as tie

abbrev first : tie.Start → List ℕ
first s = table_bytes 4 s.args.cones.now

abbrev second : tie.Start → List ℕ
second s = table_bytes 8 s.args.alphas.now

abbrev third : tie.Start → List ℕ
third s = table_bytes 4 s.args.words.now

-- the contents of the output after each call, and the byte where they end
abbrev out1 : tie.After-lay_words-end1 → List ℕ
out1 c = c.lay_words-end1.new.out

stage1 : (c : tie.After-lay_words-end1) → let s = c.before.before.before.before.before.before in
    (c.lay_words-end1.result ≡ end_from s.args.end (map length (first s ∷ [])))
    × (out1 c ≡ written (laid_from s.args.end (first s ∷ [])) s.args.out.now) × (length (out1 c) ≡ length s.args.out.now)
stage1 c =
    let s = c.before.before.before.before.before.before in
    let e = c.lay_words-end1.ensures in
    (e.0, e.1, c.lay_words-end1.auto.out)

abbrev out2 : tie.After-lay_doubles-end2 → List ℕ
out2 c =
    let w = c.before.before.before.before in
    let a = c.args.end in
    let at = w.lay_words-end1.result - a in
    take at (out1 w) ++ (c.lay_doubles-end2.new.out ++ drop (length (out1 w) - at) (drop at (out1 w)))

stage2 : (c : tie.After-lay_doubles-end2) → let s = c.before.before.before.before.before.before.before.before.before.before in
    (c.lay_doubles-end2.result ≡ end_from s.args.end (map length (first s ∷ second s ∷ [])))
    × (out2 c ≡ written (laid_from s.args.end (first s ∷ second s ∷ [])) s.args.out.now) × (length (out2 c) ≡ length s.args.out.now)
stage2 c =
    let w = c.before.before.before.before in
    let s = c.before.before.before.before.before.before.before.before.before.before in
    let (at, o, same) = stage1 w in
    let room = le_trans (end_before s.args.end (first s ∷ second s ∷ []) (third s ∷ [])) s.requires.0 in
    let out = laid-after s.args.end (first s ∷ []) (second s ∷ []) s.args.out.now w.lay_words-end1.result at room o c.lay_doubles-end2.ensures.1 in (
      c.lay_doubles-end2.ensures.0 ∙ ap (λ (k : ℕ). end_from k (map length (second s ∷ []))) at,
      out,
      laid-length s.args.end (first s ∷ second s ∷ []) s.args.out.now room out,
    )

abbrev out3 : tie.After-lay_words → List ℕ
out3 c =
    let w = c.before.before.before.before in
    let a = c.args.end in
    let at = w.lay_doubles-end2.result - a in
    take at (out2 w) ++ (c.lay_words.new.out ++ drop (length (out2 w) - at) (drop at (out2 w)))

stage3 : (c : tie.After-lay_words) → let s = c.before.before.before.before.before.before.before.before.before.before.before.before.before.before in
    (c.lay_words.result ≡ end_from s.args.end (map length (first s ∷ second s ∷ third s ∷ [])))
    × (out3 c ≡ written (laid_from s.args.end (first s ∷ second s ∷ third s ∷ [])) s.args.out.now) × (length (out3 c) ≡ length s.args.out.now)
stage3 c =
    let w = c.before.before.before.before in
    let s = c.before.before.before.before.before.before.before.before.before.before.before.before.before.before in
    let (at, o, same) = stage2 w in
    let room = s.requires.0 in
    let out = laid-after s.args.end (first s ∷ second s ∷ []) (third s ∷ []) s.args.out.now w.lay_doubles-end2.result at room o c.lay_words.ensures.1 in (
      c.lay_words.ensures.0 ∙ ap (λ (k : ℕ). end_from k (map length (third s ∷ []))) at,
      out,
      laid-length s.args.end (first s ∷ second s ∷ third s ∷ []) s.args.out.now room out,
    )

lay-words-requires : tie.Need-lay_words-end1-requires
lay-words-requires c κs =
    let s = c.before.before.before.before.before in
    let a = s.args.end in
    (end_low 4294967296 a [] (first s ∷ second s ∷ third s ∷ []) a refl s.requires.1, le_trans (end_before a (first s ∷ []) (second s ∷ third s ∷ [])) s.requires.0)

sub-lay-doubles : tie.Need-overflow_sub-end1
sub-lay-doubles c =
    let w = c.before.before in
    let s = c.before.before.before.before.before.before.before.before in
    let (at, o, same) = stage1 w in
    let (low, high) = laid-inside s.args.end (first s ∷ []) s.args.out.now (out1 w) w.lay_words-end1.result at (le_trans (end_before s.args.end (first s ∷ []) (second s ∷ third s ∷ [])) s.requires.0) same in
    low

sub-lay-doubles-2 : tie.Need-slice_bounds-lay_doubles-count
sub-lay-doubles-2 c =
    let w = c.before.before in
    let s = c.before.before.before.before.before.before.before.before in
    let (at, o, same) = stage1 w in
    let (low, high) = laid-inside s.args.end (first s ∷ []) s.args.out.now (out1 w) w.lay_words-end1.result at (le_trans (end_before s.args.end (first s ∷ []) (second s ∷ third s ∷ [])) s.requires.0) same in
    high

part-lay-doubles-start : tie.Need-slice_bounds-lay_doubles-start
part-lay-doubles-start c =
    let w = c.before.before in
    let s = c.before.before.before.before.before.before.before.before in
    let (at, o, same) = stage1 w in
    let (low, high) = laid-inside s.args.end (first s ∷ []) s.args.out.now (out1 w) w.lay_words-end1.result at (le_trans (end_before s.args.end (first s ∷ []) (second s ∷ third s ∷ [])) s.requires.0) same in
    high

part-lay-doubles-end : tie.Need-slice_bounds-lay_doubles-end
part-lay-doubles-end c = search rules

lay-doubles-requires : tie.Need-lay_doubles-end2-requires
lay-doubles-requires c κs =
    let w = c.before.before.before in
    let s = c.before.before.before.before.before.before.before.before.before in
    let (at, o, same) = stage1 w in (
      end_low 4294967296 s.args.end (first s ∷ []) (second s ∷ third s ∷ []) w.lay_words-end1.result at s.requires.1,
      laid-room s.args.end (first s ∷ []) (second s ∷ []) s.args.out.now (out1 w) w.lay_words-end1.result at (le_trans (end_before s.args.end (first s ∷ second s ∷ []) (third s ∷ [])) s.requires.0) same,
    )

sub-lay-words : tie.Need-overflow_sub-end2
sub-lay-words c =
    let w = c.before.before in
    let s = c.before.before.before.before.before.before.before.before.before.before.before.before in
    let (at, o, same) = stage2 w in
    let (low, high) = laid-inside s.args.end (first s ∷ second s ∷ []) s.args.out.now (out2 w) w.lay_doubles-end2.result at (le_trans (end_before s.args.end (first s ∷ second s ∷ []) (third s ∷ [])) s.requires.0) same in
    low

sub-lay-words-2 : tie.Need-slice_bounds-lay_words-count
sub-lay-words-2 c =
    let w = c.before.before in
    let s = c.before.before.before.before.before.before.before.before.before.before.before.before in
    let (at, o, same) = stage2 w in
    let (low, high) = laid-inside s.args.end (first s ∷ second s ∷ []) s.args.out.now (out2 w) w.lay_doubles-end2.result at (le_trans (end_before s.args.end (first s ∷ second s ∷ []) (third s ∷ [])) s.requires.0) same in
    high

part-lay-words-start : tie.Need-slice_bounds-lay_words-start
part-lay-words-start c =
    let w = c.before.before in
    let s = c.before.before.before.before.before.before.before.before.before.before.before.before in
    let (at, o, same) = stage2 w in
    let (low, high) = laid-inside s.args.end (first s ∷ second s ∷ []) s.args.out.now (out2 w) w.lay_doubles-end2.result at (le_trans (end_before s.args.end (first s ∷ second s ∷ []) (third s ∷ [])) s.requires.0) same in
    high

part-lay-words-end : tie.Need-slice_bounds-lay_words-end
part-lay-words-end c = search rules

lay-words-requires-2 : tie.Need-lay_words-requires
lay-words-requires-2 c κs =
    let w = c.before.before.before in
    let s = c.before.before.before.before.before.before.before.before.before.before.before.before.before in
    let (at, o, same) = stage2 w in (
      end_low 4294967296 s.args.end (first s ∷ second s ∷ []) (third s ∷ []) w.lay_doubles-end2.result at s.requires.1,
      laid-room s.args.end (first s ∷ second s ∷ []) (third s ∷ []) s.args.out.now (out2 w) w.lay_doubles-end2.result at s.requires.0 same,
    )

same_length : tie.Need-shape_of-out
same_length c = (stage3 c.before.before).2

returns : tie.Need-returns
returns c = (stage3 c.before.before).1

pub lay_layout_spec : {M : Type 1} → statement M
lay_layout_spec =
    tie.close
    (tie.spec
    lay-words-requires
    sub-lay-doubles
    sub-lay-doubles-2
    part-lay-doubles-start
    part-lay-doubles-end
    lay-doubles-requires
    sub-lay-words
    sub-lay-words-2
    part-lay-words-start
    part-lay-words-end
    lay-words-requires-2
    same_length
    returns)

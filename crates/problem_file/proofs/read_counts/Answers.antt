use Prim.Native.Nat.{ℕ}
use native.Mathlib.Omega.{arith}
use mathlib.Core.Path.{◌≡◌, sym, ap, ◌∙◌}
use mathlib.Core.List.{List}
use lib.ListN.{length, take}
use lib.Seq.{length-take-le}
use Rattle.layout.specs.General.Lists.{written}
use Rattle.file_shape.specs.Parts.{WellShaped}
use Rattle.file_shape.proofs.Parts.{stands_long, counts_front}
use Rattle.problem_file.proofs.read_counts.Goals as goal

eight : (ws : List ℕ) → WellShaped ws → length (take 8 ws) ≡ 8
eight ws ok = length-take-le 8 ws (omega (arith, stands_long ws ok))

pub slice_bounds-copy_front-end : goal.slice_bounds-copy_front-end
slice_bounds-copy_front-end c = sym (eight c.args.words.now c.requires.0)

pub copy_front-requires : goal.copy_front-requires
copy_front-requires c = omega (arith, eight c.args.words.now c.requires.0, c.requires.1)

pub returns : goal.returns
returns c = let a = c.args in c.copy_front.ensures ∙ ap (λ (xs : List ℕ). written xs a.counts_out.now) (counts_front a.words.now c.requires.0)

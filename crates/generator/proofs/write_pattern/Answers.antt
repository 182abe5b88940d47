use Prim.Native.Nat.{ℕ, ◌+◌, ◌-◌, ◌*◌, ◌≤◌, ◌<◌}
use mathlib.Core.Path.{◌≡◌, sym, ap₂, subst, ◌∙◌}
use mathlib.Core.List.{List}
use lib.ListN.{length}
use Rattle.layout.specs.General.Lists.{written}
use Rattle.layout.specs.Problems.Patterns.{pattern_words_of}
use Rattle.layout.specs.Calls.Generate.{band}
use Rattle.generator.proofs.write_pattern.Goals as goal

pub write_words-requires : goal.write_words-requires
write_words-requires c =
    let size : length c.draw_ordering.new.out ≡ length c.args.ordering.now = c.draw_ordering.auto.out in
    subst (λ (k : ℕ). (c.args.w < k) × (k ≤ 64) × (3 + k + (k - c.args.w) * (c.args.w + 4) ≤ length c.args.out.now)) (sym size) c.requires

pub returns : goal.returns
returns c =
    let size : length c.draw_ordering.new.out ≡ length c.args.ordering.now = c.draw_ordering.auto.out in
    c.write_words.ensures
    ∙ ap₂ (λ (os : List ℕ) (k : ℕ). written (pattern_words_of (band os k c.args.w)) c.args.out.now) c.draw_ordering.ensures.out_after size

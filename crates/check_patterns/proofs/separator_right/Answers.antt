use Prim.Native.Nat.{◌-◌}
use mathlib.Core.Path.{sym, ◌∙◌}
use lib.ListN.{take, drop}
use Rattle.check_members.proofs.Walks.{rising_in}
use Rattle.check_patterns.proofs.separator_right.Goals as goal

pub returns-then-rises_below : goal.returns-then-rises_below
returns-then-rises_below c =
    let s = c.args in
    let ws = s.words.now in
    c.held.ensures
    ∙ sym (rising_in s.n (take (s.f - s.b) (drop s.b ws)) (take (s.e - s.a) (drop s.a ws)) (sym c.rises_below.ensures ∙ c.if-rises_below.true))

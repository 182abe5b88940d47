use native.Mathlib.Omega.{arith}
use mathlib.Core.Path.{ap, ◌∙◌}
use mathlib.Core.List.{List}
use lib.ListN.{length-take, length-drop}
use lib.Ieee.{Float}
use Rattle.layout.specs.General.Lists.{written}
use Rattle.layout.specs.Rows.Orders.{compact_order}
use Rattle.layout.specs.Calls.Join.{joined_parts}
use Rattle.join_cones.proofs.Laws.{rest-whole}
use Rattle.change_order.proofs.change_slacks.Goals as goal

pub move_parts-requires : goal.move_parts-requires
move_parts-requires c =
    record { sound = c.requires.sound; words_in_bounds = (simp (length-take, length-drop) (omega (arith, c.requires.words_in_bounds.0)), simp (length-take, length-drop) (omega (arith, c.requires.words_in_bounds.1))); words_in_bounds_2 = c.requires.words_in_bounds_2 }

pub returns : goal.returns
returns c =
    let a = c.args in
    let ps = joined_parts a.cones.now a.count a.words.now in
    let put : List Float → List Float → List Float = λ out vs. written (compact_order ps vs) out in
    let done = c.move_parts.ensures in record { s_out_after = done.s_out_after ∙ ap (put a.s_out.now) (rest-whole a.m a.s.now); z_out_after = done.z_out_after ∙ ap (put a.z_out.now) (rest-whole a.m a.z.now) }

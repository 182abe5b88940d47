use Prim.Native.Nat.{ℕ, ◌≤◌}
use native.Mathlib.Omega.{arith}
use mathlib.Core.Path.{◌≡◌, refl, ap, ◌∙◌}
use mathlib.Core.List.{List, map}
use borrow.Author.Rules.{rules}
use lib.ListN.{get_or}
use Rattle.layout.specs.General.Lists.{below}
use Rattle.layout.specs.General.Triangle.{triangle}
use Rattle.layout.proofs.Lists.Members.{get_or_map, length-below, get_or-below}
use Rattle.scalarmath.proofs.column_starts.column_start.Goals as goal

-- the rule of the table, computed over all entries at once
by_rule : (starts : List ℕ) → starts ≡ map triangle (below 256) → (j : ℕ) → j ≤ 255 → get_or starts j 0 ≡ triangle j
by_rule starts all j small = ap (λ (l : List ℕ). get_or l j 0) all ∙ get_or_map triangle (below 256) j 0 0 (omega (arith, length-below 256)) ∙ ap triangle (get_or-below 256 j 0 (omega arith))

pub returns : goal.returns
returns c = by_rule _ refl c.args.j (search rules)

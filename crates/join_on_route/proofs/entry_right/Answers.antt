use Rattle.std.proofs.Common.{◌≡◌, ◌∙◌, ◌-◌, ◌&&◌, ℕ, List, [], ◌∷◌, length, take, drop, refl, ap₂, eqb, nat_eq, length-drop, arith}
use lib.Pointwise.{pointwise}
use lib.Seq.{take_all}
use Rattle.std.proofs.lemmas.Bool.Decides.{nat_tests}
use Rattle.join_on_route.specs.Begins.{begins}
use Rattle.join_on_route.proofs.entry_right.Goals as goal

swap : (x y : ℕ) → nat_eq y x ≡ eqb x y
swap x y = grind (arith, nat_tests)

starts : (xs ys : List ℕ) → pointwise nat_eq ys (take (length ys) xs) ≡ begins xs ys
starts [] [] = refl
starts (x ∷ xs) [] = refl
starts [] (y ∷ ys) = refl
starts (x ∷ xs) (y ∷ ys) = ap₂ ◌&&◌ (swap x y) (starts xs ys)

pub returns : goal.returns
returns c =
    let a = c.args in
    let rest = drop a.t a.entries.now in
    let whole : take (length a.entries.now - a.t) rest ≡ rest = take_all (length a.entries.now - a.t) rest (omega (arith, length-drop a.t a.entries.now)) in
    rw whole at c.starts_with.ensures.value ∙ starts rest (a.cone ∷ a.pattern ∷ a.clique ∷ a.first ∷ a.rows ∷ [])

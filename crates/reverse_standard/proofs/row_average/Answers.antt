use Rattle.std.proofs.Common.{ℕ, ◌≡◌, Bool, true, false, refl, sym, ap, subst, ◌∙◌, cond, ltb, pos}
use lib.Dec.{T}
use lib.Ieee.{Float, div, of_int, fits, binary64}
use Rattle.layout.proofs.Floats.Division.{divided_by_one}
use Rattle.reverse_standard.specs.Averages.{shared}
use Rattle.reverse_standard.proofs.row_average.Goals as goal

-- the quotient by the divisor that is never 0 is the average
average : (k : ℕ) (v : Float) → T (fits binary64 v) → div binary64 v (of_int binary64 (pos (cond (ltb 1 k) k 1))) ≡ shared k v
average k v t = go (ltb 1 k)
  where
    go : (b : Bool) → div binary64 v (of_int binary64 (pos (cond b k 1))) ≡ cond b (div binary64 v (of_int binary64 (pos k))) v
    go true = refl
    go false = divided_by_one v t

pub returns : goal.returns
returns c =
    c.quotient.ensures
    ∙ ap (λ (k : ℕ). div binary64 c.args.v (of_int binary64 (pos k))) c.at_least_one.ensures
    ∙ average c.args.count c.args.v (subst T (sym c.well_formed.0.1) tt)

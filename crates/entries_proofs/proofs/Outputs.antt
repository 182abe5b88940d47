-- The `&mut [R]` parameters that a function with a hand-written proof passes on, as a list.
--     Lists os         their final values, a list for each
--     lefts os ws      the facts about these.        lengths       their lengths
--     Units k X        k units and then X: the final values where k parameters before have none.        units, after     adds the units, and removes them
use Prim.Native.Nat.{ℕ, zero, suc, ◌<◌, ◌^◌}
use mathlib.Core.List.{List, [], ◌∷◌}
use lib.ListN.{length}
use mir.Syntax.{Lifetime}
use base.Fml.{Fml}
use denote.RattleType.{RattleType}
use denote.Ref.{MutBor}
use Rattle.entries_proofs.proofs.Values.{left}

pub record Output : Type 2 where
  pub lifetime : Lifetime
  pub R : RattleType
  pub ref : MutBor (List R.Denot)
  pub fits : length ref.now < 2 ^ 64

abbrev pub output : Lifetime → (R : RattleType) (x : MutBor (List R.Denot)) → length x.now < 2 ^ 64 → Output
output ℓ R x fits = record { lifetime = ℓ; R = R; ref = x; fits = fits }

abbrev pub Lists : List Output → Type 0
Lists [] = Unit {0}
Lists (o ∷ os) = List o.R.Denot × Lists os

abbrev pub lefts : (os : List Output) → Lists os → List Fml
lefts [] ws = []
lefts (o ∷ os) ws = left o.R o.ref ws.0 ∷ lefts os ws.1

abbrev pub lengths : List Output → List ℕ
lengths [] = []
lengths (o ∷ os) = length o.ref.now ∷ lengths os

abbrev Units : ℕ → Type 0 → Type 0
Units zero X = X
Units (suc k) X = Unit {0} × Units k X

abbrev pub units : {X : Type 0} (k : ℕ) → X → Units k X
units zero x = x
units (suc k) x = (tt, units k x)

abbrev pub after : {X : Type 0} (k : ℕ) → Units k X → X
after zero u = u
after (suc k) u = after k u.1

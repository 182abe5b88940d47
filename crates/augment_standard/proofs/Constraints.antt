-- What the checks ensure of constraints that a route accepts, in the form of the writers' preconditions.
use Prim.Native.Nat.{ℕ, suc, ◌+◌, ◌≤◌}
use native.Mathlib.Omega.{arith}
use mathlib.Core.Path.{◌≡◌, ap, ◌∙◌}
use mathlib.Core.List.{List}
use lib.ListN.{length}
use lib.Dec.{T}
use Rattle.layout.specs.General.Lists.{written}
use Rattle.layout.specs.Problems.Problem.{Problem, Route}
use Rattle.layout.specs.Checks.{Sound, starts_right}
use Rattle.layout.proofs.Checks.Accepted.{accepted-sound, accepted_checked}
use Rattle.layout.proofs.Columns.Columns.{right_A}
use Rattle.augment_standard.specs.Constraints.{completed, Accepted}

-- writing a list is writing an equal list
pub renamed : {A : Type 0} {out xs ys : List A} (old : List A) → xs ≡ ys → out ≡ written xs old → out ≡ written ys old
renamed old e w = w ∙ ap (λ zs. written zs old) e

module _ {route : Route} {p : Problem} (h : Accepted route p) where
  abbrev pub whole : Problem
  whole = completed h.P h.q h.alphas p

  pub sound : Sound p.m p.cones p.pattern_count p.pattern_words
  sound = accepted-sound route whole h.accepted

  pub few-entries : length p.A.values ≤ 262144
  few-entries = (accepted_checked route whole h.accepted).few_entries_a

  pub starts-right : T (starts_right p.n p.A)
  starts-right = (accepted_checked route whole h.accepted).starts_a

  pub same_b : length p.b ≡ p.m
  same_b = (accepted_checked route whole h.accepted).length_b

  -- the output is long enough for the starts of A and of k columns more
  pub room-starts : (k room : ℕ) → suc (p.n + k) ≤ room → length p.A.starts + k ≤ room
  room-starts k room r = omega (arith, (right_A route whole h.accepted).count, r)

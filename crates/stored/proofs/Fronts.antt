-- The prefix of an output that is as long as a list; all of the output where the list is longer.
use Prim.Native.Nat.{ℕ, ◌+◌, ◌≤◌, ◌<◌}
use native.Mathlib.Omega.{arith}
use mathlib.Core.Path.{◌≡◌, refl, sym, ◌∙◌}
use mathlib.Core.Bool.{Bool, true, false}
use mathlib.Core.List.{List}
use lib.ListN.{length, take, drop, get_or, length-take}
use lib.Dec.{leb}
use lib.Seq.{get_or-take, length-take-le, take_all}
use borrow.Author.Tests.{leb-true, leb-false}
use Rattle.layout.specs.General.Lists.{same_by}
use Rattle.layout.proofs.Lists.Walks.{same_lengths, same_step, same_miss, same_done}

module _ {A : Type 0} (alike : A → A → Bool) (out list : List A) where
  abbrev front : List A
  front = take (length list) out

  pub front_short : length out < length list → same_by alike front list ≡ false
  front_short h = same_lengths alike front list (λ e. omega (arith, simp length-take at e))

  module _ (fits : length list ≤ length out) where
    front_length : length front ≡ length list
    front_length = length-take-le (length list) out fits

    module _ (d : A) (i : ℕ) (h : i < length list) where
      there : (b : Bool) → alike (get_or out i d) (get_or list i d) ≡ b → alike (get_or front i d) (get_or list i d) ≡ b
      there b e = rw (get_or-take) e

      pub front_step : alike (get_or out i d) (get_or list i d) ≡ true → same_by alike (drop i front) (drop i list) ≡ same_by alike (drop (i + 1) front) (drop (i + 1) list)
      front_step e = same_step alike front list d i (omega (arith, front_length)) h (there true e)

      pub front_miss : alike (get_or out i d) (get_or list i d) ≡ false → same_by alike (drop i front) (drop i list) ≡ false
      front_miss e = same_miss alike front list d i (omega (arith, front_length)) h (there false e)

    pub front_done : (i : ℕ) → length list ≤ i → same_by alike (drop i front) (drop i list) ≡ true
    front_done i h = same_done alike front list i (omega (arith, front_length)) h

module _ {A : Type 0} (out : List A) (m r : ℕ) (all : length out ≤ m → r ≡ length out) (some : m ≤ length out → r ≡ m) where
  pub front_least : take r out ≡ take m out
  front_least = go (leb m (length out)) refl
    where
      go : (b : Bool) → leb m (length out) ≡ b → take r out ≡ take m out
      go true e = rw (some (leb-true m (length out) e))
      go false e =
          let h : length out < m = leb-false m (length out) e in
          take_all r out (omega (arith, all (omega arith))) ∙ sym (take_all m out (omega arith))

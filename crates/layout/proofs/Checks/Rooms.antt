-- Check 11 of several outputs, tested output by output.
use Prim.Native.Nat.{ℕ, zero, suc, ◌+◌, ◌≤◌, ◌<◌}
use native.Mathlib.Numerals.{add-one}
use native.Mathlib.Omega.{arith}
use mathlib.Core.Path.{◌≡◌}
use mathlib.Core.Bool.{true, false}
use mathlib.Core.List.{List, [], ◌∷◌}
use lib.ListN.{length, get_or, drop, drop_of_length-le}
use lib.Seq.{drop-cons}
use lib.Dec.{T, leb}
use borrow.Author.Tests.{le-leb, lt-leb}
use Rattle.layout.specs.Calls.Answers.{roomy}
use Rattle.layout.proofs.Lists.Tests.{and_iff, leb_iff}

-- the test from output i on

module _ (ks rs : List ℕ) (i : ℕ) (l : i < length ks) where
  pub room-step : i < length rs → get_or ks i 0 ≤ get_or rs i 0 → roomy (drop i ks) (drop i rs) ≡ roomy (drop (i + 1) ks) (drop (i + 1) rs)
  room-step h e = rw (add-one, drop-cons ks i 0 l, drop-cons rs i 0 h, le-leb (get_or ks i 0) (get_or rs i 0) e)

  pub room_less : i < length rs → get_or rs i 0 < get_or ks i 0 → roomy (drop i ks) (drop i rs) ≡ false
  room_less h e = rw (drop-cons ks i 0 l, drop-cons rs i 0 h, lt-leb (get_or ks i 0) (get_or rs i 0) e)

  pub room_missing : length rs ≤ i → roomy (drop i ks) (drop i rs) ≡ false
  room_missing h = rw (drop-cons ks i 0 l, drop_of_length-le rs h)

pub room-done : (ks rs : List ℕ) (i : ℕ) → length ks ≤ i → roomy (drop i ks) (drop i rs) ≡ true
room-done ks rs i h = rw (drop_of_length-le ks h)

-- each output is long enough
pub room_fits : (ks rs : List ℕ) (i : ℕ) → T (roomy ks rs) → i < length ks → get_or ks i 0 ≤ get_or rs i 0
room_fits [] rs i h l = absurd (omega (arith, l))
room_fits (k ∷ ks) [] i h l = absurd h
room_fits (k ∷ ks) (r ∷ rs) zero h l = (leb_iff k r).0 ((and_iff (leb k r) (roomy ks rs)).0 h).0
room_fits (k ∷ ks) (r ∷ rs) (suc i) h l = room_fits ks rs i ((and_iff (leb k r) (roomy ks rs)).0 h).1 (omega (arith, l))

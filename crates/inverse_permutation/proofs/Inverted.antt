-- The inverse in the front of a table, and the refusals of the call in order.
use Prim.Native.Nat.{ℕ, suc, ◌≤◌, ◌<◌}
use native.Mathlib.Omega.{arith}
use mathlib.Core.Path.{◌≡◌, refl, sym, ap, ◌∙◌}
use mathlib.Core.Bool.{true, false}
use mathlib.Core.List.{List}
use lib.ListN.{length, take, replicate}
use lib.Dec.{T}
use borrow.Author.Tests.{le-leb, lt-leb}
use Rattle.layout.specs.General.Lists.{is_permutation, written}
use Rattle.layout.specs.Calls.Inverse.{Inverse, inverse, inverse_refusal}
use Rattle.layout.proofs.Lists.Buffers.{front_read}
use Rattle.utils.specs.Scattered.{scattered}
use Rattle.utils.proofs.Scattered.{length-inverse, scattered-inverse}
use Rattle.utils.proofs.Tables.{filled-length, filled_least}

-- a table of n numbers in which none has been placed yet suffices for m numbers
pub filled_ready : (n m : ℕ) → m ≤ n → n ≤ 4294967295
    → let table : List ℕ = replicate n 4294967295 in (table ≡ replicate (length table) 4294967295) × ((m ≤ length table) × (m ≤ 4294967295))
filled_ready n m h k = (ap (λ (i : ℕ). replicate i 4294967295) (filled-length n 4294967295), (filled_least n 4294967295 m h, omega arith))

-- the numbers placed by a permutation are its inverse, at the front of the table
pub scattered_front : (xs old : List ℕ) → T (is_permutation xs) → length xs ≤ length old → take (length xs) (scattered 0 xs old) ≡ inverse xs
scattered_front xs old p room =
    ap (λ (n : ℕ). take n (scattered 0 xs old)) (sym (length-inverse xs)) ∙ front_read (inverse xs) old (scattered-inverse xs old p room)

-- ---- refusals, in order

pub refused_order : (xs : List ℕ) (room : ℕ) → is_permutation xs ≡ false → inverse_refusal xs room ≡ 5
refused_order xs room e = rw e

pub refused-room : (xs : List ℕ) (room : ℕ) → is_permutation xs ≡ true → room < length xs → inverse_refusal xs room ≡ 11
refused-room xs room e l = rw (e, lt-leb (length xs) room l)

pub accepted : (xs : List ℕ) (room : ℕ) → is_permutation xs ≡ true → length xs ≤ room → inverse_refusal xs room ≡ 0
accepted xs room e l = rw (e, le-leb (length xs) room l)

-- ---- the output, by the number that the call gives

pub unwritten : (xs old : List ℕ) (k : ℕ) → inverse_refusal xs (length old) ≡ suc k → Inverse xs old old (inverse_refusal xs (length old))
unwritten xs old k e = record { number = refl; out = rw e refl }

pub placed : (xs old new : List ℕ) → is_permutation xs ≡ true → length xs ≤ length old → new ≡ written (inverse xs) old
    → Inverse xs old new (inverse_refusal xs (length old))
placed xs old new e l h = record { number = refl; out = rw (accepted xs (length old) e l) h }

-- The length of a table filled with one value, as a law, because computing it takes long for a large table.
use Prim.Native.Nat.{ℕ, ◌≤◌}
use mathlib.Core.Path.{◌≡◌, sym}
use lib.ListN.{length, replicate, length-replicate}

module _ {A : Type 0} (n : ℕ) (a : A) where
  pub filled-length : n ≡ length (replicate n a)
  filled-length = sym (length-replicate n a)

  pub filled_least : (m : ℕ) → m ≤ n → m ≤ length (replicate n a)
  filled_least m h = rw (length-replicate n a) h

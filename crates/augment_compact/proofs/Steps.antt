-- One step of writing `place`, and of writing the rows of the overlap columns.
use Prim.Native.Nat.{ℕ, suc, ◌+◌, ◌≤◌, ◌<◌}
use native.Mathlib.Numerals.{add-one}
use native.Mathlib.Omega.{arith}
use mathlib.Core.Path.{◌≡◌, ap, sym, ◌∙◌}
use mathlib.Core.Bool.{cond}
use mathlib.Core.List.{List, [], ◌∷◌, ◌++◌, append_assoc, append-nil}
use lib.ListN.{length, get_or, take, drop, set, length-append, take-append-drop, drop_of_length-le}
use lib.Seq.{drop-cons, take-suc, length-take-le}
use lib.Dec.{ltb}
use Rattle.augment_compact.specs.Cut.{tie, tied_rows}
use Rattle.augment_compact.specs.Places.{row_table}

-- ---- the table `place`

pub placed_step : (codes t : List ℕ) (r : ℕ) → r < length codes
    → row_table r (drop r codes) t ≡ row_table (r + 1) (drop (r + 1) codes) (cond (ltb (get_or codes r 0) 65536) (set t (get_or codes r 0) r) t)
placed_step codes t r h = rw (add-one, drop-cons codes r 0 h)

pub placed_done : (codes t : List ℕ) (r : ℕ) → length codes ≤ r → row_table r (drop r codes) t ≡ t
placed_done codes t r h = rw (drop_of_length-le codes h)

-- ---- rows of the overlap columns

tied_last : (r : ℕ) (cs : List ℕ) (c : ℕ) → tied_rows r (cs ++ (c ∷ [])) ≡ tied_rows r cs ++ tie (r + length cs) c
tied_last r [] c = append-nil (tie r c) ∙ ap (λ (k : ℕ). tie k c) (omega arith)
tied_last r (x ∷ cs) c =
    ap (λ (l : List ℕ). tie r x ++ l) (tied_last (suc r) cs c ∙ ap (λ (k : ℕ). tied_rows (suc r) cs ++ tie k c) (omega arith))
    ∙ sym (append_assoc (tie r x) (tied_rows (suc r) cs) (tie (r + length (x ∷ cs)) c))

pub tied_more : (codes : List ℕ) (r : ℕ) → r < length codes
    → tied_rows 0 (take (r + 1) codes) ≡ tied_rows 0 (take r codes) ++ tie r (get_or codes r 0)
tied_more codes r h =
    ap (tied_rows 0) (ap (λ (k : ℕ). take k codes) (add-one r) ∙ take-suc codes r 0 h)
    ∙ tied_last 0 (take r codes) (get_or codes r 0)
    ∙ ap (λ (k : ℕ). tied_rows 0 (take r codes) ++ tie k (get_or codes r 0)) (omega (arith, length-take-le r codes (omega arith)))

tied_append : (r : ℕ) (cs ds : List ℕ) → length (tied_rows r cs) ≤ length (tied_rows r (cs ++ ds))
tied_append r [] ds = omega arith
tied_append r (c ∷ cs) ds =
    omega (
      arith,
      length-append (tie r c) (tied_rows (suc r) cs),
      length-append (tie r c) (tied_rows (suc r) (cs ++ ds)),
      tied_append (suc r) cs ds,
    )

pub tied_le : (codes : List ℕ) (r : ℕ) → length (tied_rows 0 (take r codes)) ≤ length (tied_rows 0 codes)
tied_le codes r =
    omega (arith, tied_append 0 (take r codes) (drop r codes), ap (λ (l : List ℕ). length (tied_rows 0 l)) (take-append-drop r codes))

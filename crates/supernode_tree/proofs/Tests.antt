-- Tests made one after the other.
use mathlib.Core.Path.{◌≡◌, ◌∙◌}
use mathlib.Core.Bool.{Bool, true, false, ◌&&◌}

-- four tests, the last two made together
pub four_tests : (a b c d x : Bool) → x ≡ (a && b && c && d)
    → (a ≡ false → x ≡ false) × (a ≡ true → b ≡ false → x ≡ false) × (a ≡ true → b ≡ true → x ≡ (c && d))
four_tests a b c d x h = (λ e. h ∙ rw e, λ e f. h ∙ rw (e, f), λ e f. h ∙ rw (e, f))

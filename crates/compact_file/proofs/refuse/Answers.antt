use Prim.Native.Nat.{ℕ}
use mathlib.Core.Path.{◌≡◌, ap, subst}
use mathlib.Core.List.{List, ◌++◌}
use lib.ListN.{length, drop}
use Rattle.layout.specs.General.Lists.{written}
use Rattle.layout.specs.Files.File.{refused_text}
use Rattle.compact_file.proofs.Laws.{digit_written, digits_written}
use Rattle.compact_file.proofs.refuse.Goals as goal

-- what is said of a number's text is said of an equal number's
said : {k j r : ℕ} {new : List ℕ} (old : List ℕ) → k ≡ j → (r ≡ length (refused_text k)) × (new ≡ written (refused_text k) old)
    → (r ≡ length (refused_text j)) × (new ≡ written (refused_text j) old)
said {k} {j} {r} {new} old e h = subst (λ (i : ℕ). (r ≡ length (refused_text i)) × (new ≡ written (refused_text i) old)) e h

pub returns-then-number-lt10 : goal.returns-then-number-lt10
returns-then-number-lt10 c =
    let old = c.args.out.now in
    said old c.number-number.ensures
    (digit_written c.number-number.result old c.if-number-lt10.true c.requires (ap (λ (l : List ℕ). l ++ drop 8 old) c.copy_from_slice.ensures.after))

pub returns : goal.returns
returns c =
    let old = c.args.out.now in
    said old c.number-number.ensures
    (digits_written c.number-number.result old c.if-number-lt10.false c.requires (ap (λ (l : List ℕ). l ++ drop 8 old) c.copy_from_slice.ensures.after))

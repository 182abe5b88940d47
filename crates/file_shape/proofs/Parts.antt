-- Where the tables lie in words that pass checks 13 and 14.
use Prim.Native.Nat.{ℕ, ◌*◌, ◌≤◌, ◌<◌}
use native.Mathlib.Omega.{arith}
use mathlib.Core.Path.{◌≡◌, sym, ap, subst, ◌∙◌}
use mathlib.Core.List.{List}
use lib.ListN.{length, get_or, take}
use Rattle.layout.specs.Calls.Answers.{problem_refusal}
use Rattle.layout.specs.Files.File.{count_words, counts_in, table_sizes}
use Rattle.layout.specs.Files.FileWords.{word_shape_failing, words_failing, unvalued_problem}
use Rattle.layout.proofs.Checks.Order.{or_else-zero}
use Rattle.layout.proofs.Lists.Starts.{part_at}
use Rattle.layout.proofs.Files.FileWords.{words-whole}
use Rattle.layout.proofs.Files.FileWalks.{shape_long, table-stands, words-unvalued}
use Rattle.file_shape.specs.Parts.{WellShaped, Inside}

pub stands : (ws : List ℕ) (n : ℕ) → word_shape_failing ws n ≡ 0 → WellShaped ws
stands ws n ok = subst (λ (k : ℕ). word_shape_failing ws k ≡ 0) (words-whole ws n ok) ok

module _ (ws : List ℕ) (ok : WellShaped ws) where
  pub stands_long : 20 ≤ length ws
  stands_long = (shape_long ws (4 * length ws) ok).1

  pub stands_end : get_or ws 19 0 ≡ 4 * length ws
  stands_end = (shape_long ws (4 * length ws) ok).2

  -- table i, of k words, lies within the words
  pub stands-inside : (i k : ℕ) → i < 11 → 4 * k ≡ get_or (table_sizes (counts_in ws)) i 0 → Inside ws i k
  stands-inside i k l z = (omega (arith, l, stands_long), (table-stands ws (4 * length ws) ok i k l z).1)

  -- the same with a count g that k equals; a double is two words
  pub inside-words : (i k g : ℕ) → i < 11 → 4 * g ≡ get_or (table_sizes (counts_in ws)) i 0 → k ≡ g → Inside ws i k
  inside-words i k g l z e = stands-inside i k l (ap (λ (j : ℕ). 4 * j) e ∙ z)

  pub inside-doubles : (i k g : ℕ) → i < 11 → 8 * g ≡ get_or (table_sizes (counts_in ws)) i 0 → k ≡ g → Inside ws i (2 * k)
  inside-doubles i k g l z e = let twice : 4 * (2 * k) ≡ 8 * g = omega (arith, e) in stands-inside i (2 * k) l (twice ∙ z)

  -- the first eight words are the counts
  pub counts_front : take 8 ws ≡ count_words (counts_in ws)
  counts_front = sym (part_at 0 ws 0 8 (omega (arith, stands_long)))

-- words that pass all checks of the reader also pass 13 and 14
pub accepted-stands : (ws : List ℕ) (n : ℕ) → words_failing ws n ≡ 0 → WellShaped ws
accepted-stands ws n e =
    stands ws n ((or_else-zero (word_shape_failing ws n) (problem_refusal (unvalued_problem ws))).0 (sym (words-unvalued ws n) ∙ e)).0

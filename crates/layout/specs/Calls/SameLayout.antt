-- Same layout: checks 1 to 7 of the first problem, then of the second, then whether they agree in all but the values of P, q, A and b.
use Rattle.std.specs.Prelude.{ℕ, Bool, cond, ◌&&◌, List, [], ◌∷◌, ◌≡◌, length, T, eqb}
use Rattle.layout.specs.General.Lists.{same_by, same_numbers}
use Rattle.layout.specs.General.Floats.{same_bits}
use Rattle.layout.specs.Problems.Problem.{Problem, Csc}
use Rattle.layout.specs.Calls.Answers.{output, or_else, room_refusal, problem_refusal}
use Rattle.layout.specs.Calls.Cut.{Augmented, lengths}

abbrev pub same_layout_refusal : Problem → Problem → ℕ → ℕ
same_layout_refusal p q room = or_else (problem_refusal p) (or_else (problem_refusal q) (room_refusal 1 room))

-- whether two matrices have the same starts and rows: their values are not compared
abbrev pub same_places : Csc → Csc → Bool
same_places M N = same_numbers M.starts N.starts && same_numbers M.rows N.rows

-- the pattern counts need not be compared: words that pass check 5 have only one count
abbrev pub same_layout : Problem → Problem → Bool
same_layout p q =
    eqb p.n q.n && eqb p.m q.m && same_numbers p.cones q.cones
    && same_numbers p.pattern_words q.pattern_words
    && same_by same_bits p.alphas q.alphas && same_places p.A q.A && same_places p.P q.P

-- what the cuts of two problems with the same layout share, where a route accepts both
pub record SameAugmented (a c : Augmented) : Type 0 where
  pub starts : a.A.starts ≡ c.A.starts
  pub rows : a.A.rows ≡ c.A.rows
  pub cones : a.cones ≡ c.cones
  pub alphas : T (same_by same_bits a.alphas c.alphas)
  pub map : a.map ≡ c.map
  pub starts_p : a.P.starts ≡ c.P.starts
  pub rows_p : a.P.rows ≡ c.P.rows
  -- corresponding outputs have equal lengths
  pub lengths : lengths a ≡ lengths c

abbrev pub same_layout_words : Problem → Problem → List ℕ
same_layout_words p q = cond (same_layout p q) 1 0 ∷ []

pub record SameLayout (p q : Problem) (before after : List ℕ) (r : ℕ) : Type 0 where
  pub number : r ≡ same_layout_refusal p q (length before)
  pub out : after ≡ output r (same_layout_words p q) before

-- A problem's eleven tables as the outputs of a call.
use Rattle.std.specs.Prelude.{ℕ, ◌≡◌, List, [], ◌∷◌, length, take, Float}
use Rattle.layout.specs.Problems.Problem.{Problem, Csc}
use Rattle.layout.specs.Calls.Answers.{output}
use Rattle.layout.specs.Calls.Cut.{Objective, HoldsObjective, Constrained, HoldsConstrained}

pub record Tables : Type 0 where
  pub P : Csc
  pub q : List Float
  pub A : Csc
  pub b : List Float
  pub cones : List ℕ
  pub alphas : List Float
  pub pattern_words : List ℕ

abbrev pub tables : List ℕ → List ℕ → List Float → List Float → List ℕ → List ℕ → List Float → List Float → List ℕ → List Float → List ℕ → Tables
tables p_starts p_rows p_values q a_starts a_rows a_values b cones alphas words = record {
  P = record { starts = p_starts; rows = p_rows; values = p_values };
  q = q;
  A = record { starts = a_starts; rows = a_rows; values = a_values };
  b = b;
  cones = cones;
  alphas = alphas;
  pattern_words = words;
}

abbrev pub tables_of : Problem → Tables
tables_of p = record {
  P = p.P;
  q = p.q;
  A = p.A;
  b = p.b;
  cones = p.cones;
  alphas = p.alphas;
  pattern_words = p.pattern_words;
}

-- the problem with n columns, m rows and k patterns whose tables are prefixes of the outputs, as long as those of p
abbrev pub problem_at : ℕ → ℕ → ℕ → Problem → Tables → Problem
problem_at n m k p t = record {
  n = n;
  m = m;
  P = record {
    starts = take (length p.P.starts) t.P.starts;
    rows = take (length p.P.rows) t.P.rows;
    values = take (length p.P.values) t.P.values;
  };
  q = take (length p.q) t.q;
  A = record {
    starts = take (length p.A.starts) t.A.starts;
    rows = take (length p.A.rows) t.A.rows;
    values = take (length p.A.values) t.A.values;
  };
  b = take (length p.b) t.b;
  cones = take (length p.cones) t.cones;
  alphas = take (length p.alphas) t.alphas;
  pattern_count = k;
  pattern_words = take (length p.pattern_words) t.pattern_words;
}

-- the length of each output, in the order of `tableLengths`
abbrev pub table_rooms : Tables → List ℕ
table_rooms t =
    length t.P.starts ∷ length t.P.rows ∷ length t.P.values ∷ length t.q
    ∷ length t.A.starts ∷ length t.A.rows ∷ length t.A.values ∷ length t.b
    ∷ length t.cones ∷ length t.alphas ∷ length t.pattern_words ∷ []

abbrev objective_in : Tables → Objective
objective_in t = record { P = t.P; q = t.q; alphas = t.alphas }

abbrev constrained_in : Tables → Constrained
constrained_in t = record { A = t.A; b = t.b; cones = t.cones }

-- each table of `new` at the start of its output where the refusal number is 0; otherwise each output is unchanged
pub record HoldsTables (r : ℕ) (new before after : Tables) : Type 0 where
  pub objective : HoldsObjective r (objective_in new) (objective_in before) (objective_in after)
  pub constrained : HoldsConstrained r (constrained_in new) (constrained_in before) (constrained_in after)
  pub pattern_words : after.pattern_words ≡ output r new.pattern_words before.pattern_words

-- A problem as flat tables, a route, a solution. Definitions only.
use Rattle.std.specs.Prelude.{ℕ, List, [], ◌∷◌, length, Float}

pub data Route : Type 0 where
  standard compact : Route

-- a matrix in compressed columns
pub record Csc : Type 0 where
  pub starts : List ℕ
  pub rows : List ℕ
  pub values : List Float

pub record Problem : Type 0 where
  pub n : ℕ
  pub m : ℕ
  pub P : Csc
  pub q : List Float
  pub A : Csc
  pub b : List Float
  -- cone records: kind, first size, second size
  pub cones : List ℕ
  pub alphas : List Float
  -- the number of patterns, and their words
  pub pattern_count : ℕ
  pub pattern_words : List ℕ

-- a problem from its tables, as contracts write it
abbrev pub problem : ℕ → ℕ → List ℕ → List ℕ → List Float → List Float → List ℕ → List ℕ → List Float → List Float
    → List ℕ → List Float → ℕ → List ℕ → Problem
problem n m p_starts p_rows p_values q a_starts a_rows a_values b cones alphas count words = record {
  n = n;
  m = m;
  P = record { starts = p_starts; rows = p_rows; values = p_values };
  q = q;
  A = record { starts = a_starts; rows = a_rows; values = a_values };
  b = b;
  cones = cones;
  alphas = alphas;
  pattern_count = count;
  pattern_words = words;
}

-- the matrix A with its right side
pub record System : Type 0 where
  pub A : Csc
  pub b : List Float

-- a system from its tables, as contracts write it
abbrev pub system : List ℕ → List ℕ → List Float → List Float → System
system starts rows values b = record { A = record { starts = starts; rows = rows; values = values }; b = b }

-- the length of each of a problem's eleven tables, in the order of a call's parameters
abbrev pub table_lengths : Problem → List ℕ
table_lengths p =
    length p.P.starts ∷ length p.P.rows ∷ length p.P.values ∷ length p.q
    ∷ length p.A.starts ∷ length p.A.rows ∷ length p.A.values ∷ length p.b
    ∷ length p.cones ∷ length p.alphas ∷ length p.pattern_words ∷ []

-- a problem with another right side
abbrev pub with_b : Problem → List Float → Problem
with_b p b = record {
  n = p.n;
  m = p.m;
  P = p.P;
  q = p.q;
  A = p.A;
  b = b;
  cones = p.cones;
  alphas = p.alphas;
  pattern_count = p.pattern_count;
  pattern_words = p.pattern_words;
}

pub record Solution : Type 0 where
  pub x : List Float
  pub s : List Float
  pub z : List Float
  pub tau : Float
  pub kappa : Float

-- a solution from its parts, as contracts write it
abbrev pub solution : List Float → List Float → List Float → Float → Float → Solution
solution x s z tau kappa = record { x = x; s = s; z = z; tau = tau; kappa = kappa }

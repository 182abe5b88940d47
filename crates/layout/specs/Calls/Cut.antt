-- The cut: the augmented problem with its cone map, the refusal number, and the contract. Functions that write only some of the outputs have
-- parts of it.
use Rattle.std.specs.Prelude.{ℕ, cond, List, [], ◌∷◌, map, ◌≡◌, length, get_or, take, Float}
use Rattle.layout.specs.Problems.Problem.{Problem, Csc, Route, standard, compact}
use Rattle.layout.specs.Checks.{layout, refusal}
use Rattle.layout.specs.Cuts.Compact.{cone_map, map_words, compact_a, compact_b, compact_p, compact_q, compact_cones}
use Rattle.layout.specs.Cuts.Standard.{standard_a, standard_b, standard_p, standard_q, standard_cones}
use Rattle.layout.specs.Calls.Answers.{output, or_else, roomy, on_route, route_of}

pub record Augmented : Type 0 where
  pub P : Csc
  pub q : List Float
  pub A : Csc
  pub b : List Float
  pub cones : List ℕ
  pub alphas : List Float
  pub map : List ℕ

abbrev pub augmented : Route → Problem → Augmented
augmented standard p = record {
  P = standard_p p;
  q = standard_q p;
  A = standard_a p;
  b = standard_b p;
  cones = standard_cones p;
  alphas = p.alphas;
  map = [];
}
augmented compact p = record {
  P = compact_p p;
  q = compact_q p;
  A = compact_a p;
  b = compact_b p;
  cones = compact_cones p;
  alphas = p.alphas;
  map = map_words (cone_map (layout p));
}

-- the same results with another b
abbrev pub augmented_with_b : Augmented → List Float → Augmented
augmented_with_b a b = record { P = a.P; q = a.q; A = a.A; b = b; cones = a.cones; alphas = a.alphas; map = a.map }

-- the length of each output, in the order of the outputs
abbrev pub lengths : Augmented → List ℕ
lengths a =
    length a.P.starts ∷ length a.P.rows ∷ length a.P.values ∷ length a.q
    ∷ length a.A.starts ∷ length a.A.rows ∷ length a.A.values ∷ length a.b
    ∷ length a.cones ∷ length a.alphas ∷ length a.map ∷ []

abbrev pub sizes : Route → Problem → List ℕ
sizes route p = lengths (augmented route p)

-- the refusal number of the cut; `rooms` has the length of each output, in the same order
abbrev pub cut_refusal : Route → Problem → List ℕ → ℕ
cut_refusal route p rooms = or_else (refusal route p) (cond (roomy (sizes route p) rooms) 0 11)

-- ---- P, q and the exponents

pub record Objective : Type 0 where
  pub P : Csc
  pub q : List Float
  pub alphas : List Float

abbrev pub objective : List ℕ → List ℕ → List Float → List Float → List Float → Objective
objective p_starts p_rows p_values q alphas = record { P = record { starts = p_starts; rows = p_rows; values = p_values }; q = q; alphas = alphas }

abbrev pub objective_of : Augmented → Objective
objective_of a = record { P = a.P; q = a.q; alphas = a.alphas }

-- each table of `new` at the start of its output where the refusal number is 0; otherwise each output is unchanged
pub record HoldsObjective (r : ℕ) (new before after : Objective) : Type 0 where
  pub p_starts : after.P.starts ≡ output r new.P.starts before.P.starts
  pub p_rows : after.P.rows ≡ output r new.P.rows before.P.rows
  pub p_values : after.P.values ≡ output r new.P.values before.P.values
  pub q : after.q ≡ output r new.q before.q
  pub alphas : after.alphas ≡ output r new.alphas before.alphas

-- ---- A, b and the cones

pub record Constrained : Type 0 where
  pub A : Csc
  pub b : List Float
  pub cones : List ℕ

abbrev pub constrained : List ℕ → List ℕ → List Float → List Float → List ℕ → Constrained
constrained a_starts a_rows a_values b cones = record { A = record { starts = a_starts; rows = a_rows; values = a_values }; b = b; cones = cones }

abbrev pub constrained_of : Augmented → Constrained
constrained_of a = record { A = a.A; b = a.b; cones = a.cones }

pub record HoldsConstrained (r : ℕ) (new before after : Constrained) : Type 0 where
  pub a_starts : after.A.starts ≡ output r new.A.starts before.A.starts
  pub a_rows : after.A.rows ≡ output r new.A.rows before.A.rows
  pub a_values : after.A.values ≡ output r new.A.values before.A.values
  pub b : after.b ≡ output r new.b before.b
  pub cones : after.cones ≡ output r new.cones before.cones

-- ---- the cut

-- the eleven outputs, as the tables of an augmented problem
abbrev pub outputs : List ℕ → List ℕ → List Float → List Float → List ℕ → List ℕ → List Float → List Float → List ℕ → List Float → List ℕ → Augmented
outputs p_starts p_rows p_values q a_starts a_rows a_values b cones alphas map = record {
  P = record { starts = p_starts; rows = p_rows; values = p_values };
  q = q;
  A = record { starts = a_starts; rows = a_rows; values = a_values };
  b = b;
  cones = cones;
  alphas = alphas;
  map = map;
}

pub record Holds (r : ℕ) (new before after : Augmented) : Type 0 where
  pub objective : HoldsObjective r (objective_of new) (objective_of before) (objective_of after)
  pub constrained : HoldsConstrained r (constrained_of new) (constrained_of before) (constrained_of after)
  pub map : after.map ≡ output r new.map before.map

pub record Cut (route : ℕ) (p : Problem) (before after : Augmented) (r : ℕ) : Type 0 where
  pub number : r ≡ on_route route (λ rt. cut_refusal rt p (lengths before))
  pub tables : Holds r (augmented (route_of route) p) before after

-- the prefix of output i, with the length that the size call gives
abbrev pub front_on : {A : Type 0} → Route → Problem → ℕ → List A → List A
front_on route p i out = take (get_or (sizes route p) i 0) out

-- The contract of the compact cut that writes the cone map as a list of structs, each made from an entry by `struct_of`.
use Rattle.std.specs.Prelude.{ℕ, ◌*◌, ◌≡◌, List, [], ◌∷◌, map, length, Float}
use Rattle.layout.specs.Problems.Problem.{Problem, compact}
use Rattle.layout.specs.Checks.{layout}
use Rattle.layout.specs.Cuts.Compact.{MapEntry, cone_map}
use Rattle.layout.specs.Calls.Answers.{output}
use Rattle.layout.specs.Calls.Cut.{augmented, cut_refusal, Objective, objective, objective_of, HoldsObjective, Constrained, constrained, constrained_of, HoldsConstrained}

-- the eleven outputs
pub record EntryTables (E : Type 0) : Type 0 where
  pub objective : Objective
  pub constrained : Constrained
  pub map : List E

abbrev pub entry_outputs : {E : Type 0} → List ℕ → List ℕ → List Float → List Float → List ℕ → List ℕ → List Float → List Float → List ℕ → List Float → List E → EntryTables E
entry_outputs p_starts p_rows p_values q a_starts a_rows a_values b cones alphas entries = record {
  objective = objective p_starts p_rows p_values q alphas;
  constrained = constrained a_starts a_rows a_values b cones;
  map = entries;
}

-- the length of each output, that of the map in words: an entry has five
abbrev pub entry_rooms : {E : Type 0} → EntryTables E → List ℕ
entry_rooms a =
    let o = a.objective in
    let c = a.constrained in
    length o.P.starts ∷ length o.P.rows ∷ length o.P.values ∷ length o.q
    ∷ length c.A.starts ∷ length c.A.rows ∷ length c.A.values ∷ length c.b
    ∷ length c.cones ∷ length o.alphas ∷ length a.map * 5 ∷ []

pub record CutEntries {E : Type 0} (struct_of : MapEntry → E) (p : Problem) (before after : EntryTables E) (r : ℕ) : Type 0 where
  pub number : r ≡ cut_refusal compact p (entry_rooms before)
  pub objective : HoldsObjective r (objective_of (augmented compact p)) before.objective after.objective
  pub constrained : HoldsConstrained r (constrained_of (augmented compact p)) before.constrained after.constrained
  pub entries : after.map ≡ output r (map struct_of (cone_map (layout p))) before.map

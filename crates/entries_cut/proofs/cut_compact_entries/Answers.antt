use Rattle.std.proofs.Common.{◌≡◌, ℕ, List, [], ◌∷◌, length, refl, sym, subst, arith}
use Rattle.layout.specs.Problems.Problem.{Problem, compact}
use Rattle.layout.specs.Calls.Cut.{cut_refusal, objective}
use Rattle.layout.specs.Calls.CutEntries.{EntryTables, entry_outputs, entry_rooms, CutEntries}
use Rattle.layout.proofs.Promises.{objective-kept, constrained-kept, output-kept}
use Rattle.constants.specs.Refusals.{number}
use Rattle.constants.proofs.Answers.{passed_on, number_positive}
use Rattle.problemdata.specs.Tables.{problem_of}
use Rattle.cut_laws.proofs.Rooms.{objective-cut}
use Rattle.entries_map.specs.declared.ConeMapEntry.{ConeMapEntry}
use Rattle.entries_map.specs.Entries.{struct_of}
use Rattle.entries_cut.specs.Rooms.{room_words}
use Rattle.entries_cut.proofs.Rooms.{refused-entries, constraints_fit, objective-fits, map-fits, entries_fit}
use Rattle.entries_cut.proofs.cut_compact_entries.Goals as goal
use Rattle.entries_cut.proofs.cut_compact_entries.Goals.{Start}

module _ (s : Start) where
  abbrev given : Problem
  given = problem_of s.args.problem.now

  abbrev before : EntryTables ConeMapEntry
  before =
      let a = s.args in
      entry_outputs a.p_starts_out.now a.p_rows_out.now a.p_values_out.now a.q_out.now a.a_starts_out.now a.a_rows_out.now a.a_values_out.now a.b_out.now
      a.cones_out.now a.alphas_out.now a.map_out.now

  -- the lengths but for the map's
  abbrev rooms : List ℕ
  rooms =
      let a = s.args in
      length a.p_starts_out.now ∷ length a.p_rows_out.now ∷ length a.p_values_out.now ∷ length a.q_out.now ∷ length a.a_starts_out.now
      ∷ length a.a_rows_out.now ∷ length a.a_values_out.now ∷ length a.b_out.now ∷ length a.cones_out.now ∷ length a.alphas_out.now ∷ []

  -- the number of the checks is that of the contract
  answered : {r k : ℕ} → let a = s.args in
      r ≡ cut_refusal compact given (length a.p_starts_out.now ∷ length a.p_rows_out.now ∷ length a.p_values_out.now ∷ length a.q_out.now ∷ length a.a_starts_out.now
      ∷ length a.a_rows_out.now ∷ length a.a_values_out.now ∷ length a.b_out.now ∷ length a.cones_out.now ∷ length a.alphas_out.now ∷ k ∷ [])
      → k ≡ room_words (length a.map_out.now) → r ≡ cut_refusal compact given (entry_rooms before)
  answered e w = refused-entries given rooms (length s.args.map_out.now) refl e w

pub returns-in_err-c : goal.returns-in_err-c
returns-in_err-c c =
    let s = (goal.at.returns-in_err-c c).Start in
    let e = c.in_err-c.field-0.0 in
    let some = number_positive e in
    let refuses : number e ≡ 0 → ⊥ = λ z. omega (arith, some, z) in
    subst (λ (r : ℕ). CutEntries struct_of (given s) (before s) (before s) r) (sym (passed_on c.from_residual.result e c.from_residual.ensures)) (record {
      number = answered s c.in_err-c.ensures.refusal_value c.words_of.ensures;
      objective = objective-kept (number e) refuses _ _;
      constrained = constrained-kept (number e) refuses _ _;
      entries = output-kept (number e) _ _ refuses;
    })

pub write_objective-requires : goal.write_objective-requires
write_objective-requires c =
    let s = (goal.at.write_objective-requires c).Start in
    objective-fits (given s) (before s) (sym (answered s c.in_ok-c.ensures.refusal_value c.words_of.ensures)) c.in_ok-c.c.columns c.in_ok-c.ensures.adds.1

pub decomp_augment_compact-requires : goal.decomp_augment_compact-requires
decomp_augment_compact-requires c =
    let s = (goal.at.decomp_augment_compact-requires c).Start in
    let g = c.in_ok-c.ensures.adds in
    (constraints_fit (given s) (before s) (sym (answered s c.in_ok-c.ensures.refusal_value c.words_of.ensures)) c.in_ok-c.c.columns g.1, g.0)

pub write_map-requires : goal.write_map-requires
write_map-requires c =
    let s = (goal.at.write_map-requires c).Start in
    let none = sym (answered s c.in_ok-c.ensures.refusal_value c.words_of.ensures) in
    let (sound, few) = map-fits (given s) (before s) none in
    record { sound = sound; rows_bound = few; in_bounds = entries_fit (given s) (before s) none }

pub returns : goal.returns
returns c =
    let s = (goal.at.returns c).Start in
    let w = c.write_objective.new in record {
      number = answered s c.in_ok-c.ensures.refusal_value c.words_of.ensures;
      objective = objective-cut (given s) compact c.in_ok-c.c.columns c.in_ok-c.ensures.adds.1 {after = objective w.p_starts_out w.p_rows_out w.p_values_out w.q_out w.alphas_out} c.write_objective.ensures;
      constrained = c.decomp_augment_compact.ensures;
      entries = c.write_map.ensures;
    }

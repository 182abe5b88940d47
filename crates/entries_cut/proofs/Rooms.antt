-- Counting the room of a slice of entries in words: the cap on the count changes no refusal.
use Prim.Native.Nat.{ℕ, zero, suc, ◌+◌, ◌*◌, ◌≤◌, ◌<◌}
use native.Mathlib.Omega.{arith}
use mathlib.Core.Path.{◌≡◌, refl, sym, ap, subst, ◌∙◌}
use mathlib.Core.Logic.{inl, inr}
use mathlib.Core.Bool.{Bool, cond, ◌&&◌}
use mathlib.Core.List.{List, [], ◌∷◌, ◌++◌, map}
use lib.ListN.{length, get_or, get_or-append}
use lib.Dec.{leb, ltb}
use Rattle.layout.specs.General.Lists.{below, written}
use Rattle.layout.specs.Problems.Problem.{Problem, compact}
use Rattle.layout.specs.Rows.Blocks.{block_row_count, overlap_count}
use Rattle.layout.specs.Checks.{Sound, layout, refusal}
use Rattle.layout.specs.Cuts.Compact.{MapEntry, whole_cone, cone_map, map_words}
use Rattle.layout.specs.Calls.Cut.{augmented, sizes, cut_refusal, Objective, objective_of, HoldsObjective, Constrained, HoldsConstrained}
use Rattle.layout.specs.Calls.Join.{joined_parts}
use Rattle.layout.specs.Calls.Answers.{output, or_else, roomy}
use Rattle.layout.specs.Calls.CutEntries.{EntryTables, entry_rooms}
use Rattle.layout.proofs.Lists.Tests.{and_iff, leb_iff, ltb_iff, tested, cond_passed, cond_failed, passed}
use Rattle.layout.proofs.Checks.Accepted.{accepted-sound}
use Rattle.layout.proofs.Lists.Members.{has-below}
use Rattle.layout.proofs.Lists.Joins.{map_same, map-drop}
use Rattle.layout.proofs.Columns.Sizes.{compact_sizes_lem, map-count, entries-length}
use Rattle.layout.proofs.Rows.ConeMap.{Told, map-told}
use Rattle.entries_map.specs.declared.ConeMapEntry.{ConeMapEntry}
use Rattle.entries_map.specs.Entries.{struct_of, tree_of, struct_at}
use Rattle.entries_map.proofs.Entries.{read_back}
use Rattle.entries_map.proofs.Few.{map-few as entries-few}
use Rattle.chordal_info.proofs.Counts.{accepted_fitting}
use Rattle.cut_standard.specs.Fits.{extended, ObjectiveFits, ConstrainedFits}
use Rattle.layout.proofs.Promises.{Taken, taken}
use Rattle.cut_laws.proofs.Rooms.{only, uncut, objective-cut, objective_asked, Rooms, on_route_lem, accepted-constraints}
use Rattle.entries_cut.specs.Rooms.{room_words, unless_refused}

enough : (k entries : ℕ) → k ≤ 81920 → leb k (room_words entries) ≡ leb k (entries * 5)
enough k entries few = elim (tested (ltb 16384 entries)) [
  | inl h ↦
      ap (leb k) (cond_passed (ltb 16384 entries) 81920 (entries * 5) h)
      ∙ passed (leb k 81920) ((leb_iff k 81920).1 few)
      ∙ sym (passed (leb k (entries * 5)) ((leb_iff k (entries * 5)).1 (omega (arith, (ltb_iff 16384 entries).0 h))))
  | inr h ↦ ap (leb k) (cond_failed (ltb 16384 entries) 81920 (entries * 5) h)
]

last_room : (ks rs : List ℕ) (a b : ℕ) → leb (get_or ks (length rs) 0) a ≡ leb (get_or ks (length rs) 0) b
    → roomy ks (rs ++ (a ∷ [])) ≡ roomy ks (rs ++ (b ∷ []))
last_room [] rs a b e = refl
last_room (k ∷ ks) [] a b e = ap (λ (t : Bool). t && roomy ks []) e
last_room (k ∷ ks) (r ∷ rs) a b e = ap (λ (t : Bool). leb k r && t) (last_room ks rs a b e)

map-few : (p : Problem) → refusal compact p ≡ 0 → get_or (sizes compact p) 10 0 ≤ 81920
map-few p ok =
    omega (arith, ap (λ (ks : List ℕ). get_or ks 10 0) (compact_sizes_lem p ok), map-count 0 (layout p), entries-few (accepted-sound compact p ok))

same_refusal : (p : Problem) (rs : List ℕ) (entries : ℕ) → length rs ≡ 10
    → cut_refusal compact p (rs ++ (room_words entries ∷ [])) ≡ cut_refusal compact p (rs ++ (entries * 5 ∷ []))
same_refusal p rs entries ten = go (refusal compact p) (λ ok. last_room (sizes compact p) rs (room_words entries) (entries * 5)
    (enough (get_or (sizes compact p) (length rs) 0) entries (subst (λ (i : ℕ). get_or (sizes compact p) i 0 ≤ 81920) (sym ten) (map-few p ok))))
  where
    go : (a : ℕ) → (a ≡ 0 → roomy (sizes compact p) (rs ++ (room_words entries ∷ [])) ≡ roomy (sizes compact p) (rs ++ (entries * 5 ∷ [])))
        → or_else a (cond (roomy (sizes compact p) (rs ++ (room_words entries ∷ []))) 0 11) ≡ or_else a (cond (roomy (sizes compact p) (rs ++ (entries * 5 ∷ []))) 0 11)
    go zero e = ap (λ (t : Bool). cond t 0 11) (e refl)
    go (suc a) e = refl

-- the capped word count of the map's room gives the same refusal as the full one
pub refused-entries : (p : Problem) (rs : List ℕ) (entries : ℕ) {r k : ℕ} → length rs ≡ 10 → r ≡ cut_refusal compact p (rs ++ (k ∷ [])) → k ≡ room_words entries
    → r ≡ cut_refusal compact p (rs ++ (entries * 5 ∷ []))
refused-entries p rs entries ten e words = e ∙ ap (λ (k : ℕ). cut_refusal compact p (rs ++ (k ∷ []))) words ∙ same_refusal p rs entries ten

-- ---- preconditions and postconditions of the writers

-- what is written for number 0 is written for any number r that equals 0
pub objective-put : {r : ℕ} {new before after : Objective} → r ≡ 0 → HoldsObjective 0 new before after → HoldsObjective r new before after
objective-put {r} {new} {before} {after} e h = subst (λ (k : ℕ). HoldsObjective k new before after) (sym e) h

pub constrained-put : {r : ℕ} {new before after : Constrained} → r ≡ 0 → HoldsConstrained 0 new before after → HoldsConstrained r new before after
constrained-put {r} {new} {before} {after} e h = subst (λ (k : ℕ). HoldsConstrained k new before after) (sym e) h

-- the objective of the cut, where k is the number of columns that the route adds unless the problem is refused
pub objective-cut-by : (p : Problem) (r k : ℕ) → (r ≡ 0 → k ≡ overlap_count (layout p)) → {before after : Objective}
    → HoldsObjective r (extended k (uncut p)) before after → HoldsObjective r (objective_of (augmented compact p)) before after
objective-cut-by p zero k e h = objective-cut p compact k (e refl) h
objective-cut-by p (suc r) k e h = record { p_starts = h.p_starts; p_rows = h.p_rows; p_values = h.p_values; q = h.q; alphas = h.alphas }

module _ {E : Type 0} (p : Problem) (before : EntryTables E) (e : cut_refusal compact p (entry_rooms before) ≡ 0) where
  ok : Taken compact p (entry_rooms before)
  ok = (taken 1 p (entry_rooms before) e).1

  there : Rooms p (entry_rooms before) compact (overlap_count (layout p))
  there = on_route_lem p (entry_rooms before) compact ok (overlap_count (layout p)) refl

  pub constraints_fit : (k : ℕ) → k ≡ overlap_count (layout p) → ConstrainedFits compact (only p) k before.constrained
  constraints_fit k f =
      let room = (on_route_lem p (entry_rooms before) compact ok k f).1 in
      record { accepted = accepted-constraints p (entry_rooms before) compact ok k f; added = f; starts = room.0; rows = room.1; values = room.2; slacks = room.3; cones = room.4 }

  pub objective-fits : (k : ℕ) → k ≡ overlap_count (layout p) → ObjectiveFits p.n k (uncut p) before.objective
  objective-fits k f =
      let h = objective_asked p (entry_rooms before) compact ok k f in
      record { right = h.0; starts = h.1.0; rows = h.1.1; values = h.1.2; costs = h.1.3; alphas = h.1.4 }

  pub map-fits : Sound p.m p.cones p.pattern_count p.pattern_words × (block_row_count (layout p) ≤ 262144)
  map-fits =
      let h = accepted_fitting compact p ok.0 in
      (accepted-sound compact p ok.0, (leb_iff (block_row_count (layout p)) 262144).0 ((and_iff (leb (block_row_count (layout p)) 262144) (leb (overlap_count (layout p)) 131072)).0 h.2).0)

  pub entries_fit : length (cone_map (layout p)) ≤ length before.map
  entries_fit = omega (arith, there.1.5, entries-length (cone_map (layout p)))

-- ---- the entries

read_first : (xs rest : List ℕ) (k : ℕ) → k * 5 + 5 ≤ length xs → struct_at (xs ++ rest) k ≡ struct_at xs k
read_first xs rest k l =
    let word : (j : ℕ) → j < length xs → get_or (xs ++ rest) j 0 ≡ get_or xs j 0 = λ j h. get_or-append xs rest 0 j h in
    λ z. record {
      orig_index = word (k * 5) (omega arith) z;
      tree_and_clique = tree_of (word (k * 5 + 1) (omega arith) z) (word (k * 5 + 2) (omega arith) z);
      first_row = word (k * 5 + 3) (omega arith) z;
      row_count = word (k * 5 + 4) (omega arith) z;
    }

-- entries read from a table whose front holds the words of es are es
pub all_read : (es : List MapEntry) → Told es → (k : ℕ) (ws old : List ℕ) → k ≡ length es → ws ≡ written (map_words es) old → map (struct_at ws) (below k) ≡ map struct_of es
all_read es h k ws old n e =
    map_same (struct_at ws) (λ j. struct_of (get_or es j (whole_cone 0 0 0))) (below k)
    (λ j t.
    let l : j < length es = omega (arith, n, (has-below j k).0 t) in
    ap (λ (us : List ℕ). struct_at us j) e ∙ read_first (map_words es) _ j (omega (arith, entries-length es)) ∙ read_back es j (whole_cone 0 0 0) l h)
    ∙ sym (map-drop struct_of (whole_cone 0 0 0) es 0 k (omega (arith, n)))

module _ {m : ℕ} {cones : List ℕ} {count : ℕ} {words : List ℕ} (refused : ℕ) (sound : refused ≡ 0 → Sound m cones count words) where
  abbrev es : List MapEntry
  es = cone_map (joined_parts cones count words)

  entries_in : length (unless_refused refused (cone_map (joined_parts cones count words))) ≤ 16384
  entries_in = go refused sound
    where
      go : (r : ℕ) → (r ≡ 0 → Sound m cones count words) → length (unless_refused r es) ≤ 16384
      go zero h = entries-few (h refl)
      go (suc r) h = omega arith

  -- the table has room for their words
  pub table_fits : (k : ℕ) (ws : List ℕ) → k ≡ length (unless_refused refused (cone_map (joined_parts cones count words))) → length ws ≡ 81920 → k * 5 ≤ length ws
  table_fits k ws n e = omega (arith, n, e, entries_in)

  -- entries read from a table whose front holds their words are the entries of the cone map
  pub entries-read : (k : ℕ) (ws old : List ℕ) (ys : List ConeMapEntry) → k ≡ length (unless_refused refused (cone_map (joined_parts cones count words)))
      → ws ≡ written (map_words (unless_refused refused (cone_map (joined_parts cones count words)))) old
      → written (map (struct_at ws) (below k)) ys ≡ output refused (map struct_of (cone_map (joined_parts cones count words))) ys
  entries-read k ws old ys = go refused sound
    where
      go : (r : ℕ) → (r ≡ 0 → Sound m cones count words) → k ≡ length (unless_refused r es) → ws ≡ written (map_words (unless_refused r es)) old
          → written (map (struct_at ws) (below k)) ys ≡ output r (map struct_of es) ys
      go zero h n e = ap (λ (xs : List ConeMapEntry). written xs ys) (all_read es (map-told (h refl)) k ws old n e)
      go (suc r) h n e = ap (λ (j : ℕ). written (map (struct_at ws) (below j)) ys) n

pub none-refused : {A : Type 0} (r : ℕ) (xs : List A) → (r ≡ 0 → ⊥) → unless_refused r xs ≡ []
none-refused zero xs h = absurd (h refl)
none-refused (suc r) xs h = refl

-- the entries fit where they fit for an accepted problem
pub room_for : (r : ℕ) (es : List MapEntry) (n : ℕ) → (r ≡ 0 → length es ≤ n) → (k : ℕ) → k ≡ length (unless_refused r es) → k ≤ n
room_for zero es n h k e = omega (arith, e, h refl)
room_for (suc r) es n h k e = omega (arith, e)

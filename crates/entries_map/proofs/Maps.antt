-- layout's `sameMap` holds exactly for equal maps.
use mathlib.Core.Path.{◌≡◌, refl, sym, ap₂}
use mathlib.Core.List.{List, [], ◌∷◌}
use mathlib.Core.Logic.{◌↔◌}
use lib.Dec.{T, eqb, eqb_refl}
use Rattle.layout.specs.Cuts.Compact.{MapEntry, whole_cone, block_of}
use Rattle.layout.proofs.Lists.Tests.{and_iff, eqb_iff}
use Rattle.layout.specs.Calls.JoinEntries.{same_entry, same_map}

entry_equal : (a b : MapEntry) → T (same_entry a b) → a ≡ b
entry_equal (whole_cone i a n) (whole_cone j b o) h =
    let t = simp (and_iff, eqb_iff) at h in
    λ z. whole_cone (t.0 z) (t.1.0 z) (t.1.1 z)
entry_equal (whole_cone i a n) (block_of j l d b o) h = absurd h
entry_equal (block_of i k c a n) (whole_cone j b o) h = absurd h
entry_equal (block_of i k c a n) (block_of j l d b o) h =
    let t = simp (and_iff, eqb_iff) at h in
    λ z. block_of (t.0 z) (t.1.0 z) (t.1.1.0 z) (t.1.1.1.0 z) (t.1.1.1.1 z)

entry_same : (a : MapEntry) → T (same_entry a a)
entry_same (whole_cone i a n) = (and_iff (eqb i i) _).1 (eqb_refl i, (and_iff (eqb a a) (eqb n n)).1 (eqb_refl a, eqb_refl n))
entry_same (block_of i k c a n) =
    (and_iff (eqb i i) _).1 (eqb_refl i, (and_iff (eqb k k) _).1 (eqb_refl k, (and_iff (eqb c c) _).1 (eqb_refl c, (and_iff (eqb a a) (eqb n n)).1 (eqb_refl a, eqb_refl n))))

map_same : (es : List MapEntry) → T (same_map es es)
map_same [] = tt
map_same (e ∷ es) = (and_iff (same_entry e e) (same_map es es)).1 (entry_same e, map_same es)

map_equal : (es fs : List MapEntry) → T (same_map es fs) → es ≡ fs
map_equal [] [] h = refl
map_equal [] (f ∷ fs) h = absurd h
map_equal (e ∷ es) [] h = absurd h
map_equal (e ∷ es) (f ∷ fs) h =
    let t = (and_iff (same_entry e f) (same_map es fs)).0 h in
    ap₂ (λ (x : MapEntry) (xs : List MapEntry). x ∷ xs) (entry_equal e f t.0) (map_equal es fs t.1)

pub same_map_lem : (es fs : List MapEntry) → T (same_map es fs) ↔ (es ≡ fs)
same_map_lem es fs = (map_equal es fs, λ e. rw (sym e) (map_same es))

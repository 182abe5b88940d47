use Prim.Native.Nat.{ℕ, suc, ◌+◌, ◌*◌, ◌<◌}
use native.Mathlib.Numerals.{add-one}
use native.Mathlib.Omega.{arith}
use mathlib.Core.Path.{◌≡◌, refl, ap, ◌∙◌}
use mathlib.Core.Bool.{cond}
use mathlib.Core.List.{List, [], ◌∷◌}
use lib.ListN.{get_or}
use lib.Dec.{lit<}
use Rattle.layout.specs.Calls.Answers.{roomy}
use Rattle.layout.specs.Files.File.{counts_in}
use Rattle.file_shape.specs.Parts.{WellShaped}
use Rattle.file_shape.proofs.Parts.{stands_end, stands-inside}
use Rattle.file_tables.proofs.check_room.Goals as goal

-- n + 1 and three words for each cone are u32, because their tables lie in a file whose length is a u32
few : (ws : List ℕ) → WellShaped ws → get_or ws 19 0 < 4294967296 → (get_or ws 0 0 + 1 < 4294967296) × (3 * get_or ws 4 0 < 4294967296)
few ws ok low =
    let end = stands_end ws ok in
    let (a, starts) = stands-inside ws ok 0 (suc (get_or ws 0 0)) (lit< tt) refl in
    let (b, records) = stands-inside ws ok 8 (3 * get_or ws 4 0) (lit< tt) refl in
    (omega (arith, end, low, starts), omega (arith, end, low, records))

pub overflow_add-starts : goal.overflow_add-starts
overflow_add-starts c = omega (arith, (few c.args.words.now c.requires (omega (arith, c.type_inv.words 19))).0)

pub overflow_mul-records : goal.overflow_mul-records
overflow_mul-records c = omega (arith, (few c.args.words.now c.requires (omega (arith, c.type_inv.words 19))).1)

pub returns : goal.returns
returns c =
    let ws = c.args.words.now in
    let d = counts_in ws in
    c.check_rooms.ensures
    ∙ ap (λ (k : ℕ). cond (roomy (8 ∷ k ∷ d.entries_p ∷ d.entries_p ∷ d.n ∷ k ∷ d.entries_a ∷ d.entries_a ∷ d.m ∷ (3 * d.cones) ∷ d.alphas ∷ d.words ∷ []) c.args.rooms.now) 0 11)
    (add-one (get_or ws 0 0))

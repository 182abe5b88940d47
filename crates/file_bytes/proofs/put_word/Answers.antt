use Prim.Native.Nat.{ℕ, zero, suc, ◌+◌, ◌-◌, ◌/◌, ◌%◌, ◌≤◌}
use native.Mathlib.Omega.{arith}
use mathlib.Core.Path.{◌≡◌, refl, sym, ap, ◌∙◌}
use mathlib.Core.List.{List, [], ◌∷◌, ◌++◌}
use lib.ListN.{length, set, take, drop}
use Rattle.layout.proofs.Files.FileWalks.{put_word}
use Rattle.file_bytes.proofs.put_word.Goals as goal

-- four elements in a row are stored together
four : (a : ℕ) (xs : List ℕ) (b c d e : ℕ) → a + 4 ≤ length xs
    → take a xs ++ (b ∷ c ∷ d ∷ e ∷ drop 4 (drop a xs)) ≡ set (set (set (set xs a b) (suc a) c) (suc (suc a)) d) (suc (suc (suc a))) e
four zero [] b c d e l = absurd (omega arith)
four zero (p ∷ []) b c d e l = absurd (omega arith)
four zero (p ∷ q ∷ []) b c d e l = absurd (omega arith)
four zero (p ∷ q ∷ r ∷ []) b c d e l = absurd (omega arith)
four zero (p ∷ q ∷ r ∷ s ∷ xs) b c d e l = refl
four (suc a) [] b c d e l = absurd (omega arith)
four (suc a) (x ∷ xs) b c d e l = ap (λ (ys : List ℕ). x ∷ ys) (four a xs b c d e (omega arith))

pub returns : goal.returns
returns c =
    let a = c.args.a in
    let v = c.args.v in
    let xs = c.args.out.now in
    let one : a + 1 ≡ suc a = omega arith in
    let two : a + 2 ≡ suc (suc a) = omega arith in
    let three : a + 3 ≡ suc (suc (suc a)) = omega arith in
    let stored : put_word xs a v ≡ set (set (set (set xs a (v % 256)) (suc a) (v / 256 % 256)) (suc (suc a)) (v / 65536 % 256)) (suc (suc (suc a))) (v / 16777216 % 256)
    = rw (one, two, three) refl in
    let size : a + 4 - a ≡ 4 = omega arith in
    ap (λ (n : ℕ). take a xs ++ (c.copy_from_slice.new.self ++ drop n (drop a xs))) size
    ∙ ap (λ (ys : List ℕ). take a xs ++ (ys ++ drop 4 (drop a xs))) (c.copy_from_slice.ensures.after ∙ c.to_le_bytes.ensures)
    ∙ four a xs (v % 256) (v / 256 % 256) (v / 65536 % 256) (v / 16777216 % 256) (omega (arith, c.requires)) ∙ sym stored

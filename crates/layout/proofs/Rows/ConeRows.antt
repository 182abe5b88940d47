-- The rows of a cone: an undecomposed cone's rows are kept, in consecutive augmented rows, and nothing is copied to the rows of a
-- decomposed cone.
use Prim.Native.Nat.{ℕ, zero, suc, ◌+◌, ◌≤◌, ◌<◌}
use native.Mathlib.Nat.{le_of_eq, not-suc-le-zero, le_of_suc-le-suc}
use native.Mathlib.Omega.{arith}
use mathlib.Core.Path.{◌≡◌, sym, ap, subst, ◌∙◌}
use mathlib.Core.Logic.{◌⊎◌, inl, inr}
use mathlib.Core.Bool.{not}
use mathlib.Core.List.{List, [], ◌∷◌, ◌++◌, map}
use lib.ListN.{length, get_or, take, length-map, get_or-append}
use lib.Seq.{get_or-append-add}
use lib.Dec.{T, not_T, eqb_refl}
use lib.Ieee.{Float, nan}
use Rattle.layout.specs.General.Lists.{up_from}
use Rattle.layout.specs.General.Triangle.{triangle}
use Rattle.layout.specs.Problems.Cones.{Cone, records, row_count}
use Rattle.layout.specs.Problems.Patterns.{Pattern, patterns}
use Rattle.layout.specs.Rows.Blocks.{Part, whole, cut, parts, Row, kept, original_row, pattern_rows, block_rows, rows_from, compact_rows, part_rows, block_row_count}
use Rattle.layout.specs.Checks.{Sound, RightPattern, Laid}
use Rattle.layout.specs.Equations.Rounding.{copies, decomposed, returned, RoundingErrors}
use Rattle.layout.proofs.Lists.Members.{all-at, all_of_both, get_or_map, length-up_from, get_or-up_from}
use Rattle.layout.proofs.Rows.Rows.{rows-count}
use Rattle.layout.proofs.Rows.Moves.{row_at, RightRows, kept-rows, never_kept}
use Rattle.layout.proofs.Rows.Laid.{laid-rows, sound-laid, sound-count}
use Rattle.layout.proofs.Equations.RowTerms.{copies_there}

-- ---- an undecomposed cone

length-kept : (row n : ℕ) → length (map kept (up_from row n)) ≡ n
length-kept row n = length-map (up_from row n) kept ∙ length-up_from row n

after : (xs ys : List Row) (n k r : ℕ) → length xs ≡ n → r ≡ n + k → row_at (xs ++ ys) r ≡ row_at ys k
after xs ys n k r e f =
    let g : r ≡ length xs + k = omega arith in
    ap (row_at (xs ++ ys)) g ∙ get_or-append-add xs ys k (kept 0)

-- the augmented row for row t of part j, an undecomposed cone, is kept
whole-kept : (first start : ℕ) (ps : List Part) → Laid start ps → (j : ℕ) (d : Part) (i : ℕ) (c : Cone) (row t : ℕ) → j < length ps
    → get_or ps j d ≡ whole i c row → t < row_count c → row_at (rows_from first ps) (block_row_count (take j ps) + t) ≡ kept (row + t)
whole-kept first start [] laid j d i c row t l e m = absurd (not-suc-le-zero l)
whole-kept first start (q ∷ ps) laid zero d i c row t l e m =
    subst (λ (p : Part). row_at (rows_from first (p ∷ ps)) (0 + t) ≡ kept (row + t)) (sym e)
    (let z : 0 + t ≡ t = omega arith in
    ap (row_at (rows_from first (whole i c row ∷ ps))) z
    ∙ get_or-append (map kept (up_from row (row_count c))) (rows_from (first + row_count c) ps) (kept 0) t
    (omega (arith, length-kept row (row_count c)))
    ∙ get_or_map kept (up_from row (row_count c)) t 0 (kept 0) (omega (arith, length-up_from row (row_count c)))
    ∙ ap kept (get_or-up_from row (row_count c) t 0 m))
whole-kept first start (whole h b r ∷ ps) laid (suc j) d i c row t l e m =
    after (map kept (up_from r (row_count b))) (rows_from (first + row_count b) ps) (row_count b) (block_row_count (take j ps) + t)
    (row_count b + block_row_count (take j ps) + t) (length-kept r (row_count b)) (omega arith)
    ∙ whole-kept (first + row_count b) (start + row_count b) ps laid.1 j d i c row t (le_of_suc-le-suc l) e m
whole-kept first start (cut h r k p ∷ ps) laid (suc j) d i c row t l e m =
    after (pattern_rows p r first) (rows_from (first + block_rows p) ps) (block_rows p) (block_row_count (take j ps) + t)
    (block_rows p + block_row_count (take j ps) + t) (rows-count p laid.1 r first) (omega arith)
    ∙ whole-kept (first + block_rows p) (start + triangle p.vertex_count) ps laid.2 j d i c row t (le_of_suc-le-suc l) e m

-- row t of part j is one of the augmented rows
row_within : (ps : List Part) (j : ℕ) (d : Part) (t : ℕ) → j < length ps → t < part_rows (get_or ps j d)
    → block_row_count (take j ps) + t < block_row_count ps
row_within [] j d t l m = absurd (not-suc-le-zero l)
row_within (q ∷ ps) zero d t l m = omega arith
row_within (q ∷ ps) (suc j) d t l m = omega (arith, row_within ps j d t (le_of_suc-le-suc l) m)

-- ---- a decomposed cone

-- rows that represent only original rows from lo to hi - 1 copy nothing to a row o outside
outside : (first lo hi o : ℕ) (R : List Row) → RightRows first lo hi R → (o < lo) ⊎ (hi ≤ o) → T (decomposed o R)
outside first lo hi o R right h = (all-at (kept 0) (λ x. not (copies o x)) R).1 (λ q l. not_T (copies o (row_at R q)) (λ c. far q l c h))
  where
    far : (q : ℕ) → q < length R → T (copies o (row_at R q)) → (o < lo) ⊎ (hi ≤ o) → ⊥
    far q l c (inl m) = omega (arith, right.inside q l, ap original_row (copies_there o (row_at R q) c))
    far q l c (inr m) = omega (arith, right.inside q l, ap original_row (copies_there o (row_at R q) c))

blocks-decomposed : (first row o : ℕ) (p : Pattern) → RightPattern p → T (decomposed o (pattern_rows p row first))
blocks-decomposed first row o p right =
    let R : List Row = pattern_rows p row first in
    (all-at (kept 0) (λ x. not (copies o x)) R).1
    (λ q l. not_T (copies o (row_at R q)) (λ c. never_kept p right row first q o l (copies_there o (row_at R q) c)))

-- a decomposed cone starts at or after the start of the first part
starts-after : (start : ℕ) (ps : List Part) → Laid start ps → (j : ℕ) (d : Part) (i row k : ℕ) (p : Pattern) → j < length ps
    → get_or ps j d ≡ cut i row k p → start ≤ row
starts-after start [] laid j d i row k p l e = absurd (not-suc-le-zero l)
starts-after start (q ∷ ps) laid zero d i row k p l e =
    subst (λ (x : Part). Laid start (x ∷ ps) → start ≤ row) (sym e) (λ h. le_of_eq (sym h.0)) laid
starts-after start (whole h b r ∷ ps) laid (suc j) d i row k p l e =
    omega (arith, starts-after (start + row_count b) ps laid.1 j d i row k p (le_of_suc-le-suc l) e)
starts-after start (cut h r n b ∷ ps) laid (suc j) d i row k p l e =
    omega (arith, starts-after (start + triangle b.vertex_count) ps laid.2 j d i row k p (le_of_suc-le-suc l) e)

-- no augmented row is copied to original row o of part j, a decomposed cone
cut-decomposed : (first start : ℕ) (ps : List Part) → Laid start ps → (j : ℕ) (d : Part) (i row k : ℕ) (p : Pattern) (o : ℕ) → j < length ps
    → get_or ps j d ≡ cut i row k p → row ≤ o → o < row + triangle p.vertex_count → T (decomposed o (rows_from first ps))
cut-decomposed first start [] laid j d i row k p o l e low high = absurd (not-suc-le-zero l)
cut-decomposed first start (q ∷ ps) laid zero d i row k p o l e low high =
    subst (λ (x : Part). Laid start (x ∷ ps) → T (decomposed o (rows_from first (x ∷ ps)))) (sym e)
    (λ h. all_of_both (λ x. not (copies o x)) (pattern_rows p row first) (rows_from (first + block_rows p) ps) (blocks-decomposed first row o p h.1)
    (outside (first + block_rows p) (start + triangle p.vertex_count) _ o (rows_from (first + block_rows p) ps)
    (laid-rows (first + block_rows p) (start + triangle p.vertex_count) ps h.2) (inl (omega (arith, h.0))))) laid
cut-decomposed first start (whole h b r ∷ ps) laid (suc j) d i row k p o l e low high =
    let later = starts-after (start + row_count b) ps laid.1 j d i row k p (le_of_suc-le-suc l) e in
    all_of_both (λ x. not (copies o x)) (map kept (up_from r (row_count b))) (rows_from (first + row_count b) ps)
    (outside first r (r + row_count b) o (map kept (up_from r (row_count b))) (kept-rows first r (row_count b)) (inr (omega (arith, laid.0))))
    (cut-decomposed (first + row_count b) (start + row_count b) ps laid.1 j d i row k p o (le_of_suc-le-suc l) e low high)
cut-decomposed first start (cut h r n b ∷ ps) laid (suc j) d i row k p o l e low high =
    all_of_both (λ x. not (copies o x)) (pattern_rows b r first) (rows_from (first + block_rows b) ps) (blocks-decomposed first r o b laid.1)
    (cut-decomposed (first + block_rows b) (start + triangle b.vertex_count) ps laid.2 j d i row k p o (le_of_suc-le-suc l) e low high)

-- ---- the joining

module _ {m : ℕ} {cones : List ℕ} {count : ℕ} {words : List ℕ} (sound : Sound m cones count words) (j : ℕ) (d : Part)
    (inside : j < length (parts (records cones) (patterns count words))) where
  abbrev ps : List Part
  ps = parts (records cones) (patterns count words)

  -- row t of an undecomposed cone is a copy of row t of its augmented rows
  pub cone-copied : (s : List Float) → RoundingErrors m ps s → (i : ℕ) (c : Cone) (row t : ℕ) → get_or ps j d ≡ whole i c row → t < row_count c
      → returned m ps s (row + t) ≡ get_or s (block_row_count (take j ps) + t) nan
  cone-copied s errors i c row t e l =
      let at = whole-kept 0 0 ps (sound-laid sound).0 j d i c row t inside e l in
      let within = row_within ps j d t inside (subst (λ (x : Part). t < part_rows x) (sym e) l) in
      errors.copied (block_row_count (take j ps) + t) (row + t) (omega (arith, within, sound-count sound))
      (subst (λ (x : Row). T (copies (row + t) x)) (sym at) (eqb_refl (row + t)))

  -- no augmented row is copied to a row of a decomposed cone
  pub cone-decomposed : (i row k : ℕ) (p : Pattern) (o : ℕ) → get_or ps j d ≡ cut i row k p → row ≤ o → o < row + triangle p.vertex_count
      → T (decomposed o (compact_rows ps))
  cone-decomposed i row k p o e low high = cut-decomposed 0 0 ps (sound-laid sound).0 j d i row k p o inside e low high

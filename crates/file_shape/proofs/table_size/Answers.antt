use Prim.Native.Nat.{◌≤◌, ◌<◌}
use Prim.Native.Nat.{zero-le}
use Rattle.layout.specs.Files.File.{counts_in, table_sizes}
use lib.ListN.{get_or}
use mathlib.Core.Path.{◌≡◌, ap, sym, ◌∙◌}
use Prim.Native.Nat.{ℕ, suc, ◌+◌, ◌*◌}
use native.Mathlib.Omega.{arith}
use Rattle.file_shape.proofs.table_size.Goals as goal

up : (n i : ℕ) → n ≤ i → (i ≡ n → ⊥) → suc n ≤ i
up n i l h = omega arith

ten : (i : ℕ) → 10 ≤ i → i < 11 → i ≡ 10
ten i l h = omega arith

small : {v : ℕ} → v < 4294967296 → 4 * v < 68719476736
small l = omega arith

pub returns-then-i-eq-P_STARTS : goal.returns-then-i-eq-P_STARTS
returns-then-i-eq-P_STARTS c =
    let ws = c.args.words.now in
    let size : 4 * suc (get_or ws 0 0) ≡ get_or (table_sizes (counts_in ws)) c.args.i 0 = ap (λ (j : ℕ). get_or (table_sizes (counts_in ws)) j 0) (sym c.if-i-eq-P_STARTS.true) in
    let one : 4 * (get_or ws 0 0 + 1) ≡ 4 * suc (get_or ws 0 0) = omega arith in
    (ap (λ (v : ℕ). 4 * (v + 1)) c.count_at.ensures.0 ∙ one ∙ size, omega arith)

pub returns-then-i-eq-P_ROWS : goal.returns-then-i-eq-P_ROWS
returns-then-i-eq-P_ROWS c =
    let ws = c.args.words.now in
    let at : c.args.i ≡ 1 = c.if-i-eq-P_ROWS.true in
    let size : 4 * get_or ws 2 0 ≡ get_or (table_sizes (counts_in ws)) c.args.i 0 = ap (λ (j : ℕ). get_or (table_sizes (counts_in ws)) j 0) (sym at) in
    (ap (λ (v : ℕ). 4 * v) c.count_at-then-i-eq-P_ROWS.ensures.0 ∙ size, omega arith)

pub returns-then-i-eq-P_VALUES : goal.returns-then-i-eq-P_VALUES
returns-then-i-eq-P_VALUES c =
    let ws = c.args.words.now in
    let at : c.args.i ≡ 2 = c.if-i-eq-P_VALUES.true in
    let size : 8 * get_or ws 2 0 ≡ get_or (table_sizes (counts_in ws)) c.args.i 0 = ap (λ (j : ℕ). get_or (table_sizes (counts_in ws)) j 0) (sym at) in
    (ap (λ (v : ℕ). 8 * v) c.count_at-then-i-eq-P_VALUES.ensures.0 ∙ size, omega arith)

pub returns-then-i-eq-Q : goal.returns-then-i-eq-Q
returns-then-i-eq-Q c =
    let ws = c.args.words.now in
    let at : c.args.i ≡ 3 = c.if-i-eq-Q.true in
    let size : 8 * get_or ws 0 0 ≡ get_or (table_sizes (counts_in ws)) c.args.i 0 = ap (λ (j : ℕ). get_or (table_sizes (counts_in ws)) j 0) (sym at) in
    (ap (λ (v : ℕ). 8 * v) c.count_at-then-i-eq-Q.ensures.0 ∙ size, omega arith)

pub returns-then-i-eq-A_STARTS : goal.returns-then-i-eq-A_STARTS
returns-then-i-eq-A_STARTS c =
    let ws = c.args.words.now in
    let size : 4 * suc (get_or ws 0 0) ≡ get_or (table_sizes (counts_in ws)) c.args.i 0 = ap (λ (j : ℕ). get_or (table_sizes (counts_in ws)) j 0) (sym c.if-i-eq-A_STARTS.true) in
    let one : 4 * (get_or ws 0 0 + 1) ≡ 4 * suc (get_or ws 0 0) = omega arith in
    (ap (λ (v : ℕ). 4 * (v + 1)) c.count_at-then-i-eq-A_STARTS.ensures.0 ∙ one ∙ size, omega arith)

pub returns-then-i-eq-A_ROWS : goal.returns-then-i-eq-A_ROWS
returns-then-i-eq-A_ROWS c =
    let ws = c.args.words.now in
    let at : c.args.i ≡ 5 = c.if-i-eq-A_ROWS.true in
    let size : 4 * get_or ws 3 0 ≡ get_or (table_sizes (counts_in ws)) c.args.i 0 = ap (λ (j : ℕ). get_or (table_sizes (counts_in ws)) j 0) (sym at) in
    (ap (λ (v : ℕ). 4 * v) c.count_at-then-i-eq-A_ROWS.ensures.0 ∙ size, omega arith)

pub returns-then-i-eq-A_VALUES : goal.returns-then-i-eq-A_VALUES
returns-then-i-eq-A_VALUES c =
    let ws = c.args.words.now in
    let at : c.args.i ≡ 6 = c.if-i-eq-A_VALUES.true in
    let size : 8 * get_or ws 3 0 ≡ get_or (table_sizes (counts_in ws)) c.args.i 0 = ap (λ (j : ℕ). get_or (table_sizes (counts_in ws)) j 0) (sym at) in
    (ap (λ (v : ℕ). 8 * v) c.count_at-then-i-eq-A_VALUES.ensures.0 ∙ size, omega arith)

pub returns-then-i-eq-B : goal.returns-then-i-eq-B
returns-then-i-eq-B c =
    let ws = c.args.words.now in
    let at : c.args.i ≡ 7 = c.if-i-eq-B.true in
    let size : 8 * get_or ws 1 0 ≡ get_or (table_sizes (counts_in ws)) c.args.i 0 = ap (λ (j : ℕ). get_or (table_sizes (counts_in ws)) j 0) (sym at) in
    (ap (λ (v : ℕ). 8 * v) c.count_at-then-i-eq-B.ensures.0 ∙ size, omega arith)

pub returns-then-i-eq-CONES : goal.returns-then-i-eq-CONES
returns-then-i-eq-CONES c =
    let ws = c.args.words.now in
    let at : c.args.i ≡ 8 = c.if-i-eq-CONES.true in
    let size : 4 * (3 * get_or ws 4 0) ≡ get_or (table_sizes (counts_in ws)) c.args.i 0 = ap (λ (j : ℕ). get_or (table_sizes (counts_in ws)) j 0) (sym at) in
    (ap (λ (v : ℕ). 4 * (3 * v)) c.count_at-then-i-eq-CONES.ensures.0 ∙ size, omega arith)

pub returns-then-i-eq-ALPHAS : goal.returns-then-i-eq-ALPHAS
returns-then-i-eq-ALPHAS c =
    let ws = c.args.words.now in
    let at : c.args.i ≡ 9 = c.if-i-eq-ALPHAS.true in
    let size : 8 * get_or ws 5 0 ≡ get_or (table_sizes (counts_in ws)) c.args.i 0 = ap (λ (j : ℕ). get_or (table_sizes (counts_in ws)) j 0) (sym at) in
    (ap (λ (v : ℕ). 8 * v) c.count_at-then-i-eq-ALPHAS.ensures.0 ∙ size, omega arith)

pub returns : goal.returns
returns c =
    let ws = c.args.words.now in
    let high : 10 ≤ c.args.i = (up 9 c.args.i (up 8 c.args.i (up 7 c.args.i (up 6 c.args.i (up 5 c.args.i (up 4 c.args.i (up 3 c.args.i (up 2 c.args.i (up 1 c.args.i (up 0 c.args.i zero-le c.if-i-eq-P_STARTS.false) c.if-i-eq-P_ROWS.false) c.if-i-eq-P_VALUES.false) c.if-i-eq-Q.false) c.if-i-eq-A_STARTS.false) c.if-i-eq-A_ROWS.false) c.if-i-eq-A_VALUES.false) c.if-i-eq-B.false) c.if-i-eq-CONES.false) c.if-i-eq-ALPHAS.false) in
    let at : c.args.i ≡ 10 = ten c.args.i high c.requires.1 in
    let size : 4 * get_or ws 7 0 ≡ get_or (table_sizes (counts_in ws)) c.args.i 0 = ap (λ (j : ℕ). get_or (table_sizes (counts_in ws)) j 0) (sym at) in
    (ap (λ (v : ℕ). 4 * v) c.count_at-2.ensures.0 ∙ size, small c.count_at-2.ensures.1)

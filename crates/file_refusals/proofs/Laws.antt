-- Checks 1 to 7 on the tables of a file.
use Prim.Native.Nat.{ℕ, suc, ◌*◌}
use mathlib.Core.Path.{◌≡◌, refl, ◌∙◌}
use mathlib.Core.List.{List}
use Rattle.layout.specs.Problems.Problem.{problem}
use Rattle.layout.specs.Calls.Answers.{problem_refusal}
use Rattle.layout.specs.Files.File.{counts_in}
use Rattle.layout.specs.Files.FileWords.{unvalued, unvalued_problem}
use Rattle.file_views.specs.Views.{table_words}
use Rattle.file_views.proofs.Doubles.{table-words}

-- the checks with counts and tables that were read from the words
pub words_checked : (ws : List ℕ) {s_p r_p s_a r_a records patterns : List ℕ} {p n a m alphas : ℕ} → let c = counts_in ws in
    s_p ≡ table_words ws 0 → r_p ≡ table_words ws 1 → p ≡ c.entries_p → n ≡ c.n
    → s_a ≡ table_words ws 4 → r_a ≡ table_words ws 5 → a ≡ c.entries_a → m ≡ c.m
    → records ≡ table_words ws 8 → alphas ≡ c.alphas → patterns ≡ table_words ws 10
    → problem_refusal (problem c.n c.m s_p r_p (unvalued p) (unvalued n) s_a r_a (unvalued a) (unvalued m) records (unvalued alphas) c.patterns patterns)
    ≡ problem_refusal (unvalued_problem ws)
words_checked ws s_p= r_p= p= n= s_a= r_a= a= m= records= alphas= patterns= =
    let c = counts_in ws in
    let e0 = s_p= ∙ table-words ws 0 (suc c.n) refl in
    let e1 = r_p= ∙ table-words ws 1 c.entries_p refl in
    let e4 = s_a= ∙ table-words ws 4 (suc c.n) refl in
    let e5 = r_a= ∙ table-words ws 5 c.entries_a refl in
    let e8 = records= ∙ table-words ws 8 (3 * c.cones) refl in
    let e10 = patterns= ∙ table-words ws 10 c.words refl in
    λ i. problem_refusal (problem c.n c.m (e0 i) (e1 i) (unvalued (p= i)) (unvalued (n= i)) (e4 i) (e5 i) (unvalued (a= i)) (unvalued (m= i))
    (e8 i) (unvalued (alphas= i)) c.patterns (e10 i))

-- The problem of a file, from its tables as slices of its words and its doubles.
use Prim.Native.Nat.{ℕ, suc, ◌*◌}
use mathlib.Core.Path.{◌≡◌, refl, sym, ap, subst, ◌∙◌}
use mathlib.Core.List.{List}
use lib.Ieee.{Float}
use Rattle.layout.specs.General.Floats.{floats}
use Rattle.layout.specs.Problems.Problem.{Problem, problem, compact}
use Rattle.layout.specs.Rows.Blocks.{block_row_count}
use Rattle.layout.specs.Checks.{layout}
use Rattle.layout.specs.Calls.Cut.{augmented, Constrained, constrained_of, HoldsConstrained}
use Rattle.layout.specs.Files.File.{HeaderCounts, counts_in, problem_of}
use Rattle.layout.specs.Files.FileWords.{pairs_of, word_tables}
use Rattle.layout.specs.Calls.Sizes.{Sizes}
use Rattle.augment_standard.specs.Constraints.{constraints}
use Rattle.cut_standard.specs.Fits.{ConstrainedFits}
use Rattle.file_views.specs.Views.{table_words}
use Rattle.file_views.proofs.Doubles.{table-words, table-doubles}
use Rattle.compact_parts.specs.Problem.{constraints_of}

module _ (ws : List ℕ) where
  abbrev c : HeaderCounts
  c = counts_in ws

  -- ---- the problem

  pub problem-given : {s_p r_p s_a r_a cones patterns : List ℕ} {v_p q v_a b alphas : List Float}
      → s_p ≡ table_words ws 0 → r_p ≡ table_words ws 1 → v_p ≡ floats (pairs_of (table_words ws 2)) → q ≡ floats (pairs_of (table_words ws 3))
      → s_a ≡ table_words ws 4 → r_a ≡ table_words ws 5 → v_a ≡ floats (pairs_of (table_words ws 6)) → b ≡ floats (pairs_of (table_words ws 7))
      → cones ≡ table_words ws 8 → alphas ≡ floats (pairs_of (table_words ws 9)) → patterns ≡ table_words ws 10
      → problem c.n c.m s_p r_p v_p q s_a r_a v_a b cones alphas c.patterns patterns ≡ problem_of (word_tables ws)
  problem-given s_p= r_p= v_p= q= s_a= r_a= v_a= b= cones= alphas= patterns= =
      let e0 = s_p= ∙ table-words ws 0 (suc c.n) refl in
      let e1 = r_p= ∙ table-words ws 1 c.entries_p refl in
      let e2 = v_p= ∙ table-doubles ws 2 c.entries_p refl in
      let e3 = q= ∙ table-doubles ws 3 c.n refl in
      let e4 = s_a= ∙ table-words ws 4 (suc c.n) refl in
      let e5 = r_a= ∙ table-words ws 5 c.entries_a refl in
      let e6 = v_a= ∙ table-doubles ws 6 c.entries_a refl in
      let e7 = b= ∙ table-doubles ws 7 c.m refl in
      let e8 = cones= ∙ table-words ws 8 (3 * c.cones) refl in
      let e9 = alphas= ∙ table-doubles ws 9 c.alphas refl in
      let e10 = patterns= ∙ table-words ws 10 c.words refl in
      λ i. problem c.n c.m (e0 i) (e1 i) (e2 i) (e3 i) (e4 i) (e5 i) (e6 i) (e7 i) (e8 i) (e9 i) c.patterns (e10 i)

  -- the constraints, which decide A, b and the cones
  pub constraints-given : {s_a r_a cones patterns : List ℕ} {v_a b : List Float}
      → s_a ≡ table_words ws 4 → r_a ≡ table_words ws 5 → v_a ≡ floats (pairs_of (table_words ws 6)) → b ≡ floats (pairs_of (table_words ws 7))
      → cones ≡ table_words ws 8 → patterns ≡ table_words ws 10
      → constraints c.n c.m s_a r_a v_a b cones c.patterns patterns ≡ constraints_of (word_tables ws)
  constraints-given s_a= r_a= v_a= b= cones= patterns= =
      let e4 = s_a= ∙ table-words ws 4 (suc c.n) refl in
      let e5 = r_a= ∙ table-words ws 5 c.entries_a refl in
      let e6 = v_a= ∙ table-doubles ws 6 c.entries_a refl in
      let e7 = b= ∙ table-doubles ws 7 c.m refl in
      let e8 = cones= ∙ table-words ws 8 (3 * c.cones) refl in
      let e10 = patterns= ∙ table-words ws 10 c.words refl in
      λ i. constraints c.n c.m (e4 i) (e5 i) (e6 i) (e7 i) (e8 i) c.patterns (e10 i)

-- ---- contracts of a problem given by slices

pub sized_as : {p q : Problem} {before after : List ℕ} {r : ℕ} → p ≡ q → Sizes 1 p before after r → Sizes 1 q before after r
sized_as {p} {q} {before} {after} {r} e h = subst (λ (x : Problem). Sizes 1 x before after r) e h

pub fits_as : {p q : Problem} {k : ℕ} {out : Constrained} → p ≡ q → ConstrainedFits compact q k out → ConstrainedFits compact p k out
fits_as {p} {q} {k} {out} e h = subst (λ (x : Problem). ConstrainedFits compact x k out) (sym e) h

pub rows_as : {p q : Problem} {rows : ℕ} → p ≡ q → rows ≡ block_row_count (layout q) → rows ≡ block_row_count (layout p)
rows_as e h = h ∙ sym (ap (λ (x : Problem). block_row_count (layout x)) e)

pub held_as : {p q : Problem} {before after : Constrained} → p ≡ q → HoldsConstrained 0 (constrained_of (augmented compact p)) before after
    → HoldsConstrained 0 (constrained_of (augmented compact q)) before after
held_as {p} {q} {before} {after} e h = subst (λ (x : Problem). HoldsConstrained 0 (constrained_of (augmented compact x)) before after) e h

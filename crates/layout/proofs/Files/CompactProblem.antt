-- The compact problem passes checks 1 to 7 itself, where it keeps check 1's bounds.
use Prim.Native.Nat.{ℕ, zero, suc, ◌+◌, ◌-◌, ◌≤◌, ◌<◌}
use native.Mathlib.Omega.{arith}
use mathlib.Core.Path.{◌≡◌, sym, ap, ap₂, subst, ◌∙◌}
use mathlib.Core.Logic.{inl, inr}
use mathlib.Core.Bool.{◌&&◌}
use mathlib.Core.List.{List, [], ◌∷◌, ◌++◌, map}
use lib.ListN.{length, get_or, take, drop, replicate, length-append, length-replicate, get_or-replicate, get_or-append}
use lib.Dec.{T, leb, ltb, eqb, le→leb, lt→ltb, ltb→lt, eqb→eq}
use Rattle.layout.specs.General.Lists.{all, below, rises, part, sum, join, never_falls}
use Rattle.layout.specs.Problems.Problem.{Problem, Csc, compact}
use Rattle.layout.specs.Problems.Cones.{records, whole_records, reads, row_count, alpha_count}
use Rattle.layout.specs.Rows.Blocks.{overlap_count}
use Rattle.layout.specs.Checks.{layout, refusal, start_count, starts_at_zero, starts_end, rows_as_many, starts_right, column_rows, rows_in_order, rows_right, check1, check2, check3, check4, cones_read, alphas_as_many, problem_checks}
use Rattle.layout.specs.Cuts.Compact.{cone_words, extended_p}
use Rattle.layout.specs.Calls.Answers.{problem_refusal}
use Rattle.layout.specs.Files.File.{compact_problem}
use Rattle.layout.proofs.Lists.Tests.{and_iff, eqb_iff, lt_or_le}
use Rattle.layout.proofs.Lists.Members.{all-has, has-below}
use Rattle.layout.proofs.Lists.Starts.{get_or-right}
use Rattle.layout.proofs.Patterns.Records.{words-records}
use Rattle.layout.proofs.Checks.Order.{none_fails}
use Rattle.layout.proofs.Columns.Repeats.{right_in_order}
use Rattle.layout.proofs.Checks.Accepted.{accepted_checked, accepted-sound}
use Rattle.layout.proofs.Columns.Columns.{starts-right}
use Rattle.layout.proofs.Columns.Written.{compact_right}
use Rattle.layout.proofs.Columns.Sizes.{compact_sizes_lem}
use Rattle.layout.proofs.Files.CompactCones.{new_cones, cones-words, cones-right, cones-rows, cones-alphas}

-- ---- P with empty columns

falls_one : (x e k : ℕ) → x ≤ e → T (never_falls (x ∷ replicate k e))
falls_one x e zero h = tt
falls_one x e (suc k) h = (and_iff (leb x e) (never_falls (e ∷ replicate k e))).1 (le→leb x e h, falls_one e e k (omega arith))

falls_none : (e k : ℕ) → T (never_falls (replicate k e))
falls_none e zero = tt
falls_none e (suc k) = falls_one e e k (omega arith)

falls_more : (xs : List ℕ) (e k : ℕ) → T (never_falls xs) → ((i : ℕ) → i < length xs → get_or xs i 0 ≤ e) → T (never_falls (xs ++ replicate k e))
falls_more [] e k h low = falls_none e k
falls_more (x ∷ []) e k h low = falls_one x e k (low 0 (omega arith))
falls_more (x ∷ y ∷ ys) e k h low =
    let (first, rest) = (and_iff (leb x y) (never_falls (y ∷ ys))).0 h in
    (and_iff (leb x y) (never_falls (y ∷ (ys ++ replicate k e)))).1 (first, falls_more (y ∷ ys) e k rest (λ i l. low (suc i) (omega arith)))

module _ (n k : ℕ) (P : Csc) (h : T (starts_right n P)) where
  abbrev e : ℕ
  e = length P.values

  abbrev M : Csc
  M = extended_p k P

  at_front : (i d : ℕ) → i ≤ n → get_or M.starts i d ≡ get_or P.starts i d
  at_front i d l = get_or-append P.starts (replicate k e) d i (omega (arith, (starts-right n P h).count))

  at_back : (i : ℕ) → n ≤ i → i ≤ n + k → get_or M.starts i 0 ≡ e
  at_back i low high = elim (lt_or_le n i) [
    | inl l ↦
        let count = (starts-right n P h).count in
        get_or-right P.starts (replicate k e) i 0 (omega arith) ∙ get_or-replicate k (i - length P.starts) e 0 (omega arith)
    | inr l ↦
        let here : i ≡ n = omega arith in
        at_front i 0 (omega arith) ∙ ap (λ (j : ℕ). get_or P.starts j 0) here ∙ (starts-right n P h).last ∙ (starts-right n P h).even
  ]

  extended-starts : T (starts_right (n + k) (extended_p k P))
  extended-starts =
      let r = starts-right n P h in
      let tests = simp (and_iff, eqb_iff) at h in
      let low : (i : ℕ) → i < length P.starts → get_or P.starts i 0 ≤ e = λ i l. omega (arith, r.inside i (omega (arith, r.count)), r.even) in
      (and_iff (start_count (n + k) M && starts_at_zero M && never_falls M.starts && starts_end (n + k) M) (rows_as_many M)).1 (
        (and_iff (start_count (n + k) M && starts_at_zero M && never_falls M.starts) (starts_end (n + k) M)).1 (
          (and_iff (start_count (n + k) M && starts_at_zero M) (never_falls M.starts)).1 (
            (and_iff (start_count (n + k) M) (starts_at_zero M)).1 (
              (eqb_iff (length M.starts) (suc (n + k))).1
                  (omega (arith, length-append P.starts (replicate k e), length-replicate k e, r.count)),
              (eqb_iff (get_or M.starts 0 1) 0).1 (at_front 0 1 (omega arith) ∙ tests.0.0.0.1),
            ),
            falls_more P.starts e k tests.0.0.1 low,
          ),
          (eqb_iff (get_or M.starts (n + k) 0) e).1 (at_back (n + k) (omega arith) (omega arith)),
        ),
        (eqb_iff (length P.rows) e).1 r.even,
      )

  -- an added column is empty
  no_rows : T (rises (part e e P.rows))
  no_rows =
      let none : e - e ≡ 0 = omega arith in
      subst (λ (j : ℕ). T (rises (take j (drop e P.rows)))) (sym none) tt

  extended-rows : T (rows_right n n P) → T (rows_right (n + k) (n + k) (extended_p k P))
  extended-rows right =
      let (inside, rising) = (and_iff (all (λ r. ltb r n) P.rows) (all (λ c. rises (column_rows P c)) (below n))).0 right in
      (and_iff (all (λ r. ltb r (n + k)) P.rows) (all (λ c. rises (column_rows M c)) (below (n + k)))).1 (
        (all-has (λ r. ltb r (n + k)) P.rows).1 (λ r m.
            lt→ltb r (n + k) (omega (arith, ltb→lt r n ((all-has (λ r. ltb r n) P.rows).0 inside r m)))),
        (all-has (λ c. rises (column_rows M c)) (below (n + k))).1 (λ c m. elim (lt_or_le c n) [
          | inl l ↦ subst (λ (rs : List ℕ). T (rises rs))
              (sym (ap₂ (λ (a b : ℕ). part a b P.rows) (at_front c 0 (omega arith)) (at_front (suc c) 0 l)))
              ((all-has (λ c. rises (column_rows P c)) (below n)).0 rising c ((has-below c n).1 l))
          | inr l ↦
              let inner : c < n + k = (has-below c (n + k)).0 m in
              subst (λ (rs : List ℕ). T (rises rs))
              (sym (ap₂ (λ (a b : ℕ). part a b P.rows) (at_back c l (omega arith)) (at_back (suc c) (omega arith) inner)))
              no_rows
        ]),
      )

-- ---- the compact problem

module _ (p : Problem) (ok : refusal compact p ≡ 0) where
  abbrev q : Problem
  q = compact_problem p

  cones_are : q.cones ≡ join cone_words (new_cones (layout p))
  cones_are = cones-words (layout p)

  pub records_are : records (compact_problem p).cones ≡ new_cones (layout p)
  records_are = ap records cones_are ∙ (words-records (new_cones (layout p))).0

  second : T (check2 q)
  second = (and_iff (starts_right q.n q.A) (starts_right q.n q.P)).1 (
    (compact_right p ok).0,
    extended-starts p.n (overlap_count (layout p)) p.P (accepted_checked compact p ok).starts_p,
  )

  third : T (check3 q)
  third = (and_iff (rows_in_order q.m q.n q.A) (rows_right q.n q.n q.P)).1 (
    right_in_order q.m q.n q.A (compact_right p ok).1,
    extended-rows p.n (overlap_count (layout p)) p.P (accepted_checked compact p ok).starts_p (accepted_checked compact p ok).rows_p,
  )

  cones-read : T (cones_read q.m q.cones)
  cones-read =
      let s = accepted-sound compact p ok in
      let cs = q.cones in
      (and_iff (whole_records cs && all reads (records cs)) (eqb (sum (map row_count (records cs))) q.m)).1 (
        (and_iff (whole_records cs) (all reads (records cs))).1 (
          subst (λ (ws : List ℕ). T (whole_records ws)) (sym cones_are) (words-records (new_cones (layout p))).1,
          subst (λ cs. T (all reads cs)) (sym records_are) (cones-right s).1,
        ),
        (eqb_iff (sum (map row_count (records cs))) q.m).1 (ap (λ cs. sum (map row_count cs)) records_are ∙ cones-rows s),
      )

  fourth : T (check4 q)
  fourth =
      let s = accepted-sound compact p ok in
      let as_many = alphas_as_many q.cones q.alphas in
      let old = eqb→eq (sum (map alpha_count (records p.cones))) (length p.alphas) (accepted_checked compact p ok).alphas in
      (and_iff (cones_read q.m q.cones && as_many && eqb (length q.q) q.n) (eqb (length q.b) q.m)).1 (
        (and_iff (cones_read q.m q.cones && as_many) (eqb (length q.q) q.n)).1 (
          (and_iff (cones_read q.m q.cones) as_many).1 (
            cones-read,
            (eqb_iff (sum (map alpha_count (records q.cones))) (length p.alphas)).1
                (ap (λ cs. sum (map alpha_count cs)) records_are ∙ cones-alphas s ∙ old),
          ),
          (eqb_iff (length q.q) q.n).1 (ap (λ (l : List ℕ). get_or l 3 0) (compact_sizes_lem p ok)),
        ),
        (eqb_iff (length q.b) q.m).1 (ap (λ (l : List ℕ). get_or l 7 0) (compact_sizes_lem p ok)),
      )

  -- it has no patterns, so checks 5 to 7 have nothing to refuse
  pub compact_passes : T (check1 (compact_problem p)) → problem_refusal (compact_problem p) ≡ 0
  compact_passes first = none_fails (problem_checks q) (first, (second, (third, (fourth, (tt, (tt, (tt, tt)))))))

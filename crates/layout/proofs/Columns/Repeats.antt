-- Repeated entries of a column summed: the rows that are left, their number, and the value on each row; A with its repeats summed.
use Prim.Native.Nat.{ℕ, suc, ◌+◌, ◌≤◌, ◌<◌}
use native.Mathlib.Nat.{eq-or-lt_of_le}
use native.Mathlib.Omega.{arith}
use mathlib.Core.Path.{◌≡◌, refl, sym, ap, subst, ◌∙◌}
use mathlib.Core.Logic.Iff
use mathlib.Core.Logic.{◌↔◌, inl, inr}
use mathlib.Core.Bool.{Bool, true, false, cond}
use mathlib.Core.List.{List, [], ◌∷◌, ◌++◌, map, map-map}
use lib.ListN.{length, get_or, length-map}
use lib.Dec.{T, eqb, leb, ltb, eqb→eq, leb→le, le→leb, lt→ltb, ltb→lt}
use lib.Ieee.{Float, add, binary64}
use Rattle.layout.specs.General.Lists.{has, all, below, keep, rises, never_falls}
use Rattle.layout.specs.General.Floats.{left_sum}
use Rattle.layout.specs.Problems.Problem.{Problem, Csc, Route}
use Rattle.layout.specs.Rows.Blocks.{compact_rows}
use Rattle.layout.specs.Checks.{layout, refusal, column_rows, starts_right, rows_in_order, rows_right}
use Rattle.layout.specs.Cuts.Compact.{Entry, column, csc, rows_of, plus, summed_from, summed, summed_a, moved, augmented_column, overlap_columns, compact_columns, compact_a}
use Rattle.layout.specs.Equations.BothRoutes.{without_repeats}
use Rattle.layout.proofs.Lists.Tests.{and_iff, eqb_iff, cond_failed, either_iff}
use Rattle.layout.proofs.Lists.Members.{has-cons, get_or_map, get_or-below, length-below, has-below, all-has, all_so}
use Rattle.layout.proofs.Lists.Rising.{rises_never_fall}
use Rattle.layout.proofs.Lists.Joins.{map_same}
use Rattle.layout.proofs.Checks.Accepted.{accepted_checked}
use Rattle.layout.proofs.Columns.Columns.{column-csc, starts-right, RightStarts, column-rows, column-all, rows_never_fall, right_A}
use Rattle.layout.proofs.Columns.Compressed.{csc-starts, csc-rows, csc-all, own_columns}
pub use Rattle.layout.specs.Cuts.Runs.{runs_from, runs}

-- ---- the row indices: one for each run of equal ones

from-rows : (e : Entry) (es : List Entry) → rows_of (summed_from e es) ≡ runs_from e.row (rows_of es)
from-rows e [] = refl
from-rows e (f ∷ es) = go (eqb e.row f.row) (from-rows (plus e f) es) (from-rows f es)
  where
    go : (b : Bool) → rows_of (summed_from (plus e f) es) ≡ runs_from e.row (rows_of es) → rows_of (summed_from f es) ≡ runs_from f.row (rows_of es)
        → rows_of (cond b (summed_from (plus e f) es) (e ∷ summed_from f es))
        ≡ cond b (runs_from e.row (rows_of es)) (e.row ∷ runs_from f.row (rows_of es))
    go true h k = h
    go false h k = ap {B = List ℕ} (λ rs. e.row ∷ rs) k

pub summed-rows : (es : List Entry) → rows_of (summed es) ≡ runs (rows_of es)
summed-rows [] = refl
summed-rows (e ∷ es) = from-rows e es

-- a further row index starts a run where it differs from the one before it
pub run_more : (r s : ℕ) (rs : List ℕ) → length (runs_from r (s ∷ rs)) ≡ cond (eqb r s) 0 1 + length (runs_from s rs)
run_more r s rs = go (eqb r s) (eqb→eq r s)
  where
    go : (b : Bool) → (T b → r ≡ s) → length (cond b (runs_from r rs) (r ∷ runs_from s rs)) ≡ cond b 0 1 + length (runs_from s rs)
    go true f = let e : length (runs_from r rs) ≡ length (runs_from s rs) = ap (λ (q : ℕ). length (runs_from q rs)) (f tt) in omega arith
    go false f = omega arith

from-few : (r : ℕ) (rs : List ℕ) → length (runs_from r rs) ≤ suc (length rs)
from-few r [] = omega arith
from-few r (s ∷ rs) = go (eqb r s) (run_more r s rs) (from-few s rs)
  where
    go : (b : Bool) → length (runs_from r (s ∷ rs)) ≡ cond b 0 1 + length (runs_from s rs) → length (runs_from s rs) ≤ suc (length rs)
        → length (runs_from r (s ∷ rs)) ≤ suc (suc (length rs))
    go true e h = omega arith
    go false e h = omega arith

pub runs-few : (rs : List ℕ) → length (runs rs) ≤ length rs
runs-few [] = omega arith
runs-few (r ∷ rs) = from-few r rs

-- summing leaves one entry for each run
pub summed-count : (es : List Entry) → length (summed es) ≡ length (runs (rows_of es))
summed-count es = sym (length-map (summed es) (λ (e : Entry). e.row)) ∙ ap length (summed-rows es)

-- ---- non-decreasing row indices strictly increase once repeats are summed

-- the first row index is at most the second, and below it if they differ
next_row : (r s : ℕ) (rs : List ℕ) → T (never_falls (r ∷ s ∷ rs)) → T (never_falls (s ∷ rs)) × ((r ≡ s → ⊥) → r < s)
next_row r s rs h =
    let (l, k) = (and_iff (leb r s) (never_falls (s ∷ rs))).0 h in
    (k, λ n. elim (eq-or-lt_of_le (leb→le r s l)) [ inl e ↦ absurd (n e) | inr m ↦ m ])

above : (x r : ℕ) (rs : List ℕ) → x < r → T (never_falls (r ∷ rs)) → T (rises (x ∷ runs_from r rs))
above x r [] l h = (and_iff (ltb x r) true).1 (lt→ltb x r l, tt)
above x r (s ∷ rs) l h = go (eqb r s) (eqb_iff r s) (next_row r s rs h) (above x r rs l) (above r s rs)
  where
    go : (b : Bool) → T b ↔ (r ≡ s) → T (never_falls (s ∷ rs)) × ((r ≡ s → ⊥) → r < s) → (T (never_falls (r ∷ rs)) → T (rises (x ∷ runs_from r rs)))
        → (r < s → T (never_falls (s ∷ rs)) → T (rises (r ∷ runs_from s rs)))
        → T (rises (x ∷ cond b (runs_from r rs) (r ∷ runs_from s rs)))
    go true f d i j = i (subst (λ (q : ℕ). T (never_falls (q ∷ rs))) (sym (f.0 tt)) d.0)
    go false f d i j = (and_iff (ltb x r) (rises (r ∷ runs_from s rs))).1 (lt→ltb x r l, j (d.1 f.1) d.0)

from-rises : (r : ℕ) (rs : List ℕ) → T (never_falls (r ∷ rs)) → T (rises (runs_from r rs))
from-rises r [] h = tt
from-rises r (s ∷ rs) h = go (eqb r s) (eqb_iff r s) (next_row r s rs h) (from-rises r rs)
  where
    go : (b : Bool) → T b ↔ (r ≡ s) → T (never_falls (s ∷ rs)) × ((r ≡ s → ⊥) → r < s) → (T (never_falls (r ∷ rs)) → T (rises (runs_from r rs)))
        → T (rises (cond b (runs_from r rs) (r ∷ runs_from s rs)))
    go true f d i = i (subst (λ (q : ℕ). T (never_falls (q ∷ rs))) (sym (f.0 tt)) d.0)
    go false f d i = above r s rs (d.1 f.1) d.0

pub runs_rise : (rs : List ℕ) → T (never_falls rs) → T (rises (runs rs))
runs_rise [] h = tt
runs_rise (r ∷ rs) h = from-rises r rs h

summed-rises : (es : List Entry) → T (never_falls (rows_of es)) → T (rises (rows_of (summed es)))
summed-rises es h = subst (λ (rs : List ℕ). T (rises rs)) (sym (summed-rows es)) (runs_rise (rows_of es) h)

-- a matrix that passes check 3's test of P also passes its test of A
pub right_in_order : (m n : ℕ) (M : Csc) → T (rows_right m n M) → T (rows_in_order m n M)
right_in_order m n M h =
    let (inside, rising) = (and_iff (all (λ r. ltb r m) M.rows) (all (λ c. rises (column_rows M c)) (below n))).0 h in
    (and_iff (all (λ r. ltb r m) M.rows) (all (λ c. never_falls (column_rows M c)) (below n))).1
    (inside, all_so (λ c. rises (column_rows M c)) (λ c. never_falls (column_rows M c)) (λ c. rises_never_fall (column_rows M c)) (below n) rising)

-- ---- a column without repeats is unchanged

from_alone : (e : Entry) (es : List Entry) → T (rises (rows_of (e ∷ es))) → summed_from e es ≡ e ∷ es
from_alone e [] h = refl
from_alone e (f ∷ es) h =
    let (l, k) = (and_iff (ltb e.row f.row) (rises (rows_of (f ∷ es)))).0 h in
    cond_failed (eqb e.row f.row) (summed_from (plus e f) es) (e ∷ summed_from f es)
    (λ t. let same = eqb→eq e.row f.row t in absurd (omega (arith, ltb→lt e.row f.row l, same)))
    ∙ ap {B = List Entry} (λ r. e ∷ r) (from_alone f es k)

pub summed_alone : (es : List Entry) → T (rises (rows_of es)) → summed es ≡ es
summed_alone [] h = refl
summed_alone (e ∷ es) h = from_alone e es h

-- ---- properties of each row of a column

-- summing loses no row and adds none
from-has : (x r : ℕ) (rs : List ℕ) → T (has x (runs_from r rs)) ↔ T (has x (r ∷ rs))
from-has x r [] = Iff.rfl
from-has x r (s ∷ rs) = go (eqb r s) (eqb→eq r s) (from-has x r rs) (from-has x s rs)
  where
    go : (b : Bool) → (T b → r ≡ s) → T (has x (runs_from r rs)) ↔ T (has x (r ∷ rs)) → T (has x (runs_from s rs)) ↔ T (has x (s ∷ rs))
        → T (has x (cond b (runs_from r rs) (r ∷ runs_from s rs))) ↔ T (has x (r ∷ s ∷ rs))
    go true e i j = (
      λ h. (has-cons x r (s ∷ rs)).1 (elim ((has-cons x r rs).0 (i.0 h)) [ inl q ↦ inl q | inr k ↦ inr ((has-cons x s rs).1 (inr k)) ]),
      λ h. i.1 ((has-cons x r rs).1 (elim ((has-cons x r (s ∷ rs)).0 h) [
        | inl q ↦ inl q
        | inr k ↦ elim ((has-cons x s rs).0 k) [ inl q ↦ inl (q ∙ sym (e tt)) | inr m ↦ inr m ]
      ])),
    )
    go false e i j = Iff.trans (has-cons x r (runs_from s rs)) (Iff.trans (either_iff Iff.rfl j) (Iff.symm (has-cons x r (s ∷ rs))))

pub runs-has : (x : ℕ) (rs : List ℕ) → T (has x (runs rs)) ↔ T (has x rs)
runs-has x [] = Iff.rfl
runs-has x (r ∷ rs) = from-has x r rs

from_all : (p : ℕ → Bool) (e : Entry) (es : List Entry) → T (p e.row) → T (all (λ (e : Entry). p e.row) es) → T (all p (rows_of (summed_from e es)))
from_all p e [] h k = (and_iff (p e.row) true).1 (h, tt)
from_all p e (f ∷ es) h k =
    let (here, rest) = (and_iff (p f.row) (all (λ (e : Entry). p e.row) es)).0 k in
    go (eqb e.row f.row) (from_all p (plus e f) es h rest) (from_all p f es here rest)
  where
    go : (b : Bool) → T (all p (rows_of (summed_from (plus e f) es))) → T (all p (rows_of (summed_from f es)))
        → T (all p (rows_of (cond b (summed_from (plus e f) es) (e ∷ summed_from f es))))
    go true i j = i
    go false i j = (and_iff (p e.row) (all p (rows_of (summed_from f es)))).1 (h, j)

summed-all : (p : ℕ → Bool) (es : List Entry) → T (all (λ (e : Entry). p e.row) es) → T (all p (rows_of (summed es)))
summed-all p [] h = tt
summed-all p (e ∷ es) h =
    let (here, rest) = (and_iff (p e.row) (all (λ (e : Entry). p e.row) es)).0 h in
    from_all p e es here rest

-- ---- entries appended

from-append : (e : Entry) (es fs : List Entry) → ((x y : ℕ) → T (has x (rows_of (e ∷ es))) → T (has y (rows_of fs)) → x < y)
    → summed_from e (es ++ fs) ≡ summed_from e es ++ summed fs
from-append e [] [] apart = refl
from-append e [] (f ∷ fs) apart =
    cond_failed (eqb e.row f.row) (summed_from (plus e f) fs) (e ∷ summed_from f fs) (λ h.
    let same = eqb→eq e.row f.row h in
    let low = apart e.row f.row ((has-cons e.row e.row []).1 (inl refl)) ((has-cons f.row f.row (rows_of fs)).1 (inl refl)) in
    absurd (omega arith))
from-append e (g ∷ es) fs apart =
    go (eqb e.row g.row)
    (from-append (plus e g) es fs (λ x y h k. apart x y (skip x h) k))
    (from-append g es fs (λ x y h k. apart x y ((has-cons x e.row (g.row ∷ rows_of es)).1 (inr h)) k))
  where
    skip : (x : ℕ) → T (has x (e.row ∷ rows_of es)) → T (has x (e.row ∷ g.row ∷ rows_of es))
    skip x h = elim ((has-cons x e.row (rows_of es)).0 h) [
      | inl q ↦ (has-cons x e.row (g.row ∷ rows_of es)).1 (inl q)
      | inr m ↦ (has-cons x e.row (g.row ∷ rows_of es)).1 (inr ((has-cons x g.row (rows_of es)).1 (inr m)))
    ]

    go : (b : Bool) → summed_from (plus e g) (es ++ fs) ≡ summed_from (plus e g) es ++ summed fs
        → summed_from g (es ++ fs) ≡ summed_from g es ++ summed fs
        → cond b (summed_from (plus e g) (es ++ fs)) (e ∷ summed_from g (es ++ fs))
        ≡ cond b (summed_from (plus e g) es) (e ∷ summed_from g es) ++ summed fs
    go true h k = h
    go false h k = ap {B = List Entry} (λ l. e ∷ l) k

-- if all row indices of es are less than those of fs, summing es ++ fs is summing es and fs separately
pub summed-append : (es fs : List Entry) → ((x y : ℕ) → T (has x (rows_of es)) → T (has y (rows_of fs)) → x < y)
    → summed (es ++ fs) ≡ summed es ++ summed fs
summed-append [] fs apart = refl
summed-append (e ∷ es) fs apart = from-append e es fs apart

-- ---- the value on one row: the sum of its run

-- no value for an empty list, otherwise its one sum from left to right
abbrev pub left_sums : List Float → List Float
left_sums [] = []
left_sums (v ∷ vs) = left_sum v vs ∷ []

-- the values of a column on row o
abbrev pub values_at : ℕ → List Entry → List Float
values_at o es = map (λ (e : Entry). e.value) (keep (λ (e : Entry). eqb e.row o) es)

values-cons : (o : ℕ) (e : Entry) (es : List Entry) → values_at o (e ∷ es) ≡ cond (eqb e.row o) (e.value ∷ values_at o es) (values_at o es)
values-cons o e es = go (eqb e.row o)
  where
    others : List Entry
    others = keep (λ (e : Entry). eqb e.row o) es

    go : (b : Bool) → map (λ (e : Entry). e.value) (cond b (e ∷ others) others) ≡ cond b (e.value ∷ values_at o es) (values_at o es)
    go true = refl
    go false = refl

-- there are no values on row o if the row indices are non-decreasing from r on and o < r
none-at : (o : ℕ) (es : List Entry) (r : ℕ) → o < r → T (never_falls (r ∷ rows_of es)) → values_at o es ≡ []
none-at o [] r l h = refl
none-at o (e ∷ es) r l h =
    let (le, k) = (and_iff (leb r e.row) (never_falls (rows_of (e ∷ es)))).0 h in
    let m : o < e.row = omega (arith, leb→le r e.row le) in
    values-cons o e es
    ∙ cond_failed (eqb e.row o) (e.value ∷ values_at o es) (values_at o es) (λ t. let q = eqb→eq e.row o t in absurd (omega arith))
    ∙ none-at o es e.row m k

from-values : (o : ℕ) (e : Entry) (es : List Entry) → T (never_falls (rows_of (e ∷ es))) → values_at o (summed_from e es) ≡ left_sums (values_at o (e ∷ es))
from-values o e [] h = go (eqb e.row o)
  where
    go : (b : Bool) → map (λ (e : Entry). e.value) (cond b (e ∷ []) []) ≡ left_sums (map (λ (e : Entry). e.value) (cond b (e ∷ []) []))
    go true = refl
    go false = refl
from-values o e (f ∷ es) h =
    go (eqb e.row f.row) (eqb_iff e.row f.row) (next_row e.row f.row (rows_of es) h) (from-values o (plus e f) es) (from-values o f es)
  where
    vs : List Float
    vs = values_at o es

    -- a repeated entry, on row o or on another row
    repeated : (b : Bool) → left_sums (cond b (add binary64 e.value f.value ∷ vs) vs)
        ≡ left_sums (cond b (e.value ∷ cond b (f.value ∷ vs) vs) (cond b (f.value ∷ vs) vs))
    repeated true = refl
    repeated false = refl

    -- an entry e that is alone on its row
    alone : (b : Bool) (W : List Float) → (T b → W ≡ []) → cond b (e.value ∷ left_sums W) (left_sums W) ≡ left_sums (cond b (e.value ∷ W) W)
    alone true W n = rw (n tt)
    alone false W n = refl

    go : (b : Bool) → T b ↔ (e.row ≡ f.row) → T (never_falls (rows_of (f ∷ es))) × ((e.row ≡ f.row → ⊥) → e.row < f.row)
        → (T (never_falls (rows_of (plus e f ∷ es))) → values_at o (summed_from (plus e f) es) ≡ left_sums (values_at o (plus e f ∷ es)))
        → (T (never_falls (rows_of (f ∷ es))) → values_at o (summed_from f es) ≡ left_sums (values_at o (f ∷ es)))
        → values_at o (cond b (summed_from (plus e f) es) (e ∷ summed_from f es)) ≡ left_sums (values_at o (e ∷ f ∷ es))
    go true q d i j =
        let same : e.row ≡ f.row = q.0 tt in
        i (subst (λ (r : ℕ). T (never_falls (r ∷ rows_of es))) (sym same) d.0)
        ∙ ap left_sums (values-cons o (plus e f) es) ∙ repeated (eqb e.row o)
        ∙ ap left_sums (ap (λ (r : ℕ). cond (eqb e.row o) (e.value ∷ cond (eqb r o) (f.value ∷ vs) vs) (cond (eqb r o) (f.value ∷ vs) vs)) same
        ∙ ap (λ (W : List Float). cond (eqb e.row o) (e.value ∷ W) W) (sym (values-cons o f es)) ∙ sym (values-cons o e (f ∷ es)))
    go false q d i j =
        let l : e.row < f.row = d.1 q.1 in
        values-cons o e (summed_from f es)
        ∙ ap (λ (W : List Float). cond (eqb e.row o) (e.value ∷ W) W) (j d.0)
        ∙ alone (eqb e.row o) (values_at o (f ∷ es)) (λ t. none-at o (f ∷ es) f.row (subst (λ (r : ℕ). r < f.row) (eqb→eq e.row o t) l)
        ((and_iff (leb f.row f.row) (never_falls (rows_of (f ∷ es)))).1 (le→leb f.row f.row (omega arith), d.0)))
        ∙ ap left_sums (sym (values-cons o e (f ∷ es)))

-- after summing, row o holds the sum of its run
summed-values : (o : ℕ) (es : List Entry) → T (never_falls (rows_of es)) → values_at o (summed es) ≡ left_sums (values_at o es)
summed-values o [] h = refl
summed-values o (e ∷ es) h = from-values o e es h

-- after summing, the entry moved from row o to row q holds the sum of row o's run
pub moved_sum : (o q : ℕ) (es : List Entry) → T (never_falls (rows_of es))
    → moved o q (summed es) ≡ map (λ v. record { row = q; value = v }) (left_sums (values_at o es))
moved_sum o q es h =
    sym (map-map (λ (v : Float). record { row = q; value = v }) (λ (e : Entry). e.value) (keep (λ (e : Entry). eqb e.row o) (summed es)))
    ∙ ap (map (λ (v : Float). record { row = q; value = v })) (summed-values o es h)

-- ---- A with its repeats summed

-- the problem with A's repeats summed
abbrev with_sums : Problem → Problem
with_sums p = record {
  n = p.n;
  m = p.m;
  P = p.P;
  q = p.q;
  A = summed_a p;
  b = p.b;
  cones = p.cones;
  alphas = p.alphas;
  pattern_count = p.pattern_count;
  pattern_words = p.pattern_words;
}

module _ (p : Problem) where
  abbrev columns : List (List Entry)
  columns = map (λ c. summed (column p.A c)) (below p.n)

  many : length columns ≡ p.n
  many = length-map (below p.n) (λ c. summed (column p.A c)) ∙ length-below p.n

  here : (c : ℕ) → c < p.n → get_or columns c [] ≡ summed (column p.A c)
  here c l =
      get_or_map (λ c. summed (column p.A c)) (below p.n) c 0 [] (omega (arith, length-below p.n))
      ∙ ap (λ (k : ℕ). summed (column p.A k)) (get_or-below p.n c 0 l)

  pub summed-column : (c : ℕ) → c < p.n → column (summed_a p) c ≡ summed (column p.A c)
  summed-column c l = column-csc columns c (omega (arith, many)) ∙ here c l

  -- check 2 of the summed A
  pub right-summed : RightStarts p.n (summed_a p)
  right-summed = starts-right p.n (summed_a p) (subst (λ (n : ℕ). T (starts_right n (summed_a p))) many (csc-starts columns))

  module _ (route : Route) (ok : refusal route p ≡ 0) where
    never_fall : (c : ℕ) → c < p.n → T (never_falls (rows_of (column p.A c)))
    never_fall c l = rows_never_fall p.m p.n p.A (right_A route p ok) (accepted_checked route p ok).rows_a c l

    -- a test that all row indices of A pass is passed by all row indices of the summed A
    pub summed-each : (f : ℕ → Bool) → T (all f p.A.rows) → T (all f (summed_a p).rows)
    summed-each f h = csc-all columns f (λ c l.
        let k : c < p.n = omega (arith, many) in
        subst (λ (es : List Entry). T (all f (rows_of es))) (sym (here c k))
        (summed-all f (column p.A c) (column-all p.n p.A (right_A route p ok) c k f h)))

    -- the summed A passes check 3 as P has to: row indices strictly increase
    pub rows-summed : T (rows_right p.m p.n (summed_a p))
    rows-summed = subst (λ (n : ℕ). T (rows_right p.m n (summed_a p))) many (csc-rows columns p.m inside rising)
      where
        below_m : T (all (λ r. ltb r p.m) p.A.rows)
        below_m = (simp and_iff at (accepted_checked route p ok).rows_a).0

        inside : (c : ℕ) → c < length columns → (r : ℕ) → T (has r (rows_of (get_or columns c []))) → r < p.m
        inside c l r h =
            let k : c < p.n = omega (arith, many) in
            let each = summed-all (λ r. ltb r p.m) (column p.A c) (column-all p.n p.A (right_A route p ok) c k (λ r. ltb r p.m) below_m) in
            ltb→lt r p.m ((all-has (λ r. ltb r p.m) (rows_of (summed (column p.A c)))).0 each r
            (subst (λ (es : List Entry). T (has r (rows_of es))) (here c k) h))

        rising : (c : ℕ) → c < length columns → T (rises (rows_of (get_or columns c [])))
        rising c l =
            let k : c < p.n = omega (arith, many) in
            subst (λ (es : List Entry). T (rises (rows_of es))) (sym (here c k)) (summed-rises (column p.A c) (never_fall c k))

    -- summing A's repeats first does not change the compact cut's A
    pub sums_first : compact_a (with_sums p) ≡ compact_a p
    sums_first =
        let R = compact_rows (layout p) in
        ap (λ (cs : List (List Entry)). csc (cs ++ overlap_columns 0 R))
        (map_same (λ c. augmented_column (summed (column (summed_a p) c)) 0 R) (λ c. augmented_column (summed (column p.A c)) 0 R) (below p.n)
        (λ c h. let l = (has-below c p.n).0 h in ap (λ (es : List Entry). augmented_column es 0 R) (once c l)))
      where
        once : (c : ℕ) → c < p.n → summed (column (summed_a p) c) ≡ summed (column p.A c)
        once c l =
            ap summed (summed-column c l)
            ∙ summed_alone (summed (column p.A c)) (summed-rises (column p.A c) (never_fall c l))

    -- without repeats, summing changes neither a column nor A
    module _ (alone : T (without_repeats p)) where
      column_alone : (c : ℕ) → c < p.n → summed (column p.A c) ≡ column p.A c
      column_alone c l = summed_alone (column p.A c)
          (subst (λ (rs : List ℕ). T (rises rs)) (sym (column-rows p.n p.A (right_A route p ok) c l))
          ((all-has (λ c. rises (column_rows p.A c)) (below p.n)).0 alone c ((has-below c p.n).1 l)))

      pub A-alone : summed_a p ≡ p.A
      A-alone =
          ap csc (map_same (λ c. summed (column p.A c)) (column p.A) (below p.n) (λ c h. column_alone c ((has-below c p.n).0 h)))
          ∙ own_columns p.n p.A (right_A route p ok)

      pub compact_alone : compact_columns p
          ≡ map (λ c. augmented_column (column p.A c) 0 (compact_rows (layout p))) (below p.n) ++ overlap_columns 0 (compact_rows (layout p))
      compact_alone =
          let R = compact_rows (layout p) in
          ap (λ (cs : List (List Entry)). cs ++ overlap_columns 0 R)
          (map_same (λ c. augmented_column (summed (column p.A c)) 0 R) (λ c. augmented_column (column p.A c) 0 R) (below p.n)
          (λ c h. ap (λ (es : List Entry). augmented_column es 0 R) (column_alone c ((has-below c p.n).0 h))))

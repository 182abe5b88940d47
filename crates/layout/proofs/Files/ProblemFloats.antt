-- A problem's floats: those read from bit patterns fit binary64, a problem whose floats fit is recovered from its tables, and the compact cut
-- keeps floats that fit.
use Prim.Native.Nat.{ℕ, zero, suc, ◌-◌}
use mathlib.Core.Path.{◌≡◌, sym, subst}
use mathlib.Core.Bool.{Bool, true, false, cond}
use mathlib.Core.List.{List, [], ◌∷◌, ◌++◌, map, map-append}
use lib.ListN.{get_or, replicate}
use lib.Dec.{T, eqb}
use lib.Ieee.{Float, nan, binary64, fits, eq}
use lib.Ieee.Fits.{add-fits}
use Rattle.layout.specs.General.Lists.{all, keep, below, join}
use Rattle.layout.specs.General.Floats.{zero64, Doubles, floats, bits}
use Rattle.layout.specs.Problems.Problem.{Problem, Csc, problem}
use Rattle.layout.specs.Rows.Blocks.{Row, kept, owned, overlap, compact_rows, overlap_count}
use Rattle.layout.specs.Checks.{layout}
use Rattle.layout.specs.Cuts.Compact.{Entry, entries_from, column, csc, plus, summed_from, summed, moved, row_entries, augmented_column, overlap_columns, row_value}
use Rattle.layout.specs.Files.File.{BitTables, bit_tables, problem_of, compact_problem, compact_tables}
use Rattle.layout.proofs.Lists.Tests.{and_iff}
use Rattle.layout.proofs.Columns.Compressed.{values_of}
use Rattle.layout.proofs.Floats.Bits.{fit_cons, fit_append, zeros_fit, value-fits, floats_fit, bits_back, floats_zeros}

-- every float of a problem fits binary64
pub record FloatsFit (p : Problem) : Type 0 where
  pub P : Doubles p.P.values
  pub q : Doubles p.q
  pub A : Doubles p.A.values
  pub b : Doubles p.b
  pub alphas : Doubles p.alphas

pub problem-floats : (t : BitTables) → FloatsFit (problem_of t)
problem-floats t = record {
  P = floats_fit t.p_values;
  q = floats_fit t.q;
  A = floats_fit t.a_values;
  b = floats_fit t.b;
  alphas = floats_fit t.alphas;
}

-- a problem's tables, with a NaN as the bit pattern that `to_bits` gives
abbrev pub tables_of : Problem → BitTables
tables_of p =
    bit_tables p.n p.m p.P.starts p.P.rows (bits p.P.values) (bits p.q)
    p.A.starts p.A.rows (bits p.A.values) (bits p.b) p.cones (bits p.alphas) p.pattern_count p.pattern_words

-- they represent the problem
pub tables_represent : (p : Problem) → FloatsFit p → problem_of (tables_of p) ≡ p
tables_represent p h = λ i.
    problem p.n p.m p.P.starts p.P.rows (bits_back p.P.values h.P i) (bits_back p.q h.q i)
    p.A.starts p.A.rows (bits_back p.A.values h.A i) (bits_back p.b h.b i) p.cones
    (bits_back p.alphas h.alphas i) p.pattern_count p.pattern_words

-- ---- the compact cut

entries_fit : (M : Csc) → Doubles M.values → (a k : ℕ) → Doubles (values_of (entries_from a k M))
entries_fit M h a zero = tt
entries_fit M h a (suc k) =
    fit_cons (get_or M.values a nan) (values_of (entries_from (suc a) k M)) (value-fits M.values h a) (entries_fit M h (suc a) k)

stored_fit : (M : Csc) → Doubles M.values → (c : ℕ) → Doubles (values_of (column M c))
stored_fit M h c = entries_fit M h (get_or M.starts c 0) (get_or M.starts (suc c) 0 - get_or M.starts c 0)

-- a rounded sum is a double
from_fit : (e : Entry) (es : List Entry) → T (fits binary64 e.value) → Doubles (values_of es) → Doubles (values_of (summed_from e es))
from_fit e [] h k = fit_cons e.value [] h tt
from_fit e (f ∷ es) h k =
    let (first, rest) = (and_iff (fits binary64 f.value) (all (fits binary64) (values_of es))).0 k in
    pick (eqb e.row f.row) (from_fit (plus e f) es (add-fits binary64 e.value f.value) rest) (from_fit f es first rest)
  where
    pick : (b : Bool) → Doubles (values_of (summed_from (plus e f) es)) → Doubles (values_of (summed_from f es))
        → Doubles (values_of (cond b (summed_from (plus e f) es) (e ∷ summed_from f es)))
    pick true i j = i
    pick false i j = fit_cons e.value (values_of (summed_from f es)) h j

summed_fit : (es : List Entry) → Doubles (values_of es) → Doubles (values_of (summed es))
summed_fit [] h = tt
summed_fit (e ∷ es) h =
    let (first, rest) = (and_iff (fits binary64 e.value) (all (fits binary64) (values_of es))).0 h in
    from_fit e es first rest

moved_fit : (o r : ℕ) (es : List Entry) → Doubles (values_of es) → Doubles (values_of (moved o r es))
moved_fit o r [] h = tt
moved_fit o r (e ∷ es) h =
    let (first, rest) = (and_iff (fits binary64 e.value) (all (fits binary64) (values_of es))).0 h in
    pick (eqb e.row o) first (moved_fit o r es rest)
  where
    pick : (b : Bool) → T (fits binary64 e.value) → Doubles (values_of (moved o r es))
        → Doubles (values_of (map (λ (e : Entry). record { row = r; value = e.value })
        (cond b (e ∷ keep (λ (e : Entry). eqb e.row o) es) (keep (λ (e : Entry). eqb e.row o) es))))
    pick true f k = fit_cons e.value (values_of (moved o r es)) f k
    pick false f k = k

row_fit : (es : List Entry) → Doubles (values_of es) → (r : ℕ) (x : Row) → Doubles (values_of (row_entries es r x))
row_fit es h r (kept o) = moved_fit o r es h
row_fit es h r (owned o) = moved_fit o r es h
row_fit es h r (overlap o q) = tt

joined_fit : (es fs : List Entry) → Doubles (values_of es) → Doubles (values_of fs) → Doubles (values_of (es ++ fs))
joined_fit es fs h k =
    subst Doubles (sym (map-append (λ (e : Entry). e.value) es fs)) (fit_append (values_of es) (values_of fs) h k)

column_fit : (es : List Entry) → Doubles (values_of es) → (r : ℕ) (R : List Row) → Doubles (values_of (augmented_column es r R))
column_fit es h r [] = tt
column_fit es h r (x ∷ R) =
    joined_fit (row_entries es r x) (augmented_column es (suc r) R) (row_fit es h r x) (column_fit es h (suc r) R)

-- all entries of the columns are doubles
abbrev AllFit : List (List Entry) → Type 0
AllFit cs = Doubles (csc cs).values

all_fit_cons : (es : List Entry) (cs : List (List Entry)) → Doubles (values_of es) → AllFit cs → AllFit (es ∷ cs)
all_fit_cons es cs h k = joined_fit es (join (λ c. c) cs) h k

overlaps_fit : (r : ℕ) (R : List Row) → AllFit (overlap_columns r R)
unfolding fits
overlaps_fit r [] = tt
overlaps_fit r (kept o ∷ R) = overlaps_fit (suc r) R
overlaps_fit r (owned o ∷ R) = overlaps_fit (suc r) R
overlaps_fit r (overlap o q ∷ R) = overlaps_fit (suc r) R

columns_fit : (f : ℕ → List Entry) (cs : List ℕ) (ds : List (List Entry)) → ((c : ℕ) → Doubles (values_of (f c))) → AllFit ds → AllFit (map f cs ++ ds)
columns_fit f [] ds h k = k
columns_fit f (c ∷ cs) ds h k = all_fit_cons (f c) (map f cs ++ ds) (h c) (columns_fit f cs ds h k)

zero_or : (b : Bool) (v : Float) → T (fits binary64 v) → T (fits binary64 (cond b zero64 v))
unfolding fits
zero_or true v h = tt
zero_or false v h = h

rows_fit_lem : (b : List Float) → Doubles b → (R : List Row) → Doubles (map (row_value b) R)
unfolding fits
rows_fit_lem b h [] = tt
rows_fit_lem b h (kept o ∷ R) =
    fit_cons (row_value b (kept o)) (map (row_value b) R) (zero_or (eq (get_or b o nan) zero64) (get_or b o nan) (value-fits b h o)) (rows_fit_lem b h R)
rows_fit_lem b h (owned o ∷ R) =
    fit_cons (row_value b (owned o)) (map (row_value b) R) (zero_or (eq (get_or b o nan) zero64) (get_or b o nan) (value-fits b h o)) (rows_fit_lem b h R)
rows_fit_lem b h (overlap o q ∷ R) = rows_fit_lem b h R

pub compact_floats : (p : Problem) → FloatsFit p → FloatsFit (compact_problem p)
compact_floats p h =
    let R = compact_rows (layout p) in
    record {
      P = h.P;
      q = fit_append p.q (replicate (overlap_count (layout p)) zero64) h.q (zeros_fit (overlap_count (layout p)));
      A = columns_fit (λ c. augmented_column (summed (column p.A c)) 0 R) (below p.n) (overlap_columns 0 R)
          (λ c. column_fit (summed (column p.A c)) (summed_fit (column p.A c) (stored_fit p.A h.A c)) 0 R) (overlaps_fit 0 R);
      b = rows_fit_lem p.b h.b R;
      alphas = h.alphas;
    }

-- ---- the compact problem's tables

-- they represent the compact problem
pub compact_stands : (t : BitTables) → problem_of (compact_tables t) ≡ compact_problem (problem_of t)
compact_stands t =
    let p = problem_of t in
    let a = compact_problem p in
    let fit = compact_floats p (problem-floats t) in
    λ i. problem a.n a.m a.P.starts t.p_rows (floats t.p_values) (floats_zeros t.q (overlap_count (layout p)) i)
    a.A.starts a.A.rows (bits_back a.A.values fit.A i) (bits_back a.b fit.b i) a.cones (floats t.alphas) 0 []

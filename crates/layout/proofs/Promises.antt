-- The contracts of the calls: a refused call leaves every output unchanged, stated once for each contract; a cut that is not refused
-- accepts its problem, and its outputs are long enough.
use Prim.Native.Nat.{ℕ, zero, suc, ◌≤◌}
use native.Mathlib.Omega.{arith}
use mathlib.Core.Path.{◌≡◌, refl, ap, ◌∙◌}
use mathlib.Core.Bool.{Bool, true, false, cond}
use mathlib.Core.List.{List}
use lib.ListN.{length, take}
use lib.Dec.{T}
use Rattle.layout.specs.Problems.Problem.{Problem, table_lengths, Route, standard, compact}
use Rattle.layout.specs.Checks.{refusal}
use Rattle.layout.specs.Calls.Cut.{Augmented, lengths, sizes, cut_refusal, Objective, HoldsObjective, Constrained, HoldsConstrained, Cut}
use Rattle.layout.specs.Calls.Answers.{output, or_else, on_route, route_of, roomy}
use Rattle.layout.specs.Calls.Join.{Rejoined, HoldsRejoined}
use Rattle.layout.specs.Calls.Tables.{Tables, tables_of, table_rooms, problem_at, HoldsTables}
use Rattle.layout.proofs.Lists.Tests.{and_iff, leb_iff}
use Rattle.layout.proofs.Lists.Buffers.{front_read}

-- a refused call leaves its output unchanged
pub output-kept : {A : Type 0} (r : ℕ) (new old : List A) → (r ≡ 0 → ⊥) → old ≡ output r new old
output-kept zero new old h = absurd (h refl)
output-kept (suc r) new old h = refl

module _ (r : ℕ) (refused : r ≡ 0 → ⊥) where
  pub objective-kept : (new old : Objective) → HoldsObjective r new old old
  objective-kept new old = record {
    p_starts = output-kept r _ _ refused;
    p_rows = output-kept r _ _ refused;
    p_values = output-kept r _ _ refused;
    q = output-kept r _ _ refused;
    alphas = output-kept r _ _ refused;
  }

  pub constrained-kept : (new old : Constrained) → HoldsConstrained r new old old
  constrained-kept new old = record {
    a_starts = output-kept r _ _ refused;
    a_rows = output-kept r _ _ refused;
    a_values = output-kept r _ _ refused;
    b = output-kept r _ _ refused;
    cones = output-kept r _ _ refused;
  }

  pub rejoined-kept : (new old : Rejoined) → HoldsRejoined r new old old
  rejoined-kept new old = record {
    x = output-kept r _ _ refused;
    s = output-kept r _ _ refused;
    z = output-kept r _ _ refused;
    scalars = output-kept r _ _ refused;
  }

  pub cut-refused : (route : ℕ) (p : Problem) (before : Augmented) → r ≡ on_route route (λ rt. cut_refusal rt p (lengths before)) → Cut route p before before r
  cut-refused route p before e = record {
    number = e;
    tables = record { objective = objective-kept _ _; constrained = constrained-kept _ _; map = output-kept r _ _ refused };
  }

  pub tables-kept : (new old : Tables) → HoldsTables r new old old
  tables-kept new old = record { objective = objective-kept _ _; constrained = constrained-kept _ _; pattern_words = output-kept r _ _ refused }

-- ---- a cut that is not refused

abbrev pub Taken : Route → Problem → List ℕ → Type 0
Taken route p rooms = (refusal route p ≡ 0) × T (roomy (sizes route p) rooms)

-- a call that returns 0 passes its checks, and its outputs are long enough
pub none-refused : (a : ℕ) (t : Bool) → or_else a (cond t 0 11) ≡ 0 → (a ≡ 0) × T t
none-refused zero true h = (refl, tt)
none-refused zero false h = absurd (omega arith)
none-refused (suc a) t h = absurd (omega arith)

pub taken : (k : ℕ) (p : Problem) (rooms : List ℕ) → on_route k (λ rt. cut_refusal rt p rooms) ≡ 0
    → (k ≤ 1) × Taken (route_of k) p rooms
taken zero p rooms h = (omega arith, none-refused (refusal standard p) (roomy (sizes standard p) rooms) h)
taken (suc zero) p rooms h = (omega arith, none-refused (refusal compact p) (roomy (sizes compact p) rooms) h)
taken (suc (suc k)) p rooms h = absurd (omega arith)

-- ---- a problem's tables

-- each output is long enough for its table
pub record TablesFit (p : Problem) (t : Tables) : Type 0 where
  pub p_starts : length p.P.starts ≤ length t.P.starts
  pub p_rows : length p.P.rows ≤ length t.P.rows
  pub p_values : length p.P.values ≤ length t.P.values
  pub q : length p.q ≤ length t.q
  pub a_starts : length p.A.starts ≤ length t.A.starts
  pub a_rows : length p.A.rows ≤ length t.A.rows
  pub a_values : length p.A.values ≤ length t.A.values
  pub b : length p.b ≤ length t.b
  pub cones : length p.cones ≤ length t.cones
  pub alphas : length p.alphas ≤ length t.alphas
  pub pattern_words : length p.pattern_words ≤ length t.pattern_words

pub tables_fit : (p : Problem) (t : Tables) → T (roomy (table_lengths p) (table_rooms t)) → TablesFit p t
tables_fit p t h =
    let each = simp (and_iff, leb_iff) at h in record {
      p_starts = omega arith;
      p_rows = omega arith;
      p_values = omega arith;
      q = omega arith;
      a_starts = omega arith;
      a_rows = omega arith;
      a_values = omega arith;
      b = omega arith;
      cones = omega arith;
      alphas = omega arith;
      pattern_words = omega arith;
    }

-- an output written by a call that returns 0 starts with `new`
at_front : {A : Type 0} (r : ℕ) (new old out : List A) → r ≡ 0 → out ≡ output r new old → take (length new) out ≡ new
at_front r new old out z e = front_read new old (e ∙ ap (λ (k : ℕ). output k new old) z)

-- if a call has written a problem's tables, the problem read from the start of its outputs is that problem
pub tables_front : (r : ℕ) (p : Problem) (before after : Tables) → r ≡ 0 → HoldsTables r (tables_of p) before after
    → problem_at p.n p.m p.pattern_count p after ≡ p
tables_front r p before after z h =
    let o = h.objective in
    let k = h.constrained in
    rw (
      at_front r p.P.starts _ _ z o.p_starts,
      at_front r p.P.rows _ _ z o.p_rows,
      at_front r p.P.values _ _ z o.p_values,
      at_front r p.q _ _ z o.q,
      at_front r p.A.starts _ _ z k.a_starts,
      at_front r p.A.rows _ _ z k.a_rows,
      at_front r p.A.values _ _ z k.a_values,
      at_front r p.b _ _ z k.b,
      at_front r p.cones _ _ z k.cones,
      at_front r p.alphas _ _ z o.alphas,
      at_front r p.pattern_words _ _ z h.pattern_words,
    )

-- What holds of every pattern read from words.
use Prim.Native.Nat.{ℕ, zero, suc, ◌≤◌}
use mathlib.Core.Path.{◌≡◌}
use mathlib.Core.Bool.{Bool, true, false, cond}
use mathlib.Core.List.{List, [], ◌∷◌}
use lib.ListN.{length, take, drop}
use lib.Seq.{length-take-le}
use lib.Dec.{T, eqb, leb, leb→le}
use Rattle.layout.specs.General.Lists.{all}
use Rattle.layout.specs.Problems.Patterns.{Read, read, short, and_then, Head, read_head, read_members, read_cliques, read_pattern, read_patterns, wholly, patterns, Pattern}
use Rattle.layout.proofs.Lists.Tests.{eqb_iff, and_iff}

module _ {A : Type 0} where
  -- P holds of what was read, if anything was read
  abbrev pub Reads : (A → Type 0) → Read A → Type 0
  Reads P (read a ws) = P a
  Reads P short = Unit {0}

  pub reads_any : (r : Read A) → Reads (λ a. Unit {0}) r
  reads_any (read a ws) = tt
  reads_any short = tt

  reads-wholly : (P : A → Type 0) (a : A) (r : Read A) → P a → Reads P r → P (wholly a r)
  reads-wholly P a (read b []) h k = k
  reads-wholly P a (read b (w ∷ ws)) h k = h
  reads-wholly P a short h k = h

module _ {A B : Type 0} where
  pub reads_then : (P : A → Type 0) (Q : B → Type 0) (r : Read A) (f : A → List ℕ → Read B)
      → Reads P r → ((a : A) (ws : List ℕ) → P a → Reads Q (f a ws)) → Reads Q (and_then r f)
  reads_then P Q (read a ws) f h k = k a ws h
  reads_then P Q short f h k = tt

reads-members : (k : ℕ) (ws : List ℕ) → Reads (λ xs. length xs ≡ k) (read_members k ws)
reads-members k ws = pick (leb k (length ws)) (leb→le k (length ws))
  where
    pick : (b : Bool) → (T b → k ≤ length ws) → Reads (λ xs. length xs ≡ k) (cond b (read (take k ws) (drop k ws)) short)
    pick true h = length-take-le k ws (h tt)
    pick false h = tt

-- whether the ordering has one entry for each vertex
abbrev pub ordering_fits : Pattern → Bool
ordering_fits p = eqb (length p.ordering) p.vertex_count

abbrev Fitting : Pattern → Type 0
Fitting p = T (ordering_fits p)

abbrev AllFitting : List Pattern → Type 0
AllFitting ps = T (all ordering_fits ps)

abbrev FittingHead : Head → Type 0
FittingHead h = length h.ordering ≡ h.vertex_count

reads-head : (ws : List ℕ) → Reads FittingHead (read_head ws)
reads-head [] = tt
reads-head (o ∷ []) = tt
reads-head (o ∷ v ∷ []) = tt
reads-head (o ∷ v ∷ k ∷ ws) =
    reads_then (λ xs. length xs ≡ v) FittingHead (read_members v ws) _ (reads-members v ws) (λ xs rest h. h)

reads_pattern : (ws : List ℕ) → Reads Fitting (read_pattern ws)
reads_pattern ws =
    reads_then FittingHead Fitting (read_head ws) _ (reads-head ws) (λ h rest fits.
    reads_then (λ cs. Unit {0}) Fitting (read_cliques h.clique_count rest) _ (reads_any (read_cliques h.clique_count rest)) (λ cs left _.
    (eqb_iff (length h.ordering) h.vertex_count).1 fits))

reads-patterns : (k : ℕ) (ws : List ℕ) → Reads AllFitting (read_patterns k ws)
reads-patterns zero ws = tt
reads-patterns (suc k) ws =
    reads_then Fitting AllFitting (read_pattern ws) _ (reads_pattern ws) (λ p rest h.
    reads_then AllFitting AllFitting (read_patterns k rest) _ (reads-patterns k rest) (λ ps left hs.
    (and_iff (ordering_fits p) (all ordering_fits ps)).1 (h, hs)))

pub patterns_fit : (count : ℕ) (ws : List ℕ) → T (all ordering_fits (patterns count ws))
patterns_fit count ws = reads-wholly AllFitting [] (read_patterns count ws) tt (reads-patterns count ws)

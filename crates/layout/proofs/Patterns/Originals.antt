-- Original vertices: the ordering, a permutation, gives each vertex number its original vertex; sorted lists of original vertices.
use Prim.Native.Nat.{ℕ, ◌<◌}
use native.Mathlib.Omega.{arith}
use mathlib.Core.Path.{◌≡◌, refl, sym, ap, subst, ◌∙◌}
use mathlib.Core.Logic.Iff
use mathlib.Core.Logic.{◌↔◌}
use mathlib.Core.List.{List}
use lib.ListN.{length, get_or, length-map}
use lib.Dec.{T}
use Rattle.layout.specs.General.Lists.{has, distinct, rises, below}
use Rattle.layout.specs.Problems.Patterns.{Pattern}
use Rattle.layout.specs.Rows.Blocks.{originals, sorted}
use Rattle.layout.specs.Checks.{Ordered}
use Rattle.layout.proofs.Lists.Members.{has-at, has-map, has_get_or, has-keep, has-below}
use Rattle.layout.proofs.Lists.Distinct.{distinct-at, distinct-map, same_length, permutation-has, permutation-distinct}
use Rattle.layout.proofs.Lists.Rising.{rises-up_from, rises-keep, rises-distinct}

-- the original vertex of vertex u
abbrev pub original : Pattern → ℕ → ℕ
original p u = get_or p.ordering u 0

pub has-originals : (p : Pattern) (us : List ℕ) (w : ℕ)
    → T (has w (originals p us)) ↔ ((u : ℕ) × T (has u us) × (w ≡ original p u))
has-originals p us w = Iff.trans (has-map 0 (original p) w us) (
  λ s. (get_or us s.0 0, has_get_or us s.0 0 s.1, s.2),
  λ s. let (i, l, e) = (has-at 0 s.0 us).0 s.1 in (i, l, s.2 ∙ ap (original p) e),
)

pub sorted_rises : (p : Pattern) (us : List ℕ) → T (rises (sorted p us))
sorted_rises p us = rises-keep (λ w. has w (originals p us)) (below p.vertex_count) (rises-up_from 0 p.vertex_count)

pub sorted-distinct : (p : Pattern) (us : List ℕ) → T (distinct (sorted p us))
sorted-distinct p us = rises-distinct (sorted p us) (sorted_rises p us)

pub sorted-bounded : (p : Pattern) (us : List ℕ) (w : ℕ) → T (has w (sorted p us)) → w < p.vertex_count
sorted-bounded p us w h =
    (has-below w p.vertex_count).0 ((has-keep (λ x. has x (originals p us)) w (below p.vertex_count)).0 h).0

-- whether every member of us is a vertex number of p
abbrev pub Vertices : Pattern → List ℕ → Type 0
Vertices p us = (u : ℕ) → T (has u us) → u < p.vertex_count

module _ (p : Pattern) (o : Ordered p) where
  inside : (u : ℕ) → u < p.vertex_count → u < length p.ordering
  inside u l = omega (arith, o.vertices)

  original-bounded : (u : ℕ) → u < p.vertex_count → original p u < p.vertex_count
  original-bounded u l =
      let h : original p u < length p.ordering =
      (permutation-has p.ordering o.permutation (original p u)).0 (has_get_or p.ordering u 0 (inside u l)) in
      omega (arith, o.vertices)

  pub original_injective : (u v : ℕ) → u < p.vertex_count → v < p.vertex_count → original p u ≡ original p v → u ≡ v
  original_injective u v l m e =
      distinct-at 0 p.ordering (permutation-distinct p.ordering o.permutation) u v (inside u l) (inside v m) e

  -- u is in us exactly when its original vertex is among the original vertices of us
  pub has-original : (us : List ℕ) → Vertices p us → (u : ℕ) → u < p.vertex_count
      → T (has (original p u) (originals p us)) ↔ T (has u us)
  has-original us inner u l = (
    λ h. let (v, k, e) = (has-originals p us (original p u)).0 h in
        subst (λ (x : ℕ). T (has x us)) (sym (original_injective u v l (inner v k) e)) k,
    λ h. (has-originals p us (original p u)).1 (u, h, refl),
  )

  -- `sorted` holds exactly the original vertices of us
  pub has-sorted : (us : List ℕ) → Vertices p us → (w : ℕ) → T (has w (sorted p us)) ↔ T (has w (originals p us))
  has-sorted us inner w = Iff.trans (has-keep (λ x. has x (originals p us)) w (below p.vertex_count)) (
    λ h. h.1,
    λ h. let (u, k, e) = (has-originals p us w).0 h in
        ((has-below w p.vertex_count).1 (subst (λ (x : ℕ). x < p.vertex_count) (sym e) (original-bounded u (inner u k))), h),
  )

  pub originals-distinct : (us : List ℕ) → Vertices p us → T (distinct us) → T (distinct (originals p us))
  originals-distinct us inner h = distinct-map (original p) us (λ u v k m. original_injective u v (inner u k) (inner v m)) h

  pub sorted-length : (us : List ℕ) → Vertices p us → T (distinct us) → length (sorted p us) ≡ length us
  sorted-length us inner h =
      same_length (sorted p us) (originals p us) (sorted-distinct p us) (originals-distinct us inner h) (has-sorted us inner)
      ∙ length-map us (original p)

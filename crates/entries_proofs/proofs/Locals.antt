-- The locals of a function in a hand-written proof: each holds a value or is uninitialized, and has to be freed. At entry all of them are allocated and
-- the parameters get their arguments; at the return all are freed.
--     env ls bs        the environment of locals ls in memory blocks bs
--     locals E vs      the context's items for them: local i holds value i of vs, or is uninitialized where vs has none
--     enters           entry of a function: the body runs with its locals last in the context, the parameters holding the arguments
--     becomes          replaces the value of a local by an equal one
--     value, pointer, len      read a local, and the two fields of a local that is a slice
--     sets, lands_in, lands_over       assign to an uninitialized local; store a call's result in one; store it over a local's value
--     equals           replaces what is assigned by an equal value
--     free_all         frees the locals, which are last in the context, whatever they hold
use Prim.Native.Nat.{ℕ, zero, suc}
use mathlib.Core.Path.{◌≡◌, refl, sym, ap, subst}
use mathlib.Core.List.{List, [], ◌∷◌, ◌++◌, map, append_assoc}
use mathlib.Core.Option.{Option, some, none}
use lib.ListN.{length, drop}
use lib.Dec.{T}
use seplogic.Ra.Ura.{Ura}
use base.Fraction.{full_share}
use mir.Syntax.{Ty, Lifetime, Mutability, Local, local, Fn, w64, ty_int, ty_ref, field, place, copy, Rv as RValue, Body, seq, assign}
use mir.Val.{Val, has_ty, WT, vint, vptr, vstruct, vnil, vcons}
use base.Logic.{SProp, ent, sep, via, comm∗, assoc∗, mono_l, mono_r}
use base.Fml.{Fml, ftrue, ffalse, feq, flt, fsep, fand, for, fwand, fex, fall, fupd, fhide, fat, froom, fleft, fdies, flft, fdead, fobs, fauth, fres, fown, fbor, fobor, flent, fshr_bor, finv, fnamed, ftok, fkid, fme, fsent}
use prog.Wp.{Heap, Env, Calls, Loops, WpFn, spot_of}
use types.Logic.{Logic}
use types.Kit.{Item, ‵, raw, ◌⊛◌, some as some_item, given, later, ⋆, ++⊢, ⊢++, nth, put, Post, Goal, prop, runs, lands, at_ret, allocs, params', passes, frees, Seq, Step, step, by, ◌$◌}
use types.Part.{Part, whole, sub, look_in}
use types.Run.{Opd, Rv, Walks, look, init, store, forget, stop, fld, from, load, assigns, land, enter, alloc1, alloc0, params1, pass1, pass0, free1, free0}
use denote.Laws.{Is}
use denote.Slice.{slice_ty, slice_val}
use Rattle.entries_proofs.proofs.Values.{Datum, of_type}

abbrev pub Blocks : List Local → Type 0
Blocks [] = Unit {0}
Blocks (l ∷ ls) = ℕ × Blocks ls

abbrev pub env : (ls : List Local) → Blocks ls → List (Ty × ℕ)
env [] bs = []
env (local τ h ∷ ls) bs = (τ, bs.0) ∷ env ls bs.1

-- the memory block of local i
abbrev pub block_of : (ls : List Local) → Blocks ls → ℕ → ℕ
block_of [] bs i = zero
block_of (l ∷ ls) bs zero = bs.0
block_of (l ∷ ls) bs (suc i) = block_of ls bs.1 i

abbrev cell : {M : Type 1} {𝓤 : Ura M} → Ty → ℕ → Option Val → Item 𝓤
cell τ b none = ‵ (froom τ b zero)
cell τ b (some v) = ‵ (fat full_share τ b zero v)

abbrev pub locals : {M : Type 1} {𝓤 : Ura M} → List (Ty × ℕ) → List (Option Val) → List (Item 𝓤)
locals [] vs = []
locals (e ∷ E) [] = ‵ (froom e.0 e.1 zero) ∷ ‵ (fdies e.0 e.1) ∷ locals E []
locals (e ∷ E) (v ∷ vs) = cell e.0 e.1 v ∷ ‵ (fdies e.0 e.1) ∷ locals E vs

-- the arguments have the parameters' types
abbrev Fit : List (Ty × ℕ) → List Val → Type 0
Fit E [] = Unit {0}
Fit [] (v ∷ vs) = ⊥
Fit (e ∷ E) (v ∷ vs) = (T (has_ty e.0 v) × WT v) × Fit E vs

-- the same, after the local for the result
abbrev pub Fits : List (Ty × ℕ) → List Val → Type 0
Fits [] vs = ⊥
Fits (e ∷ E) vs = Fit E vs

-- ---- items of a context by index
module _ {M : Type 1} {𝓤 : Ura M} (𝓛 : Logic 𝓤) where
  nth_after : (Δ : List (Item 𝓤)) (x : Item 𝓤) (Γ : List (Item 𝓤)) → nth 𝓛 (length Δ) (Δ ++ (x ∷ Γ)) ≡ x
  nth_after [] x Γ = refl
  nth_after (y ∷ Δ) x Γ = nth_after Δ x Γ

  put-after : (Δ : List (Item 𝓤)) (x y : Item 𝓤) (Γ : List (Item 𝓤)) → put 𝓛 (length Δ) y (Δ ++ (x ∷ Γ)) ≡ Δ ++ (y ∷ Γ)
  put-after [] x y Γ = refl
  put-after (z ∷ Δ) x y Γ = ap (λ (l : List (Item 𝓤)). z ∷ l) (put-after Δ x y Γ)

  -- two items move from behind a part of the context to before it
  before : (x y : Item 𝓤) (Δ Γ : List (Item 𝓤)) → ent 𝓤 (⋆ 𝓛 (Δ ++ (x ∷ y ∷ Γ))) (⋆ 𝓛 (x ∷ y ∷ (Δ ++ Γ)))
  before x y Δ Γ =
      let two : List (Item 𝓤) = x ∷ y ∷ [] in
      via 𝓤 (sep 𝓤 (⋆ 𝓛 Δ) (⋆ 𝓛 (two ++ Γ))) (⊢++ 𝓛 Δ (two ++ Γ))
      (via 𝓤 (sep 𝓤 (⋆ 𝓛 (two ++ Γ)) (⋆ 𝓛 Δ)) (comm∗ 𝓤 (⋆ 𝓛 Δ) (⋆ 𝓛 (two ++ Γ)))
      (via 𝓤 (sep 𝓤 (sep 𝓤 (⋆ 𝓛 two) (⋆ 𝓛 Γ)) (⋆ 𝓛 Δ)) (mono_l 𝓤 (⋆ 𝓛 Δ) (⊢++ 𝓛 two Γ))
      (via 𝓤 (sep 𝓤 (⋆ 𝓛 two) (sep 𝓤 (⋆ 𝓛 Γ) (⋆ 𝓛 Δ))) (assoc∗ 𝓤 (⋆ 𝓛 two) (⋆ 𝓛 Γ) (⋆ 𝓛 Δ))
      (via 𝓤 (sep 𝓤 (⋆ 𝓛 two) (⋆ 𝓛 (Δ ++ Γ))) (mono_r 𝓤 (⋆ 𝓛 two) (via 𝓤 (sep 𝓤 (⋆ 𝓛 Δ) (⋆ 𝓛 Γ)) (comm∗ 𝓤 (⋆ 𝓛 Γ) (⋆ 𝓛 Δ)) (++⊢ 𝓛 Δ Γ)))
      (++⊢ 𝓛 two (Δ ++ Γ))))))

  turned : (Δ Γ : List (Item 𝓤)) → ent 𝓤 (⋆ 𝓛 (Δ ++ Γ)) (⋆ 𝓛 (Γ ++ Δ))
  turned Δ Γ =
      via 𝓤 (sep 𝓤 (⋆ 𝓛 Δ) (⋆ 𝓛 Γ)) (⊢++ 𝓛 Δ Γ)
      (via 𝓤 (sep 𝓤 (⋆ 𝓛 Γ) (⋆ 𝓛 Δ)) (comm∗ 𝓤 (⋆ 𝓛 Δ) (⋆ 𝓛 Γ)) (++⊢ 𝓛 Γ Δ))

-- ---- the entry
module _ {M : Type 1} {𝓤 : Ura M} {𝓛 : Logic 𝓤} {K : Type 0} where
  open 𝓛 use {H}

  alloc_all : K → (ls : List Local) (Γ : List (Item 𝓤)) (Kt : Env 𝓤 H → Goal 𝓤 H) → ((bs : Blocks ls) → Seq K 𝓛 (locals (env ls bs) [] ++ Γ) (Kt (env ls bs))) → Seq K 𝓛 Γ (allocs ls Kt)
  alloc_all t [] Γ Kt k = alloc0 t $ k tt
  alloc_all t (local τ h ∷ ls) Γ Kt k =
      alloc1 t (λ b. alloc_all t ls (‵ (froom τ b zero) ∷ ‵ (fdies τ b) ∷ Γ) (λ E. Kt ((τ, b) ∷ E))
      (λ bs. by t (via 𝓤 (⋆ 𝓛 (‵ (froom τ b zero) ∷ ‵ (fdies τ b) ∷ (locals (env ls bs) [] ++ Γ))) (before 𝓛 (‵ (froom τ b zero)) (‵ (fdies τ b)) (locals (env ls bs) []) Γ) (k (b, bs)).prf)))

  pass_all : K → (Δ : List (Item 𝓤)) (E : List (Ty × ℕ)) (vs : List Val) (Γ : List (Item 𝓤)) (G : Goal 𝓤 H) → Fit E vs
      → Seq K 𝓛 (Δ ++ (locals E (map some vs) ++ Γ)) G → Seq K 𝓛 (Δ ++ (locals E [] ++ Γ)) (passes E vs G)
  pass_all t Δ E [] Γ G f s = pass0 t $ s
  pass_all t Δ [] (v ∷ vs) Γ G f s = absurd f
  pass_all t Δ (e ∷ E) (v ∷ vs) Γ G f s =
      let room : Item 𝓤 = ‵ (froom e.0 e.1 zero) in
      let full : Item 𝓤 = ‵ (fat full_share e.0 e.1 zero v) in
      let dies : Item 𝓤 = ‵ (fdies e.0 e.1) in
      pass1 t (init t (length Δ) (nth_after 𝓛 Δ room (dies ∷ (locals E [] ++ Γ))) f.0) $
      subst (λ (l : List (Item 𝓤)). Seq K 𝓛 l (passes E vs G)) (sym (put-after 𝓛 Δ room full (dies ∷ (locals E [] ++ Γ))))
      (subst (λ (l : List (Item 𝓤)). Seq K 𝓛 l (passes E vs G)) (append_assoc Δ (full ∷ dies ∷ []) (locals E [] ++ Γ))
      (pass_all t (Δ ++ (full ∷ dies ∷ [])) E vs Γ G f.1
      (subst (λ (l : List (Item 𝓤)). Seq K 𝓛 l G) (sym (append_assoc Δ (full ∷ dies ∷ []) (locals E (map some vs) ++ Γ))) s)))

  enter-all : K → (E : List (Ty × ℕ)) (vs : List Val) (Γ : List (Item 𝓤)) (G : Goal 𝓤 H) → Fits E vs → Seq K 𝓛 (locals E (none ∷ map some vs) ++ Γ) G → Seq K 𝓛 (locals E [] ++ Γ) (params' E vs G)
  enter-all t [] vs Γ G f s = absurd f
  enter-all t (e ∷ E) vs Γ G f s = params1 t $ pass_all t (‵ (froom e.0 e.1 zero) ∷ ‵ (fdies e.0 e.1) ∷ []) E vs Γ G f s

  pub enters : K → (C : Calls 𝓤 H) (Λ : Loops 𝓤 H) (f : Fn) (vs : List Val) (Kf : Val → SProp 𝓤) (Γ : List (Item 𝓤)) → ((bs : Blocks f.locals) → Fits (env f.locals bs) vs)
      → ((bs : Blocks f.locals) → Seq K 𝓛 (Γ ++ locals (env f.locals bs) (none ∷ map some vs)) (runs C Λ (env f.locals bs) f.body (at_ret (env f.locals bs) Kf)))
      → Seq K 𝓛 Γ (prop (WpFn 𝓤 H C Λ f vs Kf))
  enters t C Λ f vs Kf Γ fits k =
      enter t C Λ f vs Kf $ alloc_all t f.locals Γ (λ E. params' E vs (runs C Λ E f.body (at_ret E Kf)))
      (λ bs. enter-all t (env f.locals bs) vs Γ (runs C Λ (env f.locals bs) f.body (at_ret (env f.locals bs) Kf)) (fits bs)
      (by t (via 𝓤 (⋆ 𝓛 (Γ ++ locals (env f.locals bs) (none ∷ map some vs))) (turned 𝓛 (locals (env f.locals bs) (none ∷ map some vs)) Γ) (k bs).prf)))

-- ---- the return
free_first : {M : Type 1} {𝓤 : Ura M} {𝓛 : Logic 𝓤} {K : Type 0} {Γ : List (Item 𝓤)} {G : Goal 𝓤 𝓛.H} → K → (E : Env 𝓤 𝓛.H) (vs : List (Option Val))
    → Step K 𝓛 Γ G (locals E vs ++ Γ) (frees E G)
free_first t [] vs = free0 t
free_first t (e ∷ E) [] = step (λ s. free1 t $ free_first t E [] $ s)
free_first t (e ∷ E) (none ∷ vs) = step (λ s. free1 t $ free_first t E vs $ s)
free_first t (e ∷ E) (some v ∷ vs) = step (λ s. forget t 0 refl $ free1 t $ free_first t E vs $ s)

-- the value in a cell, and the values of the locals in a part of the context
abbrev holds : Fml → Option Val
holds ftrue = none
holds ffalse = none
holds (feq B x y) = none
holds (flt m n) = none
holds (fsep F F') = none
holds (fand F F') = none
holds (for F F') = none
holds (fwand F F') = none
holds (fex B F) = none
holds (fall B F) = none
holds (fupd F) = none
holds (fhide F) = none
holds (fat q τ b o v) = some v
holds (froom τ b o) = none
holds (fleft q τ τs b o) = none
holds (fdies τ b) = none
holds (flft κ q) = none
holds (fdead κ) = none
holds (fobs γ g) = none
holds (fauth γ g) = none
holds (fres γ g) = none
holds (fown R γ a) = none
holds (fbor κ F) = none
holds (fobor κ q F) = none
holds (flent κ F) = none
holds (fshr_bor κ F) = none
holds (finv F) = none
holds (fnamed n F) = none
holds (ftok m) = none
holds (fkid h a) = none
holds (fme t) = none
holds (fsent x) = none

abbrev held : {M : Type 1} {𝓤 : Ura M} → Item 𝓤 → Option Val
held (‵ F) = holds F
held (raw P) = none
held (i ⊛ j) = none
held (some_item F) = none
held (given φ i) = none
held (later i) = none

abbrev all_held : {M : Type 1} {𝓤 : Ura M} → List (Item 𝓤) → List (Option Val)
all_held [] = []
all_held (i ∷ []) = []
all_held (i ∷ j ∷ Γ) = held i ∷ all_held Γ

module _ {M : Type 1} {𝓤 : Ura M} {𝓛 : Logic 𝓤} {K : Type 0} {G : Goal 𝓤 𝓛.H} {Δ : List (Item 𝓤)} where
  -- after the locals are freed, the context is Γ
  open 𝓛 use {H}

  pub free_all : K → (Γ : List (Item 𝓤)) (E : Env 𝓤 H) → Δ ≡ Γ ++ locals E (all_held (drop (length Γ) Δ)) → Step K 𝓛 Γ G Δ (frees E G)
  free_all t Γ E e =
      let vs : List (Option Val) = all_held (drop (length Γ) Δ) in
      subst (λ (Θ : List (Item 𝓤)). Step K 𝓛 Γ G Θ (frees E G)) (sym e) (step (λ s. by t (via 𝓤 (⋆ 𝓛 (locals E vs ++ Γ)) (turned 𝓛 Γ (locals E vs)) (free_first t E vs $ s).prf)))

-- the item of local i, if it holds v or is uninitialized
module _ {M : Type 1} {𝓤 : Ura M} (H : Heap 𝓤) (E : Env 𝓤 H) (i : ℕ) where
  abbrev pub full : Val → Item 𝓤
  full v = ‵ (fat full_share (spot_of 𝓤 H E i).0 (spot_of 𝓤 H E i).1 zero v)

  abbrev pub empty : Item 𝓤
  empty = ‵ (froom (spot_of 𝓤 H E i).0 (spot_of 𝓤 H E i).1 zero)

-- the value of a right-hand side is replaced by an equal one
pub equals : {M : Type 1} {𝓤 : Ura M} {𝓛 : Logic 𝓤} {K : Type 0} {Γ : List (Item 𝓤)} {E : Env 𝓤 𝓛.H} → K → {rv : RValue} {v u : Val} → v ≡ u → Rv K 𝓛 Γ E rv v → Rv K 𝓛 Γ E rv u
equals {𝓛 = 𝓛} {K = K} {Γ} {E} t {rv} e r = subst (λ (x : Val). Rv K 𝓛 Γ E rv x) e r

-- local i, whose item is at index n, is read or assigned as a whole
module _ {M : Type 1} {𝓤 : Ura M} {𝓛 : Logic 𝓤} {K : Type 0} {Γ : List (Item 𝓤)} {E : Env 𝓤 𝓛.H} {i : ℕ} where
  open 𝓛 use {H}

  pub value : K → (n : ℕ) {v : Val} → nth 𝓛 n Γ ≡ full H E i v → Opd K 𝓛 Γ E (copy (place i [])) v
  value t n e = load t (from t (stop t)) (look t n e)

  module _ {C : Calls 𝓤 H} {Λ : Loops 𝓤 H} {q : Post 𝓤 H} {rest : Body} where
    pub sets : K → {rv : RValue} {v : Val} → Rv K 𝓛 Γ E rv v → (n : ℕ) → nth 𝓛 n Γ ≡ empty H E i → T (has_ty (spot_of 𝓤 H E i).0 v) × WT v
        → Step K 𝓛 (put 𝓛 n (full H E i v) Γ) (runs C Λ E rest q) Γ (runs C Λ E (seq (assign (place i []) rv) rest) q)
    sets t r n e ty = assigns t r (from t (stop t)) (init t n e ty)

    -- the call's result is x
    module _ (t : K) (D : Datum) (x : D.R.Denot) (is : Is D.R x (D.val x ∷ [])) (n : ℕ) where
      pub lands_in : (spot_of 𝓤 H E i).0 ≡ D.ty → nth 𝓛 n Γ ≡ empty H E i → Step K 𝓛 (put 𝓛 n (full H E i (D.val x)) Γ) (runs C Λ E rest q) Γ (lands C Λ E (place i []) (D.val x) rest q)
      lands_in ty e = land t (from t (stop t)) (init t n e (of_type 𝓛 D x is ty))

      pub lands_over : {u : Val} → (spot_of 𝓤 H E i).0 ≡ D.ty → nth 𝓛 n Γ ≡ full H E i u → Step K 𝓛 (put 𝓛 n (full H E i (D.val x)) Γ) (runs C Λ E rest q) Γ (lands C Λ E (place i []) (D.val x) rest q)
      lands_over ty e = land t (from t (stop t)) (store t n e (of_type 𝓛 D x is ty))

  -- the fields of a local that is a slice
  module _ {ℓ : Lifetime} {μ : Mutability} {σ : Ty} {b o k : ℕ} where
    pub pointer : K → (n : ℕ) → (spot_of 𝓤 H E i).0 ≡ slice_ty (ty_ref ℓ μ σ) → nth 𝓛 n Γ ≡ ‵ (fat full_share (slice_ty (ty_ref ℓ μ σ)) (spot_of 𝓤 H E i).1 zero (slice_val (b, o) k)) → Opd K 𝓛 Γ E (copy (place i (field 0 ∷ []))) (vptr b o)
    pointer t n ty e = load t (from t (subst (λ (τ : Ty). Walks K 𝓛 Γ E (τ, (spot_of 𝓤 H E i).1, zero) (field 0 ∷ []) (ty_ref ℓ μ σ, (spot_of 𝓤 H E i).1, zero)) (sym ty) (fld t refl (stop t))))
        (look_in t n (subst (λ (c : Item 𝓤). Part K 𝓛 c full_share (ty_ref ℓ μ σ) (spot_of 𝓤 H E i).1 zero (vptr b o) (λ u. ‵ (fat full_share (slice_ty (ty_ref ℓ μ σ)) (spot_of 𝓤 H E i).1 zero (vstruct (vcons u (vcons (vint w64 k) vnil)))))) (sym e) (sub t 0 refl (whole t))))

    pub len : K → (n : ℕ) → (spot_of 𝓤 H E i).0 ≡ slice_ty (ty_ref ℓ μ σ) → nth 𝓛 n Γ ≡ ‵ (fat full_share (slice_ty (ty_ref ℓ μ σ)) (spot_of 𝓤 H E i).1 zero (slice_val (b, o) k)) → Opd K 𝓛 Γ E (copy (place i (field 1 ∷ []))) (vint w64 k)
    len t n ty e = load t (from t (subst (λ (τ : Ty). Walks K 𝓛 Γ E (τ, (spot_of 𝓤 H E i).1, zero) (field 1 ∷ []) (ty_int w64, (spot_of 𝓤 H E i).1, 8)) (sym ty) (fld t refl (stop t))))
        (look_in t n (subst (λ (c : Item 𝓤). Part K 𝓛 c full_share (ty_int w64) (spot_of 𝓤 H E i).1 8 (vint w64 k) (λ u. ‵ (fat full_share (slice_ty (ty_ref ℓ μ σ)) (spot_of 𝓤 H E i).1 zero (vstruct (vcons (vptr b o) (vcons u vnil)))))) (sym e) (sub t 1 refl (whole t))))

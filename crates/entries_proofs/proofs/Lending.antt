-- The `&mut [R]` parameters reborrowed for a callee: for each, MIR takes the address that it points at and makes a slice of it and the length. The locals are
-- in the context from index `base` on, local i at index base + 2 * i.
--     lending os i j rest      the MIR code: the outputs os are in the locals from i on; the locals from j on take each address and each new slice
--     lent base os j Γ         the context after it
--     lends            the code runs; two `refl`s state the types of the locals, and the items in the context
--     measuring, measured, measures        the same for the lengths, which the locals from j on take
use Prim.Native.Nat.{ℕ, zero, suc, ◌+◌, ◌*◌}
use mathlib.Core.Path.{◌≡◌, refl, sym, ap, subst}
use mathlib.Core.List.{List, [], ◌∷◌}
use lib.ListN.{length, get_or, drop}
use seplogic.Ra.Ura.{Ura}
use base.Fraction.{full_share}
use mir.Syntax.{Ty, w64, ty_int, ty_ref, ty_unit, erased, mut, field, deref, place, copy, addr_of, aggregate, rv_opd, Body, seq, assign}
use mir.Val.{Vals, vint, vptr, vstruct, vnil, vcons}
use base.Fml.{ftrue, fat, froom}
use prog.Wp.{Env, Calls, Loops, spot_of}
use types.Logic.{Logic}
use types.Kit.{Item, ‵, nth, put, Post, runs, Step, step, ◌$◌}
use types.Part.{Part, agg, whole, sub, look_in}
use types.Run.{Reads, Writes, Finds, Walks, look, init, stop, fld, hop, from, load, addr, of_opd, and_then, no_more, assigns}
use denote.Memory.{lone, pointee}
use denote.Slice.{slice_ty}
use denote.Ref.{as_bor}
use Rattle.entries_proofs.proofs.Values.{slice, fitting}
use Rattle.entries_proofs.proofs.Outputs.{Output}
use Rattle.entries_proofs.proofs.Locals.{len}

-- the types of an output's elements, of the reference that was passed, and of the reference that is made
abbrev element : Output → Ty
element o = lone o.R.mir

abbrev passed_ref : Output → Ty
passed_ref o = ty_ref o.lifetime mut (pointee o.R.written)

abbrev made_ref : Output → Ty
made_ref o = ty_ref erased mut (pointee o.R.written)

abbrev lending : List Output → ℕ → ℕ → Body → Body
lending [] i j rest = rest
lending (o ∷ os) i j rest =
    seq (assign (place j []) (addr_of (place i (field 0 ∷ deref (element o) ∷ []))))
    (seq (assign (place (suc j) []) (aggregate (copy (place j []) ∷ copy (place i (field 1 ∷ [])) ∷ []))) (lending os (suc i) (suc (suc j)) rest))

module _ {M : Type 1} {𝓤 : Ura M} (𝓛 : Logic 𝓤) (E : Env 𝓤 𝓛.H) (base : ℕ) where
  open 𝓛 use {H}

  abbrev type_of : ℕ → Ty
  type_of i = (spot_of 𝓤 H E i).0

  abbrev block : ℕ → ℕ
  block i = (spot_of 𝓤 H E i).1

  abbrev spot : ℕ → ℕ
  spot i = base + 2 * i

  -- the context after the address is stored, and after the slice is stored too
  abbrev addressed : Output → ℕ → List (Item 𝓤) → List (Item 𝓤)
  addressed o j Γ = put 𝓛 (spot j) (‵ (fat full_share (made_ref o) (block j) zero (vptr o.ref.ref_ptr.0 o.ref.ref_ptr.1))) Γ

  abbrev lent_one : Output → ℕ → List (Item 𝓤) → List (Item 𝓤)
  lent_one o j Γ = put 𝓛 (spot (suc j)) (‵ (fat full_share (slice_ty (made_ref o)) (block (suc j)) zero (slice (as_bor o.ref)))) (addressed o j Γ)

  abbrev lent : List Output → ℕ → List (Item 𝓤) → List (Item 𝓤)
  lent [] j Γ = Γ
  lent (o ∷ os) j Γ = lent os (suc (suc j)) (lent_one o j Γ)

  -- the types that the locals have, and those that they must have
  abbrev types_there : List Output → ℕ → ℕ → List Ty
  types_there [] i j = []
  types_there (o ∷ os) i j = type_of i ∷ type_of j ∷ type_of (suc j) ∷ types_there os (suc i) (suc (suc j))

  -- the items at the locals' indices in the context, and those that must be there
  abbrev there : List Output → ℕ → ℕ → List (Item 𝓤) → List (Item 𝓤)
  there [] i j Γ = []
  there (o ∷ os) i j Γ =
      nth 𝓛 (spot i) Γ ∷ nth 𝓛 (spot j) Γ ∷ nth 𝓛 (spot j) (addressed o j Γ) ∷ nth 𝓛 (spot i) (addressed o j Γ) ∷ nth 𝓛 (spot (suc j)) (addressed o j Γ)
      ∷ there os (suc i) (suc (suc j)) (lent_one o j Γ)

  abbrev full : Output → ℕ → Item 𝓤
  full o i = ‵ (fat full_share (slice_ty (passed_ref o)) (block i) zero (slice (as_bor o.ref)))

  abbrev address : Output → ℕ → Item 𝓤
  address o j = ‵ (fat full_share (made_ref o) (block j) zero (vptr o.ref.ref_ptr.0 o.ref.ref_ptr.1))

  abbrev due : List Output → ℕ → ℕ → List (Item 𝓤)
  due [] i j = []
  due (o ∷ os) i j = full o i ∷ ‵ (froom (made_ref o) (block j) zero) ∷ address o j ∷ full o i ∷ ‵ (froom (slice_ty (made_ref o)) (block (suc j)) zero) ∷ due os (suc i) (suc (suc j))

abbrev types_due : List Output → List Ty
types_due [] = []
types_due (o ∷ os) = slice_ty (passed_ref o) ∷ made_ref o ∷ slice_ty (made_ref o) ∷ types_due os

-- the memory that a slice in a cell points at
module _ {M : Type 1} {𝓤 : Ura M} {𝓛 : Logic 𝓤} {K : Type 0} {Γ : List (Item 𝓤)} {E : Env 𝓤 𝓛.H} (t : K) (o : Output) (n i : ℕ)
    (type-is : (spot_of 𝓤 𝓛.H E i).0 ≡ slice_ty (passed_ref o)) (cell-is : nth 𝓛 n Γ ≡ ‵ (fat full_share (slice_ty (passed_ref o)) (spot_of 𝓤 𝓛.H E i).1 zero (slice (as_bor o.ref)))) where
  open 𝓛 use {H}

  referent : Finds K 𝓛 Γ E (place i (field 0 ∷ deref (element o) ∷ [])) (element o, o.ref.ref_ptr.0, o.ref.ref_ptr.1)
  referent =
      let holds : Vals → Item 𝓤 = λ vs. ‵ (fat full_share (slice_ty (passed_ref o)) (spot_of 𝓤 H E i).1 zero (vstruct vs)) in
      from t (subst (λ (τ : Ty). Walks K 𝓛 Γ E (τ, (spot_of 𝓤 H E i).1, zero) (field 0 ∷ deref (element o) ∷ []) (element o, o.ref.ref_ptr.0, o.ref.ref_ptr.1)) (sym type-is)
      (fld t refl (hop t (look_in t n (subst (λ (c : Item 𝓤). Part K 𝓛 c full_share (passed_ref o) (spot_of 𝓤 H E i).1 zero (vptr o.ref.ref_ptr.0 o.ref.ref_ptr.1) (λ u. holds (vcons u (vcons (vint w64 (length o.ref.now)) vnil)))) (sym cell-is) (sub t 0 refl (whole t)))) (stop t))))

module _ {M : Type 1} {𝓤 : Ura M} {𝓛 : Logic 𝓤} {K : Type 0} {E : Env 𝓤 𝓛.H} {C : Calls 𝓤 𝓛.H} {Λ : Loops 𝓤 𝓛.H} {q : Post 𝓤 𝓛.H} where
  open 𝓛 use {H}

  lends_one : K → (base : ℕ) (o : Output) (i j : ℕ) (rest : Body) (Γ : List (Item 𝓤)) → (spot_of 𝓤 H E i).0 ≡ slice_ty (passed_ref o) → (spot_of 𝓤 H E j).0 ≡ made_ref o → (spot_of 𝓤 H E (suc j)).0 ≡ slice_ty (made_ref o)
      → nth 𝓛 (base + 2 * i) Γ ≡ full 𝓛 E base o i → nth 𝓛 (base + 2 * j) Γ ≡ ‵ (froom (made_ref o) (spot_of 𝓤 H E j).1 zero)
      → nth 𝓛 (base + 2 * j) (addressed 𝓛 E base o j Γ) ≡ address 𝓛 E base o j → nth 𝓛 (base + 2 * i) (addressed 𝓛 E base o j Γ) ≡ full 𝓛 E base o i
      → nth 𝓛 (base + 2 * suc j) (addressed 𝓛 E base o j Γ) ≡ ‵ (froom (slice_ty (made_ref o)) (spot_of 𝓤 H E (suc j)).1 zero)
      → Step K 𝓛 (lent_one 𝓛 E base o j Γ) (runs C Λ E rest q) Γ (runs C Λ E (lending (o ∷ []) i j rest) q)
  lends_one t base o i j rest Γ ti tj tk ci cj ca ci' ck = step (λ s.
      assigns t (addr t (referent t o (base + 2 * i) i ti ci)) (from t (stop t))
      (subst (λ (τ : Ty). Writes K 𝓛 Γ τ (spot_of 𝓤 H E j).1 zero (vptr o.ref.ref_ptr.0 o.ref.ref_ptr.1) (addressed 𝓛 E base o j Γ)) (sym tj) (init t (base + 2 * j) cj (tt, tt))) $
      assigns t (agg t (and_then t (load t (from t (stop t)) (subst (λ (τ : Ty). Reads K 𝓛 (addressed 𝓛 E base o j Γ) τ (spot_of 𝓤 H E j).1 zero (vptr o.ref.ref_ptr.0 o.ref.ref_ptr.1)) (sym tj) (look t (base + 2 * j) ca)))
      (and_then t (len t (base + 2 * i) ti ci') (no_more t)))) (from t (stop t))
      (subst (λ (τ : Ty). Writes K 𝓛 (addressed 𝓛 E base o j Γ) τ (spot_of 𝓤 H E (suc j)).1 zero (slice (as_bor o.ref)) (lent_one 𝓛 E base o j Γ)) (sym tk) (init t (base + 2 * suc j) ck (fitting o.fits))) $ s)

  lends_all : K → (base : ℕ) (os : List Output) (i j : ℕ) (rest : Body) (Γ : List (Item 𝓤)) → types_there 𝓛 E base os i j ≡ types_due os → there 𝓛 E base os i j Γ ≡ due 𝓛 E base os i j
      → Step K 𝓛 (lent 𝓛 E base os j Γ) (runs C Λ E rest q) Γ (runs C Λ E (lending os i j rest) q)
  lends_all t base [] i j rest Γ types items = step (λ s. s)
  lends_all t base (o ∷ os) i j rest Γ types items =
      let type : ℕ → List Ty → Ty = λ k l. get_or l k ty_unit in
      let item : ℕ → List (Item 𝓤) → Item 𝓤 = λ k l. get_or l k (‵ ftrue) in
      step (λ s.
      lends_one t base o i j (lending os (suc i) (suc (suc j)) rest) Γ (ap (type 0) types) (ap (type 1) types) (ap (type 2) types) (ap (item 0) items) (ap (item 1) items) (ap (item 2) items) (ap (item 3) items) (ap (item 4) items) $
      lends_all t base os (suc i) (suc (suc j)) rest (lent_one 𝓛 E base o j Γ) (ap (drop 3) types) (ap (drop 5) items) $ s)

  pub lends : {Γ : List (Item 𝓤)} {rest : Body} → K → (base : ℕ) (os : List Output) (i j : ℕ) → types_there 𝓛 E base os i j ≡ types_due os → there 𝓛 E base os i j Γ ≡ due 𝓛 E base os i j
      → Step K 𝓛 (lent 𝓛 E base os j Γ) (runs C Λ E rest q) Γ (runs C Λ E (lending os i j rest) q)
  lends {Γ} {rest} t base os i j types items = lends_all t base os i j rest Γ types items

-- ---- the lengths of the outputs

abbrev measuring : List Output → ℕ → ℕ → Body → Body
measuring [] i j rest = rest
measuring (o ∷ os) i j rest = seq (assign (place j []) (rv_opd (copy (place i (field 1 ∷ []))))) (measuring os (suc i) (suc j) rest)

module _ {M : Type 1} {𝓤 : Ura M} (𝓛 : Logic 𝓤) (E : Env 𝓤 𝓛.H) (base : ℕ) where
  open 𝓛 use {H}

  abbrev measured_one : Output → ℕ → List (Item 𝓤) → List (Item 𝓤)
  measured_one o j Γ = put 𝓛 (base + 2 * j) (‵ (fat full_share (ty_int w64) (spot_of 𝓤 H E j).1 zero (vint w64 (length o.ref.now)))) Γ

  abbrev measured : List Output → ℕ → List (Item 𝓤) → List (Item 𝓤)
  measured [] j Γ = Γ
  measured (o ∷ os) j Γ = measured os (suc j) (measured_one o j Γ)

  abbrev types_read : List Output → ℕ → ℕ → List Ty
  types_read [] i j = []
  types_read (o ∷ os) i j = (spot_of 𝓤 H E i).0 ∷ (spot_of 𝓤 H E j).0 ∷ types_read os (suc i) (suc j)

  abbrev read : List Output → ℕ → ℕ → List (Item 𝓤) → List (Item 𝓤)
  read [] i j Γ = []
  read (o ∷ os) i j Γ = nth 𝓛 (base + 2 * i) Γ ∷ nth 𝓛 (base + 2 * j) Γ ∷ read os (suc i) (suc j) (measured_one o j Γ)

  abbrev read_due : List Output → ℕ → ℕ → List (Item 𝓤)
  read_due [] i j = []
  read_due (o ∷ os) i j = full 𝓛 E base o i ∷ ‵ (froom (ty_int w64) (spot_of 𝓤 H E j).1 zero) ∷ read_due os (suc i) (suc j)

abbrev types_measured : List Output → List Ty
types_measured [] = []
types_measured (o ∷ os) = slice_ty (passed_ref o) ∷ ty_int w64 ∷ types_measured os

module _ {M : Type 1} {𝓤 : Ura M} {𝓛 : Logic 𝓤} {K : Type 0} {E : Env 𝓤 𝓛.H} {C : Calls 𝓤 𝓛.H} {Λ : Loops 𝓤 𝓛.H} {q : Post 𝓤 𝓛.H} where
  open 𝓛 use {H}

  measures_all : K → (base : ℕ) (os : List Output) (i j : ℕ) (rest : Body) (Γ : List (Item 𝓤)) → types_read 𝓛 E base os i j ≡ types_measured os → read 𝓛 E base os i j Γ ≡ read_due 𝓛 E base os i j
      → Step K 𝓛 (measured 𝓛 E base os j Γ) (runs C Λ E rest q) Γ (runs C Λ E (measuring os i j rest) q)
  measures_all t base [] i j rest Γ types items = step (λ s. s)
  measures_all t base (o ∷ os) i j rest Γ types items =
      let type : ℕ → List Ty → Ty = λ k l. get_or l k ty_unit in
      let item : ℕ → List (Item 𝓤) → Item 𝓤 = λ k l. get_or l k (‵ ftrue) in
      step (λ s.
      assigns t (of_opd t (len t (base + 2 * i) (ap (type 0) types) (ap (item 0) items))) (from t (stop t))
      (subst (λ (τ : Ty). Writes K 𝓛 Γ τ (spot_of 𝓤 H E j).1 zero (vint w64 (length o.ref.now)) (measured_one 𝓛 E base o j Γ)) (sym (ap (type 1) types)) (init t (base + 2 * j) (ap (item 1) items) (tt, record { fits = o.fits }))) $
      measures_all t base os (suc i) (suc j) rest (measured_one 𝓛 E base o j Γ) (ap (drop 2) types) (ap (drop 2) items) $ s)

  pub measures : {Γ : List (Item 𝓤)} {rest : Body} → K → (base : ℕ) (os : List Output) (i j : ℕ) → types_read 𝓛 E base os i j ≡ types_measured os → read 𝓛 E base os i j Γ ≡ read_due 𝓛 E base os i j
      → Step K 𝓛 (measured 𝓛 E base os j Γ) (runs C Λ E rest q) Γ (runs C Λ E (measuring os i j rest) q)
  measures {Γ} {rest} t base os i j types items = measures_all t base os i j rest Γ types items

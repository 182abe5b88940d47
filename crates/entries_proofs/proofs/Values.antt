-- Numbers and slices in a hand-written proof: their machine values, and what they own.
--     Datum            a type whose values each have one machine value and own no memory: numbers, bools, unit, structs of these
--     of_type          the machine value has its MIR type
--     had              what such a value owns can be obtained without resources.        number, size     for a u32, and a usize
use mathlib.Core.Path.{◌≡◌, refl, sym, ap, subst, ◌∙◌}
use Prim.Native.Nat.{ℕ, ◌<◌, ◌^◌}
use mathlib.Core.List.{List, [], ◌∷◌}
use lib.ListN.{length}
use lib.Dec.{T}
use seplogic.Ra.Ura.{Ura}
use mir.Syntax.{Ty, Width, w32, w64, ty_int, ty_bool, ty_unit}
use mir.Val.{Val, Fits, WT, has_ty, vint, vbool, vunit}
use base.Fml.{Fml, feq, fsep}
use types.Logic.{Logic}
use types.Kit.{Item, ‵, Goal, Step}
use denote.RattleType.{RattleType}
use denote.Laws.{Is, Tells, Makes, Lawful, Typed}
use denote.Memory.{lone}
use denote.Plain.{UInt, Nothing, uint_Tells, uint_Lawful, uint_Makes, bool_Tells, bool_Lawful, bool_Makes, Nothing-Tells, Nothing-Lawful, Nothing-Makes}
use denote.Ref.{Bor, MutBor}
use denote.Slice.{slice_val, finally}
use denote.Builtin.{bool}
use denote.Steps.{owned}
use denote.Struct.Struct.{Plains}
use denote.Struct.Declared.{Declared, fields, row}
use denote.Struct.Laws as LL

pub record Datum : Type 3 where
  pub R : RattleType
  pub ty : Ty
  pub one : R.mir ≡ ty ∷ []
  pub val : R.Denot → Val
  pub tells : Tells R (Is R) (λ x. val x ∷ [])
  pub lawful : {M : Type 1} {𝓤 : Ura M} (𝓛 : Logic 𝓤) → Lawful 𝓛 R
  pub makes : {M : Type 1} {𝓤 : Ura M} (𝓛 : Logic 𝓤) → Makes 𝓛 R (Is R)

abbrev uints : Width → Datum
uints w = record { R = UInt w; ty = ty_int w; one = refl; val = vint w; tells = uint_Tells w; lawful = λ 𝓛. uint_Lawful 𝓛 w; makes = λ 𝓛. uint_Makes 𝓛 w }

abbrev pub u32s : Datum
u32s = uints w32

abbrev pub usizes : Datum
usizes = uints w64

abbrev bools : Datum
bools = record { R = bool; ty = ty_bool; one = refl; val = vbool; tells = bool_Tells; lawful = bool_Lawful; makes = bool_Makes }

abbrev pub nothings : Datum
nothings = record { R = Nothing; ty = ty_unit; one = refl; val = λ _. vunit; tells = Nothing-Tells; lawful = Nothing-Lawful; makes = Nothing-Makes }

-- a declared struct
abbrev pub structs : (S : Declared) (L : LL.Laws S) → Plains (fields S) → Datum
structs S L plain = record { R = row S; ty = lone (row S).mir; one = refl; val = LL.val S L; tells = LL.tells S L; lawful = LL.lawful S L; makes = λ 𝓛. LL.makes S plain 𝓛 }

-- the machine value has the type τ, which is that of the datum
pub of_type : {M : Type 1} {𝓤 : Ura M} (𝓛 : Logic 𝓤) (D : Datum) (x : D.R.Denot) → Is D.R x (D.val x ∷ []) → {τ : Ty} → τ ≡ D.ty → T (has_ty τ (D.val x)) × WT (D.val x)
of_type 𝓛 D x is e = (subst (λ (τs : List Ty). Typed τs (D.val x ∷ [])) (D.one ∙ ap (λ (τ : Ty). τ ∷ []) (sym e)) ((D.lawful 𝓛).typed x (D.val x ∷ []) is)).0

abbrev pub own_of : (D : Datum) → D.R.Denot → Fml
own_of D x = D.R.own_val x (D.val x ∷ [])

abbrev u32_of : ℕ → Fml
u32_of n = own_of u32s n

abbrev pub usize_of : ℕ → Fml
usize_of n = own_of usizes n

module _ {M : Type 1} {𝓤 : Ura M} {𝓛 : Logic 𝓤} {K : Type 0} {Γ : List (Item 𝓤)} {G : Goal 𝓤 𝓛.H} where
  pub had : K → (D : Datum) (x : D.R.Denot) → Is D.R x (D.val x ∷ []) → Step K 𝓛 (‵ (own_of D x) ∷ Γ) G Γ G
  had t D x is = owned t D.R (Is D.R) (D.makes 𝓛) x (D.val x ∷ []) is

  pub number : K → (n : ℕ) → n < 2 ^ 32 → Step K 𝓛 (‵ (u32_of n) ∷ Γ) G Γ G
  number t n fits = had t u32s n (refl, fits)

  pub size : K → (n : ℕ) → n < 2 ^ 64 → Step K 𝓛 (‵ (usize_of n) ∷ Γ) G Γ G
  size t n fits = had t usizes n (refl, fits)

-- ---- slices

abbrev pub slice : {X : Type 0} → Bor (List X) → Val
slice x = slice_val x.ref_ptr (length x.now)

-- the value of a slice has its type
pub fitting : {k : ℕ} → k < 2 ^ 64 → Unit {0} × (Unit {0} × (Fits w64 k × Unit {0}))
fitting f = (tt, (tt, (record { fits = f }, tt)))

-- the fact about a slice's final value
abbrev pub left : (R : RattleType) → MutBor (List R.Denot) → List R.Denot → Fml
left R x l = fsep (finally R x.ghost_name l) (feq ℕ (length l) (length x.now))

-- ---- machine values, each as a list of one, as a contract binds them
abbrev pub Singles : List Val → Type 0
Singles [] = Unit {0}
Singles (v ∷ vs) = List Val × Singles vs

abbrev pub singles : (vs : List Val) → Singles vs
singles [] = tt
singles (v ∷ vs) = (v ∷ [], singles vs)

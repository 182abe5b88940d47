-- A call's arguments that are locals. The locals are in the context from index `base` on, local i at index base + 2 * i, as in `Locals.antt`.
--     loads            reads them: `tt` states that each operand is a local, and one `refl` that each holds its value
use Prim.Native.Nat.{ℕ, zero, ◌+◌, ◌*◌}
use mathlib.Core.Path.{◌≡◌, ap}
use mathlib.Core.List.{List, [], ◌∷◌}
use seplogic.Ra.Ura.{Ura}
use base.Fraction.{full_share}
use mir.Syntax.{place, Opd as Operand, copy, int, int_neg, int_big, float, opd_true, opd_false, opd_unit, ptr_const, size_of, align_of, num_of, fn_addr, vtable}
use mir.Val.{Val}
use base.Fml.{ftrue, fat}
use prog.Wp.{Env, spot_of}
use types.Logic.{Logic}
use types.Kit.{Item, ‵, nth}
use types.Run.{Opds, look, stop, from, load, and_then, no_more}

-- X if the operand is a local; and the local's number
abbrev Whole : Operand → Type 0 → Type 0
Whole (copy (place i [])) X = X
Whole (copy (place i (s ∷ st))) X = ⊥
Whole (int w n) X = ⊥
Whole (int_neg w n) X = ⊥
Whole (int_big w n) X = ⊥
Whole (float f n) X = ⊥
Whole opd_true X = ⊥
Whole opd_false X = ⊥
Whole opd_unit X = ⊥
Whole (ptr_const n) X = ⊥
Whole (size_of τ) X = ⊥
Whole (align_of τ) X = ⊥
Whole (num_of w n) X = ⊥
Whole (fn_addr f a) X = ⊥
Whole (vtable d τ) X = ⊥

abbrev local_of : Operand → ℕ
local_of (copy (place i st)) = i
local_of (int w n) = zero
local_of (int_neg w n) = zero
local_of (int_big w n) = zero
local_of (float f n) = zero
local_of opd_true = zero
local_of opd_false = zero
local_of opd_unit = zero
local_of (ptr_const n) = zero
local_of (size_of τ) = zero
local_of (align_of τ) = zero
local_of (num_of w n) = zero
local_of (fn_addr f a) = zero
local_of (vtable d τ) = zero

abbrev AllWhole : List Operand → List Val → Type 0
AllWhole [] [] = Unit {0}
AllWhole [] (v ∷ vs) = ⊥
AllWhole (x ∷ xs) [] = ⊥
AllWhole (x ∷ xs) (v ∷ vs) = Whole x (AllWhole xs vs)

module _ {M : Type 1} {𝓤 : Ura M} (𝓛 : Logic 𝓤) (Γ : List (Item 𝓤)) (E : Env 𝓤 𝓛.H) (base : ℕ) where
  -- the items at the indices of the operands' locals, and the cells with their values
  open 𝓛 use {H}

  abbrev there : List Operand → List (Item 𝓤)
  there [] = []
  there (x ∷ xs) = nth 𝓛 (base + 2 * local_of x) Γ ∷ there xs

  abbrev cells : List Operand → List Val → List (Item 𝓤)
  cells [] vs = []
  cells (x ∷ xs) [] = []
  cells (x ∷ xs) (v ∷ vs) = ‵ (fat full_share (spot_of 𝓤 H E (local_of x)).0 (spot_of 𝓤 H E (local_of x)).1 zero v) ∷ cells xs vs

abbrev first : {M : Type 1} {𝓤 : Ura M} → List (Item 𝓤) → Item 𝓤
first [] = ‵ ftrue
first (i ∷ is) = i

abbrev others : {M : Type 1} {𝓤 : Ura M} → List (Item 𝓤) → List (Item 𝓤)
others [] = []
others (i ∷ is) = is

module _ {M : Type 1} {𝓤 : Ura M} {𝓛 : Logic 𝓤} {K : Type 0} {Γ : List (Item 𝓤)} {E : Env 𝓤 𝓛.H} where
  open 𝓛 use {H}

  one_more : K → (base : ℕ) (x : Operand) (v : Val) (xs : List Operand) (vs : List Val) → Whole x (AllWhole xs vs) → nth 𝓛 (base + 2 * local_of x) Γ ≡ ‵ (fat full_share (spot_of 𝓤 H E (local_of x)).0 (spot_of 𝓤 H E (local_of x)).1 zero v)
      → (AllWhole xs vs → Opds K 𝓛 Γ E xs vs) → Opds K 𝓛 Γ E (x ∷ xs) (v ∷ vs)
  one_more t base (copy (place i [])) v xs vs w e k = and_then t (load t (from t (stop t)) (look t (base + 2 * i) e)) (k w)
  one_more t base (copy (place i (s ∷ st))) v xs vs w e k = absurd w
  one_more t base (int z n) v xs vs w e k = absurd w
  one_more t base (int_neg z n) v xs vs w e k = absurd w
  one_more t base (int_big z n) v xs vs w e k = absurd w
  one_more t base (float f n) v xs vs w e k = absurd w
  one_more t base opd_true v xs vs w e k = absurd w
  one_more t base opd_false v xs vs w e k = absurd w
  one_more t base opd_unit v xs vs w e k = absurd w
  one_more t base (ptr_const n) v xs vs w e k = absurd w
  one_more t base (size_of τ) v xs vs w e k = absurd w
  one_more t base (align_of τ) v xs vs w e k = absurd w
  one_more t base (num_of z n) v xs vs w e k = absurd w
  one_more t base (fn_addr f a) v xs vs w e k = absurd w
  one_more t base (vtable d τ) v xs vs w e k = absurd w

  pub loads : K → (base : ℕ) {xs : List Operand} {vs : List Val} → AllWhole xs vs → there 𝓛 Γ E base xs ≡ cells 𝓛 Γ E base xs vs → Opds K 𝓛 Γ E xs vs
  loads t base {xs} {vs} w e = go xs vs w e
    where
      go : (xs : List Operand) (vs : List Val) → AllWhole xs vs → there 𝓛 Γ E base xs ≡ cells 𝓛 Γ E base xs vs → Opds K 𝓛 Γ E xs vs
      go [] [] w e = no_more t
      go [] (v ∷ vs) w e = absurd w
      go (x ∷ xs) [] w e = absurd w
      go (x ∷ xs) (v ∷ vs) w e = one_more t base x v xs vs w (ap first e) (λ w'. go xs vs w' (ap others e))

-- Cone records. A record is three words: kind, first size, second size.
use Rattle.std.specs.Prelude.{ℕ, zero, suc, ◌+◌, Bool, true, false, ◌&&◌, List, [], ◌∷◌, eqb}
use Rattle.layout.specs.General.Triangle.{triangle}

pub record Cone : Type 0 where
  pub kind : ℕ
  pub first : ℕ
  pub second : ℕ

-- the complete records
abbrev pub records : List ℕ → List Cone
records [] = []
records (k ∷ []) = []
records (k ∷ a ∷ []) = []
records (k ∷ a ∷ c ∷ ws) = record { kind = k; first = a; second = c } ∷ records ws

-- whether no incomplete record is at the end
abbrev pub whole_records : List ℕ → Bool
whole_records [] = true
whole_records (k ∷ []) = false
whole_records (k ∷ a ∷ []) = false
whole_records (k ∷ a ∷ c ∷ ws) = whole_records ws

-- the seven kinds, and no_kind for every other number
pub data Kind : Type 0 where
  zero_cone nonnegative second_order exponential power gen_power psd_triangle no_kind : Kind

abbrev pub kind_of : ℕ → Kind
kind_of zero = zero_cone
kind_of (suc zero) = nonnegative
kind_of (suc (suc zero)) = second_order
kind_of (suc (suc (suc zero))) = exponential
kind_of (suc (suc (suc (suc zero)))) = power
kind_of (suc (suc (suc (suc (suc zero))))) = gen_power
kind_of (suc (suc (suc (suc (suc (suc zero)))))) = psd_triangle
kind_of (suc (suc (suc (suc (suc (suc (suc k))))))) = no_kind

-- whether sizes a and c are valid for a kind: an unused size is 0
abbrev pub sizes_fit : Kind → ℕ → ℕ → Bool
sizes_fit zero_cone a c = eqb c 0
sizes_fit nonnegative a c = eqb c 0
sizes_fit second_order a c = eqb c 0
sizes_fit exponential a c = eqb a 0 && eqb c 0
sizes_fit power a c = eqb a 0 && eqb c 0
sizes_fit gen_power a c = true
sizes_fit psd_triangle a c = eqb c 0
sizes_fit no_kind a c = false

-- whether the record reads as one of the seven kinds
abbrev pub reads : Cone → Bool
reads c = sizes_fit (kind_of c.kind) c.first c.second

-- the number of rows of a cone: Clarabel's `nvars`
abbrev pub nvars : Kind → ℕ → ℕ → ℕ
nvars zero_cone a c = a
nvars nonnegative a c = a
nvars second_order a c = a
nvars exponential a c = 3
nvars power a c = 3
nvars gen_power a c = a + c
nvars psd_triangle a c = triangle a
nvars no_kind a c = 0

abbrev pub row_count : Cone → ℕ
row_count c = nvars (kind_of c.kind) c.first c.second

-- the number of values that a record takes from the table of α
abbrev pub alphas : Kind → ℕ → ℕ
alphas zero_cone a = 0
alphas nonnegative a = 0
alphas second_order a = 0
alphas exponential a = 0
alphas power a = 1
alphas gen_power a = a
alphas psd_triangle a = 0
alphas no_kind a = 0

abbrev pub alpha_count : Cone → ℕ
alpha_count c = alphas (kind_of c.kind) c.first

abbrev pub is_psd : Cone → Bool
is_psd c = eqb c.kind 6

-- Shared by the hand proofs over entries: entries as data and as array elements, the address of element k of a slice,
-- taking one element out of a slice's memory, and k += 1.
use mathlib.Core.Path.{◌≡◌, sym, ap}
use Prim.Native.Nat.{ℕ, suc, ◌+◌, ◌*◌, ◌<◌, ◌^◌}
use mathlib.Core.List.{List, [], ◌∷◌}
use lib.Dec.{T as Holds}
use lib.ListN.{length, get_or}
use native.Mathlib.Numerals.{add-one}
use seplogic.Ra.Ura.{Ura}
use mir.Syntax.{place, Opd as Operand, copy, int, op2, mul, add, offset, unsigned, Body, seq, assign, w64}
use mir.Val.{vint, vptr, has_ty}
use base.Fml.{Share}
use prog.Wp.{Env, Calls, Loops, spot_of}
use types.Logic.{Logic}
use types.Kit.{Item, ‵, nth, put, Post, Goal, runs, Seq, Step, step, ◌$◌}
use types.Run.{Opd, Rv, lit, bin}
use denote.Laws.{Is, shows}
use denote.Struct.Laws as LL
use denote.Memory.{cell_at, shares as row-shares}
use denote.Index.{row, others, place as place_of, place_is, elem_out}
use Rattle.entries_map.specs.declared.ConeMapEntry.{ConeMapEntry}
use Rattle.entries_proofs.proofs.Values.{Datum, structs, own_of}
use Rattle.entries_proofs.proofs.Arrays.{Element}
use Rattle.entries_proofs.proofs.Locals.{full, empty, equals, value, sets}
use Rattle.entries_map.specs.contracts.ConeMapEntry as T
use Rattle.entries_map.proofs.ConeMapEntry.TheLaws as T'

abbrev pub entries : Datum
entries = structs T.the_type T'.the_laws T'.the_plain

abbrev pub entry_elements : Element
entry_elements = record { datum = entries; single = tt; copy = λ 𝓛. LL.copy T.the_type T'.the_copy 𝓛 }

module _ {M : Type 1} {𝓤 : Ura M} {𝓛 : Logic 𝓤} {K : Type 0} {Γ : List (Item 𝓤)} {E : Env 𝓤 𝓛.H} {i : ℕ} where
  -- k + 1
  open 𝓛 use {H}

  pub one_more : K → (n k : ℕ) → nth 𝓛 n Γ ≡ full H E i (vint w64 k) → k + 1 < 2 ^ 64 → Rv K 𝓛 Γ E (op2 (add unsigned) (copy (place i [])) (int w64 1)) (vint w64 (suc k))
  one_more t n k e fits = equals t (ap (vint w64) (add-one k)) (bin t {a = vint w64 k} {b = vint w64 1} (value t n e) (lit t tt) (record { fits = fits }))

  element_at : K → (s n k b o : ℕ) {y : Operand} → Opd K 𝓛 Γ E y (vptr b o) → nth 𝓛 n Γ ≡ full H E i (vint w64 (k * s)) → Rv K 𝓛 Γ E (op2 offset y (copy (place i []))) (vptr b (place_of s o k))
  element_at t s n k b o at e = equals t (ap (vptr b) (sym (place_is s o k))) (bin t {a = vptr b o} {b = vint w64 (k * s)} at (value t n e) tt)

module _ {M : Type 1} {𝓤 : Ura M} {𝓛 : Logic 𝓤} {K : Type 0} {Γ : List (Item 𝓤)} where
  -- the address of element k, of s bytes each, of a slice at (b, o): computed through local i, stored in local j
  open 𝓛 use {H}

  pub indexes : K → (s k b o : ℕ) {E : Env 𝓤 H} {C : Calls 𝓤 H} {Λ : Loops 𝓤 H} {q : Post 𝓤 H} {rest : Body} {i j : ℕ} {x y : Operand} → Holds (lib.Dec.ltb s 18446744073709551616) → k * s < 2 ^ 64 → (n : ℕ)
      → Opd K 𝓛 Γ E x (vint w64 k) → nth 𝓛 n Γ ≡ empty H E i → Holds (has_ty (spot_of 𝓤 H E i).0 (vint w64 (k * s)))
      → Opd K 𝓛 (put 𝓛 n (full H E i (vint w64 (k * s))) Γ) E y (vptr b o) → nth 𝓛 n (put 𝓛 n (full H E i (vint w64 (k * s))) Γ) ≡ full H E i (vint w64 (k * s))
      → (m : ℕ) → nth 𝓛 m (put 𝓛 n (full H E i (vint w64 (k * s))) Γ) ≡ empty H E j → Holds (has_ty (spot_of 𝓤 H E j).0 (vptr b (place_of s o k)))
      → Step K 𝓛 (put 𝓛 m (full H E j (vptr b (place_of s o k))) (put 𝓛 n (full H E i (vint w64 (k * s))) Γ)) (runs C Λ E rest q) Γ
      (runs C Λ E (seq (assign (place i []) (op2 (mul unsigned) x (int w64 s))) (seq (assign (place j []) (op2 offset y (copy (place i [])))) rest)) q)
  indexes t s k b o small fits n ox room ty oy eq m room' ty' = step (λ z.
      sets t (bin t {a = vint w64 k} {b = vint w64 s} ox (lit t small) (record { fits = fits })) n room (ty, record { fits = fits }) $
      sets t (element_at t s n k b o oy eq) m room' (ty', tt) $ z)

  pub entry_out : K → {G : Goal 𝓤 H} (q : Share) (ys : List ConeMapEntry) (k : ℕ) (d : ConeMapEntry) (b o : ℕ) → k < length ys
      → (Is T.the_row (get_or ys k d) (entries.val (get_or ys k d) ∷ [])
      → Seq K 𝓛 (‵ (cell_at q (T.the_row).mir (entries.val (get_or ys k d) ∷ []) b (place_of 24 o k)) ∷ ‵ (own_of entries (get_or ys k d)) ∷ ‵ (others (row-shares T.the_row) q ys k b o) ∷ Γ) G)
      → Seq K 𝓛 (‵ (row T.the_row q ys b o) ∷ Γ) G
  entry_out t q ys k d b o small = elem_out t T.the_row (Is T.the_row) (shows 𝓛 T.the_row) (λ e. entries.val e ∷ []) entries.tells q ys k d b o small

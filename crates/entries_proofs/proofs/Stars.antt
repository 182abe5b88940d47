-- Items under ∗, split and joined many at a time.
--     stars Fs         formulas under ∗, ending in `true`, as what a list of parameters owns
--     tokens is        items in the same way, as the tokens of a list of lifetimes
--     padded k F       F after k times `true`, as the facts about final values after k parameters that have none
--     parts_said       splits the padded facts about final values that several callees give.        joins_said     joins facts into a padded one
--     and_so           what holds without resources holds beside any
--     Shared           what is owned and can be duplicated, as of a `&[R]` (`shared-slice`).        shared ss      such things as items
use Prim.Native.Nat.{ℕ, zero, suc}
use mathlib.Core.List.{List, [], ◌∷◌, ◌++◌}
use seplogic.Ra.Ura.{Ura}
use mir.Syntax.{Lifetime}
use mir.Val.{Val}
use base.Logic.{SProp, ent, sep, emp, id⊢, via, comm∗, assoc∗, assoc', mono∗, mono_l, mono_r, emp∗, snd∗}
use base.Fml.{Lft, Fml, ftrue, fsep}
use types.Logic.{Logic, sem}
use contract.Monad.{fact, fact_i}
use types.Kit.{Item, ‵, ◌⊛◌, mean, ⋆, push, pop, ++⊢, ⊢++, Goal, Step, step, by}
use denote.RattleType.{RattleType, RowLaws}
use denote.Ref.{Bor}
use denote.Slice.{ShrSlice, shr_slice_copy}

abbrev pub stars : List Fml → Fml
stars [] = ftrue
stars (F ∷ Fs) = fsep F (stars Fs)

abbrev pub items : {M : Type 1} {𝓤 : Ura M} → List Fml → List (Item 𝓤)
items [] = []
items (F ∷ Fs) = ‵ F ∷ items Fs

abbrev pub tokens : {M : Type 1} {𝓤 : Ura M} → List (Item 𝓤) → Item 𝓤
tokens [] = ‵ ftrue
tokens (i ∷ is) = i ⊛ tokens is

module _ {M : Type 1} {𝓤 : Ura M} (𝓛 : Logic 𝓤) where
  pub stars_apart : (Fs : List Fml) → ent 𝓤 (sem 𝓛 (stars Fs)) (⋆ 𝓛 (items Fs))
  stars_apart [] = id⊢ 𝓤 (emp 𝓤)
  stars_apart (F ∷ Fs) = via 𝓤 (sep 𝓤 (sem 𝓛 F) (⋆ 𝓛 (items Fs))) (mono_r 𝓤 (sem 𝓛 F) (stars_apart Fs)) (push 𝓛 (‵ F) (items Fs))

  pub stars_whole : (Fs : List Fml) → ent 𝓤 (⋆ 𝓛 (items Fs)) (sem 𝓛 (stars Fs))
  stars_whole [] = id⊢ 𝓤 (emp 𝓤)
  stars_whole (F ∷ Fs) = via 𝓤 (sep 𝓤 (sem 𝓛 F) (⋆ 𝓛 (items Fs))) (pop 𝓛 (‵ F) (items Fs)) (mono_r 𝓤 (sem 𝓛 F) (stars_whole Fs))

  pub tokens_apart : (is : List (Item 𝓤)) → ent 𝓤 (mean 𝓛 (tokens is)) (⋆ 𝓛 is)
  tokens_apart [] = id⊢ 𝓤 (emp 𝓤)
  tokens_apart (i ∷ is) = via 𝓤 (sep 𝓤 (mean 𝓛 i) (⋆ 𝓛 is)) (mono_r 𝓤 (mean 𝓛 i) (tokens_apart is)) (push 𝓛 i is)

  pub tokens_whole : (is : List (Item 𝓤)) → ent 𝓤 (⋆ 𝓛 is) (mean 𝓛 (tokens is))
  tokens_whole [] = id⊢ 𝓤 (emp 𝓤)
  tokens_whole (i ∷ is) = via 𝓤 (sep 𝓤 (mean 𝓛 i) (⋆ 𝓛 is)) (pop 𝓛 i is) (mono_r 𝓤 (mean 𝓛 i) (tokens_whole is))

-- k times `true`, and F
abbrev pub padded : ℕ → Fml → Fml
padded zero F = F
padded (suc k) F = fsep ftrue (padded k F)

module _ {M : Type 1} {𝓤 : Ura M} (𝓛 : Logic 𝓤) where
  pad : (k : ℕ) (F : Fml) → ent 𝓤 (sem 𝓛 F) (sem 𝓛 (padded k F))
  pad zero F = id⊢ 𝓤 (sem 𝓛 F)
  pad (suc k) F = via 𝓤 (sem 𝓛 (padded k F)) (pad k F) (emp∗ 𝓤 (sem 𝓛 (padded k F)))

  unpad : (k : ℕ) (F : Fml) → ent 𝓤 (sem 𝓛 (padded k F)) (sem 𝓛 F)
  unpad zero F = id⊢ 𝓤 (sem 𝓛 F)
  unpad (suc k) F = via 𝓤 (sem 𝓛 (padded k F)) (snd∗ 𝓤 (emp 𝓤) (sem 𝓛 (padded k F))) (unpad k F)

-- the facts from several callees, each a number of times `true` and some formulas, before other items; and the same split into formulas
abbrev said : {M : Type 1} {𝓤 : Ura M} → List (ℕ × List Fml) → List (Item 𝓤) → List (Item 𝓤)
said [] Γ = Γ
said (l ∷ ls) Γ = ‵ (padded l.0 (stars l.1)) ∷ said ls Γ

abbrev in_parts : {M : Type 1} {𝓤 : Ura M} → List (ℕ × List Fml) → List (Item 𝓤) → List (Item 𝓤)
in_parts [] Γ = Γ
in_parts (l ∷ ls) Γ = items l.1 ++ in_parts ls Γ

module _ {M : Type 1} {𝓤 : Ura M} (𝓛 : Logic 𝓤) (Γ : List (Item 𝓤)) where
  parted : (ls : List (ℕ × List Fml)) → ent 𝓤 (⋆ 𝓛 (said ls Γ)) (⋆ 𝓛 (in_parts ls Γ))
  parted [] = id⊢ 𝓤 (⋆ 𝓛 Γ)
  parted (l ∷ ls) =
      let F : Fml = stars l.1 in
      via 𝓤 (sep 𝓤 (sem 𝓛 (padded l.0 F)) (⋆ 𝓛 (said ls Γ))) (pop 𝓛 (‵ (padded l.0 F)) (said ls Γ))
      (via 𝓤 (sep 𝓤 (⋆ 𝓛 (items l.1)) (⋆ 𝓛 (in_parts ls Γ))) (mono∗ 𝓤 (via 𝓤 (sem 𝓛 F) (unpad 𝓛 l.0 F) (stars_apart 𝓛 l.1)) (parted ls)) (++⊢ 𝓛 (items l.1) (in_parts ls Γ)))

-- one item in place of several, and the other way round
module _ {M : Type 1} {𝓤 : Ura M} {𝓛 : Logic 𝓤} {K : Type 0} {G : Goal 𝓤 𝓛.H} (Γ : List (Item 𝓤)) where
  opened : K → (i : Item 𝓤) (is : List (Item 𝓤)) → ent 𝓤 (mean 𝓛 i) (⋆ 𝓛 is) → Step K 𝓛 (is ++ Γ) G (i ∷ Γ) G
  opened t i is h = step (λ s. by t
      (via 𝓤 (sep 𝓤 (mean 𝓛 i) (⋆ 𝓛 Γ)) (pop 𝓛 i Γ) (via 𝓤 (sep 𝓤 (⋆ 𝓛 is) (⋆ 𝓛 Γ)) (mono_l 𝓤 (⋆ 𝓛 Γ) h) (via 𝓤 (⋆ 𝓛 (is ++ Γ)) (++⊢ 𝓛 is Γ) s.prf))))

  pub made : K → (i : Item 𝓤) (is : List (Item 𝓤)) → ent 𝓤 (⋆ 𝓛 is) (mean 𝓛 i) → Step K 𝓛 (i ∷ Γ) G (is ++ Γ) G
  made t i is h = step (λ s. by t
      (via 𝓤 (sep 𝓤 (⋆ 𝓛 is) (⋆ 𝓛 Γ)) (⊢++ 𝓛 is Γ) (via 𝓤 (sep 𝓤 (mean 𝓛 i) (⋆ 𝓛 Γ)) (mono_l 𝓤 (⋆ 𝓛 Γ) h) (via 𝓤 (⋆ 𝓛 (i ∷ Γ)) (push 𝓛 i Γ) s.prf))))

  pub join_stars : K → (Fs : List Fml) → Step K 𝓛 (‵ (stars Fs) ∷ Γ) G (items Fs ++ Γ) G
  join_stars t Fs = made t (‵ (stars Fs)) (items Fs) (stars_whole 𝓛 Fs)

  pub parts_said : K → (ls : List (ℕ × List Fml)) → Step K 𝓛 (in_parts ls Γ) G (said ls Γ) G
  parts_said t ls = step (λ s. by t (via 𝓤 (⋆ 𝓛 (in_parts ls Γ)) (parted 𝓛 Γ ls) s.prf))

  pub joins_said : K → (k : ℕ) (Fs : List Fml) → Step K 𝓛 (‵ (padded k (stars Fs)) ∷ Γ) G (items Fs ++ Γ) G
  joins_said t k Fs = made t (‵ (padded k (stars Fs))) (items Fs) (via 𝓤 (sem 𝓛 (stars Fs)) (stars_whole 𝓛 Fs) (pad 𝓛 k (stars Fs)))

  pub split_tokens : K → (is : List (Item 𝓤)) → Step K 𝓛 (is ++ Γ) G (tokens is ∷ Γ) G
  split_tokens t is = opened t (tokens is) is (tokens_apart 𝓛 is)

-- ---- facts: where an `ensures` has several clauses

module _ {M : Type 1} (𝓤 : Ura M) where
  pub and_so : {P Q : SProp 𝓤} → ent 𝓤 (emp 𝓤) Q → ent 𝓤 P (sep 𝓤 P Q)
  and_so {P} {Q} q = via 𝓤 (sep 𝓤 (emp 𝓤) P) (emp∗ 𝓤 P) (via 𝓤 (sep 𝓤 Q P) (mono_l 𝓤 P q) (comm∗ 𝓤 Q P))

  pub fact_of : {φ : Type 0} → φ → ent 𝓤 (emp 𝓤) (fact 𝓤 φ)
  fact_of {φ} x = fact_i 𝓤 φ (emp 𝓤) x

-- ---- what can be duplicated

pub record Shared : Type 2 where
  pub own : Fml
  pub twice : {M : Type 1} {𝓤 : Ura M} (𝓛 : Logic 𝓤) → ent 𝓤 (sem 𝓛 own) (sep 𝓤 (sem 𝓛 own) (sem 𝓛 own))

abbrev pub shared_slice : Lifetime → Lft → (R : RattleType) → RowLaws R → Bor (List R.Denot) → List Val → Shared
shared_slice ℓ κ R L x vs = record { own = (ShrSlice ℓ κ R).own_val x vs; twice = λ 𝓛. (shr_slice_copy 𝓛 ℓ κ R L).twice x vs }

abbrev pub shared : {M : Type 1} {𝓤 : Ura M} → List Shared → List (Item 𝓤)
shared [] = []
shared (S ∷ ss) = ‵ S.own ∷ shared ss

module _ {M : Type 1} {𝓤 : Ura M} (𝓛 : Logic 𝓤) where
  crossed : (P Q R S : SProp 𝓤) → ent 𝓤 (sep 𝓤 (sep 𝓤 P Q) (sep 𝓤 R S)) (sep 𝓤 (sep 𝓤 P R) (sep 𝓤 Q S))
  crossed P Q R S =
      via 𝓤 (sep 𝓤 P (sep 𝓤 Q (sep 𝓤 R S))) (assoc∗ 𝓤 P Q (sep 𝓤 R S))
      (via 𝓤 (sep 𝓤 P (sep 𝓤 R (sep 𝓤 Q S)))
      (mono_r 𝓤 P (via 𝓤 (sep 𝓤 (sep 𝓤 Q R) S) (assoc' 𝓤 Q R S) (via 𝓤 (sep 𝓤 (sep 𝓤 R Q) S) (mono_l 𝓤 S (comm∗ 𝓤 Q R)) (assoc∗ 𝓤 R Q S))))
      (assoc' 𝓤 P R (sep 𝓤 Q S)))

  all_twice : (ss : List Shared) → ent 𝓤 (⋆ 𝓛 (shared ss)) (sep 𝓤 (⋆ 𝓛 (shared ss)) (⋆ 𝓛 (shared ss)))
  all_twice [] = emp∗ 𝓤 (emp 𝓤)
  all_twice (S ∷ ss) =
      let P : SProp 𝓤 = sem 𝓛 S.own in
      let Q : SProp 𝓤 = ⋆ 𝓛 (shared ss) in
      via 𝓤 (sep 𝓤 P Q) (pop 𝓛 (‵ S.own) (shared ss))
      (via 𝓤 (sep 𝓤 (sep 𝓤 P P) (sep 𝓤 Q Q)) (mono∗ 𝓤 (S.twice 𝓛) (all_twice ss))
      (via 𝓤 (sep 𝓤 (sep 𝓤 P Q) (sep 𝓤 P Q)) (crossed P P Q Q) (mono∗ 𝓤 (push 𝓛 (‵ S.own) (shared ss)) (push 𝓛 (‵ S.own) (shared ss)))))

  pub doubled : (ss : List Shared) (Γ : List (Item 𝓤)) → ent 𝓤 (⋆ 𝓛 (shared ss ++ Γ)) (⋆ 𝓛 (shared ss ++ (shared ss ++ Γ)))
  doubled ss Γ =
      let S : SProp 𝓤 = ⋆ 𝓛 (shared ss) in
      let G : SProp 𝓤 = ⋆ 𝓛 Γ in
      via 𝓤 (sep 𝓤 (sep 𝓤 S S) G) (via 𝓤 (sep 𝓤 S G) (⊢++ 𝓛 (shared ss) Γ) (mono_l 𝓤 G (all_twice ss)))
      (via 𝓤 (sep 𝓤 S (sep 𝓤 S G)) (assoc∗ 𝓤 S S G) (via 𝓤 (sep 𝓤 S (⋆ 𝓛 (shared ss ++ Γ))) (mono_r 𝓤 S (++⊢ 𝓛 (shared ss) Γ)) (++⊢ 𝓛 (shared ss) (shared ss ++ Γ))))

pub had_twice : {M : Type 1} {𝓤 : Ura M} {𝓛 : Logic 𝓤} {K : Type 0} {G : Goal 𝓤 𝓛.H} (Γ : List (Item 𝓤)) → K → (ss : List Shared) → Step K 𝓛 (shared ss ++ (shared ss ++ Γ)) G (shared ss ++ Γ) G
had_twice {𝓤 = 𝓤} {𝓛} Γ t ss = step (λ s. by t (via 𝓤 (⋆ 𝓛 (shared ss ++ (shared ss ++ Γ))) (doubled 𝓛 ss Γ) s.prf))

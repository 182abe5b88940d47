-- A call in a hand-written proof. After the callee f has returned, the tokens ts are back, the machine value of its result is known, and so is its
-- `ensures`. x is what the contract binds at the call; the `refl`s of each rule state what f requires and what it ensures at x.
--     Asks, Requires   what f requires: the tokens and what its parameters own, and its `requires` clause
--     Ends, says_ends  the final values of its parameters, and the facts about them
--     calls_handing    a call that passes on what its parameters own; the facts about their final values come back
--     Arg              an argument that the caller keeps: a value that owns no memory (`plain-arg`), or a copy of a shared slice (`lent-arg`)
--     calls_lent       a call with such arguments: the caller still has the slices afterwards
--     passing          what the contract binds at a call
use Prim.Native.Nat.{ℕ}
use mathlib.Core.Path.{◌≡◌, refl, sym, ap, subst}
use mathlib.Core.List.{List, [], ◌∷◌, ◌++◌}
use lib.ListN.{length}
use seplogic.Ra.Ura.{Ura}
use mir.Syntax.{Lifetime, Place, Opd as Operand, Body, seq, call}
use mir.Val.{Val}
use base.Logic.{SProp, ent, sep, emp, id⊢, via, assoc', mono∗, mono_l, mono_r, emp∗}
use base.Fml.{Lft, Fml}
use prog.Wp.{Env}
use types.Logic.{Logic, sem}
use sound.WpLaws.{fm_of}
use contract.Monad.{fact}
use contract.Lifetimes.{Lfts, Shares}
use types.Kit.{Item, ‵, raw, ◌⊛◌, some, later, mean, ⋆, push, pop, ++⊢, ⊢++, Post, runs, lands, Seq, ◌$◌, by, move, drop, use1, split, pick, regoal, await}
use types.Run.{Opds}
use denote.RattleType.{RattleType, RowLaws, owns as row-owns}
use denote.Laws.{Is, shows}
use denote.Ref.{Bor}
use denote.Slice.{ShrSlice}
use denote.Steps.{facts, heard, only}
use denote.Signature.{types_at}
use denote.Triple.Entry.{alive}
use denote.Triple.Clauses.{Lasts, lasts}
use denote.Triple.Call.{calls_at}
use Rattle.entries_proofs.proofs.World.{World, Function, Callee, Cited}
use Rattle.entries_proofs.proofs.Stars.{stars, items, tokens, stars_whole, tokens_whole, split_tokens, made, and_so, Shared, shared, shared_slice, doubled}
use Rattle.entries_proofs.proofs.Values.{Datum, usizes, slice, Singles, singles}
use Rattle.entries_proofs.proofs.Outputs.{Output}
use Rattle.entries_proofs.proofs.Places.{lfts, shares}

module _ (w : World) where
  open w use {𝓤, 𝓛, 𝓣}
  open 𝓛 use {H}

  module _ (f : Function) (x : (Callee w f).Ghost) where
    abbrev pub Ends : Type 0
    Ends = Lasts f.ended x.0.0 x.0.3

    abbrev pub says_ends : Ends → Fml
    says_ends us = lasts f.ended x.0.0 x.0.3 us

    -- what f requires: the tokens are ts, and its parameters own Fs; and its `requires` clause
    abbrev Asks : List (Item 𝓤) → List Fml → Type 2
    Asks ts Fs = (alive 𝓛 f.ended.signature x.0.0 x.0.1 ≡ mean 𝓛 (tokens ts)) × (row-owns (types_at f.ended.signature.params x.0.0) x.0.3 x.0.4 ≡ stars Fs)

    abbrev Requires : SProp 𝓤
    Requires = (f.clauses 𝓛 w.mem w.run x.0.0 x.0.3).requires x.1

    asks : (ts : List (Item 𝓤)) (Fs : List Fml) → Asks ts Fs → ent 𝓤 (emp 𝓤) Requires → (Δ : List (Item 𝓤)) → ent 𝓤 (⋆ 𝓛 Δ) (sem 𝓛 (stars Fs)) → ent 𝓤 (⋆ 𝓛 (ts ++ Δ)) ((Callee w f).pre x)
    asks ts Fs asked q Δ makes =
        let P : SProp 𝓤 = alive 𝓛 f.ended.signature x.0.0 x.0.1 in
        let F : Fml = row-owns (types_at f.ended.signature.params x.0.0) x.0.3 x.0.4 in
        via 𝓤 (sep 𝓤 P (sem 𝓛 F))
        (via 𝓤 (sep 𝓤 (⋆ 𝓛 ts) (⋆ 𝓛 Δ)) (⊢++ 𝓛 ts Δ)
        (mono∗ 𝓤 (subst (λ (Q : SProp 𝓤). ent 𝓤 (⋆ 𝓛 ts) Q) (sym asked.0) (tokens_whole 𝓛 ts)) (subst (λ (G : Fml). ent 𝓤 (⋆ 𝓛 Δ) (sem 𝓛 G)) (sym asked.1) makes)))
        (and_so 𝓤 q)

    -- the postcondition of f, where the tokens are ts, the result has type D, and φ is the `ensures` clause
    abbrev Gives : List (Item 𝓤) → (D : Datum) → (D.R.Denot → Ends → Type 0) → Val → SProp 𝓤
    Gives ts D φ u = mean 𝓛 (later (some (λ (r : D.R.Denot). (tokens ts ⊛ ‵ (D.R.own_val r (u ∷ []))) ⊛ some (λ (us : Ends). ‵ (says_ends us) ⊛ raw (fact 𝓤 (φ r us))))))

    -- a call where the precondition is first in the context
    module _ {K : Type 0} {Γ : List (Item 𝓤)} {E : Env 𝓤 H} {xs : List Operand} {q : Post 𝓤 H} {d : Place} {rest : Body} where
      calls_asked : K → Cited w f → (ts : List (Item 𝓤)) (D : Datum) (φ : D.R.Denot → Ends → Type 0) → (Callee w f).post x ≡ Gives ts D φ → Opds K 𝓛 (raw ((Callee w f).pre x) ∷ Γ) E xs ((Callee w f).args x)
          → ((r : D.R.Denot) (us : Ends) → φ r us → Is D.R r (D.val r ∷ []) → Seq K 𝓛 (tokens ts ∷ ‵ (says_ends us) ∷ Γ) (lands 𝓣.C 𝓣.Λ E d (D.val r) rest q))
          → Seq K 𝓛 (raw ((Callee w f).pre x) ∷ Γ) (runs 𝓣.C 𝓣.Λ E (seq (call f.name xs d) rest) q)
      calls_asked t known ts D φ gives os k =
          let R : RattleType = D.R in
          calls_at t (fm_of 𝓤 H 𝓛.laws 𝓣) (Callee w f) known x os (λ u.
          use1 𝓛 (later (some (λ (r : R.Denot). (tokens ts ⊛ ‵ (R.own_val r (u ∷ []))) ⊛ some (λ (us : Ends). ‵ (says_ends us) ⊛ raw (fact 𝓤 (φ r us))))))
          (subst (λ (P : Val → SProp 𝓤). ent 𝓤 (P u) (Gives ts D φ u)) (sym gives) (id⊢ 𝓤 (Gives ts D φ u))) $ await t tt $ pick t (λ r.
          split t $ move t (1 ∷ []) $ pick t (λ us. split t $ move t (1 ∷ []) $ heard t (φ r us) (λ e.
          move t (1 ∷ []) $ split t $ move t (1 ∷ []) $ facts t R (Is R) (shows 𝓛 R) r (u ∷ []) (λ is.
          regoal t (λ (v : Val). lands 𝓣.C 𝓣.Λ E d v rest q) (ap only (D.tells r (u ∷ []) is)) refl $ k r us e (subst (Is R r) (D.tells r (u ∷ []) is) is))))))

      pub calls_handing : K → Cited w f → (ts : List (Item 𝓤)) (Fs : List Fml) → Asks ts Fs → ent 𝓤 (emp 𝓤) Requires
          → (D : Datum) (φ : D.R.Denot → Ends → Type 0) → (Callee w f).post x ≡ Gives ts D φ → Opds K 𝓛 (raw ((Callee w f).pre x) ∷ Γ) E xs ((Callee w f).args x)
          → ((r : D.R.Denot) (us : Ends) → φ r us → Is D.R r (D.val r ∷ []) → Seq K 𝓛 (ts ++ (‵ (says_ends us) ∷ Γ)) (lands 𝓣.C 𝓣.Λ E d (D.val r) rest q))
          → Seq K 𝓛 ((ts ++ items Fs) ++ Γ) (runs 𝓣.C 𝓣.Λ E (seq (call f.name xs d) rest) q)
      calls_handing t known ts Fs asked q D φ gives os k =
          made Γ t (raw ((Callee w f).pre x)) (ts ++ items Fs) (asks ts Fs asked q (items Fs) (stars_whole 𝓛 Fs)) $
          calls_asked t known ts D φ gives os (λ r us e is. split_tokens (‵ (says_ends us) ∷ Γ) t ts $ k r us e is)

-- ---- arguments that the caller keeps

pub record Arg : Type 3 where
  pub R : RattleType
  pub x : R.Denot
  pub val : Val
  pub slices : List Shared
  pub makes : {M : Type 1} {𝓤 : Ura M} (𝓛 : Logic 𝓤) → ent 𝓤 (⋆ 𝓛 (shared slices)) (sem 𝓛 (R.own_val x (val ∷ [])))

abbrev pub plain_arg : (D : Datum) (x : D.R.Denot) → Is D.R x (D.val x ∷ []) → Arg
plain_arg D x is = record { R = D.R; x = x; val = D.val x; slices = []; makes = λ 𝓛. D.makes 𝓛 x (D.val x ∷ []) is }

abbrev pub lent_arg : Lifetime → Lft → (R : RattleType) → RowLaws R → Bor (List R.Denot) → Arg
lent_arg ℓ κ R L x = record { R = ShrSlice ℓ κ R; x = x; val = slice x; slices = shared_slice ℓ κ R L x (slice x ∷ []) ∷ []; makes = λ {𝓤 = 𝓤} 𝓛. id⊢ 𝓤 (sem 𝓛 ((ShrSlice ℓ κ R).own_val x (slice x ∷ []))) }

-- the lengths of the outputs, as arguments
abbrev pub length_args : List Output → List Arg
length_args [] = []
length_args (o ∷ os) = plain_arg usizes (length o.ref.now) (refl, o.fits) ∷ length_args os

-- for a list of arguments: their denotations, their machine values, what they own, and the slices among them
abbrev Denoted : List Arg → Type 0
Denoted [] = Unit {0}
Denoted (a ∷ bs) = a.R.Denot × Denoted bs

abbrev pub denoted : (bs : List Arg) → Denoted bs
denoted [] = tt
denoted (a ∷ bs) = (a.x, denoted bs)

abbrev pub vals : List Arg → List Val
vals [] = []
vals (a ∷ bs) = a.val ∷ vals bs

abbrev owns : List Arg → List Fml
owns [] = []
owns (a ∷ bs) = a.R.own_val a.x (a.val ∷ []) ∷ owns bs

abbrev lents : List Arg → List Shared
lents [] = []
lents (a ∷ bs) = a.slices ++ lents bs

-- what the contract binds at a call with the lifetimes ks, the arguments x and their machine values vs
abbrev pub passing : (n : ℕ) (κs : Lfts n) (qs : Shares n) (ks : List ℕ) {X : Type 0} → X → (vs : List Val) → Lfts (length ks) × Shares (length ks) × Unit {0} × X × Singles vs
passing n κs qs ks x vs = (lfts n κs ks, shares n qs ks, tt, x, singles vs)

module _ (w : World) where
  open w use {𝓤, 𝓛, 𝓣}
  open 𝓛 use {H}

  shared_apart : (ss us : List Shared) → ent 𝓤 (⋆ 𝓛 (shared (ss ++ us))) (sep 𝓤 (⋆ 𝓛 (shared ss)) (⋆ 𝓛 (shared us)))
  shared_apart [] us = emp∗ 𝓤 (⋆ 𝓛 (shared us))
  shared_apart (S ∷ ss) us =
      let P : SProp 𝓤 = sem 𝓛 S.own in
      let Q : SProp 𝓤 = ⋆ 𝓛 (shared ss) in
      let R : SProp 𝓤 = ⋆ 𝓛 (shared us) in
      via 𝓤 (sep 𝓤 P (sep 𝓤 Q R)) (via 𝓤 (sep 𝓤 P (⋆ 𝓛 (shared (ss ++ us)))) (pop 𝓛 (‵ S.own) (shared (ss ++ us))) (mono_r 𝓤 P (shared_apart ss us)))
      (via 𝓤 (sep 𝓤 (sep 𝓤 P Q) R) (assoc' 𝓤 P Q R) (mono_l 𝓤 R (push 𝓛 (‵ S.own) (shared ss))))

  all_made : (bs : List Arg) → ent 𝓤 (⋆ 𝓛 (shared (lents bs))) (sem 𝓛 (stars (owns bs)))
  all_made [] = id⊢ 𝓤 (emp 𝓤)
  all_made (a ∷ bs) = via 𝓤 (sep 𝓤 (⋆ 𝓛 (shared a.slices)) (⋆ 𝓛 (shared (lents bs)))) (shared_apart a.slices (lents bs)) (mono∗ 𝓤 (a.makes 𝓛) (all_made bs))

  module _ (f : Function) (x : (Callee w f).Ghost) (ts : List (Item 𝓤)) (bs : List Arg) where
    passes-out : (Γ : List (Item 𝓤)) (P : SProp 𝓤) → ent 𝓤 (⋆ 𝓛 (ts ++ shared (lents bs))) P → ent 𝓤 (⋆ 𝓛 (ts ++ (shared (lents bs) ++ Γ))) (⋆ 𝓛 (raw P ∷ (shared (lents bs) ++ Γ)))
    passes-out Γ P asked =
        let ss : List Shared = lents bs in
        let T : SProp 𝓤 = ⋆ 𝓛 ts in
        let S : SProp 𝓤 = ⋆ 𝓛 (shared ss) in
        let G : SProp 𝓤 = ⋆ 𝓛 (shared ss ++ Γ) in
        via 𝓤 (sep 𝓤 T G) (⊢++ 𝓛 ts (shared ss ++ Γ))
        (via 𝓤 (sep 𝓤 (sep 𝓤 T S) G) (via 𝓤 (sep 𝓤 T (sep 𝓤 S G)) (mono_r 𝓤 T (via 𝓤 (⋆ 𝓛 (shared ss ++ (shared ss ++ Γ))) (doubled 𝓛 ss Γ) (⊢++ 𝓛 (shared ss) (shared ss ++ Γ)))) (assoc' 𝓤 T S G))
        (via 𝓤 (sep 𝓤 P G) (mono_l 𝓤 G (via 𝓤 (⋆ 𝓛 (ts ++ shared ss)) (++⊢ 𝓛 ts (shared ss)) asked)) (push 𝓛 (raw P) (shared ss ++ Γ))))

    module _ (Γ : List (Item 𝓤)) {K : Type 0} {E : Env 𝓤 H} {xs : List Operand} {q : Post 𝓤 H} {d : Place} {rest : Body} where
      pub calls_lent : K → Cited w f → Asks w f x ts (owns bs) → ent 𝓤 (emp 𝓤) (Requires w f x)
          → (D : Datum) (φ : D.R.Denot → Type 0) → (Callee w f).post x ≡ Gives w f x ts D (λ r us. φ r) → Opds K 𝓛 (raw ((Callee w f).pre x) ∷ (shared (lents bs) ++ Γ)) E xs ((Callee w f).args x)
          → ((r : D.R.Denot) → φ r → Is D.R r (D.val r ∷ []) → Seq K 𝓛 (ts ++ (shared (lents bs) ++ Γ)) (lands 𝓣.C 𝓣.Λ E d (D.val r) rest q))
          → Seq K 𝓛 (ts ++ (shared (lents bs) ++ Γ)) (runs 𝓣.C 𝓣.Λ E (seq (call f.name xs d) rest) q)
      calls_lent t known asked q D φ gives os k =
          by t (via 𝓤 (⋆ 𝓛 (raw ((Callee w f).pre x) ∷ (shared (lents bs) ++ Γ)))
          (passes-out Γ ((Callee w f).pre x) (asks w f x ts (owns bs) asked q (shared (lents bs)) (all_made bs)))
          (calls_asked w f x t known ts D (λ r us. φ r) gives os (λ r us e is. move t (1 ∷ []) $ drop t $ split_tokens (shared (lents bs) ++ Γ) t ts $ k r e is)).prf)

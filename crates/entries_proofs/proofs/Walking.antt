-- A function that is proved by hand, by a walk through its MIR.
--     Walked           the function: its parameters as a list, its contract, its code, and its callees
--     Here             a call of it: in a world, with lifetimes and arguments, whose machine values are known
--     args, Owned, toks, outs     the arguments' machine values, what the parameters own, the tokens of the lifetimes ks, and the outputs
--     arg, known_of    argument k, and what is known of it.        args_at, vals_at, owned_at     the arguments ks, their machine values, and what they own
--     Body, Whole      that the body runs from the entry.        Returned       the postcondition at the return.        ends_in      how it is shown
--     taken_apart      splits what there is at the entry.        to_call    what the contract binds at a call.        loop_in     a loop of the function (`Counted.antt`)
--     Walk             that the call runs.        walks      it does if its body does.        walks_given    the same where φ is required
--     stands           the function meets its contract
use Prim.Native.Nat.{ℕ}
use mathlib.Core.Path.{◌≡◌, sym, ap, ap₂, subst}
use mathlib.Core.List.{List, [], ◌∷◌, ◌++◌, map}
use mathlib.Core.Option.{some, none}
use lib.ListN.{length, get_or}
use seplogic.Ra.Ura.{Ura}
use mir.Syntax.{Callee as Name, Body as Code, Fn}
use mir.Val.{Val, vunit}
use base.Logic.{SProp, ent, sep, emp, via, mono∗, mono_l, fst∗}
use base.Fml.{Fml, ftrue}
use prog.Memory.{Memory}
use prog.Model.{Model}
use prog.Routine.{Routine}
use prog.Wp.{Env, WpFn, Closed}
use types.Logic.{Logic, sem}
use contract.Monad.{Fun, fact}
use contract.Lifetimes.{Lfts, Shares}
use contract.Running.{Running, tables, tables_of}
use types.Kit.{Item, ‵, Go, !, mean, ⋆, pop, sel⊢, ++⊢, ⊢++, Goal, prop, runs, at_ret, Seq, Step, step, by}
use sound.WpLaws.{WpFn-mono}
use denote.RattleType.{mirs}
use denote.Laws.{Is, Typed}
use denote.Signature.{Slot, type_at, types_at}
use denote.Triple.Statement.{Triple}
use denote.Triple.Entry.{Res, on_entry}
use denote.Triple.Spec.{triple_of}
use denote.Triple.Clauses.{Ended, Clauses, Lasts, at_exit, closing}
use denote.Triple.Table.{entered}
use denote.Triple.Walked.{on_exit, Ending, has_of, Fit, needs, walk_of, ends_at, walked, walk_Meets}
use Rattle.entries_proofs.proofs.World.{World, Function, AllCited, Links, world, all-cited}
use Rattle.entries_proofs.proofs.Stars.{stars, items, tokens, stars_apart, tokens_apart, tokens_whole, and_so}
use Rattle.entries_proofs.proofs.Values.{Datum, own_of, Singles}
use Rattle.entries_proofs.proofs.Calling.{passing}
use Rattle.entries_proofs.proofs.Counted.{Loop}
use Rattle.entries_proofs.proofs.Places.{span, tokens_of, all-alive}
use Rattle.entries_proofs.proofs.Outputs.{Output}
use Rattle.entries_proofs.proofs.Params.{Param, slots, kepts, stays, all_go, spelled, all_tell, Arguments, ArgumentAt, argument, values, machine, owned, all_own, Known, KnownAt, known, outputs, typed}
use Rattle.entries_proofs.proofs.Locals.{Blocks, env, locals, Fits, enters}

abbrev ended : {n : ℕ} → List (Param n) → Slot n → Ended
ended {n} ps result = record { signature = record { lifetimes = n; outlives = []; params = slots ps; result = result }; kept = kepts ps }

pub record Walked : Type 3 where
  pub n : ℕ
  pub params : List (Param n)
  pub result : Slot n
  pub clauses : {M : Type 1} {𝓤 : Ura M} (𝓛 : Logic 𝓤) → (Memory → SProp 𝓤) → (Routine → Fun 𝓤) → Clauses 𝓤 (ended params result)
  pub code : Fn
  pub callees : List Function

pub record Here (f : Walked) : Type 3 where
  pub w : World
  pub cited : AllCited w f.callees
  pub κs : Lfts f.n
  pub qs : Shares f.n
  pub a : Arguments f.params κs
  pub are : Known κs f.params a
  pub g : (f.clauses w.𝓛 w.mem w.run κs a).ghost

module _ {f : Walked} (h : Here f) where
  open h.w use {𝓤, 𝓛, 𝓣}
  open 𝓛 use {H}

  abbrev pub args : List Val
  args = machine h.κs f.params h.a

  abbrev pub Owned : List Fml
  Owned = owned h.κs f.params h.a

  abbrev pub toks : List ℕ → List (Item 𝓤)
  toks ks = tokens_of f.n h.κs h.qs ks

  abbrev Entered : List (Item 𝓤)
  Entered = tokens (toks (span 0 f.n)) ∷ ‵ (stars Owned) ∷ []

  abbrev pub outs : List Output
  outs = outputs h.κs f.params h.a h.are

  abbrev pub arg : (k : ℕ) → ArgumentAt h.κs f.params k
  arg k = argument h.κs f.params h.a k

  abbrev pub known_of : (k : ℕ) → KnownAt h.κs f.params h.a k
  known_of k = known h.κs f.params h.a h.are k

  -- the arguments ks, their machine values, and what they own
  abbrev ArgsAt : List ℕ → Type 0
  ArgsAt [] = Unit {0}
  ArgsAt (k ∷ ks) = ArgumentAt h.κs f.params k × ArgsAt ks

  abbrev pub args_at : (ks : List ℕ) → ArgsAt ks
  args_at [] = tt
  args_at (k ∷ ks) = (arg k, args_at ks)

  abbrev pub vals_at : List ℕ → List Val
  vals_at [] = []
  vals_at (k ∷ ks) = get_or args k vunit ∷ vals_at ks

  abbrev pub owned_at : List ℕ → List Fml
  owned_at [] = []
  owned_at (k ∷ ks) = get_or Owned k ftrue ∷ owned_at ks

  abbrev T : Ended
  T = ended f.params f.result

  abbrev clauses : Clauses 𝓤 T
  clauses = f.clauses 𝓛 h.w.mem h.w.run

  abbrev bound : (walk_of 𝓛 T (stays f.params) clauses).Ghost
  bound = ((h.κs, h.qs, tt, h.a, values h.κs f.params h.a), h.g)

  abbrev pub Returned : Val → SProp 𝓤
  Returned = (walk_of 𝓛 T (stays f.params) clauses).post bound

  -- at the return: given the tokens, the result x and `ensures`, it is left to show F, what remains of the parameters; the `refl`s state that this is all
  pub ends_in : {K : Type 0} {Γ : List (Item 𝓤)} → K → (D : Datum) (x : D.R.Denot) → Is D.R x (D.val x ∷ []) → (r : Res T.signature h.κs) (ws : Lasts T h.κs h.a) → Fit T (stays f.params) h.κs h.a ws → (F : Fml)
      → (has_of h.κs (slots f.params) (kepts f.params) (stays f.params) h.a ws (values h.κs f.params h.a) ≡ F) × ((type_at f.result h.κs).own_val r (D.val x ∷ []) ≡ own_of D x)
      → ent 𝓤 (emp 𝓤) ((clauses h.κs h.a).ensures h.g r (at_exit T h.κs h.a ws))
      → Step K 𝓛 Γ (prop (sem 𝓛 F)) (toks (span 0 f.n) ++ Γ) (prop (Returned (D.val x)))
  ends_in {Γ = Γ} t D x is r ws fit F all q = step (λ s.
      let ts : List (Item 𝓤) = toks (span 0 f.n) in
      let P : SProp 𝓤 = ⋆ 𝓛 Γ in
      let had : ent 𝓤 P (sep 𝓤 (sem 𝓛 F) (sem 𝓛 (own_of D x))) = via 𝓤 (sem 𝓛 F) s.prf (and_so 𝓤 (D.makes 𝓛 x (D.val x ∷ []) is)) in
      by t (via 𝓤 (Ending 𝓛 T (stays f.params) clauses bound (D.val x) r ws)
      (via 𝓤 (on_exit 𝓛 T (stays f.params) h.κs h.qs (values h.κs f.params h.a) (D.val x) r h.a ws)
      (via 𝓤 (sep 𝓤 (⋆ 𝓛 ts) P) (⊢++ 𝓛 ts Γ)
      (mono∗ 𝓤 (subst (λ (Q : SProp 𝓤). ent 𝓤 (⋆ 𝓛 ts) Q) (sym (all-alive 𝓛 f.n h.κs h.qs)) (tokens_whole 𝓛 ts))
      (subst (λ (G : Fml). ent 𝓤 P (sep 𝓤 (sem 𝓛 G) (sem 𝓛 ((type_at f.result h.κs).own_val r (D.val x ∷ []))))) (sym all.0)
      (subst (λ (G : Fml). ent 𝓤 P (sep 𝓤 (sem 𝓛 F) (sem 𝓛 G))) (sym all.1) had))))
      (and_so 𝓤 q))
      (ends_at 𝓛 T (stays f.params) clauses bound (D.val x) r ws fit)))

  -- splits what there is at the entry into items
  pub taken_apart : {K : Type 0} {G : Goal 𝓤 H} (Γ : List (Item 𝓤)) → K → Step K 𝓛 (items Owned ++ (toks (span 0 f.n) ++ Γ)) G (Entered ++ Γ) G
  taken_apart Γ t =
      let ts : List (Item 𝓤) = toks (span 0 f.n) in
      step (λ s. by t (via 𝓤 (⋆ 𝓛 (items Owned ++ (ts ++ Γ)))
      (via 𝓤 (sep 𝓤 (⋆ 𝓛 (items Owned)) (⋆ 𝓛 (ts ++ Γ)))
      (via 𝓤 (⋆ 𝓛 (‵ (stars Owned) ∷ tokens ts ∷ Γ)) (sel⊢ 𝓛 (1 ∷ 0 ∷ []) (tokens ts ∷ ‵ (stars Owned) ∷ Γ))
      (via 𝓤 (sep 𝓤 (sem 𝓛 (stars Owned)) (⋆ 𝓛 (tokens ts ∷ Γ))) (pop 𝓛 (‵ (stars Owned)) (tokens ts ∷ Γ))
      (mono∗ 𝓤 (stars_apart 𝓛 Owned) (via 𝓤 (sep 𝓤 (mean 𝓛 (tokens ts)) (⋆ 𝓛 Γ)) (pop 𝓛 (tokens ts) Γ) (via 𝓤 (sep 𝓤 (⋆ 𝓛 ts) (⋆ 𝓛 Γ)) (mono_l 𝓤 (⋆ 𝓛 Γ) (tokens_apart 𝓛 ts)) (++⊢ 𝓛 ts Γ))))))
      (++⊢ 𝓛 (items Owned) (ts ++ Γ))) s.prf))

  -- the environment of its locals
  abbrev pub En : Blocks f.code.locals → Env 𝓤 H
  En bs = env f.code.locals bs

  -- a loop of the function, with postcondition Kf at the return
  abbrev pub loop_in : Blocks f.code.locals → (Val → SProp 𝓤) → (turn rest : Code) (n : ℕ) (State : ℕ → Type 0) → ((k : ℕ) → State k → List (Item 𝓤)) → Loop h.w
  loop_in bs Kf turn rest n State At = record { E = En bs; turn = turn; rest = rest; q = at_ret (En bs) Kf; n = n; State = State; At = At }

  -- what the contract binds at a call with the lifetimes ks
  abbrev pub to_call : (ks : List ℕ) {X : Type 0} → X → (vs : List Val) → Lfts (length ks) × Shares (length ks) × Unit {0} × X × Singles vs
  to_call ks x vs = passing f.n h.κs h.qs ks x vs

  abbrev pub Body : Blocks f.code.locals → (Val → SProp 𝓤) → Type 1
  Body bs Kf = Seq (Go {0}) 𝓛 (Entered ++ locals (En bs) (none ∷ map some args)) (runs 𝓣.C 𝓣.Λ (En bs) f.code.body (at_ret (En bs) Kf))

  -- that the body runs for any blocks of the locals, up to the postcondition
  abbrev pub Whole : Type 1
  Whole = (bs : Blocks f.code.locals) → Body bs Returned

  abbrev Started : SProp 𝓤
  Started = on_entry 𝓛 T.signature h.κs h.qs h.a (values h.κs f.params h.a)

  abbrev Runs : SProp 𝓤
  Runs = WpFn 𝓤 H 𝓣.C 𝓣.Λ f.code args Returned

  abbrev Required : SProp 𝓤
  Required = (clauses h.κs h.a).requires h.g

  abbrev Walk : Type 1
  Walk = ent 𝓤 (sep 𝓤 Started Required) Runs

  entry : Started ≡ ⋆ 𝓛 Entered
  entry = ap₂ (sep 𝓤) (all-alive 𝓛 f.n h.κs h.qs) (ap (sem 𝓛) (all_own h.κs f.params h.a))

  -- `fits` holds by computation, for a concrete signature
  module _ (fits : (bs : Blocks f.code.locals) → Typed (mirs (types_at (slots f.params) h.κs)) args → Fits (En bs) args) where
    runs-from : Whole → ent 𝓤 Started Runs
    runs-from body =
        subst (λ (P : SProp 𝓤). ent 𝓤 P Runs) (sym entry)
        (enters ! 𝓣.C 𝓣.Λ f.code args Returned Entered (λ bs. fits bs (typed h.κs 𝓛 f.params h.a h.are)) body).prf

    pub walks : Whole → Walk
    walks body = via 𝓤 Started (fst∗ 𝓤 Started Required) (runs-from body)

    pub walks_given : (φ : Type 0) → Required ≡ fact 𝓤 φ → (φ → Whole) → Walk
    walks_given φ e body = subst (λ (P : SProp 𝓤). ent 𝓤 (sep 𝓤 Started P) Runs) (sym e) (needs 𝓤 φ Started (λ given. runs-from (body given)))

-- the function has the name k, and the environment has its callees' code
module _ (f : Walked) (k : Name) {M : Type 1} {𝓤 : Ura M} (𝓛 : Logic 𝓤) (𝓜 : Model 𝓤 𝓛.H) (𝓡 : Running 𝓤 𝓛.H 𝓜) (links : Links 𝓡.env f.callees) (walk : (h : Here f) → Walk h) where
  open 𝓛 use {H}

  abbrev E : Ended
  E = ended f.params f.result

  abbrev c : Clauses 𝓤 E
  c = f.clauses 𝓛 𝓜.mem 𝓡.returns

  pub stands : Closed 𝓤 H (tables 𝓤 H 𝓜 𝓡 𝓡.env).C (tables 𝓤 H 𝓜 𝓡 𝓡.env).Λ k f.code → Triple 𝓤 ((tables 𝓤 H 𝓜 𝓡 𝓡.env).C k) (triple_of 𝓛 E.signature (closing 𝓛 E c))
  unfolding tables_of
  stands closed =
      let w : World = world 𝓛 𝓜 𝓡 in
      let run : Fun 𝓤 = WpFn 𝓤 H w.𝓣.C w.𝓣.Λ f.code in
      entered 𝓤 H (triple_of 𝓛 E.signature (closing 𝓛 E c)) (tables 𝓤 H 𝓜 𝓡 𝓡.env).C (tables 𝓤 H 𝓜 𝓡 𝓡.env).Λ k f.code closed
      (walk_Meets 𝓛 E (stays f.params) (all_go 𝓛 f.params) c run (WpFn-mono 𝓤 H 𝓛.laws w.𝓣 f.code)
      (walked 𝓛 E (stays f.params) c run (spelled f.params) (all_tell f.params)
      (λ κs qs bounds a g are. walk (record { w = w; cited = all-cited 𝓛 𝓜 𝓡 f.callees links; κs = κs; qs = qs; a = a; are = are; g = g }))))

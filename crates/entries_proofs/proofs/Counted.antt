-- A loop that ends after n turns, in a hand-written proof: an invariant for the start of turn k, with a state that depends on k, and what each turn
-- does to it. In MIR the loop is inside a block, and the rest of the body follows.
--     Loop             a loop: the locals, one turn, the rest of the body with its postcondition, n, the state, and the invariant
--     More, Ends       that a turn before the last runs, up to the invariant of the next turn; and that the last one does, up to the rest of the body
--     counted          the whole loop, from the invariant of turn 0
--     goes_on, stops   the test of a turn: it passes and the turn continues, or it fails and the loop ends
use mathlib.Core.Path.{◌≡◌, subst}
use Prim.Native.Nat.{ℕ, zero, suc, ◌+◌, ◌<◌}
use mathlib.Core.List.{List, []}
use lib.WfN.{lt-wf_rel}
use native.Mathlib.Omega.{arith}
use mathlib.Core.Bool.{true, false}
use lib.Dec.{T}
use seplogic.Ra.Ura.{Ura}
use mir.Syntax.{place, copy, Rv as RValue, Body, skip, seq, assign, cond, exit, block, loop}
use mir.Val.{has_ty, vbool}
use base.Logic.{SProp, ent, ex, guard, via, ex_i, ex_e, guard_i, guard_e}
use prog.Wp.{Out, next, exits, Env, Calls, Loops, spot_of, Wp, after_seq, after_block, after_turn}
use types.Logic.{Logic}
use types.Kit.{Item, Go, !, ⋆, nth, put, Post, any_q, post, Goal, prop, runs, Seq, Step, step, ◌$◌, by}
use types.Run.{Rv, stays, leaves_loop}
use sound.Loop.{loop_rule}
use Rattle.entries_proofs.proofs.World.{World}
use Rattle.entries_proofs.proofs.Locals.{full, empty, value, sets}

module _ {M : Type 1} {𝓤 : Ura M} {𝓛 : Logic 𝓤} {K : Type 0} {Γ : List (Item 𝓤)} {E : Env 𝓤 𝓛.H} {C : Calls 𝓤 𝓛.H} {Λ : Loops 𝓤 𝓛.H} {q : Post 𝓤 𝓛.H} {rv : RValue} {b : Body} {i : ℕ} where
  open 𝓛 use {H}

  pub goes_on : K → Rv K 𝓛 Γ E rv (vbool true) → (n : ℕ) → nth 𝓛 n Γ ≡ empty H E i → nth 𝓛 n (put 𝓛 n (full H E i (vbool true)) Γ) ≡ full H E i (vbool true) → T (has_ty (spot_of 𝓤 H E i).0 (vbool true))
      → Step K 𝓛 (put 𝓛 n (full H E i (vbool true)) Γ) (runs C Λ E b q) Γ (runs C Λ E (seq (assign (place i []) rv) (seq (cond (copy (place i [])) skip (exit 1)) b)) q)
  goes_on t r n room there ty = step (λ s. sets t r n room (ty, tt) $ stays t (value t n there) $ s)

  pub stops : K → Rv K 𝓛 Γ E rv (vbool false) → (n : ℕ) → nth 𝓛 n Γ ≡ empty H E i → nth 𝓛 n (put 𝓛 n (full H E i (vbool false)) Γ) ≡ full H E i (vbool false) → T (has_ty (spot_of 𝓤 H E i).0 (vbool false))
      → Step K 𝓛 (put 𝓛 n (full H E i (vbool false)) Γ) (prop (post 𝓤 H q (exits 1))) Γ (runs C Λ E (seq (assign (place i []) rv) (seq (cond (copy (place i [])) skip (exit 1)) b)) q)
  stops t r n room there ty = step (λ s. sets t r n room (ty, tt) $ leaves_loop t (value t n there) $ s)

pub record Loop (w : World) : Type 2 where
  pub E : Env w.𝓤 w.𝓛.H
  pub turn : Body
  pub rest : Body
  pub q : Post w.𝓤 w.𝓛.H
  pub n : ℕ
  pub State : ℕ → Type 0
  pub At : (k : ℕ) → State k → List (Item w.𝓤)

module _ {w : World} (l : Loop w) where
  open w use {𝓤, 𝓛, 𝓣}
  open 𝓛 use {H}
  open l use {E, turn, rest, q, n, State, At}

  -- the postcondition where the loop is left
  abbrev Left : Out → SProp 𝓤
  Left = after_block 𝓤 H (after_seq 𝓤 H (Wp 𝓤 H 𝓣.C 𝓣.Λ E rest (post 𝓤 H q)) (post 𝓤 H q))

  abbrev Runs : Post 𝓤 H → Body → Goal 𝓤 H
  Runs q' b = runs 𝓣.C 𝓣.Λ E b q'

  abbrev pub More : Type 2
  More = (k : ℕ) (s : State k) → k < n → (q' : Post 𝓤 H) → ((s' : State (suc k)) → ent 𝓤 (⋆ 𝓛 (At (suc k) s')) (post 𝓤 H q' next)) → Seq (Go {0}) 𝓛 (At k s) (Runs q' turn)

  abbrev pub Ends : Type 2
  Ends = (s : State n) (q' : Post 𝓤 H) → ((Γ : List (Item 𝓤)) → Step (Go {0}) 𝓛 Γ (Runs q rest) Γ (prop (post 𝓤 H q' (exits 1)))) → Seq (Go {0}) 𝓛 (At n s) (Runs q' turn)

  abbrev Held : ℕ → SProp 𝓤
  Held k = ex 𝓤 (λ (s : State k). ⋆ 𝓛 (At k s))

  -- the invariant where t turns are left
  abbrev Inv : ℕ → SProp 𝓤
  Inv t = ex 𝓤 (λ (k : ℕ). guard 𝓤 (k + t ≡ n) (Held k))

  abbrev Below : ℕ → SProp 𝓤
  Below t = ex 𝓤 (λ (t' : ℕ). guard 𝓤 (t' < t) (Inv t'))

  module _ (more : More) (ends : Ends) where
    at_inv : (k t : ℕ) (s : State k) → k + t ≡ n → ent 𝓤 (⋆ 𝓛 (At k s)) (Inv t)
    at_inv k t s e =
        via 𝓤 (Held k) (ex_i 𝓤 (λ (s : State k). ⋆ 𝓛 (At k s)) s)
        (via 𝓤 (guard 𝓤 (k + t ≡ n) (Held k)) (guard_i 𝓤 (k + t ≡ n) (Held k) e) (ex_i 𝓤 (λ (j : ℕ). guard 𝓤 (j + t ≡ n) (Held j)) k))

    below : (t : ℕ) → ent 𝓤 (Inv t) (Below (suc t))
    below t = via 𝓤 (guard 𝓤 (t < suc t) (Inv t)) (guard_i 𝓤 (t < suc t) (Inv t) (omega arith)) (ex_i 𝓤 (λ (u : ℕ). guard 𝓤 (u < suc t) (Inv u)) t)

    -- the postcondition of a turn, where X holds if the loop continues
    abbrev Turn : SProp 𝓤 → Post 𝓤 H
    Turn X = any_q (after_turn 𝓤 H X Left)

    ends_at : (j : ℕ) (X : SProp 𝓤) → n ≡ j → (s : State j) → Seq (Go {0}) 𝓛 (At j s) (Runs (Turn X) turn)
    unfolding after_turn
    ends_at j X e = subst (λ (i : ℕ). (s : State i) → Seq (Go {0}) 𝓛 (At i s) (Runs (Turn X) turn)) e (λ s. ends s (Turn X) (λ Γ. step (λ t. by ! t.prf)))

    turn_at : (t k : ℕ) (s : State k) → k + t ≡ n → Seq (Go {0}) 𝓛 (At k s) (Runs (Turn (Below t)) turn)
    unfolding after_turn
    turn_at zero k s e = ends_at k (Below zero) (omega arith) s
    turn_at (suc t) k s e = more k s (omega arith) (Turn (Below (suc t))) (λ s'. via 𝓤 (Inv t) (at_inv (suc k) t s' (omega arith)) (below t))

    turns : (t : ℕ) → ent 𝓤 (Inv t) (Wp 𝓤 H 𝓣.C 𝓣.Λ E turn (after_turn 𝓤 H (Below t) Left))
    turns t =
        ex_e 𝓤 (λ (k : ℕ). guard 𝓤 (k + t ≡ n) (Held k))
        (λ k. guard_e 𝓤 (k + t ≡ n) (Held k) (λ e. ex_e 𝓤 (λ (s : State k). ⋆ 𝓛 (At k s)) (λ s. (turn_at t k s e).prf)))

    pub counted : (s : State 0) → Seq (Go {0}) 𝓛 (At 0 s) (Runs q (seq (block (loop turn)) rest))
    counted s = by ! (via 𝓤 (Inv n) (at_inv 0 n s (omega arith)) (loop_rule 𝓤 H 𝓛.laws 𝓣 ◌<◌ lt-wf_rel.wf E turn Left Inv turns n))

-- What hand-written proofs take as given, and the functions that are called.
--     World            the logic with its assumptions, and the tables of calls
--     Function         a called function: its name, its code, its contract, and the theorem that it meets the contract where the names mean its code
--     Callee, Cited    its contract, and that its entry in the tables meets it.        AllCited     the same for a list of functions
--     world            the world of a function's theorem.        Links, all-cited     that the environment has the callees' code, and their theorems
use mathlib.Core.List.{List, [], ◌∷◌}
use seplogic.Ra.Ura.{Ura}
use mir.Syntax.{Callee as Name}
use base.Logic.{SProp}
use prog.Memory.{Memory}
use prog.Model.{Model}
use prog.Routine.{Routine, Env as Meanings}
use prog.Wired.{Code, Wired}
use prog.Wp.{Tables}
use types.Logic.{Logic}
use contract.Monad.{Fun}
use contract.Running.{Running, tables, tables_of}
use denote.Triple.Statement.{Contract, Triple}
use denote.Triple.Clauses.{Ended, Clauses, closing}
use denote.Triple.Spec.{triple_of}

pub record World : Type 2 where
  pub M : Type 1
  pub 𝓤 : Ura M
  pub 𝓛 : Logic 𝓤
  pub mem : Memory → SProp 𝓤
  pub run : Routine → Fun 𝓤
  pub 𝓣 : Tables 𝓤 𝓛.H

pub record Function : Type 3 where
  pub name : Name
  pub code : Code
  pub ended : Ended
  pub clauses : {M : Type 1} {𝓤 : Ura M} (𝓛 : Logic 𝓤) → (Memory → SProp 𝓤) → (Routine → Fun 𝓤) → Clauses 𝓤 ended
  pub met : {M : Type 1} (𝓤 : Ura M) (𝓛 : Logic 𝓤) (𝓜 : Model 𝓤 𝓛.H) (𝓡 : Running 𝓤 𝓛.H 𝓜) → Wired 𝓡.env code
      → Triple 𝓤 (𝓡.run (𝓡.env name)) (triple_of 𝓛 ended.signature (closing 𝓛 ended (clauses 𝓛 𝓜.mem 𝓡.returns)))

module _ (w : World) where
  abbrev pub Callee : Function → Contract w.𝓤
  Callee f = triple_of w.𝓛 f.ended.signature (closing w.𝓛 f.ended (f.clauses w.𝓛 w.mem w.run))

  abbrev pub Cited : Function → Type 1
  Cited f = Triple w.𝓤 (w.𝓣.C f.name) (Callee f)

  abbrev pub AllCited : List Function → Type 1
  AllCited [] = Unit {1}
  AllCited (f ∷ fs) = Cited f × AllCited fs

-- ---- a function's theorem

abbrev pub Links : Meanings → List Function → Type 0
Links γ [] = Unit {0}
Links γ (f ∷ fs) = Wired γ f.code × Links γ fs

module _ {M : Type 1} {𝓤 : Ura M} (𝓛 : Logic 𝓤) (𝓜 : Model 𝓤 𝓛.H) (𝓡 : Running 𝓤 𝓛.H 𝓜) where
  open 𝓛 use {H}

  abbrev pub world : World
  world = record { M = M; 𝓤 = 𝓤; 𝓛 = 𝓛; mem = 𝓜.mem; run = 𝓡.returns; 𝓣 = tables_of 𝓤 H 𝓜 (tables 𝓤 H 𝓜 𝓡 𝓡.env) }

  pub all-cited : (fs : List Function) → Links 𝓡.env fs → AllCited world fs
  unfolding tables_of
  all-cited [] links = tt
  all-cited (f ∷ fs) links = (f.met 𝓤 𝓛 𝓜 𝓡 links.0, all-cited fs links.1)

-- The parameters of a function with a hand-written proof, as a list: what the proof has of each at exit, and the machine values of each.
--
--     number, sized, shared j, lent j      a u32, a usize, a `&'j [R]`, and a `&'j mut [R]`, each still owned at exit
--     handed F                     any parameter that is passed on: at exit only the fact about its final value is left, if it has one
--
-- For a list of parameters ps, at lifetimes κs and arguments a:
--     values, machine              the machine values, one list for each parameter, and in one list
--     owned, all_own               what each owns, as a list, and under one ∗
--     Known, known                 that the values are those of the arguments, for all, and for parameter k
--     outputs                      the `&mut [R]` among them (`Outputs.antt`)
--     argument, front, back        argument k, the first k, and those after the first k
--     before                       the arguments followed by more
--     typed                        the machine values have the parameters' types
use Prim.Native.Nat.{ℕ, zero, suc}
use mathlib.Core.List.{List, [], ◌∷◌, ◌++◌}
use mathlib.Core.Path.{◌≡◌, refl, ap}
use lib.ListN.{take, drop}
use lib.Ieee.{binary64}
use seplogic.Ra.Ura.{Ura}
use mir.Syntax.{named, w32, w64}
use mir.Val.{Val}
use base.Fml.{Fml, fsep}
use types.Logic.{Logic, sem}
use contract.Lifetimes.{Lfts}
use denote.RattleType.{RattleType, Denots, Valss, owns, mirs, flat}
use denote.Laws.{Is, Tells, Spells, Tellss, Ises, Are, Lawful, Lawfuls, Typed, valss, all_Typed}
use denote.Plain.{uint_vals, uint_Tells, uint_Lawful}
use denote.Floats.{float_vals, float_Tells, float_Lawful}
use denote.Signature.{Slot, AllWithin, plain, types_at, shr_slice_of, mut_slice_of}
use denote.Slice.{shr_slice_vals, mut_slice_vals, shr_slice_Lawful, mut_slice_Lawful}
use denote.Builtin.{u32, usize, f64}
use denote.Exit.{Kept, yes, left}
use denote.Triple.End.{Kepts}
use denote.Triple.Walked.{Stay, Stays, stay_none, stay_none_slice, stay_slice, Goes, AllGo, Goes-none, Goes-none_slice, Goes-slice}
use Rattle.entries_proofs.proofs.Stars.{stars}
use Rattle.entries_proofs.proofs.Outputs.{Output, output}

pub record Param (n : ℕ) : Type 3 where
  pub slot : Slot n
  pub kept : Kept
  pub stay : Stay slot kept
  pub goes : (M : Type 1) (𝓤 : Ura M) (𝓛 : Logic 𝓤) → Goes 𝓛 n slot kept stay
  pub vals : (κs : Lfts n) → (slot.row κs).Denot → List Val
  pub tells : (κs : Lfts n) → Tells (slot.row κs) (Is (slot.row κs)) (vals κs)
  pub lawful : (M : Type 1) (𝓤 : Ura M) (𝓛 : Logic 𝓤) (κs : Lfts n) → Lawful 𝓛 (slot.row κs)
  pub outs : (κs : Lfts n) (x : (slot.row κs).Denot) → Is (slot.row κs) x (vals κs x) → List Output

module _ {n : ℕ} where
  abbrev number : Param n
  number = record {
    slot = plain (λ _. u32);
    kept = yes;
    stay = stay_none (λ _. u32) yes;
    goes = λ M 𝓤 𝓛. Goes-none 𝓛 n (λ _. u32) yes (λ κs x f. refl);
    vals = λ κs. uint_vals w32;
    tells = λ κs. uint_Tells w32;
    lawful = λ M 𝓤 𝓛 κs. uint_Lawful 𝓛 w32;
    outs = λ κs x is. [];
  }

  abbrev pub sized : Param n
  sized = record {
    slot = plain (λ _. usize);
    kept = yes;
    stay = stay_none (λ _. usize) yes;
    goes = λ M 𝓤 𝓛. Goes-none 𝓛 n (λ _. usize) yes (λ κs x f. refl);
    vals = λ κs. uint_vals w64;
    tells = λ κs. uint_Tells w64;
    lawful = λ M 𝓤 𝓛 κs. uint_Lawful 𝓛 w64;
    outs = λ κs x is. [];
  }

  abbrev pub shared : (j : ℕ) → AllWithin n (j ∷ []) → RattleType → Param n
  shared j ok R = record {
    slot = shr_slice_of (j ∷ []) ok (plain (λ _. R));
    kept = yes;
    stay = stay_none_slice (j ∷ []) ok (plain (λ _. R)) yes;
    goes = λ M 𝓤 𝓛. Goes-none_slice 𝓛 n (j ∷ []) ok (plain (λ _. R)) yes;
    vals = λ κs. shr_slice_vals;
    tells = λ κs x vs p. p.0.0;
    lawful = λ M 𝓤 𝓛 κs. shr_slice_Lawful 𝓛 _ _ R;
    outs = λ κs x is. [];
  }

  abbrev pub lent : (j : ℕ) → AllWithin n (j ∷ []) → RattleType → Param n
  lent j ok R = record {
    slot = mut_slice_of (j ∷ []) ok (plain (λ _. R));
    kept = yes;
    stay = stay_slice (j ∷ []) ok (plain (λ _. R));
    goes = λ M 𝓤 𝓛. Goes-slice 𝓛 n j ok (plain (λ _. R));
    vals = λ κs. mut_slice_vals;
    tells = λ κs x vs p. p.0.0;
    lawful = λ M 𝓤 𝓛 κs. mut_slice_Lawful 𝓛 _ _ R;
    outs = λ κs x is. output (named j) R x is.0.1.0 ∷ [];
  }

  abbrev handed : (F : Lfts n → RattleType) (vals : (κs : Lfts n) → (F κs).Denot → List Val) → ((κs : Lfts n) → Tells (F κs) (Is (F κs)) (vals κs))
      → ((M : Type 1) (𝓤 : Ura M) (𝓛 : Logic 𝓤) (κs : Lfts n) → Lawful 𝓛 (F κs)) → ((κs : Lfts n) (x : (F κs).Denot) → Is (F κs) x (vals κs x) → List Output) → Param n
  handed F vals tells lawful outs = record {
    slot = plain F;
    kept = yes;
    stay = record { fit = λ κs x f. Unit {0}; has = λ κs x f vs. left ((F κs).exit yes) x f };
    goes = λ M 𝓤 𝓛 κs x f vs fits. 𝓛.laws.⇛_intro (sem 𝓛 (left ((F κs).exit yes) x f));
    vals = vals;
    tells = tells;
    lawful = lawful;
    outs = outs;
  }

  abbrev pub handed_number : Param n
  handed_number = handed (λ _. u32) (λ κs. uint_vals w32) (λ κs. uint_Tells w32) (λ M 𝓤 𝓛 κs. uint_Lawful 𝓛 w32) (λ κs x is. [])

  abbrev pub handed_size : Param n
  handed_size = handed (λ _. usize) (λ κs. uint_vals w64) (λ κs. uint_Tells w64) (λ M 𝓤 𝓛 κs. uint_Lawful 𝓛 w64) (λ κs x is. [])

  abbrev pub handed_float : Param n
  handed_float = handed (λ _. f64) (λ κs. float_vals binary64) (λ κs. float_Tells binary64) (λ M 𝓤 𝓛 κs. float_Lawful 𝓛 binary64) (λ κs x is. [])

  abbrev pub handed_shared : (j : ℕ) → AllWithin n (j ∷ []) → RattleType → Param n
  handed_shared j ok R = handed (shr_slice_of {n = n} (j ∷ []) ok (plain (λ _. R))).row (λ κs. shr_slice_vals) (λ κs x vs p. p.0.0) (λ M 𝓤 𝓛 κs. shr_slice_Lawful 𝓛 _ _ R) (λ κs x is. [])

  abbrev pub handed_lent : (j : ℕ) → AllWithin n (j ∷ []) → RattleType → Param n
  handed_lent j ok R =
      handed (mut_slice_of {n = n} (j ∷ []) ok (plain (λ _. R))).row (λ κs. mut_slice_vals) (λ κs x vs p. p.0.0) (λ M 𝓤 𝓛 κs. mut_slice_Lawful 𝓛 _ _ R) (λ κs x is. output (named j) R x is.0.1.0 ∷ [])

  -- ---- lists of parameters
  abbrev pub slots : List (Param n) → List (Slot n)
  slots [] = []
  slots (p ∷ ps) = p.slot ∷ slots ps

  abbrev pub kepts : (ps : List (Param n)) → Kepts (slots ps)
  kepts [] = tt
  kepts (p ∷ ps) = (p.kept, kepts ps)

  abbrev pub stays : (ps : List (Param n)) → Stays (slots ps) (kepts ps)
  stays [] = tt
  stays (p ∷ ps) = (p.stay, stays ps)

  abbrev pub all_go : {M : Type 1} {𝓤 : Ura M} (𝓛 : Logic 𝓤) (ps : List (Param n)) → AllGo 𝓛 n (slots ps) (kepts ps) (stays ps)
  all_go 𝓛 [] = tt
  all_go {M} {𝓤 = 𝓤} 𝓛 (p ∷ ps) = (p.goes M 𝓤 𝓛, all_go 𝓛 ps)

  abbrev pub spelled : (ps : List (Param n)) (κs : Lfts n) → Spells (types_at (slots ps) κs)
  spelled [] κs = tt
  spelled (p ∷ ps) κs = (p.vals κs, spelled ps κs)

  abbrev pub all_tell : (ps : List (Param n)) (κs : Lfts n) → Tellss (types_at (slots ps) κs) (Ises (types_at (slots ps) κs)) (spelled ps κs)
  all_tell [] κs = tt
  all_tell (p ∷ ps) κs = (p.tells κs, all_tell ps κs)

  abbrev pub Arguments : List (Param n) → Lfts n → Type 0
  Arguments ps κs = Denots (types_at (slots ps) κs)

  module _ (κs : Lfts n) where
    abbrev pub values : (ps : List (Param n)) → Arguments ps κs → Valss (types_at (slots ps) κs)
    values ps a = valss (types_at (slots ps) κs) (spelled ps κs) a

    abbrev pub machine : (ps : List (Param n)) → Arguments ps κs → List Val
    machine ps a = flat (types_at (slots ps) κs) (values ps a)

    abbrev pub owned : (ps : List (Param n)) → Arguments ps κs → List Fml
    owned [] a = []
    owned (p ∷ ps) a = (p.slot.row κs).own_val a.0 (p.vals κs a.0) ∷ owned ps a.1

    -- what a signature's parameters own is what each owns, under one ∗
    pub all_own : (ps : List (Param n)) (a : Arguments ps κs) → owns (types_at (slots ps) κs) a (values ps a) ≡ stars (owned ps a)
    all_own [] a = refl
    all_own (p ∷ ps) a = ap (fsep ((p.slot.row κs).own_val a.0 (p.vals κs a.0))) (all_own ps a.1)

    abbrev pub Known : (ps : List (Param n)) → Arguments ps κs → Type 0
    Known ps a = Are (types_at (slots ps) κs) (Ises (types_at (slots ps) κs)) a (values ps a)

    -- argument k
    abbrev pub ArgumentAt : List (Param n) → ℕ → Type 0
    ArgumentAt [] k = Unit {0}
    ArgumentAt (p ∷ ps) zero = (p.slot.row κs).Denot
    ArgumentAt (p ∷ ps) (suc k) = ArgumentAt ps k

    abbrev pub argument : (ps : List (Param n)) → Arguments ps κs → (k : ℕ) → ArgumentAt ps k
    argument [] a k = tt
    argument (p ∷ ps) a zero = a.0
    argument (p ∷ ps) a (suc k) = argument ps a.1 k

    -- the first k arguments, and those after them
    abbrev pub front : (k : ℕ) (ps : List (Param n)) → Arguments ps κs → Arguments (take k ps) κs
    front zero ps a = tt
    front (suc k) [] a = tt
    front (suc k) (p ∷ ps) a = (a.0, front k ps a.1)

    abbrev pub back : (k : ℕ) (ps : List (Param n)) → Arguments ps κs → Arguments (drop k ps) κs
    back zero ps a = a
    back (suc k) [] a = tt
    back (suc k) (p ∷ ps) a = back k ps a.1

    abbrev pub KnownAt : (ps : List (Param n)) → Arguments ps κs → ℕ → Type 0
    KnownAt [] a k = Unit {0}
    KnownAt (p ∷ ps) a zero = Is (p.slot.row κs) a.0 (p.vals κs a.0)
    KnownAt (p ∷ ps) a (suc k) = KnownAt ps a.1 k

    abbrev pub known : (ps : List (Param n)) (a : Arguments ps κs) → Known ps a → (k : ℕ) → KnownAt ps a k
    known [] a are k = tt
    known (p ∷ ps) a are zero = are.0
    known (p ∷ ps) a are (suc k) = known ps a.1 are.1 k

    abbrev pub outputs : (ps : List (Param n)) (a : Arguments ps κs) → Known ps a → List Output
    outputs [] a are = []
    outputs (p ∷ ps) a are = p.outs κs a.0 are.0 ++ outputs ps a.1 are.1

    -- the arguments followed by more
    abbrev Before : List (Param n) → Type 0 → Type 0
    Before [] X = X
    Before (p ∷ ps) X = (p.slot.row κs).Denot × Before ps X

    abbrev pub before : (ps : List (Param n)) {X : Type 0} → Arguments ps κs → X → Before ps X
    before [] a x = x
    before (p ∷ ps) a x = (a.0, before ps a.1 x)

    module _ {M : Type 1} {𝓤 : Ura M} (𝓛 : Logic 𝓤) where
      lawfuls : (ps : List (Param n)) → Lawfuls 𝓛 (types_at (slots ps) κs)
      lawfuls [] = tt
      lawfuls (p ∷ ps) = (p.lawful M 𝓤 𝓛 κs, lawfuls ps)

      pub typed : (ps : List (Param n)) (a : Arguments ps κs) → Known ps a → Typed (mirs (types_at (slots ps) κs)) (machine ps a)
      typed ps a are = all_Typed 𝓛 (types_at (slots ps) κs) (lawfuls ps) a (values ps a) are

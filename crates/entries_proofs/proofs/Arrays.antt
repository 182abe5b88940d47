-- A local array in a hand-written proof: it is filled, borrowed as a slice any number of times, and is uninitialized memory again at the end. In the
-- context it is where the cell of its local was.
--     Element          a type of array elements that can be copied.        u32_elements     u32
--     table R N xs b   the array with the N elements xs, in memory block b
--     fills            assigns `[x; N]` to the local
--     lends_out        borrows it as a `&mut [R]` for a new lifetime: the token and what the reference owns come first in the context
--     comes_back       ends that lifetime: the array has the reference's final value
--     shares_out       borrows it as a `&[R]`, where R can be shared out (`copied_shares`).        comes_home     ends that borrow: the array is unchanged
--     cuts_front       makes its first k elements an array, to be borrowed; the other elements come first in the context.        joins_front     undoes this
--     room-again       makes it uninitialized memory.        big      the array's length as an operand
use Prim.Native.Nat.{ℕ, zero, suc, ◌≤◌}
use mathlib.Core.Path.{◌≡◌, refl, sym, subst}
use mathlib.Core.List.{List, [], ◌∷◌, ◌++◌}
use lib.ListN.{length, take, drop as drop-list, replicate, length-replicate, take-append-drop}
use lib.Seq.{length-take-le}
use lib.Dec.{T}
use seplogic.Ra.Ura.{Ura}
use base.Fraction.{full_share}
use mir.Syntax.{Ty, Width, Lifetime, w32, ty_array, place, Opd as Operand, int_big, repeat, Body, seq, assign}
use mir.Val.{Val, Fits, has_ty, WT, vint}
use base.Logic.{SProp, ent, sep, ex, emp, id⊢, guard_i, via, mono_l, mono_r, emp∗, fst∗, snd∗, ex_e}
use base.Fml.{GName, Fml, Incl-refl, ftrue, fat, froom, flft, flent}
use prog.Wp.{Env, Calls, Loops, spot_of}
use types.Logic.{Logic, sem, lfts}
use types.Kit.{Item, ‵, raw, ◌⊛◌, some, later, mean, ⋆, pop, push, nth, del, put, pull, fill, Soaks, Goal, Post, runs, Seq, Step, step, by, ◌$◌, ◌∵◌, !, qed, move, drop, use0, use1, use2, use3, split, pick, await, fsplit, fjoin, feq_l, feq_i, rewrite, done}
use types.Tokens.{lft_new, lft_end, lent_back}
use types.SemTy.{Arr, cells}
use types.Share.{arr_parts}
use types.Part.{rep}
use types.Run.{Writes, Opd, init, stop, from, assigns}
use denote.RattleType.{RattleType}
use denote.Laws.{Is, Copy}
use denote.Memory.{part_at, mem, shares, shared_of, lone}
use denote.Shadow.{shadow}
use denote.Array.{Array, each, array_val, Array-repeat, Array-Lawful}
use denote.ArrayMemory.{Single, Array-apart, Array-whole}
use denote.Slice.{slice_val, MutSlice, ShrSlice, Room, finally}
use denote.Lend.{Held, lends_slice, slice_back, lends_shr_slice}
use denote.Index.{row, whole_out, whole_in}
use denote.Plain.{uint_copy}
use denote.Ref.{Bor, MutBor}
use denote.Copied.{Copied}
use denote.Shares.{SharesAs}
use ghost.Rules.{Toks}
use borrow.Table.Elements.{at, cut_app, join_app}
use borrow.Table.OneValue.{part_in, part_out}
use Rattle.entries_proofs.proofs.Values.{Datum, u32s, own_of}

pub record Element : Type 3 where
  pub datum : Datum
  pub single : Single datum.R.mir
  pub copy : {M : Type 1} {𝓤 : Ura M} (𝓛 : Logic 𝓤) → Copy 𝓛 datum.R

abbrev pub u32_elements : Element
u32_elements = record { datum = u32s; single = tt; copy = λ 𝓛. uint_copy 𝓛 w32 }

abbrev table : {M : Type 1} {𝓤 : Ura M} (R : RattleType) → ℕ → List R.Denot → ℕ → Item 𝓤
table R N xs b = ‵ ((Arr (mem R) N).own_at xs b zero)

-- the MIR type of the array
abbrev table_ty : RattleType → ℕ → Ty
table_ty R N = ty_array (lone R.mir) N

-- the reference to the array, with ghost name γ
abbrev pub ref : {X : Type 0} → ℕ → GName → List X → MutBor (List X)
ref b γ xs = record { ref_ptr = (b, zero); ghost_name = γ; now = xs }

-- the reference to the array as a `&`
abbrev pub view : {X : Type 0} → ℕ → List X → Bor (List X)
view b xs = record { ref_ptr = (b, zero); now = xs }

-- an integer literal, such as an array's length, as an operand
pub big : {M : Type 1} {𝓤 : Ura M} {𝓛 : Logic 𝓤} {K : Type 0} {Γ : List (Item 𝓤)} {E : Env 𝓤 𝓛.H} → K → {w : Width} {n : ℕ} → Fits w n → Opd K 𝓛 Γ E (int_big w n) (vint w n)
big {𝓤 = 𝓤} t {w} {n} f = record { go = λ Kt h. via 𝓤 (Kt (vint w n)) h (guard_i 𝓤 (Fits w n) (Kt (vint w n)) f) }

-- ---- items of a context by index
pulled : {M : Type 1} {𝓤 : Ura M} (𝓛 : Logic 𝓤) (Γ : List (Item 𝓤)) (n : ℕ) (X : Item 𝓤) → nth 𝓛 n Γ ≡ X → ent 𝓤 (⋆ 𝓛 Γ) (sep 𝓤 (mean 𝓛 X) (⋆ 𝓛 (del 𝓛 n Γ)))
pulled {𝓤 = 𝓤} 𝓛 Γ n X e = subst (λ (Y : Item 𝓤). ent 𝓤 (⋆ 𝓛 Γ) (sep 𝓤 (mean 𝓛 Y) (⋆ 𝓛 (del 𝓛 n Γ)))) e (pull 𝓛 n Γ)

module _ {M : Type 1} {𝓤 : Ura M} {𝓛 : Logic 𝓤} {K : Type 0} {G : Goal 𝓤 𝓛.H} {Γ : List (Item 𝓤)} where
  -- the item at index n is replaced by one that it entails
  changes : K → (n : ℕ) {X : Item 𝓤} (Y : Item 𝓤) → nth 𝓛 n Γ ≡ X → ent 𝓤 (mean 𝓛 X) (mean 𝓛 Y) → Step K 𝓛 (put 𝓛 n Y Γ) G Γ G
  changes t n {X} Y e h = step (λ s. by t
      (via 𝓤 (sep 𝓤 (mean 𝓛 X) (⋆ 𝓛 (del 𝓛 n Γ))) (pulled 𝓛 Γ n X e)
      (via 𝓤 (sep 𝓤 (mean 𝓛 Y) (⋆ 𝓛 (del 𝓛 n Γ))) (mono_l 𝓤 (⋆ 𝓛 (del 𝓛 n Γ)) h) (via 𝓤 (⋆ 𝓛 (put 𝓛 n Y Γ)) (fill 𝓛 n Y Γ) s.prf))))

  -- the item at index n is moved to the front, and `true` is left in its place
  takes_out : K → (n : ℕ) {X : Item 𝓤} → nth 𝓛 n Γ ≡ X → Step K 𝓛 (X ∷ put 𝓛 n (‵ ftrue) Γ) G Γ G
  takes_out t n {X} e = step (λ s.
      let P : SProp 𝓤 = mean 𝓛 X in
      let Q : SProp 𝓤 = ⋆ 𝓛 (del 𝓛 n Γ) in
      by t (via 𝓤 (sep 𝓤 P Q) (pulled 𝓛 Γ n X e)
      (via 𝓤 (sep 𝓤 P (⋆ 𝓛 (put 𝓛 n (‵ ftrue) Γ))) (mono_r 𝓤 P (via 𝓤 (sep 𝓤 (emp 𝓤) Q) (emp∗ 𝓤 Q) (fill 𝓛 n (‵ ftrue) Γ)))
      (via 𝓤 (⋆ 𝓛 (X ∷ put 𝓛 n (‵ ftrue) Γ)) (push 𝓛 X (put 𝓛 n (‵ ftrue) Γ)) s.prf))))

  -- the item at the front is moved to index n, where `true` was
  puts_in : K → (n : ℕ) {X : Item 𝓤} → nth 𝓛 n Γ ≡ ‵ ftrue → Step K 𝓛 (put 𝓛 n X Γ) G (X ∷ Γ) G
  puts_in t n {X} e = step (λ s.
      let P : SProp 𝓤 = mean 𝓛 X in
      let Q : SProp 𝓤 = ⋆ 𝓛 (del 𝓛 n Γ) in
      by t (via 𝓤 (sep 𝓤 P (⋆ 𝓛 Γ)) (pop 𝓛 X Γ)
      (via 𝓤 (sep 𝓤 P Q) (mono_r 𝓤 P (via 𝓤 (sep 𝓤 (emp 𝓤) Q) (pulled 𝓛 Γ n (‵ ftrue) e) (snd∗ 𝓤 (emp 𝓤) Q)))
      (via 𝓤 (⋆ 𝓛 (put 𝓛 n X Γ)) (fill 𝓛 n X Γ) s.prf))))

-- ---- the array
each-copied : (D : Datum) (x : D.R.Denot) → Is D.R x (D.val x ∷ []) → (N : ℕ) → shadow (each D.R.Denot D.R.own_val (replicate N x) (replicate N (D.val x)))
each-copied D x is zero = tt
each-copied D x is (suc N) = (is, each-copied D x is N)

module _ {M : Type 1} {𝓤 : Ura M} (𝓛 : Logic 𝓤) (N b : ℕ) where
  open 𝓛 use {H}

  module _ (e : Element) (x : e.datum.R.Denot) (is : Is e.datum.R x (e.datum.val x ∷ [])) where
    abbrev R : RattleType
    R = e.datum.R

    abbrev copies : Val
    copies = array_val (replicate N (e.datum.val x))

    typed : T (has_ty (table_ty R N) copies) × WT copies
    typed = ((Array-Lawful 𝓛 R (e.datum.lawful 𝓛) N).typed (replicate N x) (copies ∷ []) (replicate N (e.datum.val x), ((refl, length-replicate N x), each-copied e.datum x is N))).0

    copies-owned : ent 𝓤 (emp 𝓤) (sem 𝓛 ((Array R N).own_val (replicate N x) (copies ∷ [])))
    copies-owned = via 𝓤 (sem 𝓛 (own_of e.datum x)) (e.datum.makes 𝓛 x (e.datum.val x ∷ []) is) (Array-repeat 𝓛 R (e.copy 𝓛) N x (e.datum.val x))

    -- a cell with N copies of x holds the array
    cell_table : ent 𝓤 (H.at full_share (table_ty R N) b zero copies) (sem 𝓛 ((Arr (mem R) N).own_at (replicate N x) b zero))
    cell_table =
        qed 𝓛 (‵ (fat full_share (table_ty R N) b zero copies) ∷ []) ∵ use0 𝓛 (‵ ((Array R N).own_val (replicate N x) (copies ∷ []))) copies-owned $ move ! (1 ∷ 0 ∷ []) $
        use2 𝓛 (‵ (part_at (Array R N) full_share (replicate N x) b zero)) (part_in 𝓛 (Array R N) refl full_share (replicate N x) b zero copies) $
        use1 𝓛 (‵ ((arr_parts (shares R) N).part full_share (replicate N x) b zero)) (Array-apart 𝓛 R full_share e.single N (replicate N x) b zero) $
        fsplit ! $ move ! (1 ∷ []) $ use1 𝓛 (‵ (cells (mem R) (replicate N x) b zero)) (whole_in 𝓛 R (replicate N x) b zero) $ move ! (1 ∷ 0 ∷ []) $ fjoin ! $ done !

  -- the array's memory can be taken as uninitialized
  table-room : (R : RattleType) (xs : List R.Denot) → ent 𝓤 (sem 𝓛 ((Arr (mem R) N).own_at xs b zero)) (H.room (table_ty R N) b zero)
  table-room R xs =
      via 𝓤 (sem 𝓛 (part_at (Array R N) full_share xs b zero))
      (qed 𝓛 (‵ ((Arr (mem R) N).own_at xs b zero) ∷ []) ∵ fsplit ! $ move ! (1 ∷ []) $ use1 𝓛 (‵ (row R full_share xs b zero)) (whole_out 𝓛 R xs b zero) $ move ! (1 ∷ 0 ∷ []) $ fjoin ! $
      by ! (Array-whole 𝓛 R full_share N xs b zero))
      (via 𝓤 (ex 𝓤 (λ (v : Val). sep 𝓤 (H.at full_share (table_ty R N) b zero v) (sem 𝓛 ((Array R N).own_val xs (v ∷ []))))) (part_out 𝓛 (Array R N) refl full_share xs b zero)
      (ex_e 𝓤 (λ (v : Val). sep 𝓤 (H.at full_share (table_ty R N) b zero v) (sem 𝓛 ((Array R N).own_val xs (v ∷ [])))) (λ v.
      via 𝓤 (H.at full_share (table_ty R N) b zero v) (fst∗ 𝓤 (H.at full_share (table_ty R N) b zero v) (sem 𝓛 ((Array R N).own_val xs (v ∷ [])))) (𝓛.laws.at_room (table_ty R N) b zero v))))

-- the cell with N copies of x in memory block b
abbrev copied : {M : Type 1} {𝓤 : Ura M} (e : Element) → e.datum.R.Denot → ℕ → ℕ → Item 𝓤
copied e x N b = ‵ (fat full_share (table_ty e.datum.R N) b zero (array_val (replicate N (e.datum.val x))))

-- ---- assignment to local number i, whose cell is at index n
module _ {M : Type 1} {𝓤 : Ura M} {𝓛 : Logic 𝓤} {K : Type 0} {Γ : List (Item 𝓤)} {E : Env 𝓤 𝓛.H} {C : Calls 𝓤 𝓛.H} {Λ : Loops 𝓤 𝓛.H} {q : Post 𝓤 𝓛.H} {rest : Body} {i : ℕ} where
  open 𝓛 use {H}

  pub fills : K → (e : Element) (x : e.datum.R.Denot) → Is e.datum.R x (e.datum.val x ∷ []) → {y : Operand} → Opd K 𝓛 Γ E y (e.datum.val x) → (N n : ℕ) → (spot_of 𝓤 H E i).0 ≡ table_ty e.datum.R N
      → nth 𝓛 n Γ ≡ ‵ (froom (table_ty e.datum.R N) (spot_of 𝓤 H E i).1 zero) → nth 𝓛 n (put 𝓛 n (copied e x N (spot_of 𝓤 H E i).1) Γ) ≡ copied e x N (spot_of 𝓤 H E i).1
      → Step K 𝓛 (put 𝓛 n (table e.datum.R N (replicate N x) (spot_of 𝓤 H E i).1) (put 𝓛 n (copied e x N (spot_of 𝓤 H E i).1) Γ)) (runs C Λ E rest q) Γ (runs C Λ E (seq (assign (place i []) (repeat y N)) rest) q)
  fills t e x is o N n ty room there = step (λ s.
      assigns t (rep t N o) (from t (stop t))
      (subst (λ (τ : Ty). Writes K 𝓛 Γ τ (spot_of 𝓤 H E i).1 zero (array_val (replicate N (e.datum.val x))) (put 𝓛 n (copied e x N (spot_of 𝓤 H E i).1) Γ)) (sym ty) (init t n room (typed 𝓛 N (spot_of 𝓤 H E i).1 e x is))) $
      changes t n (table e.datum.R N (replicate N x) (spot_of 𝓤 H E i).1) there (cell_table 𝓛 N (spot_of 𝓤 H E i).1 e x is) $ s)

-- ---- borrows

-- the token of one lifetime, as a list of tokens
module _ {M : Type 1} {𝓤 : Ura M} (𝓛 : Logic 𝓤) (α : ℕ) where
  token_alone : ent 𝓤 (sem 𝓛 (flft (α ∷ []) full_share)) (lfts 𝓛 (((α ∷ []), full_share) ∷ []))
  token_alone = id⊢ 𝓤 _

  alone_token : ent 𝓤 (lfts 𝓛 (((α ∷ []), full_share) ∷ [])) (sem 𝓛 (flft (α ∷ []) full_share))
  alone_token = id⊢ 𝓤 _

-- what is borrowed of the array by a `&[R]`
abbrev Lent : (R : RattleType) → List R.Denot → ℕ → Fml
Lent R ys b = (arr_parts (shares R) (length ys)).part full_share ys b zero

-- the premise of `shares_out`, at a type that can be copied
pub copied_shares : {M : Type 1} {𝓤 : Ura M} (𝓛 : Logic 𝓤) (R : RattleType) → Copied 𝓛 R → (α : ℕ) → SharesAs 𝓛 R (shared_of R) (α ∷ [])
copied_shares 𝓛 R c α = c.shares full_share (α ∷ [])

-- the array's elements after the first k
abbrev Rest : (R : RattleType) → ℕ → List R.Denot → ℕ → Fml
Rest R k xs b = cells (mem R) (drop-list k xs) b (at zero (mem R).size k)

module _ {M : Type 1} {𝓤 : Ura M} {𝓛 : Logic 𝓤} {K : Type 0} {G : Goal 𝓤 𝓛.H} {Γ : List (Item 𝓤)} where
  pub lends_out : K → Soaks G → (R : RattleType) (ℓ : Lifetime) (N n b : ℕ) (xs : List R.Denot) → length xs ≡ N → Room R N → nth 𝓛 n Γ ≡ table R N xs b → nth 𝓛 n (put 𝓛 n (‵ ftrue) Γ) ≡ ‵ ftrue
      → ((α : ℕ) (γ : GName) → Seq K 𝓛 (‵ (flft (α ∷ []) full_share) ∷ ‵ ((MutSlice ℓ (α ∷ []) R).own_val (ref b γ xs) (slice_val (b, zero) N ∷ [])) ∷ put 𝓛 n (‵ (flent (α ∷ []) (Held R N b zero γ))) (put 𝓛 n (‵ ftrue) Γ)) G)
      → Seq K 𝓛 Γ G
  lends_out t z R ℓ N n b xs e room there gone k =
      takes_out t n there $ fsplit t $ drop t $ lft_new t z (λ α. move t (1 ∷ []) $
      use1 𝓛 (later (some (λ (γ : GName). ‵ ((MutSlice ℓ (α ∷ []) R).own_val (ref b γ xs) (slice_val (b, zero) (length xs) ∷ [])) ⊛ ‵ (flent (α ∷ []) (Held R (length xs) b zero γ))))) (lends_slice 𝓛 R ℓ (α ∷ []) xs b zero (subst (Room R) (sym e) room)) $
      await t z $ pick t (λ γ. split t $
      rewrite t 0 (λ (m : ℕ). ‵ ((MutSlice ℓ (α ∷ []) R).own_val (ref b γ xs) (slice_val (b, zero) m ∷ []))) e refl $ rewrite t 1 (λ (m : ℕ). ‵ (flent (α ∷ []) (Held R m b zero γ))) e refl $
      -- [the slice; what the lender gets back; the token; …]
      move t (1 ∷ 2 ∷ 0 ∷ []) $ puts_in t (suc (suc n)) gone $ k α γ))

  pub comes_back : K → Soaks G → (R : RattleType) (N n b α : ℕ) (γ : GName) (ys : List R.Denot) → nth 𝓛 n Γ ≡ ‵ (flent (α ∷ []) (Held R N b zero γ)) → nth 𝓛 n (put 𝓛 n (‵ ftrue) Γ) ≡ ‵ ftrue
      → Step K 𝓛 (put 𝓛 n (table R N ys b) (put 𝓛 n (‵ ftrue) Γ)) G (‵ (flft (α ∷ []) full_share) ∷ ‵ (finally R γ ys) ∷ Γ) G
  comes_back t z R N n b α γ ys there gone = step (λ s.
      lft_end t z $ takes_out t (suc (suc n)) there $ move t (1 ∷ 0 ∷ []) $
      use3 𝓛 (later (table R N ys b)) (slice_back 𝓛 R (α ∷ []) γ ys N b zero) $ await t z $ puts_in t n gone $ s)

  -- R's values are shared out under a new lifetime, as what a `&` to one holds
  pub shares_out : K → Soaks G → (R : RattleType) → ((α : ℕ) → SharesAs 𝓛 R (shared_of R) (α ∷ [])) → (ℓ : Lifetime) (N n b : ℕ) (ys : List R.Denot) → length ys ≡ N → Room R N → nth 𝓛 n Γ ≡ table R N ys b → nth 𝓛 n (put 𝓛 n (‵ ftrue) Γ) ≡ ‵ ftrue
      → ((α : ℕ) → Seq K 𝓛 (‵ (flft (α ∷ []) full_share) ∷ ‵ ((ShrSlice ℓ (α ∷ []) R).own_val (view b ys) (slice_val (b, zero) N ∷ [])) ∷ put 𝓛 n (‵ (flent (α ∷ []) (Lent R ys b))) (put 𝓛 n (‵ ftrue) Γ)) G)
      → Seq K 𝓛 Γ G
  shares_out t z R shared ℓ N n b ys e room there gone k =
      takes_out t n there $ fsplit t $ drop t $ use1 𝓛 (‵ (row R full_share ys b zero)) (whole_out 𝓛 R ys b zero) $ feq_i t ℕ (length ys) (length ys) refl $ fjoin t $
      lft_new t z (λ α.
      let ts : Toks = ((α ∷ []), full_share) ∷ [] in
      use1 𝓛 (raw (lfts 𝓛 ts)) (token_alone 𝓛 α) $ move t (1 ∷ 0 ∷ []) $
      use2 𝓛 (later ((‵ ((ShrSlice ℓ (α ∷ []) R).own_val (view b ys) (slice_val (b, zero) (length ys) ∷ [])) ⊛ ‵ (flent (α ∷ []) (Lent R ys b))) ⊛ raw (lfts 𝓛 ts)))
      (lends_shr_slice 𝓛 R ℓ (α ∷ []) full_share ys b zero (subst (Room R) (sym e) room) (α ∷ []) (shared α) ts (Incl-refl (α ∷ [])) (Incl-refl (α ∷ []))) $
      await t z $ split t $ split t $ rewrite t 0 (λ (m : ℕ). ‵ ((ShrSlice ℓ (α ∷ []) R).own_val (view b ys) (slice_val (b, zero) m ∷ []))) e refl $
      move t (2 ∷ []) $ use1 𝓛 (‵ (flft (α ∷ []) full_share)) (alone_token 𝓛 α) $
      -- [the token; the slice; what the lender gets back; …]
      move t (2 ∷ 0 ∷ 1 ∷ []) $ puts_in t (suc (suc n)) gone $ k α)

  pub comes_home : K → Soaks G → (R : RattleType) (N n b α : ℕ) (ys : List R.Denot) → length ys ≡ N → nth 𝓛 n Γ ≡ ‵ (flent (α ∷ []) (Lent R ys b)) → nth 𝓛 n (put 𝓛 n (‵ ftrue) Γ) ≡ ‵ ftrue
      → Step K 𝓛 (put 𝓛 n (table R N ys b) (put 𝓛 n (‵ ftrue) Γ)) G (‵ (flft (α ∷ []) full_share) ∷ Γ) G
  comes_home t z R N n b α ys e there gone = step (λ s.
      lft_end t z $ takes_out t (suc n) there $ move t (1 ∷ 0 ∷ []) $ lent_back t z $ fsplit t $ drop t $ use1 𝓛 (‵ (cells (mem R) ys b zero)) (whole_in 𝓛 R ys b zero) $
      feq_i t ℕ (length ys) N e $ fjoin t $ puts_in t n gone $ s)

  pub cuts_front : K → (R : RattleType) (N n k b : ℕ) (xs : List R.Denot) → k ≤ length xs → nth 𝓛 n Γ ≡ table R N xs b → nth 𝓛 n (put 𝓛 n (‵ ftrue) Γ) ≡ ‵ ftrue
      → Step K 𝓛 (‵ (Rest R k xs b) ∷ put 𝓛 n (table R k (take k xs) b) (put 𝓛 n (‵ ftrue) Γ)) G Γ G
  cuts_front t R N n k b xs l there gone = step (λ s.
      takes_out t n there $ fsplit t $ drop t $ rewrite t 0 (λ (zs : List R.Denot). ‵ (cells (mem R) zs b zero)) (sym (take-append-drop k xs)) refl $
      use1 𝓛 (‵ (cells (mem R) (take k xs) b zero) ⊛ ‵ (cells (mem R) (drop-list k xs) b (at zero (mem R).size (length (take k xs))))) (cut_app 𝓛 (mem R) (take k xs) (drop-list k xs) b zero) $ split t $
      rewrite t 1 (λ (j : ℕ). ‵ (cells (mem R) (drop-list k xs) b (at zero (mem R).size j))) (length-take-le k xs l) refl $
      feq_i t ℕ (length (take k xs)) k (length-take-le k xs l) $ fjoin t $ puts_in t (suc n) gone $ s)

  pub joins_front : K → (R : RattleType) (N n k b : ℕ) (xs ys : List R.Denot) → length (ys ++ drop-list k xs) ≡ N → nth 𝓛 n Γ ≡ table R k ys b → nth 𝓛 n (put 𝓛 n (‵ ftrue) Γ) ≡ ‵ ftrue
      → Step K 𝓛 (put 𝓛 n (table R N (ys ++ drop-list k xs) b) (put 𝓛 n (‵ ftrue) Γ)) G (‵ (Rest R k xs b) ∷ Γ) G
  joins_front t R N n k b xs ys l there gone = step (λ s.
      takes_out t (suc n) there $ fsplit t $ feq_l t (λ e. rewrite t 1 (λ (j : ℕ). ‵ (cells (mem R) (drop-list k xs) b (at zero (mem R).size j))) (sym e) refl $
      use2 𝓛 (‵ (cells (mem R) (ys ++ drop-list k xs) b zero)) (join_app 𝓛 (mem R) ys (drop-list k xs) b zero) $
      feq_i t ℕ (length (ys ++ drop-list k xs)) N l $ fjoin t $ puts_in t n gone $ s))

  pub room-again : K → (R : RattleType) (N n b : ℕ) (ys : List R.Denot) → nth 𝓛 n Γ ≡ table R N ys b → Step K 𝓛 (put 𝓛 n (‵ (froom (table_ty R N) b zero)) Γ) G Γ G
  room-again t R N n b ys there = changes t n (‵ (froom (table_ty R N) b zero)) there (table-room 𝓛 N b R ys)

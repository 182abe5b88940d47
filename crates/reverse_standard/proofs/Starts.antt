-- Where blocks start according to the cone map: the next block, and the blocks after a prefix.
use Prim.Native.Nat.{ℕ, suc, ◌+◌, ◌*◌, ◌<◌}
use native.Mathlib.Numerals.{add-one}
use native.Mathlib.Omega.{arith}
use mathlib.Core.Path.{◌≡◌, refl, sym, ap, subst, ◌∙◌}
use mathlib.Core.Bool.{Bool, true, false}
use mathlib.Core.List.{List, [], ◌∷◌, ◌++◌, map}
use lib.ListN.{length, get_or, drop, length-drop}
use lib.Seq.{drop-drop, get_or-drop}
use Rattle.layout.specs.General.Lists.{sum}
use Rattle.layout.specs.Cuts.Compact.{MapEntry, whole_cone, map_words}
use Rattle.layout.proofs.Rows.ConeMap.{entry_first, entry_rows, Follow, first_word}
use Rattle.layout.proofs.Columns.Sizes.{entries-length}
use Rattle.reverse_standard.specs.Routes.{start_of, HasEntry, Starts}

-- the first block has an entry that gives its start, and the remaining blocks start after it
pub start_here : (standard : Bool) (ws : List ℕ) (k first n : ℕ) (ns : List ℕ) → Starts standard ws k first (n ∷ ns)
    → HasEntry standard ws k × (start_of standard first ws k ≡ first)
start_here true ws k first n ns h = (tt, refl)
start_here false ws k first n ns h = (h.0, h.1)

pub starts-next : (standard : Bool) (ws : List ℕ) (k first n : ℕ) (ns : List ℕ) → Starts standard ws k first (n ∷ ns) → Starts standard ws (k + 1) (first + n) ns
starts-next true ws k first n ns h = tt
starts-next false ws k first n ns h = subst (λ (j : ℕ). Starts false ws j (first + n) ns) (sym (add-one k)) h.2

-- the starts of concatenated blocks are those of each part, the second part starting after the first
pub starts-append : (standard : Bool) (ws : List ℕ) (k first : ℕ) (ms ns : List ℕ) → Starts standard ws k first (ms ++ ns)
    → Starts standard ws k first ms × Starts standard ws (k + length ms) (first + sum ms) ns
starts-append true ws k first ms ns h = (tt, tt)
starts-append false ws k first [] ns h =
    let e : k ≡ k + 0 = omega arith in
    let f : first ≡ first + 0 = omega arith in
    (tt, subst (λ (j : ℕ). Starts false ws j (first + 0) ns) e (subst (λ (j : ℕ). Starts false ws k j ns) f h))
starts-append false ws k first (m ∷ ms) ns h =
    let (front, rest) = starts-append false ws (suc k) (first + m) ms ns h.2 in
    let e : suc k + length ms ≡ k + suc (length ms) = omega arith in
    let f : first + m + sum ms ≡ first + (m + sum ms) = omega arith in
    ((h.0, h.1, front), subst (λ (j : ℕ). Starts false ws j (first + (m + sum ms)) ns) e (subst (λ (j : ℕ). Starts false ws (suc k + length ms) j ns) f rest))

-- the words of a map whose entries follow each other give the starts of their blocks
told : (es fs : List MapEntry) (k a b : ℕ) → drop k es ≡ fs → Follow a fs b → Starts false (map_words es) k a (map entry_rows fs)
told es [] k a b e h = tt
told es (f ∷ fs) k a b e h = (
  omega (arith, entries-length es, inside),
  ap (λ (j : ℕ). get_or (map_words es) j 0) five ∙ first_word es k (whole_cone 0 0 0) inside ∙ ap entry_first here ∙ h.0,
  told es fs (suc k) (a + entry_rows f) b after h.1,
)
  where
    inside : k < length es
    inside = omega (arith, ap length e, length-drop k es)

    five : k * 5 + 3 ≡ 5 * k + 3
    five = omega arith

    here : get_or es k (whole_cone 0 0 0) ≡ f
    here =
        let zero_more : k ≡ k + 0 = omega arith in
        ap (λ (j : ℕ). get_or es j (whole_cone 0 0 0)) zero_more ∙ sym (get_or-drop k es 0 (whole_cone 0 0 0)) ∙ ap (λ (l : List MapEntry). get_or l 0 (whole_cone 0 0 0)) e

    after : drop (suc k) es ≡ fs
    after =
        let one_more : suc k ≡ k + 1 = omega arith in
        ap (λ (j : ℕ). drop j es) one_more ∙ sym (drop-drop 1 k es) ∙ ap (drop 1) e

pub starts-told : (standard : Bool) (es : List MapEntry) (b : ℕ) → Follow 0 es b → Starts standard (map_words es) 0 0 (map entry_rows es)
starts-told true es b h = tt
starts-told false es b h = told es es 0 0 b refl h

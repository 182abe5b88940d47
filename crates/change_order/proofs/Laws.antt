-- Moving one block, and moving one part.
use Prim.Native.Nat.{ℕ, ◌+◌, ◌-◌, ◌≤◌}
use native.Mathlib.Omega.{arith}
use mathlib.Core.Path.{◌≡◌, sym, ap, ap₂, ◌∙◌}
use mathlib.Core.List.{List, [], ◌∷◌, ◌++◌, append_assoc, append-nil}
use lib.ListN.{length, take, drop, length-append, length-drop, take-append-drop}
use lib.Seq.{length-take-le, drop-drop}
use lib.Ieee.{Float}
use Rattle.layout.specs.General.Lists.{sum, written}
use Rattle.layout.specs.Rows.Blocks.{Part, part_rows}
use Rattle.layout.specs.Rows.Orders.{block_lengths, last_first, compact_order}
use Rattle.layout.proofs.Rows.Orders.{length_last, last_front, length_part, compact_cons}
use Rattle.join_blocks.proofs.Room.{length_part as part_length}
use Rattle.join_cones.specs.Parts.{written_at}
use Rattle.join_cones.proofs.Laws.{put_same}
use Rattle.change_blocks.proofs.Laws.{from_there, after_it, up_to_its_end}

-- one more block of k values is moved to its place before the blocks already moved
pub block_more : (k : ℕ) (ks : List ℕ) (vs old new : List Float) (from to : ℕ) → from + k ≤ length vs → to + k ≤ length old
    → new ≡ written_at to (take k (drop from vs)) old
    → last_first (k ∷ ks) (drop from vs) ++ drop (to + k) old ≡ last_first ks (drop (from + k) vs) ++ drop to new
block_more k ks vs old new from to l m e =
    let b : List Float = take k (drop from vs) in
    let size : length b ≡ k = length-take-le k (drop from vs) (omega (arith, length-drop from vs)) in
    ap (λ (ws : List Float). (last_first ks ws ++ b) ++ drop (to + k) old) (drop-drop k from vs)
    ∙ append_assoc (last_first ks (drop (from + k) vs)) b (drop (to + k) old)
    ∙ ap (λ (r : List Float). last_first ks (drop (from + k) vs) ++ r)
    (ap (λ (n : ℕ). b ++ drop (to + n) old) (sym size) ∙ sym (from_there b old new to (omega arith) e))

-- moving the blocks of a cut cone within a slice writes them, last block first, at index t of the whole output
pub cut_moved : (ks : List ℕ) (vs : List Float) (t n : ℕ) (old new : List Float) → sum ks ≡ n → t + n ≤ length vs → t + n ≤ length old
    → new ≡ last_first ks (take (t + n - t) (drop t vs))
    → take t old ++ (new ++ drop (t + n - t) (drop t old)) ≡ written_at t (last_first ks (drop t vs)) old
cut_moved ks vs t n old new e l m w =
    let lent : List Float = take (t + n - t) (drop t vs) in
    let size : length lent ≡ n = part_length t n vs l in
    let same : last_first ks (drop t vs) ≡ last_first ks lent =
    ap (last_first ks) (sym (take-append-drop (t + n - t) (drop t vs))) ∙ last_front ks lent (drop (t + n - t) (drop t vs)) (omega (arith, size)) in
    put_same (last_first ks (drop t vs)) new old t n m (w ∙ sym same)
    (ap length w ∙ length_last ks lent (omega (arith, size)) ∙ e ∙ sym (part_length t n old m))

-- one more part is moved: xs are its values in compact order
module _ (x : Part) (before later : List Part) (vs first old new : List Float) (t end : ℕ) (total : List Float) (e : before ≡ x ∷ later)
    (fits : t + part_rows x ≤ length vs) (room : t + part_rows x ≤ length old) (ends : end ≡ t + part_rows x)
    (put : new ≡ written_at t (last_first (block_lengths x) (drop t vs)) old) where
  abbrev xs : List Float
  xs = last_first (block_lengths x) (drop t vs)

  size : length xs ≡ part_rows x
  size = length_part x (drop t vs) (omega (arith, length-drop t vs))

  here : end ≡ t + length xs
  here = omega (arith, size)

  pub part_more : take t old ++ compact_order before (drop t vs) ≡ total → take end new ++ compact_order later (drop end vs) ≡ total
  part_more h =
      ap₂ ◌++◌ (ap (λ (n : ℕ). take n new) here ∙ up_to_its_end xs old new t (omega (arith, size)) put)
      (ap (λ (n : ℕ). compact_order later (drop n vs)) ends)
      ∙ append_assoc (take t old) xs (compact_order later (drop (t + part_rows x) vs))
      ∙ ap (λ (r : List Float). take t old ++ r)
      (sym (ap (λ (ps : List Part). compact_order ps (drop t vs)) e ∙ compact_cons x later (drop t vs)
      ∙ ap (λ (ws : List Float). xs ++ compact_order later ws) (drop-drop (part_rows x) t vs)))
      ∙ h

  pub rest-kept : drop t old ≡ drop t first → drop end new ≡ drop end first
  rest-kept h =
      ap (λ (n : ℕ). drop n new) here ∙ after_it xs old new t (omega (arith, size)) put
      ∙ sym (drop-drop (length xs) t old) ∙ ap (drop (length xs)) h ∙ drop-drop (length xs) t first
      ∙ ap (λ (n : ℕ). drop n first) (sym here)

  pub length-kept : length new ≡ length old
  length-kept =
      ap length put ∙ omega (
        arith,
        length-append (take t old) (written xs (drop t old)),
        length-append xs (drop (length xs) (drop t old)),
        length-take-le t old (omega arith),
        length-drop t old,
        length-drop (length xs) (drop t old),
        size,
      )

-- when no part is left, the output starts with the values in compact order
pub parts-done : (ps : List Part) (vs first out total : List Float) (t : ℕ) → ps ≡ [] → t ≤ length out → take t out ++ compact_order ps (drop t vs) ≡ total
    → drop t out ≡ drop t first → out ≡ written total first
parts-done ps vs first out total t none l h k =
    let whole : take t out ≡ total =
    sym (append-nil (take t out)) ∙ ap (λ (qs : List Part). take t out ++ compact_order qs (drop t vs)) (sym none) ∙ h in
    let size : t ≡ length total = sym (length-take-le t out l) ∙ ap length whole in
    sym (take-append-drop t out) ∙ ap₂ ◌++◌ whole (k ∙ ap (λ (n : ℕ). drop n first) size)

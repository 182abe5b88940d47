-- Slices of buffers that a call wrote to, and the counts of the standard route.
use Prim.Native.Nat.{ℕ, ◌+◌, ◌-◌, ◌≤◌}
use native.Mathlib.Nat.{add-sub_cancel_left}
use native.Mathlib.Omega.{arith}
use mathlib.Core.Path.{◌≡◌, refl, sym, ap, subst, ◌∙◌}
use mathlib.Core.Logic.{inl, inr}
use mathlib.Core.Bool.{Bool, true, false}
use mathlib.Core.List.{List, ◌++◌}
use lib.ListN.{length, take, drop, length-drop, length-map, get_or-eq_default}
use lib.Seq.{take_all}
use lib.Ieee.{Float, add, binary64}
use Rattle.layout.specs.General.Floats.{zero64}
use Rattle.layout.specs.General.Triangle.{triangle}
use Rattle.layout.specs.Problems.Patterns.{Pattern}
use Rattle.layout.proofs.Lists.Tests.{lt_or_le}
use Rattle.layout.proofs.Numbers.Triangles.{triangle_mono}
use Rattle.reverse_standard.proofs.Laws.{averages}
use Rattle.join_blocks.specs.Joins.{join_z, Counts, Countable, own_rows}
use Rattle.join_blocks.proofs.Room.{length_part}
use Rattle.join_cones.specs.Parts.{whole_values, z_averaged, z_averaged_by, written_at, CountsRows, Cleared, ClearsRows}
use Rattle.join_cones.proofs.Inside.{no_column}

-- ---- slices of buffers

-- a call replaced the n values from index `at` on
replaced : (ys old : List Float) (at n : ℕ) → length ys ≡ n → take at old ++ (ys ++ drop n (drop at old)) ≡ written_at at ys old
replaced ys old at n e = ap (λ (k : ℕ). take at old ++ (ys ++ drop k (drop at old))) (sym e)

-- the slice from m to the end is the suffix from m on
pub rest-whole : (m : ℕ) (xs : List Float) → take (length xs - m) (drop m xs) ≡ drop m xs
rest-whole m xs = take_all (length xs - m) (drop m xs) (omega (arith, length-drop m xs))

-- a call that was passed the n values from index `at` on left ys there
pub put_same : (ys new old : List Float) (at n : ℕ) → at + n ≤ length old → new ≡ ys → length new ≡ length (take (at + n - at) (drop at old))
    → take at old ++ (new ++ drop (at + n - at) (drop at old)) ≡ written_at at ys old
put_same ys new old at n h e l =
    let size : length ys ≡ at + n - at = sym (ap length e) ∙ l ∙ length_part at n old h ∙ sym (add-sub_cancel_left at n) in
    ap (λ (r : List Float). take at old ++ (r ++ drop (at + n - at) (drop at old))) e ∙ replaced ys old at (at + n - at) size

pub length_whole : (standard : Bool) (vs : List Float) → length (whole_values standard vs) ≡ length vs
length_whole true vs = length-map vs (add binary64 zero64)
length_whole false vs = refl

-- ---- counts

pub rows-kept : (standard : Bool) (n m : ℕ) (a b : List ℕ) → m ≤ n → length b ≡ length a → CountsRows standard n a → CountsRows standard m b
rows-kept true n m a b h e room = omega (arith, room)
rows-kept false n m a b h e room = tt

pub countable : (standard : Bool) (n k : ℕ) (counts : List ℕ) → k ≤ 262144 → CountsRows standard n counts → Cleared standard counts → Countable standard n k counts
countable true n k counts h room clear = (room, λ o l. omega (arith, clear o))
countable false n k counts h room clear = tt

-- a PSD cone has at most 65,536 rows
pub few-rows : (v : ℕ) → v ≤ 256 → triangle v ≤ 65536
few-rows v h = omega (arith, triangle_mono v 256 h)

-- averaging with the table of counts is averaging over the rows os
averaged-by : (standard : Bool) (os before counts : List ℕ) (ws : List Float) → CountsRows standard (length ws) counts → Cleared standard before
    → Counts standard os before counts → z_averaged_by standard counts ws ≡ z_averaged standard os ws
averaged-by true os before counts ws room clear c = averages os counts ws (λ o l. omega (arith, c o (omega (arith, room)), clear o))
averaged-by false os before counts ws room clear c = refl

-- z of a decomposed cone, from the results of the calls
pub averaged-cut : (standard : Bool) (os before counts : List ℕ) (vs zeros new ws out : List Float) → CountsRows standard (length ws) counts → Cleared standard before
    → Counts standard os before counts → out ≡ z_averaged_by standard counts ws → ws ≡ join_z standard os vs new → new ≡ zeros
    → out ≡ z_averaged standard os (join_z standard os vs zeros)
averaged-cut standard os before counts vs zeros new ws out room clear c e w z =
    e ∙ averaged-by standard os before counts ws room clear c ∙ ap (z_averaged standard os) (w ∙ ap (join_z standard os vs) z)

-- all rows of the pattern are below its cone's n, so all counts are 0 again
pub cleared_again : (standard : Bool) (p : Pattern) (n : ℕ) (before counts after : List ℕ) → n ≡ triangle p.vertex_count → Cleared standard before
    → Counts standard (own_rows standard p) before counts → ClearsRows standard n counts after → Cleared standard after
cleared_again true p n before counts after e clear c gone = λ o. elim (lt_or_le o n) [
  | inl l ↦ (gone o).0 l
  | inr g ↦ (gone o).1 g ∙ elim (lt_or_le o (length counts)) [
    | inl l ↦ omega (arith, c o l, clear o, no_column p o (subst (λ (m : ℕ). m ≤ o) e g))
    | inr h ↦ get_or-eq_default counts 0 h
  ]
]
cleared_again false p n before counts after e clear c gone = tt

-- Offsets and tables in file order, as loops and calls write them.
use Prim.Native.Nat.{ℕ, zero, suc, ◌+◌, ◌-◌, ◌*◌, ◌≤◌, ◌<◌}
use native.Mathlib.Omega.{arith}
use native.Mathlib.Numerals.{add-one}
use mathlib.Core.Path.{◌≡◌, refl, sym, ap, ◌∙◌}
use mathlib.Core.List.{List, [], ◌∷◌, ◌++◌, map, append_assoc}
use native.Mathlib.Nat.{mul-le-mul}
use lib.ListN.{length, get_or, take, drop, replicate, drop_of_length-le}
use lib.Seq.{drop-cons}
use lib.Dec.{lit<}
use Rattle.layout.specs.General.Lists.{written, Below}
use Rattle.layout.specs.Files.File.{widths, products, aligned, offsets_from, end_from, laid_from}
use Rattle.layout.proofs.Lists.Starts.{length-written}
use Rattle.layout.proofs.Lists.Buffers.{written_after, length_tail}
use Rattle.layout.proofs.Numbers.Bytes.{each_below}
use Rattle.layout.proofs.Files.Offsets.{end_from_lem, length-laid}

-- ---- sizes

pub product_at : (ws ks : List ℕ) (i : ℕ) → i < length ws → i < length ks → get_or (products ws ks) i 0 ≡ get_or ws i 0 * get_or ks i 0
product_at [] ks i l h = absurd (omega arith)
product_at (w ∷ ws) [] i l h = absurd (omega arith)
product_at (w ∷ ws) (k ∷ ks) zero l h = refl
product_at (w ∷ ws) (k ∷ ks) (suc i) l h = product_at ws ks i (omega arith) (omega arith)

pub length-products : (ws ks : List ℕ) → length ks ≡ length ws → length (products ws ks) ≡ length ws
length-products [] ks e = refl
length-products (w ∷ ws) [] e = absurd (omega arith)
length-products (w ∷ ws) (k ∷ ks) e = ap suc (length-products ws ks (omega arith))

widths-few : Below 9 widths
widths-few =
    each_below 9 widths
    (lit< tt, (lit< tt, (lit< tt, (lit< tt, (lit< tt, (lit< tt, (lit< tt, (lit< tt, (lit< tt, (lit< tt, (lit< tt, tt)))))))))))

-- a bound on the bytes of a table whose length is a u32
pub size_most : (ks : List ℕ) (i : ℕ) → i < 11 → get_or ks i 0 < 4294967296 → get_or widths i 0 * get_or ks i 0 ≤ 34359738360
size_most ks i l h = mul-le-mul {n₂ = 8} {m₂ = 4294967295} (omega (arith, widths-few i l)) (omega arith)

-- ---- offsets, table by table

pub length_offsets : (a : ℕ) (ks : List ℕ) → length (offsets_from a ks) ≡ length ks
length_offsets a [] = refl
length_offsets a (k ∷ ks) = ap suc (length_offsets (aligned a + k) ks)

module _ (a : ℕ) (ks : List ℕ) (i : ℕ) (l : i < length ks) where
  left : drop i ks ≡ get_or ks i 0 ∷ drop (i + 1) ks
  left = drop-cons ks i 0 l ∙ ap (λ (j : ℕ). get_or ks i 0 ∷ drop j ks) (sym (add-one i))

  -- the end of the file, computed from the end of table i
  pub end_step : end_from a (drop i ks) ≡ end_from (aligned a + get_or ks i 0) (drop (i + 1) ks)
  end_step = ap (end_from a) left

  pub end_later : aligned a ≤ end_from a (drop i ks)
  end_later = omega (arith, end_step, end_from_lem (aligned a + get_or ks i 0) (drop (i + 1) ks))

  -- table i begins at the first offset not yet written, and the other offsets follow from its end
  pub offset_here : (os : List ℕ) → i < length os → drop i os ≡ offsets_from a (drop i ks)
      → (get_or os i 0 ≡ aligned a) × (drop (i + 1) os ≡ offsets_from (aligned a + get_or ks i 0) (drop (i + 1) ks))
  offset_here os h e =
      let both : get_or os i 0 ∷ drop (i + 1) os ≡ aligned a ∷ offsets_from (aligned a + get_or ks i 0) (drop (i + 1) ks) =
      sym (drop-cons os i 0 h ∙ ap (λ (j : ℕ). get_or os i 0 ∷ drop j os) (sym (add-one i))) ∙ e ∙ ap (offsets_from a) left in
      (ap (λ (xs : List ℕ). get_or xs 0 0) both, ap (drop 1) both)

pub end_done : (a : ℕ) (ks : List ℕ) (i : ℕ) → length ks ≤ i → end_from a (drop i ks) ≡ a
end_done a ks i l = ap (end_from a) (drop_of_length-le ks {i = i} l)

-- ---- tables followed by further tables

end_then : (a : ℕ) (ts us : List (List ℕ)) → end_from a (map length (ts ++ us)) ≡ end_from (end_from a (map length ts)) (map length us)
end_then a [] us = refl
end_then a (t ∷ ts) us = end_then (aligned a + length t) ts us

laid_then : (a : ℕ) (ts us : List (List ℕ)) → laid_from a (ts ++ us) ≡ laid_from a ts ++ laid_from (end_from a (map length ts)) us
laid_then a [] us = refl
laid_then a (t ∷ ts) us =
    let gap : List ℕ = replicate (aligned a - a) 0 in
    let rest : List ℕ = laid_from (aligned a + length t) ts in
    let more : List ℕ = laid_from (end_from (aligned a + length t) (map length ts)) us in
    ap (λ (l : List ℕ). gap ++ (t ++ l)) (laid_then (aligned a + length t) ts us)
    ∙ ap (λ (l : List ℕ). gap ++ l) (sym (append_assoc t rest more)) ∙ sym (append_assoc gap (t ++ rest) more)

-- some of the tables end no later than all of them
pub end_before : (a : ℕ) (ts us : List (List ℕ)) → end_from a (map length ts) ≤ end_from a (map length (ts ++ us))
end_before a ts us = rw (end_then a ts us) (end_from_lem (end_from a (map length ts)) (map length us))

-- a bound on the end of all tables also bounds the end of some
pub end_low : (n a : ℕ) (ts us : List (List ℕ)) (e : ℕ) → e ≡ end_from a (map length ts) → end_from a (map length (ts ++ us)) < n → e < n
end_low n a ts us e at low = omega (arith, at, low, end_before a ts us)

-- writing tables keeps the length of the output
pub laid-length : (a : ℕ) (ts : List (List ℕ)) (old : List ℕ) {ws : List ℕ} → end_from a (map length ts) ≤ a + length old
    → ws ≡ written (laid_from a ts) old → length ws ≡ length old
laid-length a ts old {ws} room f = ap length f ∙ length-written (laid_from a ts) old (omega (arith, length-laid a ts, room))

-- the rest of the output begins within it
pub laid-inside : (a : ℕ) (ts : List (List ℕ)) (old ws : List ℕ) (e : ℕ) → e ≡ end_from a (map length ts)
    → end_from a (map length ts) ≤ a + length old → length ws ≡ length old → (a ≤ e) × (e - a ≤ length ws)
laid-inside a ts old ws e at room same = (omega (arith, at, end_from_lem a (map length ts)), omega (arith, at, room, same))

pub laid-room : (a : ℕ) (ts us : List (List ℕ)) (old ws : List ℕ) (e : ℕ) → e ≡ end_from a (map length ts)
    → end_from a (map length (ts ++ us)) ≤ a + length old → length ws ≡ length old
    → end_from e (map length us) ≤ e + length (take (length ws - (e - a)) (drop (e - a) ws))
laid-room a ts us old ws e at room same =
    let whole : end_from e (map length us) ≤ a + length old = rw at (rw (end_then a ts us) at room) in
    omega (arith, at, whole, same, length_tail ws (e - a), end_from_lem a (map length ts), end_from_lem e (map length us))

-- writing tables ts and then, after them, tables us writes ts ++ us
pub laid-after : (a : ℕ) (ts us : List (List ℕ)) (old : List ℕ) {ws vs : List ℕ} (e : ℕ) → e ≡ end_from a (map length ts)
    → end_from a (map length (ts ++ us)) ≤ a + length old
    → ws ≡ written (laid_from a ts) old → vs ≡ written (laid_from e us) (take (length ws - (e - a)) (drop (e - a) ws))
    → take (e - a) ws ++ (vs ++ drop (length ws - (e - a)) (drop (e - a) ws)) ≡ written (laid_from a (ts ++ us)) old
laid-after a ts us old {ws} {vs} e at room f g =
    let first = length-laid a ts in
    let second = length-laid e us in
    let whole : end_from e (map length us) ≤ a + length old = rw at (rw (end_then a ts us) at room) in
    written_after (laid_from a ts) (laid_from e us) old (e - a) (omega (arith, at, first))
    (omega (arith, at, first, second, whole, end_from_lem a (map length ts))) f g
    ∙ ap (λ (l : List ℕ). written l old) (ap (λ (k : ℕ). laid_from a ts ++ laid_from k us) at ∙ sym (laid_then a ts us))

-- The lifetimes of a signature, by index.
--     span i k         the k numbers i, i + 1, …
--     lft, share       lifetime j of n, and the share of its token
--     lfts, shares, tokens_of      those at the indices ks, and their tokens.        all-alive     those of all lifetimes
use Prim.Native.Nat.{ℕ, zero, suc}
use mathlib.Core.Path.{◌≡◌, refl, sym, ap, ◌∙◌}
use mathlib.Core.List.{List, [], ◌∷◌}
use lib.ListN.{length}
use seplogic.Ra.Ura.{Ura}
use base.Fraction.{full_share}
use base.Logic.{sep}
use base.Fml.{Lft, Share, flft}
use types.Logic.{Logic}
use contract.Lifetimes.{Lfts, Shares, toks}
use types.Kit.{Item, ‵, mean}
use Rattle.entries_proofs.proofs.Stars.{tokens}

abbrev pub span : ℕ → ℕ → List ℕ
span i zero = []
span i (suc k) = i ∷ span (suc i) k

abbrev pub lft : (n : ℕ) → Lfts n → ℕ → Lft
lft zero κs j = []
lft (suc n) κs zero = κs.0
lft (suc n) κs (suc j) = lft n κs.1 j

abbrev pub share : (n : ℕ) → Shares n → ℕ → Share
share zero qs j = full_share
share (suc n) qs zero = qs.0
share (suc n) qs (suc j) = share n qs.1 j

abbrev pub lfts : (n : ℕ) → Lfts n → (ks : List ℕ) → Lfts (length ks)
lfts n κs [] = tt
lfts n κs (k ∷ ks) = (lft n κs k, lfts n κs ks)

abbrev pub shares : (n : ℕ) → Shares n → (ks : List ℕ) → Shares (length ks)
shares n qs [] = tt
shares n qs (k ∷ ks) = (share n qs k, shares n qs ks)

abbrev pub tokens_of : {M : Type 1} {𝓤 : Ura M} (n : ℕ) → Lfts n → Shares n → List ℕ → List (Item 𝓤)
tokens_of n κs qs [] = []
tokens_of n κs qs (k ∷ ks) = ‵ (flft (lft n κs k) (share n qs k)) ∷ tokens_of n κs qs ks

module _ {M : Type 1} {𝓤 : Ura M} (𝓛 : Logic 𝓤) where
  open 𝓛 use {A}

  shifted : (n : ℕ) (κs : Lfts (suc n)) (qs : Shares (suc n)) (i k : ℕ) → tokens_of {𝓤 = 𝓤} (suc n) κs qs (span (suc i) k) ≡ tokens_of n κs.1 qs.1 (span i k)
  shifted n κs qs i zero = refl
  shifted n κs qs i (suc k) = ap (λ (is : List (Item 𝓤)). ‵ (flft (lft n κs.1 i) (share n qs.1 i)) ∷ is) (shifted n κs qs (suc i) k)

  -- the tokens of all lifetimes, as a signature has them
  pub all-alive : (n : ℕ) (κs : Lfts n) (qs : Shares n) → toks 𝓛 n κs qs ≡ mean 𝓛 (tokens (tokens_of n κs qs (span 0 n)))
  all-alive zero κs qs = refl
  all-alive (suc n) κs qs = ap (sep 𝓤 (A.lft κs.0 qs.0)) (all-alive n κs.1 qs.1 ∙ ap (λ (is : List (Item 𝓤)). mean 𝓛 (tokens is)) (sym (shifted n κs qs 0 n)))

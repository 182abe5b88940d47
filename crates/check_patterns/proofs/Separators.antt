-- The walk over separators and blocks: the totals so far, and those of the cliques left.
use Prim.Native.Nat.{ℕ, ◌+◌, ◌-◌, ◌*◌, ◌≤◌, ◌<◌}
use native.Mathlib.Omega.{arith}
use mathlib.Core.Path.{◌≡◌, refl, sym, ap, subst, ◌∙◌}
use mathlib.Core.Bool.{Bool, true, false, ◌&&◌}
use mathlib.Core.List.{List, ◌∷◌, map}
use lib.ListN.{length, take, drop}
use lib.Dec.{leb}
use borrow.Author.Tests.{leb-true}
use Rattle.layout.specs.General.Lists.{all, sum}
use Rattle.layout.specs.General.Triangle.{triangle}
use Rattle.layout.specs.Problems.Patterns.{block_size, read_clique, read_cliques}
use Rattle.supernode_tree.specs.Sizes.{dim_of, overlaps_of}
use Rattle.supernode_tree.specs.Reads.{is_whole, Whole, rest, cliques_from, clique_of, clique_read, CliqueInside}
use Rattle.supernode_tree.specs.declared.Clique.{Clique as CliqueAt}
use Rattle.std.specs.Prelude.{Some}
use Rattle.supernode_tree.specs.declared.Pattern.{Pattern as PatternAt}
use Rattle.supernode_tree.proofs.Cliques.{whole-next, rest-next, rest-none, from_next, from-none, separator-part, separator-size, block_size_lem, clique_goes, clique_stops}
use Rattle.supernode_tree.proofs.Sizes.{triangle-small, sum-cons, sum-none}
use Rattle.check_cliques.specs.Trees.{separator_below}
use Rattle.check_patterns.specs.Accepted.{cliques_of, separator_fits, separators_fit, SeparatorsHold}
use Rattle.check_patterns.proofs.Walked.{and_parts}
use Rattle.check_patterns.specs.declared.Blocks.{Blocks}

-- `left` cliques are left from offset `b.next` on: they are complete, decide whether all separators fit, and make up what is missing in the totals of b
pub record Seen (ws : List ℕ) (p : PatternAt) (b : Blocks) (left : ℕ) : Type 0 where
  pub stand : Whole ws b.next left
  pub later : separators_fit p.vertex_count (cliques_of ws p) ≡ all (separator_fits p.vertex_count (cliques_of ws p)) (cliques_from ws b.next left)
  pub dim : b.dim + sum (map dim_of (cliques_from ws b.next left)) ≡ sum (map dim_of (cliques_of ws p))
  pub overlaps : b.overlaps + sum (map overlaps_of (cliques_from ws b.next left)) ≡ sum (map overlaps_of (cliques_of ws p))
  pub few-rows : b.dim + left * 32896 ≤ p.clique_count * 32896
  pub few-overlaps : b.overlaps + left * 32896 ≤ p.clique_count * 32896
  pub after : rest (read_cliques p.clique_count (drop p.cliques ws)) ≡ rest (read_cliques left (drop b.next ws))
  pub inside : b.next ≤ length ws
  pub past : 0 < b.next

pub seen_none : (ws : List ℕ) (p : PatternAt) (b : Blocks) → Whole ws p.cliques p.clique_count → (0 < p.cliques) × (p.cliques ≤ length ws)
    → (b.next ≡ p.cliques) × (b.dim ≡ 0) × (b.overlaps ≡ 0) → Seen ws p b p.clique_count
seen_none ws p b w l e =
    let n = sym e.0 in
    record {
      stand = ap (λ (i : ℕ). is_whole (read_cliques p.clique_count (drop i ws))) e.0 ∙ w;
      later = ap (λ (i : ℕ). all (separator_fits p.vertex_count (cliques_of ws p)) (cliques_from ws i p.clique_count)) n;
      dim = omega (arith, e.1, ap (λ (i : ℕ). sum (map dim_of (cliques_from ws i p.clique_count))) e.0);
      overlaps = omega (arith, e.2, ap (λ (i : ℕ). sum (map overlaps_of (cliques_from ws i p.clique_count))) e.0);
      few-rows = omega (arith, e.1);
      few-overlaps = omega (arith, e.2);
      after = ap (λ (i : ℕ). rest (read_cliques p.clique_count (drop i ws))) n;
      inside = omega (arith, e.0, l.1);
      past = omega (arith, e.0, l.0);
    }

abbrev made : ℕ → ℕ → ℕ → Blocks
made n d o = record { next = n; dim = d; overlaps = o }

same_blocks : (r b : Blocks) → r.next ≡ b.next → r.dim ≡ b.dim → r.overlaps ≡ b.overlaps → r ≡ b
same_blocks r b n d o =
    ap (λ (i : ℕ). made i r.dim r.overlaps) n ∙ ap (λ (i : ℕ). made b.next i r.overlaps) d ∙ ap (λ (i : ℕ). made b.next b.dim i) o

-- a separator starts before it ends, inside the words
pub block-fits : (ws : List ℕ) (at : ℕ) (q : CliqueAt) → CliqueInside (length ws) at (Some q) → (q.separator ≤ q.next) × (q.next ≤ length ws)
block-fits ws at q inside = (omega (arith, inside.2), inside.3)

module _ (ws : List ℕ) (p : PatternAt) (b : Blocks) (left : ℕ) (s : Seen ws p b left) where
  module _ (more : 0 < left) where
    fits : (d : ℕ) → d + left * 32896 ≤ p.clique_count * 32896 → p.clique_count < 4294967296 → d + 32896 < 18446744073709551616
    fits d l h = omega arith

    pub fits_more : p.clique_count < 4294967296 → (b.dim + 32896 < 18446744073709551616) × (b.overlaps + 32896 < 18446744073709551616)
    fits_more h = (fits b.dim s.few-rows h, fits b.overlaps s.few-overlaps h)

    less : (d t k : ℕ) → t ≤ 32896 → d + left * 32896 ≤ k → d + t + (left - 1) * 32896 ≤ k
    less d t k h l = omega arith

    module _ (q : CliqueAt) (e : clique_read ws (Some q) ≡ read_clique (drop b.next ws)) (inside : CliqueInside (length ws) b.next (Some q))
        (r : Bool) (so : r ≡ (leb (q.snode_count + q.separator_count) 256 && separator_below p.vertex_count (cliques_of ws p) q.parent (take (q.next - q.separator) (drop q.separator ws)))) where
      -- the result is whether the clique's separator fits
      fit : r ≡ separator_fits p.vertex_count (cliques_of ws p) (clique_of ws q)
      fit =
          so ∙ ap (λ (n : ℕ). leb n 256 && separator_below p.vertex_count (cliques_of ws p) q.parent (take (q.next - q.separator) (drop q.separator ws))) (sym (block_size_lem ws b.next q inside))
          ∙ ap (λ (us : List ℕ). leb (block_size (clique_of ws q)) 256 && separator_below p.vertex_count (cliques_of ws p) q.parent us) (separator-part ws b.next q inside)

      pub fits-small : r ≡ true → q.snode_count + q.separator_count ≤ 256
      fits-small held = leb-true _ _ (and_parts (leb (q.snode_count + q.separator_count) 256) _ (sym so ∙ held)).0

      pub seen_stops : r ≡ false → separators_fit p.vertex_count (cliques_of ws p) ≡ false
      seen_stops fell = clique_stops ws b.next left (Some q) e more q refl s.stand (separator_fits p.vertex_count (cliques_of ws p)) _ r s.later fit fell

      first : cliques_from ws b.next left ≡ clique_of ws q ∷ cliques_from ws q.next (left - 1)
      first = from_next ws b.next left (Some q) e more q refl s.stand

      abbrev beside : Blocks
      beside = made q.next (b.dim + triangle (q.snode_count + q.separator_count)) (b.overlaps + triangle q.separator_count)

      seen : r ≡ true → Seen ws p beside (left - 1)
      seen held = record {
        stand = sym (whole-next ws b.next left (Some q) e more q refl) ∙ s.stand;
        later = clique_goes ws b.next left (Some q) e more q refl s.stand (separator_fits p.vertex_count (cliques_of ws p)) _ r s.later fit held;
        dim = sum-cons dim_of (clique_of ws q) (cliques_from ws q.next (left - 1)) _ b.dim (triangle (q.snode_count + q.separator_count)) _ first (ap triangle (sym (block_size_lem ws b.next q inside))) s.dim;
        overlaps = sum-cons overlaps_of (clique_of ws q) (cliques_from ws q.next (left - 1)) _ b.overlaps (triangle q.separator_count) _ first (ap triangle (sym (separator-size ws b.next q inside))) s.overlaps;
        few-rows = less b.dim (triangle (q.snode_count + q.separator_count)) _ (triangle-small (q.snode_count + q.separator_count) (fits-small held)) s.few-rows;
        few-overlaps = less b.overlaps (triangle q.separator_count) _ (triangle-small q.separator_count (omega (arith, fits-small held))) s.few-overlaps;
        after = s.after ∙ rest-next ws b.next left (Some q) e more q refl;
        inside = inside.3;
        past = omega (arith, inside.0, inside.1, inside.2);
      }

      pub seen_more : r ≡ true → (r : Blocks)
          → (r.next ≡ q.next) × (r.dim ≡ b.dim + triangle (q.snode_count + q.separator_count)) × (r.overlaps ≡ b.overlaps + triangle q.separator_count)
          → Seen ws p r (left - 1)
      seen_more held r a = subst (λ (x : Blocks). Seen ws p x (left - 1)) (sym (same_blocks r beside a.0 a.1 a.2)) (seen held)

  pub seen_all : left ≤ 0 → SeparatorsHold ws p b
  seen_all z =
      let none = from-none ws b.next left z in
      record {
        after = s.after ∙ rest-none ws b.next left z;
        inside = s.inside;
        right = s.later ∙ ap (all (separator_fits p.vertex_count (cliques_of ws p))) none;
        dim = sum-none dim_of (cliques_from ws b.next left) b.dim _ none s.dim;
        overlaps = sum-none overlaps_of (cliques_from ws b.next left) b.overlaps _ none s.overlaps;
        few-rows = omega (arith, s.few-rows);
        few-overlaps = omega (arith, s.few-overlaps);
      }

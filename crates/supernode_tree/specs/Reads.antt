-- The cliques and patterns that offsets into the words represent.
use Rattle.std.specs.Prelude.{ℕ, ◌+◌, ◌-◌, ◌≤◌, ◌<◌, ◌≡◌, Bool, true, false, List, [], length, take, drop, Option, Some, None}
use Rattle.layout.specs.Problems.Patterns as P
use Rattle.layout.specs.Problems.Patterns.{Read, read, short, Head}
use Rattle.supernode_tree.specs.declared.Clique.{Clique}
use Rattle.supernode_tree.specs.declared.Members.{Members}
use Rattle.supernode_tree.specs.declared.Pattern.{Pattern}

abbrev pub clique_of : List ℕ → Clique → P.Clique
clique_of ws c = record {
  parent = c.parent;
  snode = take c.snode_count (drop c.snode ws);
  separator = take c.separator_count (drop c.separator ws);
}

abbrev pub clique_read : List ℕ → Option Clique → Read P.Clique
clique_read ws (Some c) = read (clique_of ws c) (drop c.next ws)
clique_read ws None = short

-- a clique's parts follow each other from offset `at` on, and end within n words
abbrev pub CliqueInside : ℕ → ℕ → Option Clique → Type 0
CliqueInside n at (Some c) =
    (c.snode ≡ at + 3) × (c.separator ≡ c.snode + c.snode_count) × (c.next ≡ c.separator + c.separator_count) × (c.next ≤ n)
CliqueInside n at None = Unit {0}

-- ---- a pattern's head: all but its cliques

abbrev pub head_of : List ℕ → Pattern → Head
head_of ws p = record {
  orig_index = p.orig_index;
  vertex_count = p.vertex_count;
  clique_count = p.clique_count;
  ordering = take p.vertex_count (drop p.ordering ws);
}

abbrev pub pattern_read : List ℕ → Option Pattern → Read Head
pattern_read ws (Some p) = read (head_of ws p) (drop p.cliques ws)
pattern_read ws None = short

-- a pattern's parts follow each other from offset `at` on, and end within n words; the vertex count fits in a word
abbrev pub PatternInside : ℕ → ℕ → Option Pattern → Type 0
PatternInside n at (Some p) =
    (p.ordering ≡ at + 3) × (p.cliques ≡ p.ordering + p.vertex_count) × (p.cliques ≤ n) × (p.vertex_count < 4294967296)
PatternInside n at None = Unit {0}

-- ---- the pattern at an offset

module _ {A : Type 0} where
  abbrev pub value_or : A → Read A → A
  value_or d (read a ws) = a
  value_or d short = d

-- the pattern at an offset; where the words end early, one that checks 6 and 7 refuse
abbrev pub pattern_at : List ℕ → ℕ → P.Pattern
pattern_at ws at = value_or P.no_pattern (P.read_pattern (drop at ws))

-- the clique at an offset; an incomplete one is read as one without vertices
abbrev pub clique_here : List ℕ → ℕ → P.Clique
clique_here ws at = value_or P.no_clique (P.read_clique (drop at ws))

-- ---- cliques from an offset on

module _ {A : Type 0} where
  abbrev pub is_whole : Read A → Bool
  is_whole (read a ws) = true
  is_whole short = false

  -- the words after what is read
  abbrev pub rest : Read A → List ℕ
  rest (read a ws) = ws
  rest short = []

  -- whether something is read, and the words after it, without what is read
  abbrev pub ended : Read A → Read (Unit {0})
  ended (read a ws) = read tt ws
  ended short = short

abbrev pub end_read : List ℕ → Option ℕ → Read (Unit {0})
end_read ws (Some at) = read tt (drop at ws)
end_read ws None = short

-- k complete cliques start at the offset
abbrev pub Whole : List ℕ → ℕ → ℕ → Type 0
Whole ws at k = is_whole (P.read_cliques k (drop at ws)) ≡ true

abbrev pub cliques_from : List ℕ → ℕ → ℕ → List P.Clique
cliques_from ws at k = value_or [] (P.read_cliques k (drop at ws))

-- us are the words from `m.start` to `m.end`
abbrev pub MembersOf : List ℕ → List ℕ → Members → Type 0
MembersOf ws us m = (take (m.end - m.start) (drop m.start ws) ≡ us) × (m.start ≤ m.end) × (m.end ≤ length ws)

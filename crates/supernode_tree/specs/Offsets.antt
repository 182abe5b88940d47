-- The offsets of cliques in the words.
use Rattle.std.specs.Prelude.{ℕ, suc, ◌*◌, ◌<◌, ◌≡◌, List, get_or, drop}
use Rattle.layout.specs.Problems.Patterns.{read, no_clique, read_clique, read_cliques}
use Rattle.supernode_tree.specs.Reads.{rest, cliques_from}

-- offset i is that of clique i · step, of k from `first` on: the words there are those after i · step cliques
abbrev pub OffsetsEvery : ℕ → List ℕ → ℕ → ℕ → List ℕ → Type 0
OffsetsEvery step ws first k offsets =
    (i : ℕ) → i * step < k → drop (get_or offsets i 0) ws ≡ rest (read_cliques (i * step) (drop first ws))

-- clique c is read at offset c
abbrev pub OffsetsOf : List ℕ → ℕ → ℕ → List ℕ → Type 0
OffsetsOf ws first k offsets =
    (c : ℕ) → c < k
    → read_clique (drop (get_or offsets c 0) ws) ≡ read (get_or (cliques_from ws first k) c no_clique) (rest (read_cliques (suc c) (drop first ws)))

-- A pattern read from its words: orig_index, vertex count, clique count, the ordering, then for each clique
-- its parent, snode count, separator count, snode members and separator members.
use Rattle.std.specs.Prelude.{ℕ, zero, suc, ◌+◌, Bool, true, false, cond, List, [], ◌∷◌, ◌++◌, map, length, get_or, take, drop, leb}
use Rattle.layout.specs.General.Lists.{has, keep, below, up_from, join, place_of}

abbrev pub no_parent : ℕ
no_parent = 4294967295

pub record Clique : Type 0 where
  pub parent : ℕ
  pub snode : List ℕ
  pub separator : List ℕ

pub record Pattern : Type 0 where
  pub orig_index : ℕ
  pub vertex_count : ℕ
  pub ordering : List ℕ
  pub cliques : List Clique

-- the result of a read: the value and the words after it, or `short` where the words end early
pub data Read (A : Type 0) : Type 0 where
  read : A → List ℕ → Read A
  short : Read A

module _ {A B : Type 0} where
  abbrev pub and_then : Read A → (A → List ℕ → Read B) → Read B
  and_then (read a ws) f = f a ws
  and_then short f = short

abbrev pub read_members : ℕ → List ℕ → Read (List ℕ)
read_members k ws = cond (leb k (length ws)) (read (take k ws) (drop k ws)) short

abbrev pub read_clique : List ℕ → Read Clique
read_clique [] = short
read_clique (p ∷ []) = short
read_clique (p ∷ a ∷ []) = short
read_clique (p ∷ a ∷ e ∷ ws) =
    and_then (read_members a ws) λ snode rest. and_then (read_members e rest) λ separator left.
    read (record { parent = p; snode = snode; separator = separator }) left

-- k values, read one after the other
module _ {A : Type 0} where
  abbrev pub read_many : (List ℕ → Read A) → ℕ → List ℕ → Read (List A)
  read_many one zero ws = read [] ws
  read_many one (suc k) ws = and_then (one ws) λ a rest. and_then (read_many one k rest) λ more left. read (a ∷ more) left

abbrev pub read_cliques : ℕ → List ℕ → Read (List Clique)
read_cliques k ws = read_many read_clique k ws

-- a pattern's head: everything before its cliques
pub record Head : Type 0 where
  pub orig_index : ℕ
  pub vertex_count : ℕ
  pub clique_count : ℕ
  pub ordering : List ℕ

abbrev pub read_head : List ℕ → Read Head
read_head [] = short
read_head (o ∷ []) = short
read_head (o ∷ v ∷ []) = short
read_head (o ∷ v ∷ k ∷ ws) =
    and_then (read_members v ws) λ ordering rest.
    read (record { orig_index = o; vertex_count = v; clique_count = k; ordering = ordering }) rest

abbrev pub with_cliques : Head → List Clique → Pattern
with_cliques h cs = record { orig_index = h.orig_index; vertex_count = h.vertex_count; ordering = h.ordering; cliques = cs }

abbrev pub read_pattern : List ℕ → Read Pattern
read_pattern ws = and_then (read_head ws) λ h rest. and_then (read_cliques h.clique_count rest) λ cs left. read (with_cliques h cs) left

abbrev pub read_patterns : ℕ → List ℕ → Read (List Pattern)
read_patterns k ws = read_many read_pattern k ws

-- the value read where no words follow it, and `none` otherwise
abbrev pub wholly : {A : Type 0} → A → Read A → A
wholly none (read a []) = a
wholly none (read a (w ∷ ws)) = none
wholly none short = none

abbrev pub ends_right : {A : Type 0} → Read A → Bool
ends_right (read a []) = true
ends_right (read a (w ∷ ws)) = false
ends_right short = false

-- the `count` patterns where the words end exactly with the last of them, and no patterns otherwise
abbrev pub patterns : ℕ → List ℕ → List Pattern
patterns count ws = wholly [] (read_patterns count ws)

-- a placeholder for words that are not a pattern: checks 6 and 7 both refuse it
abbrev pub no_pattern : Pattern
no_pattern = record { orig_index = 0; vertex_count = 1; ordering = []; cliques = [] }

-- ---- cliques of a pattern

abbrev pub no_clique : Clique
no_clique = record { parent = no_parent; snode = []; separator = [] }

abbrev pub clique_count : Pattern → ℕ
clique_count p = length p.cliques

abbrev pub clique_at : Pattern → ℕ → Clique
clique_at p c = get_or p.cliques c no_clique

-- the clique's vertices: its snode, then its separator
abbrev pub members : Clique → List ℕ
members c = c.snode ++ c.separator

-- a clique's block size: Clarabel's `nblk`
abbrev pub block_size : Clique → ℕ
block_size c = length c.snode + length c.separator

-- ---- renumbering: `reorder_snode_consecutively`

-- the old vertex numbers in their new order: by clique, and increasing within a snode
abbrev pub consecutive : Pattern → List ℕ
consecutive p = join (λ c. keep (λ u. has u c.snode) (below p.vertex_count)) p.cliques

abbrev pub renumber_cliques : List ℕ → ℕ → List Clique → List Clique
renumber_cliques old k [] = []
renumber_cliques old k (c ∷ cs) =
    record { parent = c.parent; snode = up_from k (length c.snode); separator = map (λ u. place_of u old) c.separator }
    ∷ renumber_cliques old (k + length c.snode) cs

abbrev pub renumber : Pattern → Pattern
renumber p =
    let old = consecutive p in
    record {
      orig_index = p.orig_index;
      vertex_count = p.vertex_count;
      ordering = map (λ u. get_or p.ordering u 0) old;
      cliques = renumber_cliques old 0 p.cliques;
    }

-- the words of a clique and of a pattern
abbrev pub clique_words : Clique → List ℕ
clique_words c = c.parent ∷ length c.snode ∷ length c.separator ∷ (c.snode ++ c.separator)

abbrev pub pattern_words_of : Pattern → List ℕ
pattern_words_of p = p.orig_index ∷ p.vertex_count ∷ length p.cliques ∷ (p.ordering ++ join clique_words p.cliques)

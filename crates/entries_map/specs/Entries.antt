-- The cone map's entries as structs: the entry of layout that a struct represents, and its words.
use Rattle.std.specs.Prelude.{ℕ, ◌+◌, ◌*◌, cond, List, [], ◌∷◌, get_or, eqb, Option, Some, None}
use Rattle.layout.specs.Cuts.Compact.{MapEntry, whole_cone, block_of, no_pattern_number}
use Rattle.layout.specs.General.Lists.{join}
use Rattle.entries_map.specs.declared.ConeMapEntry.{ConeMapEntry}

-- ---- structs and the entries that they represent

abbrev pub entry_of : ℕ → Option (ℕ × ℕ) → ℕ → ℕ → MapEntry
entry_of i None first rows = whole_cone i first rows
entry_of i (Some (k, c)) first rows = block_of i k c first rows

abbrev pub meant : ConeMapEntry → MapEntry
meant e = entry_of e.orig_index e.tree_and_clique e.first_row e.row_count

abbrev pub struct_of : MapEntry → ConeMapEntry
struct_of (whole_cone i first rows) = record { orig_index = i; tree_and_clique = None; first_row = first; row_count = rows }
struct_of (block_of i k c first rows) = record { orig_index = i; tree_and_clique = Some (k, c); first_row = first; row_count = rows }

-- ---- words

abbrev pub pattern_word : Option (ℕ × ℕ) → ℕ
pattern_word None = no_pattern_number
pattern_word (Some (k, c)) = k

-- the clique's word; for a pattern number equal to the no-pattern mark it is 1, which no entry without a pattern has
abbrev pub clique_word : Option (ℕ × ℕ) → ℕ
clique_word None = 0
clique_word (Some (k, c)) = cond (eqb k no_pattern_number) 1 c

abbrev pub struct_words : ConeMapEntry → List ℕ
struct_words e = e.orig_index ∷ pattern_word e.tree_and_clique ∷ clique_word e.tree_and_clique ∷ e.first_row ∷ e.row_count ∷ []

-- the words of all entries of a map
abbrev pub all_words : List ConeMapEntry → List ℕ
all_words ys = join struct_words ys

-- pattern and clique from their words
abbrev pub tree_of : ℕ → ℕ → Option (ℕ × ℕ)
tree_of k c = cond (eqb k no_pattern_number) None (Some (k, c))

abbrev pub struct_at : List ℕ → ℕ → ConeMapEntry
struct_at ws k = record {
  orig_index = get_or ws (k * 5) 0;
  tree_and_clique = tree_of (get_or ws (k * 5 + 1) 0) (get_or ws (k * 5 + 2) 0);
  first_row = get_or ws (k * 5 + 3) 0;
  row_count = get_or ws (k * 5 + 4) 0;
}

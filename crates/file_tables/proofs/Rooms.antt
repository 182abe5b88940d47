-- What the reader's number says about its outputs: if it is not 0 they are unchanged, and if it is 0 each is long enough.
use Prim.Native.Nat.{ℕ, suc, ◌*◌, ◌≤◌}
use native.Mathlib.Omega.{arith}
use mathlib.Core.Path.{◌≡◌}
use mathlib.Core.List.{List, ◌∷◌}
use lib.ListN.{length}
use Rattle.layout.specs.Calls.Answers.{roomy}
use Rattle.layout.specs.Files.File.{counts_in, counted_lengths}
use Rattle.layout.specs.Files.FileWords.{words_failing}
use Rattle.layout.specs.Calls.ReadFile.{FileOutputs, file_rooms, HoldsFile, read_words_refusal}
use Rattle.layout.proofs.Lists.Tests.{and_iff, leb_iff}
use Rattle.layout.proofs.Promises.{output-kept, none-refused}
use Rattle.file_shape.specs.Parts.{WellShaped}
use Rattle.file_shape.proofs.Parts.{accepted-stands}

-- a reader that refuses leaves every output unchanged
pub file_kept : (r : ℕ) (new old : FileOutputs) → (r ≡ 0 → ⊥) → HoldsFile r new old old
file_kept r new old h = record {
  counts = output-kept r _ _ h;
  p_starts = output-kept r _ _ h;
  p_rows = output-kept r _ _ h;
  p_values = output-kept r _ _ h;
  q = output-kept r _ _ h;
  a_starts = output-kept r _ _ h;
  a_rows = output-kept r _ _ h;
  a_values = output-kept r _ _ h;
  b = output-kept r _ _ h;
  cones = output-kept r _ _ h;
  alphas = output-kept r _ _ h;
  pattern_words = output-kept r _ _ h;
}

-- if the reader returns 0, the words pass its checks and each output is long enough

pub record RoomsFit (ws : List ℕ) (o : FileOutputs) : Type 0 where
  pub counts : 8 ≤ length o.counts
  pub p_starts : suc (counts_in ws).n ≤ length o.p_starts
  pub p_rows : (counts_in ws).entries_p ≤ length o.p_rows
  pub p_values : (counts_in ws).entries_p ≤ length o.p_values
  pub q : (counts_in ws).n ≤ length o.q
  pub a_starts : suc (counts_in ws).n ≤ length o.a_starts
  pub a_rows : (counts_in ws).entries_a ≤ length o.a_rows
  pub a_values : (counts_in ws).entries_a ≤ length o.a_values
  pub b : (counts_in ws).m ≤ length o.b
  pub cones : 3 * (counts_in ws).cones ≤ length o.cones
  pub alphas : (counts_in ws).alphas ≤ length o.alphas
  pub pattern_words : (counts_in ws).words ≤ length o.pattern_words

pub read_taken : (ws : List ℕ) (n : ℕ) (o : FileOutputs) → read_words_refusal ws n (file_rooms o) ≡ 0 → WellShaped ws × RoomsFit ws o
read_taken ws n o e =
    let (ok, room) = none-refused (words_failing ws n) (roomy (8 ∷ counted_lengths (counts_in ws)) (file_rooms o)) e in
    let each = simp (and_iff, leb_iff) at room in (
      accepted-stands ws n ok,
      record {
        counts = omega arith;
        p_starts = omega arith;
        p_rows = omega arith;
        p_values = omega arith;
        q = omega arith;
        a_starts = omega arith;
        a_rows = omega arith;
        a_values = omega arith;
        b = omega arith;
        cones = omega arith;
        alphas = omega arith;
        pattern_words = omega arith;
      },
    )

-- What the writer of a file makes, and its preconditions.
use Prim.Native.Nat.{ℕ, ◌+◌, ◌-◌, ◌*◌, ◌≤◌, ◌<◌}
use native.Mathlib.Omega.{arith}
use native.Mathlib.Nat.{le_trans}
use mathlib.Core.Path.{◌≡◌, sym, ap, ap₂, subst, ◌∙◌}
use mathlib.Core.Bool.{Bool, cond}
use mathlib.Core.List.{List, ◌++◌, map}
use lib.ListN.{length, get_or, take, drop}
use borrow.Author.Tests.{lt-leb, le-leb}
use Rattle.layout.specs.General.Lists.{written}
use Rattle.layout.specs.General.Bytes.{table_bytes}
use Rattle.layout.specs.Calls.Answers.{or_else, problem_refusal}
use Rattle.layout.specs.Files.File.{header_of, end_from, laid_from, BitTables, problem_of, counts_of, tables_bytes, file_of}
use Rattle.layout.specs.Calls.WriteFile.{write_refusal}
use Rattle.layout.proofs.Lists.Buffers.{written-whole, written_after, length_tail}
use Rattle.layout.proofs.Numbers.Bytes.{length-table}
use Rattle.layout.proofs.Files.Offsets.{end_from_lem, length-laid}
use Rattle.layout.proofs.Theorems.File.{file_length, written-length}

-- the header that is made, and the file's end in it
pub header_made : (t : BitTables) (old : List ℕ) {header : List ℕ} → length old ≡ 20 → header ≡ written (header_of (counts_of t)) old
    → header ≡ header_of (counts_of t)
header_made t old size e = e ∙ written-whole (header_of (counts_of t)) old size

pub header_end : (t : BitTables) → problem_refusal (problem_of t) ≡ 0 → {header : List ℕ} → header ≡ header_of (counts_of t)
    → get_or header 19 0 ≡ length (file_of t)
header_end t ok e = ap (λ (h : List ℕ). get_or h 19 0) e ∙ sym (written-length t ok).0

pub header-low : (t : BitTables) → problem_refusal (problem_of t) ≡ 0 → {header : List ℕ} → header ≡ header_of (counts_of t) → get_or header 19 0 < 4294967296
header-low t ok e = subst (λ (k : ℕ). k < 4294967296) (sym (header_end t ok e)) (written-length t ok).1

-- where the file fits in the output, so does its header
pub header-room : (t : BitTables) (room : ℕ) {header : List ℕ} → header ≡ header_of (counts_of t) → length (file_of t) ≤ room
    → (4 * length header ≤ room) × (80 ≤ room)
header-room t room {header} e l =
    let long : 80 ≤ room = le_trans (end_from_lem 80 (map length (tables_bytes t))) (subst (λ (k : ℕ). k ≤ room) (file_length t) l) in
    let size : length header ≡ 20 = ap length e in
    (omega (arith, size, long), long)

-- check 11 of the writer, where checks 1 to 7 pass
pub write_short : (t : BitTables) → problem_refusal (problem_of t) ≡ 0 → (room : ℕ) → room < length (file_of t) → 11 ≡ write_refusal t room
write_short t ok room l = sym (ap₂ (λ (k : ℕ) (b : Bool). or_else k (cond b 0 11)) ok (lt-leb (length (file_of t)) room l))

pub write_fits : (t : BitTables) → problem_refusal (problem_of t) ≡ 0 → (room : ℕ) → length (file_of t) ≤ room → 0 ≡ write_refusal t room
write_fits t ok room l = sym (ap₂ (λ (k : ℕ) (b : Bool). or_else k (cond b 0 11)) ok (le-leb (length (file_of t)) room l))

-- the tables fit in the rest of the output after the header
pub tables-room : (t : BitTables) (old ws : List ℕ) → length (file_of t) ≤ length old → length ws ≡ length old
    → end_from 80 (map length (tables_bytes t)) ≤ 80 + length (take (length ws - 80) (drop 80 ws))
tables-room t old ws room same = go (end_from 80 (map length (tables_bytes t))) (end_from_lem 80 (map length (tables_bytes t))) (subst (λ (k : ℕ). k ≤ length old) (file_length t) room)
  where
    go : (end : ℕ) → 80 ≤ end → end ≤ length old → end ≤ 80 + length (take (length ws - 80) (drop 80 ws))
    go end least most = omega (arith, same, length_tail ws 80)

pub tables-low : (t : BitTables) → problem_refusal (problem_of t) ≡ 0 → end_from 80 (map length (tables_bytes t)) < 4294967296
tables-low t ok = subst (λ (k : ℕ). k < 4294967296) (file_length t) (written-length t ok).1

-- the header's bytes followed by the tables are the file
pub file_laid : (t : BitTables) (old : List ℕ) {header ws vs : List ℕ} → header ≡ header_of (counts_of t) → length (file_of t) ≤ length old
    → ws ≡ written (table_bytes 4 header) old → vs ≡ written (laid_from 80 (tables_bytes t)) (take (length ws - 80) (drop 80 ws))
    → take 80 ws ++ (vs ++ drop (length ws - 80) (drop 80 ws)) ≡ written (file_of t) old
file_laid t old {header} e room f g =
    let front = table_bytes 4 (header_of (counts_of t)) in
    let tables = laid_from 80 (tables_bytes t) in
    let size = length-table 4 (header_of (counts_of t)) in
    written_after front tables old 80 (sym size)
    (omega (arith, size, length-laid 80 (tables_bytes t), file_length t, room))
    (f ∙ ap (λ (h : List ℕ). written (table_bytes 4 h) old) e) g

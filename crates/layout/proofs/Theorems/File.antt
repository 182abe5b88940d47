-- Problem files: a written file is read back, an accepted file is written again byte by byte, and the length of a file.
use Prim.Native.Nat.{ℕ, suc, ◌+◌, ◌*◌, ◌/◌, ◌^◌, ◌≤◌, ◌<◌}
use native.Mathlib.Omega.{arith}
use mathlib.Core.Path.{◌≡◌, refl, sym, ap, ap₂, subst, ◌∙◌}
use mathlib.Core.Logic.{◌↔◌}
use mathlib.Core.Bool.{◌&&◌}
use mathlib.Core.List.{List, [], ◌∷◌, ◌++◌, map}
use lib.ListN.{length, get_or, take, drop, length-append, length-map, length-drop, take-append-drop}
use lib.Dec.{T, leb, eqb, lit<, le→leb, leb→le, eqb→eq}
use lib.Ieee.{binary64, of_bits}
use Rattle.layout.specs.General.Lists.{Below, sum, same_numbers}
use Rattle.layout.specs.General.Floats.{floats}
use Rattle.layout.specs.General.Bytes.{table_bytes, numbers_of}
use Rattle.layout.specs.Problems.Cones.{Cone, Kind, zero_cone, nonnegative, second_order, exponential, power, gen_power, psd_triangle, no_kind, kind_of, records, nvars, row_count, alphas, alpha_count}
use Rattle.layout.specs.Checks.{Checked, problem_checks}
use Rattle.layout.specs.Calls.Answers.{or_else, room_refusal, problem_refusal}
use Rattle.layout.specs.Files.File.{HeaderCounts, count_words, counts_in, table_sizes, offsets_from, end_from, header_of, BitTables, bit_tables, problem_of, Fit, counts_of, tables_bytes, laid_from, file_of, header, table_at, tables_by, file_tables, length_right, gaps_zero, tables_right, shape_checks, shape_failing, file_failing}
use Rattle.layout.specs.Calls.WriteFile.{write_refusal}
use Rattle.layout.proofs.Lists.Tests.{and_iff, eqb_iff}
use Rattle.layout.proofs.Lists.Walks.{numbers_equal, numbers_same}
use Rattle.layout.proofs.Checks.Order.{or_else-zero, passed, none_fails, failing_append}
use Rattle.layout.proofs.Patterns.Records.{record_count_lem, whole_thirds}
use Rattle.layout.proofs.Checks.Accepted.{problem_checked, sound-whole}
use Rattle.layout.proofs.Columns.Columns.{starts-right}
use Rattle.layout.proofs.Patterns.WordCounts.{cones-few, count-few, words_most}
use Rattle.layout.proofs.Numbers.Bytes.{each_below, below-drop, below-append, length-table, length_numbers, numbers_back, table-back, numbers_fit}
use Rattle.layout.proofs.Files.Offsets.{end_from_lem, end_most, table-inside, offsets_below, length-laid, laid-at, laid_gaps, pieces_from, laid-again}

-- ---- lengths

-- the tables have the lengths that the counts give
pub record Shaped (t : BitTables) : Type 0 where
  pub p_starts : length t.p_starts ≡ suc t.n
  pub p_rows : length t.p_rows ≡ length t.p_values
  pub q : length t.q ≡ t.n
  pub a_starts : length t.a_starts ≡ suc t.n
  pub a_rows : length t.a_rows ≡ length t.a_values
  pub b : length t.b ≡ t.m
  pub cones : length t.cones ≡ 3 * (length t.cones / 3)

pub checked_shaped : (t : BitTables) → Checked (problem_of t) → Shaped t
checked_shaped t h =
    let p = problem_of t in
    let for_p = starts-right t.n p.P h.starts_p in
    let for_a = starts-right t.n p.A h.starts_a in
    record {
      p_starts = for_p.count;
      p_rows = for_p.even ∙ length-map t.p_values (of_bits binary64);
      q = sym (length-map t.q (of_bits binary64)) ∙ h.length_q;
      a_starts = for_a.count;
      a_rows = for_a.even ∙ length-map t.a_values (of_bits binary64);
      b = sym (length-map t.b (of_bits binary64)) ∙ h.length_b;
      cones = omega (arith, whole_thirds t.cones (sound-whole h.sound));
    }

-- the length of any file, and of one whose tables have the lengths that its counts give
pub file_length : (t : BitTables) → length (file_of t) ≡ end_from 80 (map length (tables_bytes t))
file_length t =
    let h = header_of (counts_of t) in
    omega (
      arith,
      length-append (table_bytes 4 h) (laid_from 80 (tables_bytes t)),
      length-table 4 h,
      length-laid 80 (tables_bytes t),
    )

module _ (t : BitTables) (s : Shaped t) where
  sized : (w : ℕ) (xs : List ℕ) (k : ℕ) → length xs ≡ k → length (table_bytes w xs) ≡ w * k
  sized w xs k e = length-table w xs ∙ ap (λ (j : ℕ). w * j) e

  shaped_sizes : map length (tables_bytes t) ≡ table_sizes (counts_of t)
  shaped_sizes = λ i.
      sized 4 t.p_starts (suc t.n) s.p_starts i ∷ sized 4 t.p_rows (length t.p_values) s.p_rows i
      ∷ length-table 8 t.p_values i ∷ sized 8 t.q t.n s.q i
      ∷ sized 4 t.a_starts (suc t.n) s.a_starts i ∷ sized 4 t.a_rows (length t.a_values) s.a_rows i
      ∷ length-table 8 t.a_values i ∷ sized 8 t.b t.m s.b i
      ∷ sized 4 t.cones (3 * (length t.cones / 3)) s.cones i ∷ length-table 8 t.alphas i ∷ length-table 4 t.pattern_words i ∷ []

  shaped_length : length (file_of t) ≡ end_from 80 (table_sizes (counts_of t))
  shaped_length = file_length t ∙ ap (end_from 80) shaped_sizes

-- ---- checks 13 and 14

shape_iff : (bs : List ℕ) → shape_failing bs ≡ 0 ↔ (T (length_right bs) × T (tables_right bs))
shape_iff bs = (
  λ e. (passed 13 (shape_checks bs) tt e, passed 14 (shape_checks bs) tt e),
  λ h. none_fails (shape_checks bs) (h.0, (h.1, tt)),
)

-- ---- a written file is read back

module _ (t : BitTables) (s : Shaped t) (f : Fit t) (few : Below 4294967296 (header_of (counts_of t))) where
  abbrev c : HeaderCounts
  c = counts_of t

  abbrev front : List ℕ
  front = table_bytes 4 (header_of c)

  header-back : header (file_of t) ≡ header_of c
  header-back = numbers_back 4 (header_of c) (laid_from 80 (tables_bytes t)) few

  front_length : length front ≡ 80
  front_length = length-table 4 (header_of c)

  found : (i : ℕ) → i < 11
      → (rest : List ℕ) × (drop (get_or (offsets_from 80 (table_sizes c)) i 0) (file_of t) ≡ get_or (tables_bytes t) i [] ++ rest)
  found i l =
      subst (λ (ks : List ℕ). (rest : List ℕ) × (drop (get_or (offsets_from 80 ks) i 0) (file_of t) ≡ get_or (tables_bytes t) i [] ++ rest))
      (shaped_sizes t s) (laid-at 80 (tables_bytes t) front front_length i l)

  table : (i w : ℕ) (xs : List ℕ) (k : ℕ) → i < 11 → get_or (tables_bytes t) i [] ≡ table_bytes w xs → Below (256 ^ w) xs → length xs ≡ k
      → numbers_of w k (drop (get_or (offsets_from 80 (table_sizes c)) i 0) (file_of t)) ≡ xs
  table i w xs k l e h n =
      let (rest, stands) = found i l in
      ap (numbers_of w k) (stands ∙ ap (λ (bs : List ℕ). bs ++ rest) e)
      ∙ subst (λ (j : ℕ). numbers_of w j (table_bytes w xs ++ rest) ≡ xs) n (numbers_back w xs rest h)

  tables-back : tables_by (header_of c) (file_of t) ≡ t
  tables-back = λ i.
      bit_tables t.n t.m
      (table 0 4 t.p_starts (suc t.n) (lit< tt) refl f.p_starts s.p_starts i)
      (table 1 4 t.p_rows (length t.p_values) (lit< tt) refl f.p_rows s.p_rows i)
      (table 2 8 t.p_values (length t.p_values) (lit< tt) refl f.p_values refl i)
      (table 3 8 t.q t.n (lit< tt) refl f.q s.q i)
      (table 4 4 t.a_starts (suc t.n) (lit< tt) refl f.a_starts s.a_starts i)
      (table 5 4 t.a_rows (length t.a_values) (lit< tt) refl f.a_rows s.a_rows i)
      (table 6 8 t.a_values (length t.a_values) (lit< tt) refl f.a_values refl i)
      (table 7 8 t.b t.m (lit< tt) refl f.b s.b i)
      (table 8 4 t.cones (3 * (length t.cones / 3)) (lit< tt) refl f.cones s.cones i)
      (table 9 8 t.alphas (length t.alphas) (lit< tt) refl f.alphas refl i)
      t.pattern_count
      (table 10 4 t.pattern_words (length t.pattern_words) (lit< tt) refl f.pattern_words refl i)

  -- tables that fit are read back from their file, which passes 13 and 14
  shaped_back : (file_tables (file_of t) ≡ t) × (shape_failing (file_of t) ≡ 0)
  shaped_back = (
    ap (λ (h : List ℕ). tables_by h (file_of t)) header-back ∙ tables-back,
    (shape_iff (file_of t)).1 (
      (and_iff (leb 80 (length (file_of t))) (eqb (get_or (header (file_of t)) 19 0) (length (file_of t)))).1 (
        le→leb 80 (length (file_of t)) (omega (arith, shaped_length t s, end_from_lem 80 (table_sizes c))),
        (eqb_iff (get_or (header (file_of t)) 19 0) (length (file_of t))).1
            (ap (λ (h : List ℕ). get_or h 19 0) header-back ∙ sym (shaped_length t s)),
      ),
      subst (λ (h : List ℕ). T (same_numbers h (header_of (counts_in h)) && gaps_zero 80 (table_sizes (counts_in h)) (file_of t)))
          (sym header-back)
          ((and_iff (same_numbers (header_of c) (header_of c)) (gaps_zero 80 (table_sizes c) (file_of t))).1 (
            numbers_same (header_of c),
            subst (λ (ks : List ℕ). T (gaps_zero 80 ks (file_of t))) (shaped_sizes t s) (laid_gaps 80 (tables_bytes t) front front_length),
          )),
    ),
  )

-- ---- a file that passes 13 and 14 is written again, byte by byte

module _ (bs : List ℕ) (bytes : Below 256 bs) (ok : shape_failing bs ≡ 0) where
  abbrev h : List ℕ
  h = header bs

  abbrev ks : List ℕ
  ks = table_sizes (counts_in h)

  long : T (leb 80 (length bs)) × T (eqb (get_or h 19 0) (length bs))
  long = (and_iff (leb 80 (length bs)) (eqb (get_or h 19 0) (length bs))).0 ((shape_iff bs).0 ok).0

  right : T (same_numbers h (header_of (counts_in h))) × T (gaps_zero 80 ks bs)
  right = (and_iff (same_numbers h (header_of (counts_in h))) (gaps_zero 80 ks bs)).0 ((shape_iff bs).0 ok).1

  header_is : header bs ≡ header_of (counts_in (header bs))
  header_is = numbers_equal h (header_of (counts_in h)) right.0

  pub file_end : end_from 80 (table_sizes (counts_in (header bs))) ≡ length bs
  file_end = sym (ap (λ (l : List ℕ). get_or l 19 0) header_is) ∙ eqb→eq (get_or h 19 0) (length bs) long.1

  -- table i is inside the file
  pub inside : (i : ℕ) → i < 11
      → get_or (offsets_from 80 (table_sizes (counts_in (header bs)))) i 0 + get_or (table_sizes (counts_in (header bs))) i 0 ≤ length bs
  inside i l = omega (arith, table-inside 80 ks i l, file_end)

  again : (i w k : ℕ) → i < 11 → get_or h (8 + i) 0 ≡ get_or (offsets_from 80 ks) i 0 → w * k ≡ get_or ks i 0
      → table_bytes w (table_at h bs i w k) ≡ take (w * k) (drop (get_or (offsets_from 80 ks) i 0) bs)
  again i w k l e z =
      let o : ℕ = get_or (offsets_from 80 ks) i 0 in
      ap (λ (a : ℕ). table_bytes w (numbers_of w k (drop a bs))) e
      ∙ table-back w k (drop o bs) (below-drop 256 o bs bytes) (omega (arith, inside i l, length-drop o bs))

  -- word 8 + i of the header is that of the header of its counts
  pub header_at : (i : ℕ) → get_or (header bs) (8 + i) 0 ≡ get_or (header_of (counts_in (header bs))) (8 + i) 0
  header_at i = ap (λ (l : List ℕ). get_or l (8 + i) 0) header_is

  pieces : tables_bytes (file_tables bs) ≡ pieces_from 80 ks bs
  pieces =
      let c = counts_in h in
      λ i.
      again 0 4 (suc c.n) (lit< tt) (header_at 0) refl i ∷ again 1 4 c.entries_p (lit< tt) (header_at 1) refl i
      ∷ again 2 8 c.entries_p (lit< tt) (header_at 2) refl i ∷ again 3 8 c.n (lit< tt) (header_at 3) refl i
      ∷ again 4 4 (suc c.n) (lit< tt) (header_at 4) refl i ∷ again 5 4 c.entries_a (lit< tt) (header_at 5) refl i
      ∷ again 6 8 c.entries_a (lit< tt) (header_at 6) refl i ∷ again 7 8 c.m (lit< tt) (header_at 7) refl i
      ∷ again 8 4 (3 * c.cones) (lit< tt) (header_at 8) refl i ∷ again 9 8 c.alphas (lit< tt) (header_at 9) refl i
      ∷ again 10 4 c.words (lit< tt) (header_at 10) refl i ∷ []

  counts-again : counts_of (file_tables bs) ≡ counts_in h
  counts-again =
      let c = counts_in h in
      let count : (i w k : ℕ) → length (table_at h bs i w k) ≡ k = λ i w k. length_numbers w k (drop (get_or h (8 + i) 0) bs) in
      let third : length (table_at h bs 8 4 (3 * c.cones)) / 3 ≡ c.cones = omega (arith, count 8 4 (3 * c.cones)) in
      λ i. record {
        n = c.n;
        m = c.m;
        entries_p = count 2 8 c.entries_p i;
        entries_a = count 6 8 c.entries_a i;
        cones = third i;
        alphas = count 9 8 c.alphas i;
        patterns = c.patterns;
        words = count 10 4 c.words i;
      }

  shape_again : file_of (file_tables bs) ≡ bs
  shape_again =
      ap₂ (λ (l : List ℕ) (ts : List (List ℕ)). table_bytes 4 l ++ laid_from 80 ts)
      (ap header_of counts-again ∙ sym header_is) pieces
      ∙ ap₂ ◌++◌ (table-back 4 20 bs bytes (leb→le 80 (length bs) long.0)) (laid-again 80 ks bs file_end right.1)
      ∙ take-append-drop 80 bs

  -- numbers that were read fit u32 or u64
  fits : (i w k : ℕ) → i < 11 → get_or h (8 + i) 0 ≡ get_or (offsets_from 80 ks) i 0 → w * k ≡ get_or ks i 0
      → Below (256 ^ w) (table_at h bs i w k)
  fits i w k l e z =
      let o : ℕ = get_or (offsets_from 80 ks) i 0 in
      subst (λ (a : ℕ). Below (256 ^ w) (numbers_of w k (drop a bs))) (sym e)
      (numbers_fit w k (drop o bs) (below-drop 256 o bs bytes) (omega (arith, inside i l, length-drop o bs)))

  pub tables_fit : Fit (file_tables bs)
  tables_fit =
      let c = counts_in h in
      record {
        p_starts = fits 0 4 (suc c.n) (lit< tt) (header_at 0) refl;
        p_rows = fits 1 4 c.entries_p (lit< tt) (header_at 1) refl;
        p_values = fits 2 8 c.entries_p (lit< tt) (header_at 2) refl;
        q = fits 3 8 c.n (lit< tt) (header_at 3) refl;
        a_starts = fits 4 4 (suc c.n) (lit< tt) (header_at 4) refl;
        a_rows = fits 5 4 c.entries_a (lit< tt) (header_at 5) refl;
        a_values = fits 6 8 c.entries_a (lit< tt) (header_at 6) refl;
        b = fits 7 8 c.m (lit< tt) (header_at 7) refl;
        cones = fits 8 4 (3 * c.cones) (lit< tt) (header_at 8) refl;
        alphas = fits 9 8 c.alphas (lit< tt) (header_at 9) refl;
        pattern_words = fits 10 4 c.words (lit< tt) (header_at 10) refl;
      }

-- ---- the length of a file

alpha_few : (k : Kind) (a c : ℕ) → alphas k a ≤ nvars k a c
alpha_few zero_cone a c = omega arith
alpha_few nonnegative a c = omega arith
alpha_few second_order a c = omega arith
alpha_few exponential a c = omega arith
alpha_few power a c = omega arith
alpha_few gen_power a c = omega arith
alpha_few psd_triangle a c = omega arith
alpha_few no_kind a c = omega arith

-- no cone takes more α than it has rows
pub alphas-few : (cs : List Cone) → sum (map alpha_count cs) ≤ sum (map row_count cs)
alphas-few [] = omega arith
alphas-few (c ∷ cs) = omega (arith, alpha_few (kind_of c.kind) c.first c.second, alphas-few cs)

-- bounds for the counts of a problem that passes checks 1 to 7, and for the end of its file
pub record FewCounts (c : HeaderCounts) : Type 0 where
  pub n : c.n ≤ 65536
  pub m : c.m ≤ 65536
  pub entries_p : c.entries_p ≤ 262144
  pub entries_a : c.entries_a ≤ 262144
  pub cones : c.cones ≤ 1024
  pub alphas : c.alphas ≤ 65536
  pub patterns : c.patterns ≤ 1024
  pub words : c.words ≤ 68160512

pub checked_counts : (t : BitTables) → Checked (problem_of t) → FewCounts (counts_of t)
checked_counts t h =
    let read = simp (and_iff, eqb_iff) at h.sound.read in
    let as_many = eqb→eq (sum (map alpha_count (records t.cones))) (length (floats t.alphas)) h.alphas in
    record {
      n = h.few_columns;
      m = h.sound.few;
      entries_p = omega (arith, h.few_entries_p, length-map t.p_values (of_bits binary64));
      entries_a = omega (arith, h.few_entries_a, length-map t.a_values (of_bits binary64));
      cones = omega (arith, record_count_lem t.cones, cones-few h.sound);
      alphas = omega (arith, as_many, length-map t.alphas (of_bits binary64), alphas-few (records t.cones), read.1, h.sound.few);
      patterns = count-few h.sound;
      words = words_most h.sound;
    }

pub few_end : (c : HeaderCounts) → FewCounts c → end_from 80 (table_sizes c) < 4294967296
few_end c h =
    omega (arith, end_most 80 (table_sizes c), h.n, h.m, h.entries_p, h.entries_a, h.cones, h.alphas, h.patterns, h.words)

-- a header's numbers fit u32 if the file's end and the pattern count do
header-fits : (c : HeaderCounts) → end_from 80 (table_sizes c) < 4294967296 → c.patterns < 4294967296 → Below 4294967296 (header_of c)
header-fits c low few =
    let ks = table_sizes c in
    let count : (i : ℕ) → i < 11 → get_or ks i 0 < 4294967296 = λ i l. omega (arith, table-inside 80 ks i l) in
    below-append 4294967296 (count_words c ++ offsets_from 80 ks) (end_from 80 ks ∷ [])
    (below-append 4294967296 (count_words c) (offsets_from 80 ks)
    (each_below 4294967296 (count_words c) (
      omega (arith, count 3 (lit< tt)),
      (
        omega (arith, count 7 (lit< tt)),
        (
          omega (arith, count 2 (lit< tt)),
          (
            omega (arith, count 6 (lit< tt)),
            (omega (arith, count 8 (lit< tt)), (omega (arith, count 9 (lit< tt)), (few, (omega (arith, count 10 (lit< tt)), tt)))),
          ),
        ),
      ),
    ))
    (offsets_below 4294967296 80 ks low))
    (each_below 4294967296 (end_from 80 ks ∷ []) (low, tt))

-- ---- the reader and the writer

-- the file of a problem that passes checks 1 to 7: its length, from its counts, and that this fits a u32
pub written-length : (t : BitTables) → problem_refusal (problem_of t) ≡ 0
    → (length (file_of t) ≡ end_from 80 (table_sizes (counts_of t))) × (length (file_of t) < 4294967296)
written-length t ok =
    let h = problem_checked (problem_of t) ok in
    let e = shaped_length t (checked_shaped t h) in
    (e, omega (arith, few_end (counts_of t) (checked_counts t h)))

-- the refusal number of a file: 13, then 14, then checks 1 to 7
pub file_in_order : (bs : List ℕ) → file_failing bs ≡ or_else (shape_failing bs) (problem_refusal (problem_of (file_tables bs)))
file_in_order bs = failing_append (shape_checks bs) (problem_checks (problem_of (file_tables bs))) tt

-- the file of such a problem is accepted, and reading it gives the same tables
pub written_back : (t : BitTables) → Fit t → problem_refusal (problem_of t) ≡ 0 → (file_tables (file_of t) ≡ t) × (file_failing (file_of t) ≡ 0)
written_back t f ok =
    let h = problem_checked (problem_of t) ok in
    let few = checked_counts t h in
    let fits = header-fits (counts_of t) (few_end (counts_of t) few) (omega (arith, few.patterns)) in
    let (back, shape) = shaped_back t (checked_shaped t h) f fits in
    (back, file_in_order (file_of t) ∙ ap₂ or_else shape (ap (λ (u : BitTables). problem_refusal (problem_of u)) back ∙ ok))

-- an accepted file passes 13 and 14, and its problem passes checks 1 to 7
pub read_passed : (bs : List ℕ) → file_failing bs ≡ 0 → (shape_failing bs ≡ 0) × (problem_refusal (problem_of (file_tables bs)) ≡ 0)
read_passed bs e = (or_else-zero (shape_failing bs) (problem_refusal (problem_of (file_tables bs)))).0 (sym (file_in_order bs) ∙ e)

-- an accepted file written again has the same bytes
pub read_again : (bs : List ℕ) → Below 256 bs → file_failing bs ≡ 0 → file_of (file_tables bs) ≡ bs
read_again bs bytes ok = shape_again bs bytes (read_passed bs ok).0

-- and the writer refuses its tables only where the output is too short
pub written-again : (bs : List ℕ) (room : ℕ) → Below 256 bs → file_failing bs ≡ 0 → write_refusal (file_tables bs) room ≡ room_refusal (length bs) room
written-again bs room bytes ok =
    ap₂ (λ (r : ℕ) (f : List ℕ). or_else r (room_refusal (length f) room)) (read_passed bs ok).1 (read_again bs bytes ok)

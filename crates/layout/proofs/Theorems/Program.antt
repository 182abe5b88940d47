-- The program's output: the file's length known before the cut is made, the refusal numbers that it can print, and that a reader reads
-- its file as the compact problem.
use Prim.Native.Nat.{ℕ, zero, suc, ◌*◌, ◌≤◌, ◌<◌}
use native.Mathlib.Omega.{arith}
use mathlib.Core.Path.{◌≡◌, sym, ap, subst, ◌∙◌}
use mathlib.Core.Bool.{Bool, not, cond, ◌&&◌, ◌||◌}
use mathlib.Core.List.{List, [], ◌∷◌, ◌++◌}
use lib.ListN.{length, get_or, take, drop, replicate, length-map, length-replicate, get_or-replicate}
use lib.Dec.{T, leb, ltb, lit<, le→leb, leb→le, ltb→lt}
use lib.Ieee.{Float, binary64, of_bits, to_bits}
use Rattle.layout.specs.General.Lists.{all, Below}
use Rattle.layout.specs.General.Floats.{bits, floats}
use Rattle.layout.specs.General.Bytes.{table_bytes, U32s, U64s}
use Rattle.layout.specs.Problems.Problem.{Problem, Csc, compact}
use Rattle.layout.specs.Problems.Cones.{Cone, records, whole_records, reads, sizes_fit, kind_of, is_psd}
use Rattle.layout.specs.Problems.Patterns.{patterns}
use Rattle.layout.specs.Rows.Blocks.{overlap_count}
use Rattle.layout.specs.Checks.{Checked, layout, sizes_bounded, starts_right, Check, check, checks, refusal, check1, cones_bounded}
use Rattle.layout.specs.Calls.Answers.{or_else, problem_refusal}
use Rattle.layout.specs.Calls.Cut.{sizes, augmented}
use Rattle.layout.specs.Files.File.{widths, products, end_from, HeaderCounts, counts_in, table_sizes, BitTables, Fit, problem_of, file_of, header, file_tables, shape_checks, shape_failing, file_failing, compact_problem, compact_tables, compact_file, program_checks, program_refusal, program_output, answer, ProblemFiles}
use Rattle.layout.proofs.Lists.Tests.{and_iff, leb_iff}
use Rattle.layout.proofs.Lists.Members.{all-at}
use Rattle.layout.proofs.Patterns.Records.{record_count_lem}
use Rattle.layout.proofs.Checks.Accepted.{accepted-sound, problem_checked, sound-ends, sound-whole, sound-reads}
use Rattle.layout.proofs.Columns.Columns.{starts-right}
use Rattle.layout.proofs.Patterns.PatternWords.{words_of_patterns}
use Rattle.layout.proofs.Patterns.WordCounts.{patterns_least}
use Rattle.layout.proofs.Checks.Order.{or_else-zero, passed, failing_append, failing_most}
use Rattle.layout.proofs.Numbers.Bytes.{below-cons, below-append, length-table, length_numbers}
use Rattle.layout.proofs.Files.Offsets.{end_least, table-inside}
use Rattle.layout.proofs.Floats.Bits.{bits_fit, floats_zeros}
use Rattle.layout.proofs.Files.ProblemFloats.{FloatsFit, tables_of, problem-floats, compact_floats, compact_stands}
use Rattle.layout.proofs.Theorems.File.{file_length, file_end, tables_fit, written_back, read_again}
use Rattle.layout.proofs.Columns.Sizes.{compact_sizes_lem}
use Rattle.layout.proofs.Files.CompactCones.{new_few, cones-right}
use Rattle.layout.proofs.Files.CompactProblem.{records_are, compact_passes}

-- ---- the length of the compact file, from the lengths that `sizes` gives, without the cone map and with no pattern words

bits-size : (vs : List Float) → length (table_bytes 8 (bits vs)) ≡ 8 * length vs
bits-size vs = length-table 8 (bits vs) ∙ ap (λ (k : ℕ). 8 * k) (length-map vs (to_bits binary64))

floats-size : (xs : List ℕ) → length (table_bytes 8 xs) ≡ 8 * length (floats xs)
floats-size xs = length-table 8 xs ∙ ap (λ (k : ℕ). 8 * k) (sym (length-map xs (of_bits binary64)))

pub compact_length : (t : BitTables)
    → length (file_of (compact_tables t)) ≡ end_from 80 (products widths (take 10 (sizes compact (problem_of t)) ++ (0 ∷ [])))
compact_length t =
    let p = problem_of t in
    let a = augmented compact p in
    let k = overlap_count (layout p) in
    let q : length (table_bytes 8 (t.q ++ replicate k 0)) ≡ 8 * length a.q =
    floats-size (t.q ++ replicate k 0) ∙ ap (λ (vs : List Float). 8 * length vs) (floats_zeros t.q k) in
    file_length (compact_tables t) ∙ ap (end_from 80) (λ i.
    length-table 4 a.P.starts i ∷ length-table 4 t.p_rows i ∷ floats-size t.p_values i ∷ q i
    ∷ length-table 4 a.A.starts i ∷ length-table 4 a.A.rows i ∷ bits-size a.A.values i ∷ bits-size a.b i
    ∷ length-table 4 a.cones i ∷ floats-size t.alphas i ∷ 0 ∷ [])

-- ---- the refusal numbers

-- the refusal number by groups of checks, in the order in which the program makes them
pub program_in_order : (bs : List ℕ) → program_refusal bs ≡
    or_else (cond (leb (length bs) 8192) 0 1)
    (or_else (shape_failing bs)
    (or_else (refusal compact (problem_of (file_tables bs)))
    (cond (leb (length (compact_file bs)) 65536) 0 10)))
program_in_order bs =
    let p = problem_of (file_tables bs) in
    let last : List Check = check 10 (leb (length (compact_file bs)) 65536) ∷ [] in
    failing_append (check 1 (leb (length bs) 8192) ∷ []) (shape_checks bs ++ (checks compact p ++ last)) tt
    ∙ ap (or_else (cond (leb (length bs) 8192) 0 1))
    (failing_append (shape_checks bs) (checks compact p ++ last) tt ∙ ap (or_else (shape_failing bs)) (failing_append (checks compact p) last tt))

-- a refusal number is at most 14, so it prints as one or two digits
pub program_most : (bs : List ℕ) → program_refusal bs ≤ 14
program_most bs = failing_most 14 (program_checks bs) tt

-- ---- a file that the program writes is accepted and represents the compact problem

kind-few : (k a c : ℕ) → T (sizes_fit (kind_of k) a c) → k < 7
kind-few zero a c h = omega arith
kind-few (suc zero) a c h = omega arith
kind-few (suc (suc zero)) a c h = omega arith
kind-few (suc (suc (suc zero))) a c h = omega arith
kind-few (suc (suc (suc (suc zero)))) a c h = omega arith
kind-few (suc (suc (suc (suc (suc zero))))) a c h = omega arith
kind-few (suc (suc (suc (suc (suc (suc zero)))))) a c h = omega arith
kind-few (suc (suc (suc (suc (suc (suc (suc k))))))) a c h = absurd h

cones_fit : (ws : List ℕ) → T (whole_records ws) → T (all sizes_bounded (records ws)) → T (all reads (records ws)) → U32s ws
cones_fit [] w b r = λ i l. absurd (omega arith)
cones_fit (k ∷ []) w b r = absurd w
cones_fit (k ∷ a ∷ []) w b r = absurd w
cones_fit (k ∷ a ∷ c ∷ ws) w b r =
    let x : Cone = record { kind = k; first = a; second = c } in
    let (bounded, bs) = (and_iff (sizes_bounded x) (all sizes_bounded (records ws))).0 b in
    let (read, rs) = (and_iff (reads x) (all reads (records ws))).0 r in
    let (sizes, psd) = (and_iff (leb a 65536 && leb c 65536) (not (is_psd x) || leb a 256)).0 bounded in
    let (first, second) = simp (and_iff, leb_iff) at sizes in
    below-cons 4294967296 k (a ∷ c ∷ ws) (omega (arith, kind-few k a c read))
    (below-cons 4294967296 a (c ∷ ws) (omega arith)
    (below-cons 4294967296 c ws (omega arith) (cones_fit ws w bs rs)))

starts_fit : (n : ℕ) (M : Csc) → T (starts_right n M) → length M.values ≤ 262144 → U32s M.starts
starts_fit n M h few i l = let r = starts-right n M h in omega (arith, r.inside i (omega (arith, r.count)), r.even)

rows_fit_lem : (m : ℕ) (M : Csc) → T (all (λ r. ltb r m) M.rows) → m ≤ 65536 → U32s M.rows
rows_fit_lem m M inside few i l =
    omega (arith, ltb→lt (get_or M.rows i 0) m ((all-at 0 (λ r. ltb r m) M.rows).0 inside i l))

-- the tables of a problem that passes checks 1 to 7 fit u32 and u64, if its floats and pattern words fit
checked_fit : (p : Problem) → Checked p → FloatsFit p → U32s p.pattern_words → Fit (tables_of p)
checked_fit p h f words =
    record {
      p_starts = starts_fit p.n p.P h.starts_p h.few_entries_p;
      p_rows = rows_fit_lem p.n p.P (simp and_iff at h.rows_p).0 h.few_columns;
      p_values = bits_fit p.P.values f.P;
      q = bits_fit p.q f.q;
      a_starts = starts_fit p.n p.A h.starts_a h.few_entries_a;
      a_rows = rows_fit_lem p.m p.A (simp and_iff at h.rows_a).0 h.sound.few;
      a_values = bits_fit p.A.values f.A;
      b = bits_fit p.b f.b;
      cones = cones_fit p.cones (sound-whole h.sound)
          ((and_iff (leb (length (records p.cones)) 1024) (all sizes_bounded (records p.cones))).0 h.sound.bounded).1 (sound-reads h.sound);
      alphas = bits_fit p.alphas f.alphas;
      pattern_words = words;
    }

-- the tables of the compact problem fit u32 and u64 if the given tables do
compact_fit : (t : BitTables) → Fit t → Checked (compact_problem (problem_of t)) → Fit (compact_tables t)
compact_fit t f h =
    let p = problem_of t in
    let k = overlap_count (layout p) in
    let c = checked_fit (compact_problem p) h (compact_floats p (problem-floats t)) (λ i l. absurd (omega arith)) in
    let zeros : U64s (replicate k 0) = λ i l. omega (arith, get_or-replicate {A = ℕ} k i 0 0 (omega (arith, length-replicate {A = ℕ} k 0))) in
    record {
      p_starts = c.p_starts;
      p_rows = f.p_rows;
      p_values = f.p_values;
      q = below-append 18446744073709551616 t.q (replicate k 0) f.q zeros;
      a_starts = c.a_starts;
      a_rows = c.a_rows;
      a_values = c.a_values;
      b = c.b;
      cones = c.cones;
      alphas = f.alphas;
      pattern_words = c.pattern_words;
    }

module _ (bs : List ℕ) (bytes : Below 256 bs) (ok : program_refusal bs ≡ 0) where
  abbrev t : BitTables
  t = file_tables bs

  abbrev p : Problem
  p = problem_of t

  abbrev c : HeaderCounts
  c = counts_in (header bs)

  program_passed : T (leb (length bs) 8192) × (shape_failing bs ≡ 0) × (refusal compact (problem_of (file_tables bs)) ≡ 0)
      × T (leb (length (compact_file bs)) 65536)
  program_passed =
      let last : ℕ = cond (leb (length (compact_file bs)) 65536) 0 10 in
      let (first, a) = (or_else-zero (cond (leb (length bs) 8192) 0 1) (or_else (shape_failing bs) (or_else (refusal compact p) last))).0
      (sym (program_in_order bs) ∙ ok) in
      let (shape, b) = (or_else-zero (shape_failing bs) (or_else (refusal compact p) last)).0 a in
      let (accepts, fits) = (or_else-zero (refusal compact p) last).0 b in
      (passed 1 (check 1 (leb (length bs) 8192) ∷ []) tt first, shape, accepts, passed 10 (check 10 (leb (length (compact_file bs)) 65536) ∷ []) tt fits)

  accepted : refusal compact p ≡ 0
  accepted = program_passed.2

  -- an input file of at most 8,192 bytes gives at most 1,024 new cones
  few_new : length (records (compact_problem p).cones) ≤ 1024
  few_new =
      let s = accepted-sound compact p accepted in
      let ps = patterns t.pattern_count t.pattern_words in
      omega (
        arith,
        ap length (records_are p accepted),
        new_few 0 0 0 (records t.cones) ps,
        record_count_lem t.cones,
        length_numbers 4 (3 * c.cones) (drop (get_or (header bs) 16 0) bs),
        length_numbers 4 c.words (drop (get_or (header bs) 18 0) bs),
        patterns_least ps,
        ap length (words_of_patterns t.pattern_count t.pattern_words (sound-ends s)).0,
        end_least 80 (table_sizes c),
        file_end bs bytes program_passed.1,
        leb→le (length bs) 8192 program_passed.0,
      )

  -- an output file of at most 65,536 bytes has few enough columns, rows and entries for check 1
  bounded : T (check1 (compact_problem p))
  bounded =
      let q = compact_problem p in
      let ks : List ℕ = products widths (take 10 (sizes compact p) ++ (0 ∷ [])) in
      let long = leb→le (length (compact_file bs)) 65536 program_passed.3 in
      let size : (i : ℕ) → i < 11 → get_or ks i 0 ≤ 65536 = λ i l. omega (arith, table-inside 80 ks i l, compact_length t) in
      let counts : Bool = leb q.n 65536 && leb q.m 65536 && leb (length q.A.values) 262144 && leb (length q.P.values) 262144 in
      (and_iff counts (cones_bounded q.cones)).1 (
        (and_iff (leb q.n 65536 && leb q.m 65536 && leb (length q.A.values) 262144) (leb (length q.P.values) 262144)).1 (
          (and_iff (leb q.n 65536 && leb q.m 65536) (leb (length q.A.values) 262144)).1 (
            (and_iff (leb q.n 65536) (leb q.m 65536)).1 (
              le→leb q.n 65536 (omega (arith, size 3 (lit< tt), ap (λ (l : List ℕ). get_or l 3 0) (compact_sizes_lem p accepted))),
              le→leb q.m 65536 (omega (arith, size 7 (lit< tt), ap (λ (l : List ℕ). get_or l 7 0) (compact_sizes_lem p accepted))),
            ),
            le→leb (length q.A.values) 262144 (omega (arith, size 6 (lit< tt))),
          ),
          le→leb (length q.P.values) 262144 (omega (arith, size 2 (lit< tt))),
        ),
        (and_iff (leb (length (records q.cones)) 1024) (all sizes_bounded (records q.cones))).1 (
          le→leb (length (records q.cones)) 1024 few_new,
          subst (λ (cs : List Cone). T (all sizes_bounded cs)) (sym (records_are p accepted)) (cones-right (accepted-sound compact p accepted)).0,
        ),
      )

  pub program-read : (file_failing (program_output bs) ≡ 0)
      × (file_tables (program_output bs) ≡ compact_tables (file_tables bs))
      × (problem_of (file_tables (program_output bs)) ≡ compact_problem (problem_of (file_tables bs)))
  program-read =
      let stands = compact_stands t in
      let passes = compact_passes p accepted bounded in
      let fit = compact_fit t (tables_fit bs bytes program_passed.1) (problem_checked (compact_problem p) passes) in
      let (back, read) = written_back (compact_tables t) fit (ap problem_refusal stands ∙ passes) in
      let out : program_output bs ≡ file_of (compact_tables t) = ap (λ (r : ℕ). answer r (compact_file bs)) ok in (
        ap file_failing out ∙ read,
        ap file_tables out ∙ back,
        ap (λ (o : List ℕ). problem_of (file_tables o)) out ∙ ap problem_of back ∙ stands,
      )

-- what Q-2 asks to be proved
pub problem_files : ProblemFiles
problem_files = record { back = written_back; again = read_again; program = program-read }

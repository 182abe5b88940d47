use Prim.Native.Nat.{ℕ, ◌≤◌, ◌<◌}
use native.Mathlib.Omega.{arith}
use mathlib.Core.Path.{◌≡◌, refl, sym, subst, ◌∙◌}
use mathlib.Core.List.{List}
use lib.ListN.{length, get_or, replicate, length-replicate}
use Rattle.layout.specs.General.Lists.{written}
use Rattle.layout.specs.Calls.Answers.{room_refusal, problem_refusal}
use Rattle.layout.specs.Files.File.{BitTables, bit_tables, problem_of, counts_of, header_of, file_of}
use Rattle.layout.specs.Calls.WriteFile.{WriteFile}
use Rattle.layout.proofs.Promises.{output-kept}
use Rattle.constants.specs.Refusals.{number}
use Rattle.constants.proofs.Answers.{passed_on, number_positive}
use Rattle.check_problem.proofs.Order.{first-given}
use Rattle.file_tables.proofs.Tables.{tables-refusal}
use Rattle.file_writer.proofs.Laws.{header_made, header_end, header-low, header-room, write_short, write_fits, tables-room, tables-low, file_laid}
use Rattle.file_writer.proofs.write_file.Goals as goal
use Rattle.file_writer.proofs.write_file.Goals.{Start}

abbrev given : Start → BitTables
given s =
    let a = s.args in
    bit_tables a.n a.m a.p_starts.now a.p_rows.now a.p_values.now a.q.now a.a_starts.now a.a_rows.now
    a.a_values.now a.b.now a.cones.now a.alphas.now a.pattern_count a.pattern_words.now

-- the promise of a number is that of an equal one
write_said : {t : BitTables} {before after : List ℕ} {k r : ℕ} → r ≡ k → WriteFile t before after k → WriteFile t before after r
write_said {t} {before} {after} e h = subst (WriteFile t before after) (sym e) h

pub returns-in_err-check_lengths : goal.returns-in_err-check_lengths
returns-in_err-check_lengths c =
    let t = given (goal.at.returns-in_err-check_lengths c).Start in
    let e = c.in_err-check_lengths.field-0.0 in
    let some = number_positive e in
    let old = c.args.out.now in
    let same = c.in_err-check_lengths.ensures ∙ tables-refusal t in
    write_said (passed_on c.from_residual.result e c.from_residual.ensures) (record {
      number = same ∙ sym (first-given (problem_refusal (problem_of t)) (room_refusal (length (file_of t)) (length old)) (λ z. omega (arith, some, same, z)));
      out = output-kept (number e) (file_of t) old (λ z. omega (arith, some, z));
    })

-- checks 1 to 7 pass
abbrev Passes : BitTables → Type 0
Passes t = problem_refusal (problem_of t) ≡ 0

header_is : (t : BitTables) {header : List ℕ} → header ≡ written (header_of (counts_of t)) (replicate 20 0) → header ≡ header_of (counts_of t)
header_is t e = header_made t (replicate 20 0) (length-replicate {A = ℕ} 20 0) e

-- where the length in the header is at most the output's, the file fits
roomy : (t : BitTables) (room : ℕ) → Passes t → {header : List ℕ} → header ≡ header_of (counts_of t) → get_or header 19 0 ≤ room → length (file_of t) ≤ room
roomy t room ok h l = subst (λ (k : ℕ). k ≤ room) (header_end t ok h) l

pub make_header-requires : goal.make_header-requires
make_header-requires c =
    let t = given (goal.at.make_header-requires c).Start in
    (sym (c.in_ok-check_lengths.ensures ∙ tables-refusal t), omega arith)

pub overflow_cast-header : goal.overflow_cast-header
overflow_cast-header c =
    let t = given (goal.at.overflow_cast-header c).Start in
    let low = header-low t (sym (c.in_ok-check_lengths.ensures ∙ tables-refusal t)) (header_is t c.make_header.ensures) in
    omega (arith, low)

pub returns-then-out-header : goal.returns-then-out-header
returns-then-out-header c =
    let t = given (goal.at.returns-then-out-header c).Start in
    let ok : Passes t = sym (c.in_ok-check_lengths.ensures ∙ tables-refusal t) in record {
      number = write_short t ok (length c.args.out.now) (subst (λ (k : ℕ). length c.args.out.now < k) (header_end t ok (header_is t c.make_header.ensures)) c.if-out-header.true);
      out = refl;
    }

pub write_words-requires : goal.write_words-requires
write_words-requires c =
    let t = given (goal.at.write_words-requires c).Start in
    let ok : Passes t = sym (c.in_ok-check_lengths.ensures ∙ tables-refusal t) in
    let h = header_is t c.make_header.ensures in
    (header-room t (length c.args.out.now) h (roomy t _ ok h c.if-out-header.false)).0

pub slice_bounds-lay_tables-start : goal.slice_bounds-lay_tables-start
slice_bounds-lay_tables-start c =
    let t = given (goal.at.slice_bounds-lay_tables-start c).Start in
    let ok : Passes t = sym (c.in_ok-check_lengths.ensures ∙ tables-refusal t) in
    let h = header_is t c.make_header.ensures in
    let (_, long) = header-room t (length c.args.out.now) h (roomy t _ ok h c.if-out-header.false) in
    omega (arith, long, c.write_words.auto.out)

pub lay_tables-requires : goal.lay_tables-requires
lay_tables-requires c =
    let t = given (goal.at.lay_tables-requires c).Start in
    let ok : Passes t = sym (c.in_ok-check_lengths.ensures ∙ tables-refusal t) in
    let fits = roomy t (length c.args.out.now) ok (header_is t c.make_header.ensures) c.if-out-header.false in
    (tables-room t c.args.out.now c.write_words.new.out fits c.write_words.auto.out, tables-low t ok)

pub returns : goal.returns
returns c =
    let t = given (goal.at.returns c).Start in
    let ok : Passes t = sym (c.in_ok-check_lengths.ensures ∙ tables-refusal t) in
    let h = header_is t c.make_header.ensures in
    let fits = roomy t (length c.args.out.now) ok h c.if-out-header.false in record {
      number = write_fits t ok (length c.args.out.now) fits;
      out = file_laid t c.args.out.now h fits c.write_words.ensures c.lay_tables.ensures;
    }

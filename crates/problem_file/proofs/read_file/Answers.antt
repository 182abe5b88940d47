use Prim.Native.Nat.{ℕ, ◌<◌}
use native.Mathlib.Omega.{arith}
use mathlib.Core.Path.{◌≡◌, sym, subst, ◌∙◌}
use mathlib.Core.List.{List}
use Rattle.layout.specs.Files.File.{counts_in}
use Rattle.layout.specs.Files.FileWords.{word_tables}
use Rattle.layout.specs.Calls.ReadFile.{FileOutputs, file_outputs, outputs_of, ReadFile}
use Rattle.constants.specs.Refusals.{number}
use Rattle.constants.proofs.Answers.{passed_on, number_positive}
use Rattle.file_tables.proofs.Rooms.{file_kept, read_taken}
use Rattle.problem_file.proofs.read_file.Goals as goal
use Rattle.problem_file.proofs.read_file.Goals.{Start}

-- the outputs as passed
abbrev lent : Start → FileOutputs
lent s =
    let a = s.args in
    file_outputs a.counts_out.now a.p_starts_out.now a.p_rows_out.now a.p_values_out.now a.q_out.now a.a_starts_out.now
    a.a_rows_out.now a.a_values_out.now a.b_out.now a.cones_out.now a.alphas_out.now a.pattern_words_out.now

-- the promise of a number is that of an equal one
read_said : {ws : List ℕ} {bytes : ℕ} {before after : FileOutputs} {k r : ℕ} → r ≡ k → ReadFile ws bytes before after k → ReadFile ws bytes before after r
read_said {ws} {bytes} {before} {after} e h = subst (ReadFile ws bytes before after) (sym e) h

pub returns-in_err-refuse_read : goal.returns-in_err-refuse_read
returns-in_err-refuse_read c =
    let s = (goal.at.returns-in_err-refuse_read c).Start in
    let ws = c.args.words.now in
    let e = c.in_err-refuse_read.field-0.0 in
    let some = number_positive e in
    read_said (passed_on c.from_residual.result e c.from_residual.ensures) (record {
      number = c.in_err-refuse_read.ensures;
      tables = file_kept (number e) (outputs_of (counts_in ws) (word_tables ws)) (lent s) (λ z. omega (arith, some, z));
    })

pub read_counts-requires : goal.read_counts-requires
read_counts-requires c =
    let s = (goal.at.read_counts-requires c).Start in
    let (stands, room) = read_taken c.args.words.now c.args.length (lent s) (sym c.in_ok-refuse_read.ensures) in
    (stands, room.counts)

pub read_objective-requires : goal.read_objective-requires
read_objective-requires c =
    let s = (goal.at.read_objective-requires c).Start in
    let (stands, room) = read_taken c.args.words.now c.args.length (lent s) (sym c.in_ok-refuse_read.ensures) in record {
      well_shaped = stands;
      fact = (room.p_starts, room.p_rows, room.p_values, room.q);
    }

pub read_constraints-requires : goal.read_constraints-requires
read_constraints-requires c =
    let s = (goal.at.read_constraints-requires c).Start in
    let (stands, room) = read_taken c.args.words.now c.args.length (lent s) (sym c.in_ok-refuse_read.ensures) in record {
      well_shaped = stands;
      fact = (room.a_starts, room.a_rows, room.a_values, room.b);
    }

pub read_layout-requires : goal.read_layout-requires
read_layout-requires c =
    let s = (goal.at.read_layout-requires c).Start in
    let (stands, room) = read_taken c.args.words.now c.args.length (lent s) (sym c.in_ok-refuse_read.ensures) in record {
      well_shaped = stands;
      fact = (room.cones, room.alphas, room.pattern_words);
    }

pub returns : goal.returns
returns c = record {
  number = c.in_ok-refuse_read.ensures;
  tables = record {
    counts = c.read_counts.ensures;
    p_starts = c.read_objective.ensures.starts_out_after;
    p_rows = c.read_objective.ensures.rows_out_after;
    p_values = c.read_objective.ensures.values_out_after;
    q = c.read_objective.ensures.q_out_after;
    a_starts = c.read_constraints.ensures.starts_out_after;
    a_rows = c.read_constraints.ensures.rows_out_after;
    a_values = c.read_constraints.ensures.values_out_after;
    b = c.read_constraints.ensures.b_out_after;
    cones = c.read_layout.ensures.cones_out_after;
    alphas = c.read_layout.ensures.alphas_out_after;
    pattern_words = c.read_layout.ensures.pattern_words_out_after;
  };
}

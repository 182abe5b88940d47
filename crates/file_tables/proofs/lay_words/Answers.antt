use Prim.Native.Nat.{ℕ, ◌+◌, ◌-◌}
use mathlib.Core.Path.{sym, ap, ◌∙◌}
use mathlib.Core.List.{List, ◌++◌, append-nil}
use lib.ListN.{replicate, length-replicate}
use Rattle.layout.specs.General.Lists.{written}
use Rattle.layout.specs.General.Bytes.{table_bytes}
use Rattle.layout.specs.Files.File.{aligned}
use Rattle.layout.proofs.Numbers.Bytes.{length-table}
use Rattle.layout.proofs.Files.Offsets.{aligned_up}
use Rattle.layout.proofs.Lists.Buffers.{length_tail, written_after}
use native.Mathlib.Omega.{arith}
use Rattle.file_tables.proofs.lay_words.Goals as goal

pub write_words-requires : goal.write_words-requires
write_words-requires c =
    let a = c.args.end in
    omega (arith, length_tail c.write_zeros.new.out (aligned a - a), c.write_zeros.auto.out, length-table 4 c.args.words.now, c.requires.1, aligned_up a)

pub returns : goal.returns
returns c =
    let a = c.args.end in
    let t = table_bytes 4 c.args.words.now in
    let gap : List ℕ = replicate (aligned a - a) 0 in record {
      value = ap (λ (k : ℕ). aligned a + k) (sym (length-table 4 c.args.words.now));
      out_after = written_after gap t c.args.out.now (aligned a - a) (sym (length-replicate {A = ℕ} (aligned a - a) 0))
          (omega (arith, length-replicate {A = ℕ} (aligned a - a) 0, aligned_up a, c.requires.1)) c.write_zeros.ensures c.write_words.ensures
          ∙ ap (λ (l : List ℕ). written (gap ++ l) c.args.out.now) (sym (append-nil t));
    }

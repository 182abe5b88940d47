use Prim.Native.Nat.{ℕ, ◌+◌, ◌-◌}
use mathlib.Core.Path.{sym, ap, ◌∙◌}
use mathlib.Core.List.{List, ◌++◌, append-nil}
use lib.ListN.{replicate, length-replicate}
use Rattle.layout.specs.General.Lists.{written}
use Rattle.layout.specs.General.Bytes.{table_bytes}
use Rattle.layout.specs.Files.File.{aligned}
use Rattle.layout.proofs.Numbers.Bytes.{length-table}
use Rattle.layout.proofs.Files.Offsets.{aligned_up}
use Rattle.layout.proofs.Lists.Buffers.{length_tail, written_after}
use native.Mathlib.Omega.{arith}
use Rattle.file_tables.proofs.lay_doubles.Goals as goal

pub write_doubles-requires : goal.write_doubles-requires
write_doubles-requires c =
    let a = c.args.end in
    omega (arith, length_tail c.write_zeros.new.out (aligned a - a), c.write_zeros.auto.out, length-table 8 c.args.values.now, c.requires.1, aligned_up a)

pub returns : goal.returns
returns c =
    let a = c.args.end in
    let t = table_bytes 8 c.args.values.now in
    let gap : List ℕ = replicate (aligned a - a) 0 in record {
      value = ap (λ (k : ℕ). aligned a + k) (sym (length-table 8 c.args.values.now));
      out_after = written_after gap t c.args.out.now (aligned a - a) (sym (length-replicate {A = ℕ} (aligned a - a) 0))
          (omega (arith, length-replicate {A = ℕ} (aligned a - a) 0, aligned_up a, c.requires.1)) c.write_zeros.ensures c.write_doubles.ensures
          ∙ ap (λ (l : List ℕ). written (gap ++ l) c.args.out.now) (sym (append-nil t));
    }

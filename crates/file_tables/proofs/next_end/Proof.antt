use Prim.Native.Nat.{ℕ, ◌+◌, ◌*◌, ◌≤◌}
use mathlib.Core.Path.{sym, ap}
use lib.ListN.{get_or}
use Rattle.layout.specs.Files.File.{widths, aligned}
use Rattle.file_tables.proofs.Laid.{product_at, size_most}
use native.Mathlib.Omega.{arith}
use borrow.Author.Rules.{rules}
use Rattle.file_tables.proofs.next_end.Statement.{statement}
use Rattle.file_tables.proofs.next_end.Tie as tie

-- a bound on the bytes of the table
most : (c : tie.After-shared_slice_known-1) → let s = c.before in get_or widths s.args.i 0 * get_or s.args.lengths.now s.args.i 0 ≤ 34359738360
most c = let s = c.before in size_most s.args.lengths.now s.args.i s.requires.2 (omega (arith, c.shared_slice_known-1.given s.args.i))

add-result : tie.Need-overflow_add-result
add-result c = search rules

mul-result : tie.Need-overflow_mul-result
mul-result c = search rules

mul-result-2 : tie.Need-offset_bounds-bytes-i
mul-result-2 c = search rules

array-read-result : tie.Need-bounds-bytes-i
array-read-result c = search rules

mul-result-3 : tie.Need-offset_bounds-lengths-i
mul-result-3 c = search rules

shared-slice-read-result : tie.Need-bounds-lengths-i
shared-slice-read-result c = search rules

cast-result : tie.Need-overflow_cast-result
cast-result c = omega (arith, c.shared_slice_known-1.given c.args.i)

mul-result-4 : tie.Need-overflow_mul-result-2
mul-result-4 c = omega (arith, most c)

add-result-2 : tie.Need-overflow_add-result-2
add-result-2 c = omega (arith, most c)

returns : tie.Need-returns
returns c =
    let s = c.before in
    let ks = s.args.lengths.now in
    let i = s.args.i in (
      ap (λ (k : ℕ). aligned s.args.end + k) (sym (product_at widths ks i s.requires.2 (omega arith))),
      omega (arith, most c),
    )

pub next_end_spec : {M : Type 1} → statement M
next_end_spec =
    tie.close
    (tie.spec
    add-result
    mul-result
    mul-result-2
    array-read-result
    mul-result-3
    shared-slice-read-result
    cast-result
    mul-result-4
    add-result-2
    returns)

-- `sheet_lines::put_line` meets its contract: a kind of one digit, a space, an answer of at most two, a line feed, each behind the one before.
use native.Mathlib.Omega.{arith}
use mathlib.Core.Path.{◌≡◌, ◌∙◌}
use Prim.Native.Nat.{◌+◌, ◌≤◌, ◌<◌}
use lib.ListN.{length, length-set}
use Rattle.model_sheet.specs.Sheet.{decimal}
use Rattle.sheet_lines.proofs.Lines.{decimal_one, decimal_most, put_all}
use Rattle.sheet_lines.proofs.put_line.Goals as goal

pub bounds-out-space : goal.bounds-out-space
bounds-out-space c =
    let sizes : (length (decimal c.args.kind) ≡ 1) × (length (decimal c.args.answer) ≤ 2) = (decimal_one c.args.kind c.requires.0, decimal_most c.args.answer) in
    let spaced : c.put_decimal-space.result + 3 ≤ length c.put_decimal-space.new.out = omega (arith, c.put_decimal-space.auto.out, c.put_decimal-space.ensures.next_is, sizes) in
    omega (arith, spaced)

pub overflow_add-space : goal.overflow_add-space
overflow_add-space c =
    let sizes : (length (decimal c.args.kind) ≡ 1) × (length (decimal c.args.answer) ≤ 2) = (decimal_one c.args.kind c.requires.0, decimal_most c.args.answer) in
    let spaced : c.put_decimal-space.result + 3 ≤ length c.put_decimal-space.new.out = omega (arith, c.put_decimal-space.auto.out, c.put_decimal-space.ensures.next_is, sizes) in
    omega (arith, spaced)

pub put_decimal-end-requires : goal.put_decimal-end-requires
put_decimal-end-requires c =
    let sizes : (length (decimal c.args.kind) ≡ 1) × (length (decimal c.args.answer) ≤ 2) = (decimal_one c.args.kind c.requires.0, decimal_most c.args.answer) in
    let spaced : c.put_decimal-space.result + 3 ≤ length c.put_decimal-space.new.out = omega (arith, c.put_decimal-space.auto.out, c.put_decimal-space.ensures.next_is, sizes) in
    omega (arith, spaced, length-set c.put_decimal-space.new.out c.put_decimal-space.result 0x20)

pub bounds-out-end : goal.bounds-out-end
bounds-out-end c =
    let sizes : (length (decimal c.args.kind) ≡ 1) × (length (decimal c.args.answer) ≤ 2) = (decimal_one c.args.kind c.requires.0, decimal_most c.args.answer) in
    let same : length c.put_decimal-end.new.out ≡ length c.args.out.now = omega (arith, c.put_decimal-end.auto.out, length-set c.put_decimal-space.new.out c.put_decimal-space.result 0x20, c.put_decimal-space.auto.out) in
    let ended : c.put_decimal-end.result < length c.args.out.now = omega (arith, c.put_decimal-end.ensures.next_is, c.put_decimal-space.ensures.next_is, sizes, c.requires) in
    omega (arith, ended, same)

pub overflow_add-result : goal.overflow_add-result
overflow_add-result c =
    let sizes : (length (decimal c.args.kind) ≡ 1) × (length (decimal c.args.answer) ≤ 2) = (decimal_one c.args.kind c.requires.0, decimal_most c.args.answer) in
    let ended : c.put_decimal-end.result < length c.args.out.now = omega (arith, c.put_decimal-end.ensures.next_is, c.put_decimal-space.ensures.next_is, sizes, c.requires) in
    omega (arith, ended)

pub shape_of-out : goal.shape_of-out
shape_of-out c =
    let same : length c.put_decimal-end.new.out ≡ length c.args.out.now = omega (arith, c.put_decimal-end.auto.out, length-set c.put_decimal-space.new.out c.put_decimal-space.result 0x20, c.put_decimal-space.auto.out) in
    length-set c.put_decimal-end.new.out c.put_decimal-end.result 0x0A ∙ same

pub returns : goal.returns
returns c =
    let same : length c.put_decimal-end.new.out ≡ length c.args.out.now = omega (arith, c.put_decimal-end.auto.out, length-set c.put_decimal-space.new.out c.put_decimal-space.result 0x20, c.put_decimal-space.auto.out) in
    put_all c.args.out.now c.args.at c.args.kind c.args.answer {d' = c.put_decimal-space.new.out} {space = c.put_decimal-space.result} c.requires.0 (omega arith)
    c.put_decimal-space.auto.out (same) c.put_decimal-space.ensures c.put_decimal-end.ensures

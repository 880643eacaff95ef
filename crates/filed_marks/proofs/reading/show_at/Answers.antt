-- `filed_marks::reading::show_at` meets its contract.
use mathlib.Core.Path.{refl}
use native.Mathlib.Omega.{arith}
use Rattle.filed_marks.proofs.Readings.{size_most}
use Rattle.filed_marks.proofs.Shown.{behind_lent, within_bytes, shown_short, shown_whole}
use Rattle.filed_marks.proofs.reading.show_at.Goals as goal

pub place_of-p-requires : goal.place_of-p-requires
place_of-p-requires c = behind_lent c.args.used c.args.i c.args.bytes.now c.requires.behind

pub returns-then-out-n : goal.returns-then-out-n
returns-then-out-n c =
    shown_short c.args.used c.args.i c.args.bytes.now c.place_of-p.result.at c.place_of-p.result.next c.place_of-p.ensures c.args.marked c.size_of-n.result c.size_of-n.ensures
    c.args.out.now (omega (arith, c.if-out-n.true)) (refl, refl)

pub overflow_cast-result : goal.overflow_cast-result
overflow_cast-result c =
    let at = c.place_of-p.result.at in
    let next = c.place_of-p.result.next in
    let long = within_bytes c.args.used c.args.i c.args.bytes.now at next c.place_of-p.ensures in
    omega (arith, c.size_of-n.ensures, size_most c.args.marked at next, long, c.requires.bytes_len)

pub returns : goal.returns
returns c =
    shown_whole c.args.used c.args.i c.args.bytes.now c.place_of-p.result.at c.place_of-p.result.next c.place_of-p.ensures c.args.marked c.size_of-n.result c.size_of-n.ensures
    c.args.out.now (omega (arith, c.if-out-n.false)) (refl, refl) c.put_reading.ensures

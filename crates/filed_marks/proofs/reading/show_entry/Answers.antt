-- `filed_marks::reading::show_entry` meets its contract.
use mathlib.Core.Path.{refl, sym, subst}
use native.Mathlib.Omega.{arith}
use Rattle.filed_taken.proofs.Says.{said}
use Rattle.filed_marks.specs.Readings.{ShownAt}
use Rattle.filed_marks.proofs.OnRecord.{on_none, on_taken, judged}
use Rattle.filed_marks.proofs.Shown.{behind_held, bytes_of, shown_none, shown_entry}
use Rattle.filed_marks.proofs.reading.show_entry.Goals as goal

pub returns-in_default : goal.returns-in_default
returns-in_default c = on_none c.in_default.ensures (said c.from.ensures) refl

pub show_at-requires : goal.show_at-requires
show_at-requires c =
    let h = c.in-Some.ensures.holds in
    let i = c.in-Ok.ensures.2 in
    record { bytes_len = omega (arith, h.bytes); used_bound = (omega (arith, h.room), omega (arith, i, h.few)); behind = behind_held h c.in-Ok.i i }

pub returns-in-Err : goal.returns-in-Err
returns-in-Err c =
    on_taken c.in-Some.ensures
    (λ h l q. shown_none c.args.marked c.args.k (judged c.args.k h c.in-Err.ensures.0 l q) (λ z. omega (arith, z, c.in-Err.ensures.1)) (said c.from-in-Err.ensures))

pub returns : goal.returns
returns c =
    on_taken c.in-Some.ensures
    (λ h l q. shown_entry h (bytes_of c.args.bytes.now (λ i. omega (arith, c.type_inv.bytes i))) c.args.k q (judged c.args.k h c.in-Ok.ensures.0 l q)
    (omega (arith, c.in-Ok.ensures.1))
    (subst (ShownAt c.args.marked c.in-Some.beside.size.used c.in-Ok.i c.args.bytes.now c.args.out.now c.show_at.new.out) (sym c.from-2.ensures) c.show_at.ensures) refl)

use mathlib.Core.Path.{sym, subst, ◌∙◌}
use Rattle.model_sheet.specs.Sheet.{call_of}
use Rattle.sheet_records.specs.Found.{recorded}
use Rattle.join_apart.specs.Marking.{Fits, Takes}
use Rattle.join_apart.proofs.Marked.{record_marked, record_misfit, room_for}
use Rattle.join_apart.proofs.marks.mark_record.Goals as goal

pub takes-s-requires : goal.takes-s-requires
takes-s-requires c = record { n_bound = c.requires.source; fits = λ t. sym c.if-fits.true ∙ c.fits.ensures t }

pub mark_range-requires : goal.mark_range-requires
mark_range-requires c =
    let r = c.args.r in
    let n = c.args.n in
    let fits = subst (λ k. Fits n k r.a r.b r.c c.fits.result) c.code-kind.ensures.0 c.fits.ensures in
    let takes = subst (λ k. Takes n k r.a r.b r.c c.takes-s.result) c.code-kind.ensures.0 c.takes-s.ensures in
    (room_for n (call_of (recorded r)) c.requires (sym (fits r.text.now) ∙ c.if-fits.true) (takes r.text.now), c.requires.small)

pub returns-then-fits : goal.returns-then-fits
returns-then-fits c =
    let r = c.args.r in
    let n = c.args.n in
    let fits = subst (λ k. Fits n k r.a r.b r.c c.fits.result) c.code-kind.ensures.0 c.fits.ensures in
    let takes = subst (λ k. Takes n k r.a r.b r.c c.takes-s.result) c.code-kind.ensures.0 c.takes-s.ensures in
    record_marked n (call_of (recorded r)) c.requires (sym (fits r.text.now) ∙ c.if-fits.true) (takes r.text.now) c.mark_range.ensures

pub returns : goal.returns
returns c =
    let r = c.args.r in
    let n = c.args.n in
    let fits = subst (λ k. Fits n k r.a r.b r.c c.fits.result) c.code-kind.ensures.0 c.fits.ensures in
    record_misfit n (call_of (recorded r)) (sym (fits r.text.now) ∙ c.if-fits.false)

-- `chunk_slice::slice_content` meets its contract.
use mathlib.Core.Path.{refl, sym, ap, ◌∙◌}
use Prim.Native.Nat.{ℕ, ◌-◌}
use native.Mathlib.Omega.{arith}
use lib.ListN.{length}
use Rattle.model.specs.Text.{Text, part}
use Rattle.report_slice_chunk.proofs.slice_content.Goals as goal

pub content-t-requires : goal.content-t-requires
content-t-requires c = record { ordered = c.requires.span_in.ordered; inside = c.requires.span_in.inside; replacement = c.requires.replacement_in }

pub part-requires : goal.part-requires
part-requires c = omega (arith, c.saturating_sub-to.ensures)

pub returns-then-contains_end : goal.returns-then-contains_end
returns-then-contains_end c =
    let a = c.args in
    c.part.ensures
    ∙ ap (λ (n : ℕ). part a.from n c.content-t.result.now)
    c.saturating_sub-to.ensures
    ∙ ap (λ (t : Text). part a.from (length t - (a.row.end - a.end)) t) c.content-t.ensures
    ∙ rw (sym c.contains_end.ensures ∙ c.if-contains_end.true) refl

pub returns : goal.returns
returns c =
    let a = c.args in
    c.part-2.ensures
    ∙ ap (λ (t : Text). part a.from (length t) t) c.content-t.ensures
    ∙ rw (sym c.contains_end.ensures ∙ c.if-contains_end.false) refl

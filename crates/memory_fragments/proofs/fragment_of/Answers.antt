-- `fragments::fragment_of` meets its contract.
use mathlib.Core.Path.{sym, ◌∙◌}
use Prim.Native.Nat.{◌-◌}
use native.Mathlib.Omega.{arith}
use Rattle.memory_table.specs.Order.{entry_of}
use Rattle.memory_texts.proofs.Texts.{run_piece}
use Rattle.memory_fragments.proofs.Sections.{fragment_intro, fragment_content, fragment_outro}
use Rattle.memory_fragments.proofs.fragment_of.Goals as goal

pub overflow_add-row : goal.overflow_add-row
overflow_add-row c = omega (arith, (run_piece _ _ _ _ _ c.requires.entry_in.runs.intro c.if-item-row.true).row)

pub text_of-requires : goal.text_of-requires
text_of-requires c = run_piece _ _ _ _ _ c.requires.entry_in.runs.intro c.if-item-row.true

pub returns-then-item-row : goal.returns-then-item-row
returns-then-item-row c = c.text_of.ensures ∙ sym (fragment_intro _ _ _ (entry_of c.args.row) c.args.item c.if-item-row.true)

pub content-requires : goal.content-requires
content-requires c = record { ordered = c.requires.span_in.ordered; inside = c.requires.span_in.inside; replacement = c.requires.entry_in.replacement }

pub returns-then-item-row-2 : goal.returns-then-item-row-2
returns-then-item-row-2 c = c.content.ensures ∙ sym (fragment_content _ _ _ (entry_of c.args.row) c.args.item c.if-item-row-2.true)

pub overflow_add-row-2 : goal.overflow_add-row-2
overflow_add-row-2 c =
    let a = c.args in
    omega (
      arith,
      (run_piece a.pieces.now a.store.now a.row.outro_at a.row.outro_n (a.item - a.row.intro_n - 1) c.requires.entry_in.runs.outro
          (omega (arith, c.requires.item_bound, c.if-item-row-2.false, c.if-item-row.false))).row,
    )

pub text_of-requires-2 : goal.text_of-requires-2
text_of-requires-2 c =
    run_piece _ _ _ _ _ c.requires.entry_in.runs.outro (omega (
      arith,
      c.requires.item_bound,
      c.if-item-row-2.false,
      c.if-item-row.false,
    ))

pub returns : goal.returns
returns c =
    c.text_of-2.ensures
    ∙ sym (fragment_outro _ _ _ (entry_of c.args.row) c.args.item
    (omega (arith, c.if-item-row-2.false, c.if-item-row.false)) c.requires.item_bound)

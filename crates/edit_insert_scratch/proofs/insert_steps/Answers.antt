use mathlib.Core.Path.{sym, ◌∙◌}
use Rattle.edit_scratch.proofs.Refused.{refused_number, allowed_number}
use Rattle.edit_insert_side.proofs.CutsFirst.{cuts_roomy}
use Rattle.edit_insert_side.proofs.Calls.{steps_refused, steps_long, steps_done}
use Rattle.edit_insert_scratch.proofs.insert_steps.Goals as goal

pub cut-cut-requires : goal.cut-cut-requires
cut-cut-requires c = cuts_roomy c.args.spot c.requires.roomy

pub returns-then-is_err : goal.returns-then-is_err
returns-then-is_err c =
    steps_refused c.args.front c.args.text.now c.args.pieces.now c.args.store.now c.args.t.now _ _ _ _ _ c.requires.readable c.args.spot c.cut-cut.ensures
    (refused_number _ (sym c.is_err.ensures.value ∙ c.if-is_err.true))

pub returns-then-text-gt-STORE_LEN : goal.returns-then-text-gt-STORE_LEN
returns-then-text-gt-STORE_LEN c =
    steps_long c.args.front c.args.text.now c.args.pieces.now c.args.store.now c.args.t.now _ _ _ _ _ c.requires.readable c.args.spot c.cut-cut.ensures
    (allowed_number _ (sym c.is_err.ensures.value ∙ c.if-is_err.false)) c.if-text-gt-STORE_LEN.true

pub insert_row-requires : goal.insert_row-requires
insert_row-requires c =
    record {
      readable = c.cut-cut.ensures.readable c.args.pieces.now c.args.store.now c.requires.readable;
      desk_small = c.cut-cut.ensures.small c.args.pieces.now c.args.store.now c.requires.desk_small;
      spare = c.requires.spare;
      text_len_bound = c.if-text-gt-STORE_LEN.false;
    }

pub returns : goal.returns
returns c =
    steps_done c.args.front c.args.text.now c.args.pieces.now c.args.store.now c.args.t.now _ c.args.p.now c.args.s.now _ _ c.requires.readable c.args.spot c.cut-cut.ensures
    (allowed_number _ (sym c.is_err.ensures.value ∙ c.if-is_err.false)) _ _ _ c.insert_row.ensures

use mathlib.Core.Path.{sym, ap, ◌∙◌}
use Rattle.sheet_records.specs.Kinds.{code}
use Rattle.sheet_records.proofs.OfKinds.{not_update}
use Rattle.join_apart.proofs.ByKind.{tests_third, tests_second, tests_first, update_spared, others_spared}
use Rattle.join_apart.proofs.moves.spares_record.Goals as goal

pub returns-then-outside-2 : goal.returns-then-outside-2
returns-then-outside-2 c =
    let r = c.args.r in
    let m = c.args.moved in
    tests_third c.outside.ensures c.outside-then-outside.ensures c.outside-then-outside-2.ensures c.if-outside.true c.if-outside-2.true
    ∙ sym (update_spared (code r.kind) r.a r.b r.c r.text.now m.a m.b m.c (ap code c.in-Update.is))

pub returns-else-outside-2 : goal.returns-else-outside-2
returns-else-outside-2 c =
    let r = c.args.r in
    let m = c.args.moved in
    tests_second _ c.outside.ensures c.outside-then-outside.ensures c.if-outside.true c.if-outside-2.false
    ∙ sym (update_spared (code r.kind) r.a r.b r.c r.text.now m.a m.b m.c (ap code c.in-Update.is))

pub returns-else-outside : goal.returns-else-outside
returns-else-outside c =
    let r = c.args.r in
    let m = c.args.moved in
    tests_first _ c.outside.ensures c.if-outside.false
    ∙ sym (update_spared (code r.kind) r.a r.b r.c r.text.now m.a m.b m.c (ap code c.in-Update.is))

pub returns-in_default : goal.returns-in_default
returns-in_default c =
    let r = c.args.r in
    let m = c.args.moved in
    others_spared (code r.kind) r.a r.b r.c r.text.now m.a m.b m.c (not_update r.kind c.in_default.not-Update)

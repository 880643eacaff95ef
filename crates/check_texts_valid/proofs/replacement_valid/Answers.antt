use Rattle.memory_layout.specs.Layout.{TEXT_AT}
use Rattle.check_marks.specs.Marks.{place_at}
use Rattle.check_texts_valid.proofs.Valid.{text_in, replacement_none, replacement_some}
use Rattle.check_texts_valid.proofs.replacement_valid.Goals as goal

pub returns-then-at-eq-NONE_WIDE : goal.returns-then-at-eq-NONE_WIDE
returns-then-at-eq-NONE_WIDE c = replacement_none c.args.store.now (place_at c.args.t.now c.args.i TEXT_AT) c.word-at.ensures c.if-at-eq-NONE_WIDE.true

pub part_valid-requires : goal.part_valid-requires
part_valid-requires c = text_in c.args.store.now (place_at c.args.t.now c.args.i TEXT_AT) c.word-at.ensures c.word-n.ensures c.requires.replacement_in c.if-at-eq-NONE_WIDE.false

pub returns : goal.returns
returns c =
    replacement_some c.args.store.now (place_at c.args.t.now c.args.i TEXT_AT)
    c.word-at.ensures c.word-n.ensures c.if-at-eq-NONE_WIDE.false
    c.part_valid.ensures

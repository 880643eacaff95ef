-- `filed_record::judge_record` meets its contract: each refusal breaks one part of `entries_of`, and what is left is `Holds`.
use mathlib.Core.Path.{refl, sym, subst}
use native.Mathlib.Omega.{arith}
use Rattle.model_filed.specs.Filed.{MOST_CALLS}
use Rattle.sheet_records.specs.Found.{Counts, Measured}
use Rattle.std.specs.Prelude.{None}
use Rattle.filed_record.specs.Judged.{HeldSays}
use Rattle.filed_record.proofs.Holding.{part_is, other_words, other_bytes, used_past, no_list, much_text, high_marks, holds_of}
use Rattle.filed_record.proofs.judge_record.Goals as goal

pub returns-then-words-ne-RECORD_WORDS_LEN : goal.returns-then-words-ne-RECORD_WORDS_LEN
returns-then-words-ne-RECORD_WORDS_LEN c = other_words _ _ c.if-words-ne-RECORD_WORDS_LEN.true

pub returns-then-bytes-ne-RECORD_BYTES_LEN : goal.returns-then-bytes-ne-RECORD_BYTES_LEN
returns-then-bytes-ne-RECORD_BYTES_LEN c = other_bytes _ _ c.if-bytes-ne-RECORD_BYTES_LEN.true

pub returns-then-used-gt-RECORD_ANSWERS : goal.returns-then-used-gt-RECORD_ANSWERS
returns-then-used-gt-RECORD_ANSWERS c = used_past _ _ (omega (arith, c.if-used-gt-RECORD_ANSWERS.true))

pub returns-in_err-calls : goal.returns-in_err-calls
returns-in_err-calls c =
    let none_there = subst (λ x. Counts x MOST_CALLS None) (part_is c.args.words.now c.args.bytes.now _ refl) c.in_err-calls.ensures in
    subst (HeldSays _ _) (sym c.from_residual.ensures) (no_list _ _ none_there)

pub returns-then-calls-gt-RECORD_TEXT : goal.returns-then-calls-gt-RECORD_TEXT
returns-then-calls-gt-RECORD_TEXT c =
    let x = c.in_ok-calls.calls in
    much_text _ _ (subst (λ l. Measured l MOST_CALLS x.count x.text) (part_is c.args.words.now c.args.bytes.now _ refl) c.in_ok-calls.ensures)
    (omega (arith, c.if-calls-gt-RECORD_TEXT.true))

pub marks_fit-requires : goal.marks_fit-requires
marks_fit-requires c = omega (arith, c.in_ok-calls.ensures.counted.few, c.if-bytes-ne-RECORD_BYTES_LEN.false)

pub returns-then-marks_fit : goal.returns-then-marks_fit
returns-then-marks_fit c =
    let x = c.in_ok-calls.calls in
    let counted = subst (λ l. Measured l MOST_CALLS x.count x.text) (part_is c.args.words.now c.args.bytes.now _ refl) c.in_ok-calls.ensures in
    holds_of _ _ _ c.if-words-ne-RECORD_WORDS_LEN.false c.if-bytes-ne-RECORD_BYTES_LEN.false refl c.if-used-gt-RECORD_ANSWERS.false counted
    (omega (arith, c.if-calls-gt-RECORD_TEXT.false)) (λ i g. c.marks_fit.ensures.yes c.if-marks_fit.true i g)

pub returns : goal.returns
returns c =
    let x = c.in_ok-calls.calls in
    let counted = subst (λ l. Measured l MOST_CALLS x.count x.text) (part_is c.args.words.now c.args.bytes.now _ refl) c.in_ok-calls.ensures in
    let high = c.marks_fit.ensures.no c.if-marks_fit.false in
    high_marks _ _ high.0 counted (omega (arith, c.if-calls-gt-RECORD_TEXT.false)) high.1 high.2

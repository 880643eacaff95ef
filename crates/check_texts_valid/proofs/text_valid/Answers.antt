use mathlib.Core.Path.{◌∙◌}
use borrow.Author.Tests.{lt-ltb}
use Rattle.check_texts_valid.proofs.Valid.{ascii_valid}
use Rattle.check_texts_valid.proofs.text_valid.Goals as goal

pub returns-then-joined_bits-lt128 : goal.returns-then-joined_bits-lt128
returns-then-joined_bits-lt128 c = lt-ltb _ _ c.if-joined_bits-lt128.true ∙ ascii_valid _ _ c.joined_bits.ensures c.if-joined_bits-lt128.true

use mathlib.Core.Path.{sym, ◌∙◌}
use Rattle.open.proofs.Opening.{opens_13, opens_1, opens_0}
use Rattle.open.proofs.judge_source.Goals as goal

pub returns-then-source-gt-SOURCE_BYTES : goal.returns-then-source-gt-SOURCE_BYTES
returns-then-source-gt-SOURCE_BYTES c = opens_13 _ c.if-source-gt-SOURCE_BYTES.true

pub returns-then-not-valid : goal.returns-then-not-valid
returns-then-not-valid c = opens_1 _ c.if-source-gt-SOURCE_BYTES.false (sym c.valid.ensures ∙ c.if-not-valid.true)

pub returns : goal.returns
returns c = opens_0 _ c.if-source-gt-SOURCE_BYTES.false (sym c.valid.ensures ∙ c.if-not-valid.false)

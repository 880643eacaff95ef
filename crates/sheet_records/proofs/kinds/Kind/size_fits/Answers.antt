-- The two cases of `fits`; every kind has positions.
use mathlib.Core.Path.{sym, ◌∙◌}
use Rattle.sheet_records.proofs.Fields.{fits_text, fits_bare}
use Rattle.sheet_records.proofs.OfKinds.{some_positions}
use Rattle.sheet_records.specs.Kinds.{code}
use Rattle.sheet_records.proofs.kinds.Kind.size_fits.Goals as goal

pub returns-then-carries_text : goal.returns-then-carries_text
returns-then-carries_text c =
    rw c.positions.ensures.0 (sym (fits_text (code c.args.self) c.args.n (some_positions c.args.self) (sym c.carries_text.ensures ∙ c.if-carries_text.true)))

pub returns-else-carries_text : goal.returns-else-carries_text
returns-else-carries_text c =
    rw c.positions.ensures.0 (sym (fits_bare (code c.args.self) c.args.n (some_positions c.args.self) (sym c.carries_text.ensures ∙ c.if-carries_text.false)))

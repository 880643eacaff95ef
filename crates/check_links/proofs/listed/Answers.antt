use mathlib.Core.Path.{sym, ◌∙◌}
use borrow.Author.Tests.{eqb-true}
use Rattle.check_links.proofs.Listing.{alone_decided}
use Rattle.check_links.proofs.listed.Goals as goal

pub returns-then-is_empty : goal.returns-then-is_empty
returns-then-is_empty c = alone_decided _ _ _ c.requires.source_value (eqb-true _ _ (sym c.is_empty.ensures ∙ c.if-is_empty.true)) c.alone.ensures

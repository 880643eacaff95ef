use Rattle.indent.proofs.Call.{even_options, odd_refused, with_given, with_none}
use Rattle.indent.proofs.indent_with.Goals as goal

pub returns-then-exclude-ne0 : goal.returns-then-exclude-ne0
returns-then-exclude-ne0 c = record { ran = odd_refused c.requires.well_formed _ c.args.exclude.now c.if-exclude-ne0.true; above = c.requires.above }

pub by_given-requires : goal.by_given-requires
by_given-requires c = record { desk = c.requires; exclude_value = even_options c.args.exclude.now c.if-exclude-ne0.false }

pub returns-then-has_indentor : goal.returns-then-has_indentor
returns-then-has_indentor c = with_given c.args.has_indentor c.args.indentor.now c.if-has_indentor.true c.by_given.ensures

pub by_guess-requires : goal.by_guess-requires
by_guess-requires c = record { desk = c.requires; exclude_value = even_options c.args.exclude.now c.if-exclude-ne0.false }

pub returns : goal.returns
returns c = with_none c.args.has_indentor c.args.indentor.now c.if-has_indentor.false c.by_guess.ensures

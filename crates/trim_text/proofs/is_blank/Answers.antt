use Rattle.trim_text.specs.Patterns.{pattern_number}
use Rattle.trim_text.proofs.Places.{blank_test}
use Rattle.trim_text.proofs.is_blank.Goals as goal

pub returns : goal.returns
returns c = blank_test (pattern_number c.args.pattern) c.args.text.now _ c.trim_start_len.ensures.0 c.trim_start_len.ensures.1

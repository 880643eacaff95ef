-- `last_byte` meets its contract.
use mathlib.Core.Path.{ap, ◌∙◌}
use Prim.Native.Nat.{ℕ}
use Rattle.std.specs.Option.{unwrap_or}
use Rattle.std.specs.Prelude.{Option}
use Rattle.report_line_count.proofs.Lines.{last_or}
use Rattle.report_line_count.proofs.last_byte.Goals as goal

pub returns : goal.returns
returns c =
    c.unwrap_or.ensures
    ∙ ap (λ (o : Option ℕ). unwrap_or o c.args.before) (c.copied.ensures ∙ c.last.ensures.value)
    ∙ last_or c.args.before c.args.t.now

use Rattle.indent_steps.proofs.next_text.Goals as goal

pub returns : goal.returns
returns c = rw c.in-Some.is at c.in_ok-turned.ensures

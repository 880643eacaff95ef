use Rattle.trim_run.proofs.Run.{front_none, front_more, text_valid}
use Rattle.trim_text.specs.Patterns.{pattern_number}
use Rattle.trim_text.specs.Sides.{blank}
use Rattle.memory_texts.proofs.Texts.{run_piece}
use mathlib.Core.Path.{sym, ap, ◌∙◌}
use Rattle.trim_run.proofs.blank_front.Goals as goal

pub loop-k-init : goal.loop-k-init
loop-k-init c = front_none _ _ _ c.args.at c.args.n

pub text_of-requires : goal.text_of-requires
text_of-requires c = run_piece _ _ _ c.args.n c.loop-k.k c.requires.inside c.loop-k-test.true

pub is_blank-requires : goal.is_blank-requires
is_blank-requires c = rw c.text_of.ensures (text_valid c.args.p.now c.args.s.now c.args.at c.args.n c.loop-k.k c.requires.valid c.loop-k-test.true)

pub loop-k-preserved : goal.loop-k-preserved
loop-k-preserved c =
    front_more _ _ _ c.args.at c.args.n c.loop-k.k c.loop-k.invariant (sym (ap (blank (pattern_number c.args.pattern)) c.text_of.ensures)
    ∙ sym c.is_blank.ensures ∙ c.if-not-is_blank.false)

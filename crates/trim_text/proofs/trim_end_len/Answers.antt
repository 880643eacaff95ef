use Rattle.trim_text.specs.Patterns.{pattern_number}
use Rattle.trim_text.proofs.Sides.{end_more, end_stop, end_all}
use native.Mathlib.Omega.{arith}
use mathlib.Core.Path.{◌≡◌, sym, ◌∙◌}
use Rattle.trim_text.proofs.trim_end_len.Goals as goal

pub returns-then-not-is_match : goal.returns-then-not-is_match
returns-then-not-is_match c = (
  c.loop-n.invariant.inside,
  end_stop (pattern_number c.args.pattern) c.args.text.now c.loop-n.n c.loop-n.invariant _ _ c.last_start-last.ensures c.code_at.ensures
      (sym c.is_match.ensures ∙ c.if-not-is_match.true),
)

pub loop-n-preserved : goal.loop-n-preserved
loop-n-preserved c =
    end_more (pattern_number c.args.pattern) c.args.text.now c.loop-n.n c.loop-n.invariant _ _ c.last_start-last.ensures c.code_at.ensures
    (sym c.is_match.ensures ∙ c.if-not-is_match.false)

pub returns : goal.returns
returns c =
    let z : c.loop-n.n ≡ 0 = omega (arith, c.loop-n-test.false) in
    (c.loop-n.invariant.inside, rw z (end_all (pattern_number c.args.pattern) c.args.text.now (rw z at c.loop-n.invariant)))

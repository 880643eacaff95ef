use mathlib.Core.Path.{◌≡◌, sym, ap, ◌∙◌}
use native.Mathlib.Omega.{arith}
use Rattle.utf8.specs.Rfc3629.{decode_at}
use Rattle.utf8.specs.Chars.{utf16_width}
use Rattle.utf8.proofs.Texts.{turn}
use Rattle.utf8.specs.declared.Decoded.TheVariants.{Char}
use Rattle.model.specs.Text.{sum}
use Rattle.report_measures.proofs.ByCharacters.{utf16_le, utf16_step, left_none}
use Rattle.report_measures.proofs.utf16_len.Goals as goal

pub loop-code-init : goal.loop-code-init
loop-code-init c = (omega arith, c.requires.t_value, omega arith)

pub overflow_add-n : goal.overflow_add-n
overflow_add-n c =
    let char : decode_at c.args.t.now
    c.loop-code.i ≡ Char c.in-Char.code c.in-Char.width = sym c.decode.ensures ∙ c.in-Char.is in
    let t = c.args.t.now in
    omega (
      arith,
      c.units-n.ensures,
      c.loop-code.invariant.2,
      utf16_step t c.loop-code.i _ _ c.loop-code.invariant.1 (char),
      utf16_le t c.requires.t_value,
      c.requires.t_len_bound,
    )

pub overflow_add-i : goal.overflow_add-i
overflow_add-i c =
    let char : decode_at c.args.t.now
    c.loop-code.i ≡ Char c.in-Char.code c.in-Char.width = sym c.decode.ensures ∙ c.in-Char.is in
    omega (arith, (turn c.args.t.now c.loop-code.i _ _ (char)).1)

pub loop-code-smaller : goal.loop-code-smaller
loop-code-smaller c =
    let char : decode_at c.args.t.now
    c.loop-code.i ≡ Char c.in-Char.code c.in-Char.width = sym c.decode.ensures ∙ c.in-Char.is in
    let u = turn c.args.t.now c.loop-code.i _ _ (char) in
    omega (arith, u.0, u.1)

pub loop-code-preserved : goal.loop-code-preserved
loop-code-preserved c =
    let char : decode_at c.args.t.now
    c.loop-code.i ≡ Char c.in-Char.code c.in-Char.width = sym c.decode.ensures ∙ c.in-Char.is in
    let t = c.args.t.now in
    let u = turn t c.loop-code.i _ _ (char) in
    (u.1, sym u.2 ∙ c.loop-code.invariant.1, omega (arith, c.units-n.ensures, c.loop-code.invariant.2, utf16_step t c.loop-code.i _ _ c.loop-code.invariant.1 (char)))

pub returns : goal.returns
returns c =
    let e = left_none c.args.t.now c.loop-code.i c.decode.result c.loop-code.invariant.0 c.loop-code.invariant.1 (sym c.decode.ensures) c.in_default.not-Char in
    omega (arith, c.loop-code.invariant.2, ap (sum utf16_width) e)

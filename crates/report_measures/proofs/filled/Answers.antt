use mathlib.Core.Path.{◌≡◌, refl, sym, ap, ◌∙◌}
use mathlib.Core.Bool.{Bool, not, ◌&&◌}
use Prim.Native.Nat.{◌+◌}
use native.Mathlib.Omega.{arith}
use lib.ListN.{drop}
use Rattle.utf8.specs.Rfc3629.{decode_at}
use Rattle.utf8.specs.Chars.{code}
use Rattle.utf8.specs.WhiteSpace.{white_space}
use Rattle.utf8.proofs.Texts.{turn}
use Rattle.utf8.specs.declared.Decoded.TheVariants.{Char}
use Rattle.model.specs.Text.{all}
use Rattle.report_measures.proofs.ByCharacters.{white, white_step, left_none, filled_is}
use Rattle.report_measures.proofs.filled.Goals as goal

pub loop-code-init : goal.loop-code-init
loop-code-init c = (omega arith, c.requires, refl)

pub returns-then-not-is_white_space : goal.returns-then-not-is_white_space
returns-then-not-is_white_space c =
    let char : decode_at c.args.t.now
    c.loop-code.i ≡ Char c.in-Char.code c.in-Char.width = sym c.decode.ensures ∙ c.in-Char.is in
    let step : white c.args.t.now ≡
    (c.is_white_space.result && white (drop (c.loop-code.i + c.in-Char.width)
    c.args.t.now)) = let t = c.args.t.now in
    sym c.loop-code.invariant.2 ∙ white_step t c.loop-code.i _ _ c.loop-code.invariant.1 (char) ∙ ap (λ (b : Bool). b && white (drop (c.loop-code.i + c.in-Char.width) t)) (sym c.is_white_space.ensures) in
    let t = c.args.t.now in
    sym (filled_is t c.requires ∙ ap not
    (step ∙ ap (λ (b : Bool). b && white (drop
    (c.loop-code.i + c.in-Char.width) t))
    c.if-not-is_white_space.true))

pub overflow_add-i : goal.overflow_add-i
overflow_add-i c =
    let char : decode_at c.args.t.now
    c.loop-code.i ≡ Char c.in-Char.code c.in-Char.width = sym c.decode.ensures ∙ c.in-Char.is in
    omega (arith, (turn c.args.t.now c.loop-code.i _ _ (char)).1)

pub loop-code-smaller : goal.loop-code-smaller
loop-code-smaller c =
    let char : decode_at c.args.t.now
    c.loop-code.i ≡ Char c.in-Char.code c.in-Char.width = sym c.decode.ensures ∙ c.in-Char.is in
    let u = turn c.args.t.now c.loop-code.i _ _ (char) in
    omega (arith, u.0, u.1)

pub loop-code-preserved : goal.loop-code-preserved
loop-code-preserved c =
    let char : decode_at c.args.t.now
    c.loop-code.i ≡ Char c.in-Char.code c.in-Char.width = sym c.decode.ensures ∙ c.in-Char.is in
    let step : white c.args.t.now ≡
    (c.is_white_space.result && white (drop (c.loop-code.i + c.in-Char.width)
    c.args.t.now)) = let t = c.args.t.now in
    sym c.loop-code.invariant.2 ∙ white_step t c.loop-code.i _ _ c.loop-code.invariant.1 (char) ∙ ap (λ (b : Bool). b && white (drop (c.loop-code.i + c.in-Char.width) t)) (sym c.is_white_space.ensures) in
    let t = c.args.t.now in
    let u = turn t c.loop-code.i _ _ (char) in (
      u.1,
      sym u.2 ∙ c.loop-code.invariant.1,
      sym (step ∙ ap (λ (b : Bool). b && white (drop (c.loop-code.i + c.in-Char.width) t))
          c.if-not-is_white_space.false),
    )

pub returns : goal.returns
returns c =
    let t = c.args.t.now in
    let e = left_none t c.loop-code.i c.decode.result c.loop-code.invariant.0 c.loop-code.invariant.1 (sym c.decode.ensures) c.in_default.not-Char in
    sym (filled_is t c.requires ∙ ap not (sym c.loop-code.invariant.2 ∙ ap (all (λ x. white_space (code x))) e))

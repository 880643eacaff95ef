-- Each answer is a law of `Masks.antt` or `Sequences.antt` at the tests that led to it.
use mathlib.Core.Path.{sym, ap, ◌∙◌}
use Prim.Native.Nat.{◌+◌, ◌*◌, ◌%◌}
use native.Mathlib.Omega.{arith}
use Rattle.utf8.specs.Rfc3629.{scalar}
use Rattle.utf8.proofs.Sequences.{seq_low, seq_high}
use Rattle.utf8.proofs.Masks.{is_2, is_3, is_4, no_b, no_c, no_d}
use Rattle.utf8.proofs.decoder.long.Goals as goal

pub returns-in-192-to-223 : goal.returns-in-192-to-223
returns-in-192-to-223 c =
    let x = c.args in
    c.checked.ensures ∙ ap (scalar 0x80 _) (c.width.ensures.two (omega arith) (omega arith))
    ∙ is_2 x.a x.b x.c x.d _ _ (omega arith) (omega arith) c.following.ensures c.if-following.true (c.join.ensures ∙ ap (λ l. l * 64 + x.b % 64) c.from.ensures)

pub returns-in-224-to-239 : goal.returns-in-224-to-239
returns-in-224-to-239 c =
    let x = c.args in
    c.checked-in-224-to-239.ensures ∙ ap (scalar 0x800 _) (c.width-in-224-to-239.ensures.three (omega arith) (omega arith))
    ∙ is_3 x.a x.b x.c x.d _ _ _ _ (omega arith) (omega arith) c.following-then-a-lt240.ensures c.if-following-2.true c.following-then-following-2.ensures c.if-following-3.true
    (c.join-in-224-to-239.ensures ∙ ap (λ l. l * 64 + x.b % 64) c.from-in-224-to-239.ensures) c.join-in-224-to-239-2.ensures

pub returns-in-240-to-247 : goal.returns-in-240-to-247
returns-in-240-to-247 c =
    let x = c.args in
    c.checked-in-240-to-247.ensures ∙ ap (scalar 0x10000 _) (c.width-in-240-to-247.ensures.four (omega arith) (omega arith))
    ∙ is_4 x.a x.b x.c x.d _ _ _ _ _ _ (omega arith) (omega arith) c.following-then-a-lt248.ensures c.if-following-4.true c.following-then-following-4.ensures c.if-following-5.true
    c.following-then-following-5.ensures c.if-following-6.true (c.join-in-240-to-247.ensures ∙ ap (λ l. l * 64 + x.b % 64) c.from-in-240-to-247.ensures) c.join-in-240-to-247-2.ensures c.join-in-240-to-247-3.ensures

pub returns-in_default : goal.returns-in_default
returns-in_default c = sym (seq_low c.args.a c.args.b c.args.c c.args.d c.requires (omega arith))

pub returns-in_default-2 : goal.returns-in_default-2
returns-in_default-2 c = no_b c.args.a c.args.b c.args.c c.args.d _ (omega arith) (omega arith) c.following.ensures c.if-following.false

pub returns-in_default-3 : goal.returns-in_default-3
returns-in_default-3 c =
    no_c c.args.a c.args.b c.args.c c.args.d _ _ (omega arith) (omega arith) c.following-then-a-lt240.ensures c.if-following-2.true c.following-then-following-2.ensures c.if-following-3.false

pub returns-in_default-4 : goal.returns-in_default-4
returns-in_default-4 c = no_b c.args.a c.args.b c.args.c c.args.d _ (omega arith) (omega arith) c.following-then-a-lt240.ensures c.if-following-2.false

pub returns-in_default-5 : goal.returns-in_default-5
returns-in_default-5 c =
    no_d c.args.a c.args.b c.args.c c.args.d _ _ _ (omega arith) (omega arith) c.following-then-a-lt248.ensures c.if-following-4.true c.following-then-following-4.ensures c.if-following-5.true
    c.following-then-following-5.ensures c.if-following-6.false

pub returns-in_default-6 : goal.returns-in_default-6
returns-in_default-6 c =
    no_c c.args.a c.args.b c.args.c c.args.d _ _ (omega arith) (omega arith) c.following-then-a-lt248.ensures c.if-following-4.true c.following-then-following-4.ensures c.if-following-5.false

pub returns-in_default-7 : goal.returns-in_default-7
returns-in_default-7 c = no_b c.args.a c.args.b c.args.c c.args.d _ (omega arith) (omega arith) c.following-then-a-lt248.ensures c.if-following-4.false

pub returns-in_default-8 : goal.returns-in_default-8
returns-in_default-8 c = sym (seq_high c.args.a c.args.b c.args.c c.args.d (omega arith))

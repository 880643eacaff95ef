-- The end, one byte, or `long` of the bytes read.
use mathlib.Core.Path.{◌≡◌, sym, ◌∙◌}
use Prim.Native.Nat.{◌<◌}
use borrow.Author.Rules.{rules}
use lib.ListN.{length, get_or}
use Rattle.utf8.proofs.Sequences.{at_end, at_start, seq_1}
use Rattle.utf8.proofs.decoder.decode.Goals as goal

pub returns-in_default : goal.returns-in_default
returns-in_default c = sym (at_end c.args.s.now c.args.at (search rules))

pub returns-then-a-lt128 : goal.returns-then-a-lt128
returns-then-a-lt128 c =
    let l : c.args.at < length c.args.s.now = search rules in
    let e : c.in-Some.field-0.now ≡ get_or c.args.s.now c.args.at 0 = search rules in
    rw (c.from.ensures, c.width.ensures.one c.if-a-lt128.true, e) (sym (at_start c.args.s.now c.args.at l ∙ seq_1 _ _ _ _ (rw e at c.if-a-lt128.true)))

pub returns : goal.returns
returns c =
    let l : c.args.at < length c.args.s.now = search rules in
    let e : c.in-Some.field-0.now ≡ get_or c.args.s.now c.args.at 0 = search rules in
    cc (at_start c.args.s.now c.args.at l)

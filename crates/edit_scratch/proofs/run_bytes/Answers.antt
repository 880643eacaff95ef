use mathlib.Core.Path.{◌≡◌, ap, ◌∙◌}
use Prim.Native.Nat.{◌+◌, min}
use native.Mathlib.Omega.{arith}
use lib.ListN.{length}
use Rattle.memory_layout.specs.Layout.{BYTES_PAST}
use Rattle.memory.specs.Layout.{bytes_at, piece_at}
use Rattle.memory_texts.proofs.Texts.{run_piece}
use Rattle.edit_scratch.proofs.Counting.{first_bytes_of, bytes_none, bytes_more, capped_more}
use Rattle.edit_scratch.proofs.run_bytes.Goals as goal

pub loop-i-init : goal.loop-i-init
loop-i-init c = omega (arith, bytes_none c.args.p.now c.args.s.now c.args.at, c.requires.total_bound)

pub text_of-text-requires : goal.text_of-text-requires
text_of-text-requires c = run_piece c.args.p.now c.args.s.now c.args.at c.args.n c.loop-i.i c.requires.run_in (omega (arith, c.loop-i-test.true))

pub loop-i-preserved : goal.loop-i-preserved
loop-i-preserved c =
    let x = length (bytes_at c.args.s.now (piece_at c.args.p.now (c.args.at + c.loop-i.i))) in
    let e : length c.text_of-text.result.now ≡ x = ap length c.text_of-text.ensures in
    capped_more BYTES_PAST (c.args.total + first_bytes_of c.args.p.now c.args.s.now c.args.at c.loop-i.i) x c.loop-i.sum c.add_capped-sum.result c.loop-i.invariant
    (c.add_capped-sum.ensures ∙ ap (λ y. min (c.loop-i.sum + y) BYTES_PAST) e)
    ∙ ap (λ y. min y BYTES_PAST) (omega (arith, bytes_more c.args.p.now c.args.s.now c.args.at c.loop-i.i))

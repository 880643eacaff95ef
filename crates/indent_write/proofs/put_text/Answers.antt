use mathlib.Core.Path.{refl}
use Prim.Native.Nat.{◌+◌, ◌≤◌}
use native.Mathlib.Omega.{arith}
use lib.ListN.{length}
use Rattle.memory_texts.proofs.Over.{put_back}
use Rattle.indent_write.proofs.put_text.Goals as goal

pub returns : goal.returns
returns c =
    let h : c.args.place + length c.args.text.now ≤ length c.args.out.now = omega arith in
    record { done = record { out_is = put_back _ _ _ _ _ h c.put.ensures refl; next_is = refl }; room = h }

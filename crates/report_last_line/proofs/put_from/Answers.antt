-- `last_line::put_from` meets its contract.
use mathlib.Core.Path.{◌≡◌, ap}
use mathlib.Core.List.{List}
use Prim.Native.Nat.{ℕ, ◌+◌, ◌-◌}
use native.Mathlib.Omega.{arith}
use lib.ListN.{length, take, drop, length-take, length-drop}
use lib.Seq.{take_all}
use Rattle.memory_texts.proofs.Over.{put_back}
use Rattle.report_last_line.proofs.put_from.Goals as goal

-- the part up to the end is all that is left
part_is : (x : List ℕ) (at : ℕ) → take (length x - at) (drop at x) ≡ drop at x
part_is x at = take_all (length x - at) (drop at x) (simp length-drop (omega arith))

part_length : (x : List ℕ) (at : ℕ) → length (take (length x - at) (drop at x)) ≡ length (drop at x)
part_length x at = ap length (part_is x at)

pub put-requires : goal.put-requires
put-requires c = simp (length-take, length-drop) (omega (arith, c.requires.text_in_bounds, length-drop c.args.at c.args.text.now))

pub returns : goal.returns
returns c =
    let a = c.args in
    let l = part_length a.text.now a.at in
    record {
      out_is = put_back a.out.now _ (drop a.at a.text.now) _ a.o (omega (arith, l, c.requires.text_in_bounds)) c.put.ensures (part_is a.text.now a.at);
      next_is = ap (λ (k : ℕ). a.o + k) l;
    }

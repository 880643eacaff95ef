use Rattle.trim_text.specs.Patterns.{pattern_number}
use Rattle.trim_run.proofs.Run.{front_stop, back_stop, part_ready, part_room, trimmed_front, trimmed_back}
use native.Mathlib.Omega.{arith}
use Prim.Native.Nat.{◌+◌, ◌-◌}
use mathlib.Core.Path.{◌≡◌}
use Rattle.trim_run.proofs.trim_run.Goals as goal

pub put_trimmed-requires : goal.put_trimmed-requires
put_trimmed-requires c = let b = c.blank_front-k.ensures in let k = c.blank_front-k.result in let g = front_stop (pattern_number c.args.pattern) c.args.p.now c.args.s.now c.args.at c.args.n k b c.requires.n_value in record { run_ready = part_ready c.args.p.now c.args.s.now c.args.at c.args.n k (c.args.n - k) (omega (arith, c.blank_front-k.ensures.most)) c.requires.run_ready; row_room = part_room c.args.p.now c.args.s.now c.args.at c.args.n k (c.args.n - k) (omega (arith, c.blank_front-k.ensures.most)) c.args.top c.requires.row_room; k_lt_n = omega arith }

pub returns-then-front : goal.returns-then-front
returns-then-front c =
    let b = c.blank_front-k.ensures in
    let k = c.blank_front-k.result in
    let g = front_stop (pattern_number c.args.pattern) c.args.p.now c.args.s.now c.args.at c.args.n k b c.requires.n_value in
    rw c.if-front.true
    (trimmed_front (pattern_number c.args.pattern) c.args.p.now c.args.s.now c.put_trimmed.new.p c.args.at c.args.n k c.args.top b g
    (rw c.if-front.true at c.put_trimmed.ensures))

pub put_trimmed-requires-2 : goal.put_trimmed-requires-2
put_trimmed-requires-2 c = let b = c.blank_back-k.ensures in let k = c.blank_back-k.result in let g = back_stop (pattern_number c.args.pattern) c.args.p.now c.args.s.now c.args.at c.args.n k b c.requires.n_value in let z : c.args.at + 0 ≡ c.args.at = omega arith in record { run_ready = rw z at (part_ready c.args.p.now c.args.s.now c.args.at c.args.n 0 k (omega (arith, c.blank_back-k.ensures.most)) c.requires.run_ready); row_room = rw z at (part_room c.args.p.now c.args.s.now c.args.at c.args.n 0 k (omega (arith, c.blank_back-k.ensures.most)) c.args.top c.requires.row_room); k_lt_n = omega arith }

pub returns : goal.returns
returns c =
    let b = c.blank_back-k.ensures in
    let k = c.blank_back-k.result in
    let g = back_stop (pattern_number c.args.pattern) c.args.p.now c.args.s.now c.args.at c.args.n k b c.requires.n_value in
    rw c.if-front.false (trimmed_back (pattern_number c.args.pattern) c.args.p.now c.args.s.now c.put_trimmed-2.new.p
    c.args.at c.args.n k c.args.top b g (rw c.if-front.false at
    c.put_trimmed-2.ensures))

use mathlib.Core.Path.{◌≡◌, ap}
use native.Mathlib.Omega.{arith}
use Prim.Native.Nat.{ℕ, ◌+◌, ◌-◌}
use lib.ListN.{take, drop}
use Rattle.memory.specs.Layout.{bytes_at}
use Rattle.indent_replaced_chunk.proofs.Replacement.{written_fits}
use Rattle.indent_replaced_chunk.proofs.write_indented.Goals as goal

pub returns : goal.returns
returns c =
    let z : c.args.at + c.args.n - c.args.at ≡ c.args.n = omega arith in
    let x = c.in_ok-behind.ensures in
    written_fits c.args.indentor.now c.args.mark (bytes_at c.args.store.now (c.args.at, c.args.n)) _ (ap (λ (j : ℕ). take j (drop c.args.at c.args.store.now)) z)
    c.requires.n_value x.0 x.1

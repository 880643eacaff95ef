-- `indent_string::feeds` meets its contract.
use mathlib.Core.Path.{◌≡◌, sym, ap, ◌∙◌}
use Prim.Native.Nat.{ℕ, ◌+◌, ◌-◌}
use native.Mathlib.Omega.{arith}
use lib.ListN.{take, drop}
use Rattle.model.specs.Text.{line_feeds}
use Rattle.report_indent_string.proofs.Tallies.{no_feeds_in}
use Rattle.report_indent_string.proofs.feeds.Goals as goal

pub returns : goal.returns
returns c = λ z.
    let a = c.args in
    let q : a.n ≡ a.i + a.n - a.i = omega arith in
    no_feeds_in a.s.now a.i a.n c.requires.0 (ap (λ (k : ℕ). line_feeds (take k (drop a.i a.s.now))) q ∙ sym c.line_feeds.ensures ∙ z)

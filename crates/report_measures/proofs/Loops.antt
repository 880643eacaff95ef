-- A turn of each loop.
use mathlib.Core.Path.{◌≡◌, ap}
use Prim.Native.Nat.{ℕ, ◌+◌, ◌≤◌, ◌<◌}
use native.Mathlib.Numerals.{add-one}
use lib.Dec.{eqb}
use lib.ListN.{length, get_or, drop}
use lib.Seq.{drop-cons}
use Rattle.report_measures.specs.Measures.{feed_of}
use Rattle.model.specs.Text.{Text, LF, line_feeds}
use Rattle.model.proofs.Lists.{one_most}

pub feeds_cons : (t : Text) (i : ℕ) → i < length t → line_feeds (drop i t) ≡ feed_of (get_or t i 0) + line_feeds (drop (i + 1) t)
feeds_cons t i h = rw add-one (ap line_feeds (drop-cons t i 0 h))

pub feed_most : (b : ℕ) → feed_of b ≤ 1
feed_most b = one_most (eqb b LF)

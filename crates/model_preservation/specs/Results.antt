-- What is proved of the model's calls: the statements. proofs/ has each under the same name in small letters.
use Rattle.std.specs.Prelude.{ℕ, ◌≤◌, ◌≡◌, true, false}
use Rattle.std.proofs.Math.Option.{none, some}
use Rattle.utf8.specs.Rfc3629.{between}
use Rattle.model.specs.Text.{Text, behind_last_line_feed}
use Rattle.model.specs.MagicString.{MagicString, split_at, last_line, to_string}
use Rattle.model.specs.Limits.{Limits}
use Rattle.model.specs.WellFormed.{Formed, WellFormed}
use Rattle.model.specs.Call.{Edit, may_change, run, opened}

-- "All others change nothing"
abbrev pub RefusalChangesNothing : Type 0
RefusalChangesNothing = (k : Limits) (e : Edit) (m : MagicString) → Formed m → may_change e (run k e m).number ≡ false → (run k e m).desk ≡ m

-- an accepted opening leaves a well-formed desk
abbrev pub OpenedKeeps : Type 0
OpenedKeeps = (k : Limits) (source : Text) (m : MagicString) → 1 ≤ k.most_chunks → (opened k source m).number ≡ 0 → WellFormed k (opened k source m).desk

-- a cut between two characters keeps all but the limits
abbrev pub SplitAtKeeps : Type 0
SplitAtKeeps = (p : ℕ) (m : MagicString) → Formed m → between m.source p ≡ true → Formed (split_at p m).desk

-- the last line of a text: what stands behind its last line feed, or all of it
unfoldable pub last_line_of : Text → Text
last_line_of s = elim (behind_last_line_feed s) [ none ↦ s | some t ↦ t ]

-- `last_line` is the last line of the output
abbrev pub LastLineIs : Type 0
LastLineIs = (m : MagicString) → last_line m ≡ last_line_of (to_string m)

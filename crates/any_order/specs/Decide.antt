-- A test that is true if and only if its premise holds.
use Rattle.std.specs.Prelude.{◌≡◌, Bool, true, ◌↔◌}

-- ── a test decides a statement ──
abbrev pub Decides : Bool → Type 0 → Type 0
Decides b P = (b ≡ true) ↔ P

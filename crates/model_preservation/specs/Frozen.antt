-- Document 02, L8: "A desk without marks is still compared with the Rust".
use Rattle.std.specs.Prelude.{◌≡◌, false}
use Rattle.model.specs.MagicString.{MagicString}
use Rattle.model.specs.Frozen.{any_frozen}
use Rattle.model.specs.Limits.{Limits}
use Rattle.model.specs.Call.{Edit, run, rust_run}

-- on a desk without marks every edit gives what it gave before there were any
abbrev pub UnmarkedIsRust : Type 0
UnmarkedIsRust = (k : Limits) (e : Edit) (m : MagicString) → any_frozen m ≡ false → run k e m ≡ rust_run k e m

-- The byte of each kind, and what reading a byte as a kind gives.
use Rattle.std.specs.Prelude.{ℕ, ◌≡◌, Result, Ok, Err}
use Rattle.model_sheet.specs.Record.{positions}
use Rattle.sheet_records.specs.declared.kinds.Kind.{Kind}
use Rattle.sheet_records.specs.declared.kinds.Kind.TheVariants.{Remove, Update, Reset, AppendLeft, AppendRight, PrependLeft, PrependRight, Relocate}
use Rattle.sheet_records.specs.declared.kinds.NoKind.{NoKind}

abbrev pub code : Kind → ℕ
code Remove = 1
code Update = 2
code Reset = 3
code AppendLeft = 4
code AppendRight = 5
code PrependLeft = 6
code PrependRight = 7
code Relocate = 8

-- the kind whose byte it is; no kind has a byte without positions
abbrev pub Decodes : ℕ → Result Kind NoKind → Type 0
Decodes byte (Ok k) = code k ≡ byte
Decodes byte (Err e) = positions byte ≡ 0

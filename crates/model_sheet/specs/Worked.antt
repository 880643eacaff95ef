-- Worked sheets and records, as tables: what is read, called, answered and printed. proofs/Example.antt computes each.
use Rattle.std.specs.Prelude.{ℕ, true, List, [], ◌∷◌, ◌++◌, map}
use Rattle.model.specs.Text.{Text}
use Rattle.model.specs.MagicString.{new}
use Rattle.model.specs.Limits.{full}
use Rattle.model.specs.Insert.{left, right, front, back}
use Rattle.model.specs.Call.{Edit, remove, update_with, reset, insert, relocate, Shown, refusal}
use Rattle.model_sheet.specs.Record.{Recorded}
use Rattle.model_sheet.specs.Sheet.{run_sheet}

-- ── records ──
abbrev pub fields : ℕ → ℕ → ℕ → ℕ → Text → Recorded
fields kind a b c t = record { kind = kind; a = a; b = b; c = c; text = t }

-- relocate 0 to 2 to 3
abbrev pub moved_bytes : List ℕ
moved_bytes = 0x00 ∷ 0x0D ∷ 0x08 ∷ 0x00 ∷ 0x00 ∷ 0x00 ∷ 0x00 ∷ 0x00 ∷ 0x00 ∷ 0x00 ∷ 0x02 ∷ 0x00 ∷ 0x00 ∷ 0x00 ∷ 0x03 ∷ []

abbrev pub moved : Recorded
moved = fields 8 0 2 3 []

-- append_left at 258 of "hi"
abbrev pub appended_bytes : List ℕ
appended_bytes = 0x00 ∷ 0x07 ∷ 0x04 ∷ 0x00 ∷ 0x00 ∷ 0x01 ∷ 0x02 ∷ 0x68 ∷ 0x69 ∷ []

abbrev pub appended : Recorded
appended = fields 4 258 0 0 (0x68 ∷ 0x69 ∷ [])

-- bytes that are no records: a byte too many, a byte too few, a text that kind 8 and one that kind 1 does not carry, no such kind, a length of 0
abbrev pub unread : List (List ℕ)
unread =
    (moved_bytes ++ (0 ∷ []))
    ∷ (0 ∷ 7 ∷ 4 ∷ 0 ∷ 0 ∷ 1 ∷ 2 ∷ 0x68 ∷ [])
    ∷ (0 ∷ 14 ∷ 8 ∷ 0 ∷ 0 ∷ 0 ∷ 0 ∷ 0 ∷ 0 ∷ 0 ∷ 2 ∷ 0 ∷ 0 ∷ 0 ∷ 3 ∷ 0x68 ∷ [])
    ∷ (0 ∷ 10 ∷ 1 ∷ 0 ∷ 0 ∷ 0 ∷ 0 ∷ 0 ∷ 0 ∷ 0 ∷ 2 ∷ 0x68 ∷ [])
    ∷ (0 ∷ 1 ∷ 9 ∷ [])
    ∷ (0 ∷ 0 ∷ [])
    ∷ []

-- "Kinds: 1 remove, 2 update with overwrite, 3 reset, 4 append_left, 5 append_right, 6 prepend_left, 7 prepend_right, 8 relocate"
abbrev pub each_kind : Text → List Recorded
each_kind t = map (λ k. fields k 5 6 7 t) (1 ∷ 2 ∷ 3 ∷ 4 ∷ 5 ∷ 6 ∷ 7 ∷ 8 ∷ [])

abbrev pub each_call : Text → List Edit
each_call t =
    remove 5 6
    ∷ update_with 5 6 t true
    ∷ reset 5 6
    ∷ insert 5 t left back
    ∷ insert 5 t right back
    ∷ insert 5 t left front
    ∷ insert 5 t right front
    ∷ relocate 5 6 7
    ∷ []

-- ── sheets ──
abbrev pub front_abc : List ℕ
front_abc = 0x01 ∷ 0x00 ∷ 0x03 ∷ 0x61 ∷ 0x62 ∷ 0x63 ∷ []

-- "The sheet 01 0003 616263 000D 08 00000000 00000002 00000003 (hexadecimal) prints "8 0", a line feed and "cab""
abbrev pub example : List ℕ
example = front_abc ++ moved_bytes

-- update 0 to 1 by "x"; append_left at 2 of "y"; relocate 1 to 2 to 1, which is 8; prepend_right at 3 of "z"
abbrev pub refused_middle : List ℕ
refused_middle =
    front_abc
    ++ (0x00 ∷ 0x0A ∷ 0x02 ∷ 0x00 ∷ 0x00 ∷ 0x00 ∷ 0x00 ∷ 0x00 ∷ 0x00 ∷ 0x00 ∷ 0x01 ∷ 0x78
    ∷ 0x00 ∷ 0x06 ∷ 0x04 ∷ 0x00 ∷ 0x00 ∷ 0x00 ∷ 0x02 ∷ 0x79
    ∷ 0x00 ∷ 0x0D ∷ 0x08 ∷ 0x00 ∷ 0x00 ∷ 0x00 ∷ 0x01 ∷ 0x00 ∷ 0x00 ∷ 0x00 ∷ 0x02 ∷ 0x00 ∷ 0x00 ∷ 0x00 ∷ 0x01
    ∷ 0x00 ∷ 0x06 ∷ 0x07 ∷ 0x00 ∷ 0x00 ∷ 0x00 ∷ 0x03 ∷ 0x7A
    ∷ [])

-- each sheet with what the program prints: "8 0" and "cab"; "2 0", "4 0", "8 8", "7 0" and "xbycz", behind the refusal too; "0 16" for no bytes, for a byte too many
-- and for the wrong version; "0 1" for a source that is not UTF-8
abbrev pub prints : List (List ℕ × Text)
prints =
    (example, 0x38 ∷ 0x20 ∷ 0x30 ∷ 0x0A ∷ 0x63 ∷ 0x61 ∷ 0x62 ∷ [])
    ∷ (refused_middle, 0x32 ∷ 0x20 ∷ 0x30 ∷ 0x0A ∷ 0x34 ∷ 0x20 ∷ 0x30 ∷ 0x0A ∷ 0x38 ∷ 0x20 ∷ 0x38 ∷ 0x0A ∷ 0x37 ∷ 0x20 ∷ 0x30 ∷ 0x0A ∷ 0x78 ∷ 0x62 ∷ 0x79 ∷ 0x63 ∷ 0x7A ∷ [])
    ∷ ([], 0x30 ∷ 0x20 ∷ 0x31 ∷ 0x36 ∷ 0x0A ∷ [])
    ∷ (example ++ (0 ∷ []), 0x30 ∷ 0x20 ∷ 0x31 ∷ 0x36 ∷ 0x0A ∷ [])
    ∷ (0x02 ∷ 0x00 ∷ 0x00 ∷ [], 0x30 ∷ 0x20 ∷ 0x31 ∷ 0x36 ∷ 0x0A ∷ [])
    ∷ (0x01 ∷ 0x00 ∷ 0x01 ∷ 0xFF ∷ [], 0x30 ∷ 0x20 ∷ 0x31 ∷ 0x0A ∷ [])
    ∷ []

-- a sheet and how many answer bytes are lent, with what the call answers and writes
pub record Run : Type 0 where
  pub sheet : List ℕ
  pub room : ℕ
  pub shown : Shown

abbrev pub gave : List ℕ → ℕ → Shown
gave l n = record { number = 0; value = n; written = l }

abbrev pub runs : List Run
runs =
    record { sheet = example; room = 1; shown = gave (0 ∷ []) 1 }
    ∷ record { sheet = refused_middle; room = 4; shown = gave (0 ∷ 0 ∷ 8 ∷ 0 ∷ []) 4 }
    ∷ record { sheet = refused_middle; room = 3; shown = refusal 14 }
    ∷ record { sheet = example ++ (0 ∷ []); room = 0; shown = refusal 16 }
    ∷ []

-- the run as it is computed
abbrev pub computed : Run → Run
computed r = record { sheet = r.sheet; room = r.room; shown = (run_sheet full r.room (new []) r.sheet).shown }

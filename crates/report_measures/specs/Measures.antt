-- What the reports count in one text.
use Rattle.std.specs.Prelude.{ℕ, Bool, not, cond, leb, eqb, length}
use Rattle.model.specs.Text.{Text, LF, is_nil, trim_white_space}
use Rattle.model.specs.MagicString.{utf16_len}
use Rattle.report_measures.specs.declared.Measure.{Measure}
use Rattle.report_measures.specs.declared.Measure.TheVariants.{Bytes, Utf16}

abbrev pub feed_of : ℕ → ℕ
feed_of b = cond (eqb b LF) 1 0

-- `char::len_utf16`, of a code
abbrev pub units_of : ℕ → ℕ
units_of v = cond (leb 0x10000 v) 2 1

-- `trim` leaves something of the text
unfoldable pub filled_of : Text → Bool
filled_of t = not (is_nil (trim_white_space t))

abbrev pub measure_of : Measure → Text → ℕ
measure_of Bytes t = length t
measure_of Utf16 t = utf16_len t

-- The marked cases A to L together as one statement, and beside it the table of numbers' examples: by computation from the definitions.
use Rattle.std.specs.Prelude.{refl}
use mathlib.Core.List.{flatten}
use Rattle.utf8.specs.Rfc3629.{scalar, sequence, decode_at, whole_from, utf8, between}
use Rattle.utf8.specs.Chars.{to_first, chars, code}
use Rattle.utf8.specs.WhiteSpace.{white_space}
use Rattle.model.specs.Text.{trim_start_matches, trim_end_matches}
use Rattle.model.specs.Chunk.{contains}
use Rattle.model.specs.MagicString.{split_at, by_edge_mut, to_string, len, last_char}
use Rattle.model.specs.Frozen.{has_frozen, any_frozen, freeze_range, freeze}
use Rattle.model.specs.Update.{update_chunks, update_with}
use Rattle.model.specs.Movement.{change_range, remove, relocate}
use Rattle.model.specs.Reset.{reset}
use Rattle.model.specs.Slice.{contains_end, chunk_slice, ends_inside, slice}
use Rattle.model.specs.Trim.{trim_chunk_start, trim_chunk_end, trim_start, trim_end}
use Rattle.model.specs.Indent.{get_indent_string, indent_chunk, indent_by, indent_with}
use Rattle.model.specs.Limits.{within}
use Rattle.model.specs.Call.{refused_before, judged, run, show, opened}
use Rattle.model_calls.specs.Call.{perform}
use Rattle.model_cases.specs.Case.{Holds}
use Rattle.model_cases.specs.Marked.{marked}
use Rattle.model_cases.specs.Numbers.{numbers}

both_tables : Holds marked × Holds numbers
unfolding flatten scalar sequence decode_at whole_from utf8 between to_first chars code white_space trim_start_matches trim_end_matches contains split_at
    by_edge_mut to_string len last_char update_chunks update_with has_frozen any_frozen freeze_range freeze change_range remove relocate reset contains_end chunk_slice ends_inside
    slice trim_chunk_start trim_chunk_end trim_start trim_end get_indent_string indent_chunk indent_by indent_with within judged refused_before run
    show opened perform marked numbers
both_tables = (refl, refl)

pub marked_cases : Holds marked
marked_cases = both_tables.0

pub number_cases : Holds numbers
number_cases = both_tables.1

-- The worked sittings and readings, by computation.
use mathlib.Core.Path.{◌≡◌, refl}
use mathlib.Core.List.{map, flatten}
use mathlib.Core.Option.{bind}
use Rattle.utf8.specs.Rfc3629.{scalar, sequence, decode_at, whole_from, utf8, between}
use Rattle.utf8.specs.Chars.{to_first, chars, code}
use Rattle.model.specs.Chunk.{contains}
use Rattle.model.specs.MagicString.{split_at, by_edge_mut, to_string}
use Rattle.model.specs.Update.{update_chunks, update_with}
use Rattle.model.specs.Frozen.{has_frozen, any_frozen, freeze_range, freeze}
use Rattle.model.specs.Movement.{change_range, remove, relocate}
use Rattle.model.specs.Limits.{within}
use Rattle.model.specs.Call.{refused_before, judged, run}
use Rattle.model_sheet.specs.BigEndian.{number, bytes}
use Rattle.model_sheet.specs.Record.{positions, carries, fits, quads, encode, extent, numbers, parsed}
use Rattle.model_sheet.specs.Sheet.{call_of}
use Rattle.model_filed.specs.Filed.{within_bounds, is_record, refused_filing, file, no_such_call, withdraw}
use Rattle.model_filed.specs.Marks.{refused_marks, set_marks, show_entry}
use Rattle.model_filed.specs.Worked.{worked, computed, readings, read_computed, totals, total_computed, bounds, bound_computed}

pub worked_sittings : map computed worked ≡ worked
unfolding flatten bind scalar sequence decode_at whole_from utf8 between to_first chars code contains split_at by_edge_mut to_string update_chunks update_with
    change_range remove relocate has_frozen any_frozen freeze_range freeze within judged refused_before run number bytes positions carries fits quads encode extent numbers parsed
    call_of within_bounds is_record refused_filing file no_such_call withdraw refused_marks set_marks
worked_sittings = refl

pub worked_readings : map read_computed readings ≡ readings
unfolding bytes positions quads encode show_entry
worked_readings = refl

pub worked_totals : map total_computed totals ≡ totals
worked_totals = refl

pub worked_bounds : map bound_computed bounds ≡ bounds
unfolding number bytes positions carries fits quads encode extent numbers parsed within_bounds is_record refused_filing
worked_bounds = refl

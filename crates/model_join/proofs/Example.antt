-- The worked joins, by computation.
use mathlib.Core.Path.{◌≡◌, refl}
use mathlib.Core.List.{map, flatten}
use mathlib.Core.Option.{bind}
use Rattle.utf8.specs.Rfc3629.{scalar, sequence, decode_at, whole_from, utf8, between}
use Rattle.utf8.specs.Chars.{to_first, chars, code}
use Rattle.model.specs.Chunk.{contains}
use Rattle.model.specs.MagicString.{split_at, by_edge_mut, to_string}
use Rattle.model.specs.Frozen.{has_frozen, any_frozen}
use Rattle.model.specs.Movement.{change_range, remove, relocate}
use Rattle.model.specs.Limits.{within}
use Rattle.model.specs.Call.{refused_before, judged, run}
use Rattle.model_sheet.specs.BigEndian.{number}
use Rattle.model_sheet.specs.Record.{positions, carries, fits, extent, numbers, parsed, record_at, records_behind}
use Rattle.model_sheet.specs.Sheet.{call_of}
use Rattle.model_join.specs.Tests.{edits_apart, each_alone, has_space}
use Rattle.model_join.specs.Join.{list, both_lists, refused_join, join_read, join}
use Rattle.model_join.specs.Worked.{rows, computed}

pub worked : map computed rows ≡ rows
unfolding flatten bind scalar sequence decode_at whole_from utf8 between to_first chars code contains split_at by_edge_mut to_string has_frozen any_frozen change_range remove relocate within judged
    refused_before run number positions carries fits extent numbers parsed record_at records_behind call_of edits_apart each_alone has_space list both_lists refused_join join_read
    join rows
worked = refl

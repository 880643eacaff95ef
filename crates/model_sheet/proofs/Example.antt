-- The worked sheets and records, by computation.
use mathlib.Core.Path.{◌≡◌, refl}
use mathlib.Core.List.{[], ◌∷◌, ◌++◌, map, flatten}
use mathlib.Core.Option.{none, some, bind}
use Rattle.utf8.specs.Rfc3629.{scalar, sequence, decode_at, whole_from, utf8, between}
use Rattle.utf8.specs.Chars.{to_first, chars, code}
use Rattle.model.specs.Text.{Text}
use Rattle.model.specs.Chunk.{contains}
use Rattle.model.specs.MagicString.{split_at, by_edge_mut, to_string}
use Rattle.model.specs.Frozen.{has_frozen, any_frozen}
use Rattle.model.specs.Update.{update_chunks, update_with}
use Rattle.model.specs.Movement.{change_range, relocate}
use Rattle.model.specs.Limits.{within}
use Rattle.model.specs.Call.{refused_before, judged, run, opened}
use Rattle.model_sheet.specs.BigEndian.{number, bytes}
use Rattle.model_sheet.specs.Record.{positions, carries, fits, quads, encode, encode_all, extent, numbers, parsed, record_at, records_behind, records}
use Rattle.model_sheet.specs.Sheet.{source_size, front_fits, sheet, call_of, recorded_calls, run_read, run_sheet, lines, printed_run, printed}
use Rattle.model_sheet.specs.Worked.{moved_bytes, moved, appended_bytes, appended, unread, each_kind, each_call, prints, runs, computed}

pub read_two : records (moved_bytes ++ appended_bytes) ≡ some (moved ∷ appended ∷ [])
unfolding records_behind record_at parsed extent number numbers fits positions carries
read_two = refl

pub written_two : encode_all (appended ∷ moved ∷ []) ≡ appended_bytes ++ moved_bytes
unfolding encode_all encode quads bytes positions
written_two = refl

pub none_read : map records unread ≡ map (λ _. none) unread
unfolding records_behind record_at parsed extent number numbers fits positions carries
none_read = refl

pub called : (t : Text) → recorded_calls (each_kind t) ≡ each_call t
unfolding call_of
called t = refl

pub worked : (map (λ q. (q.0, printed q.0)) prints ≡ prints) × (map computed runs ≡ runs)
unfolding flatten bind scalar sequence decode_at whole_from utf8 between to_first chars code contains split_at by_edge_mut to_string update_chunks update_with
    has_frozen any_frozen change_range relocate within judged refused_before run opened records_behind record_at parsed extent number numbers fits positions carries source_size front_fits sheet
    call_of run_read run_sheet lines printed_run printed
worked = (refl, refl)

-- Laws of what `Needed` in specs/ defines.
use mathlib.Core.Path.{◌≡◌, refl}
use mathlib.Core.List.{map, flatten}
use Rattle.utf8.specs.Rfc3629.{scalar, sequence, decode_at, whole_from, utf8, between}
use Rattle.utf8.specs.Chars.{to_first, chars, code}
use Rattle.utf8.specs.WhiteSpace.{white_space}
use Rattle.model.specs.Text.{trim_start_matches, trim_end_matches}
use Rattle.model.specs.Chunk.{contains}
use Rattle.model.specs.MagicString.{split_at, by_edge_mut, to_string}
use Rattle.model.specs.Frozen.{has_frozen, any_frozen}
use Rattle.model.specs.Update.{update_chunks}
use Rattle.model.specs.Update as update_rs
use Rattle.model.specs.Movement.{change_range}
use Rattle.model.specs.Movement as movement_rs
use Rattle.model.specs.Trim.{trim_chunk_start, trim_chunk_end}
use Rattle.model.specs.Trim as trim_rs
use Rattle.model.specs.Limits.{within}
use Rattle.model.specs.Call.{refused_before, run, judged}
use Rattle.model_join.specs.Tests.{each_alone, has_space}
use Rattle.any_order.specs.Needed.{computed, rows}

-- ── the table ──
pub needed : map computed rows ≡ rows
unfolding flatten scalar sequence decode_at whole_from utf8 between to_first chars code white_space trim_start_matches trim_end_matches contains split_at
    by_edge_mut to_string update_chunks update_rs.update_with has_frozen any_frozen change_range movement_rs.remove movement_rs.relocate trim_chunk_start
    trim_chunk_end trim_rs.trim_start trim_rs.trim_end within judged refused_before run each_alone has_space rows
needed = refl

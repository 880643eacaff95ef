-- "Either does the call or gives one of the table's numbers": every answer of a report and of an opening is 0 or one of its numbers. Those of an edit stand in Refusals.antt.
use Prim.Native.Nat.{ℕ, ◌-◌}
use mathlib.Core.Path.{◌≡◌, refl, sym}
use mathlib.Core.Bool.{Bool, true, false, ◌&&◌, ◌||◌, not, true≢false}
use mathlib.Core.List.{List, [], ◌∷◌}
use lib.Dec.{leb, eqb}
use lib.ListN.{length}
use Rattle.utf8.specs.Rfc3629.{utf8, between}
use Rattle.model.specs.Text.{Text, any, all, unwrap_or}
use Rattle.model.specs.Chunk.{Chunk, start_of, is_edited}
use Rattle.model.specs.MagicString.{MagicString, Result}
use Rattle.model.specs.Limits.{Limits}
use Rattle.model.specs.Slice.{Sliced, text, refused, Start, from, nothing, before, contains_end, ends_inside, chunk_slice, slice_rest, slice_from, find_start}
use Rattle.model.specs.Slice as slice_rs
use Rattle.model.specs.MagicString as mod_rs
use Rattle.model.specs.Indent as indent_rs
use Rattle.model.specs.Call.{Report, to_string, slice, last_line, get_indent_string, len, len_utf16, line_count, is_empty, has_changed}
use Rattle.model.specs.Call.{is_range_within_edited_chunk, last_char, Shown, into, sliced_into, slice_positions, show, opened, report_numbers}
use Rattle.model_preservation.proofs.Lists.{of_cond, of_either, of_guard}
use Rattle.model_preservation.specs.Refusals.{among}

-- ---- reports

-- the refusal of a slice, or 0
abbrev code : Sliced → ℕ
code (text t) = 0
code (refused k) = k

abbrev Listed : Sliced → Type 0
Listed s = among (code s) (11 ∷ 12 ∷ []) ≡ true

before_listed : (t : Text) (s : Sliced) → Listed s → Listed (before t s)
before_listed t (text u) h = h
before_listed t (refused k) h = h

then_listed : (t : Text) (b : Bool) (s : Sliced) → Listed s → Listed (before t (elim b as (λ _. Sliced) [ true ↦ text [] | false ↦ s ]))
then_listed t true s h = refl
then_listed t false s h = before_listed t s h

rest_listed : (source : Text) (end : ℕ) (cs : List Chunk) → Listed (slice_rest source end cs)
rest_listed source end [] = refl
rest_listed source end (c ∷ cs) =
    of_either Listed (ends_inside c end) refl (then_listed (chunk_slice source true 0 end c) (contains_end c end) (slice_rest source end cs) (rest_listed source end cs))

from_listed : (source : Text) (start end : ℕ) (s : Start) → Listed (slice_from source start end s)
from_listed source start end nothing = refl
from_listed source start end (from c cs) =
    of_either Listed (is_edited c && not (eqb (start_of c) start)) refl
    (of_either Listed (ends_inside c end) refl
    (then_listed (chunk_slice source (eqb (start_of c) start) (start - start_of c) end c) (contains_end c end) (slice_rest source end cs) (rest_listed source end cs)))

into_listed : (room : ℕ) (t : Text) (ns : List ℕ) → among 14 ns ≡ true → among (into room t).number ns ≡ true
into_listed room t ns h = of_cond (λ (x : Shown). among x.number ns ≡ true) (leb (length t) room) (λ _. refl) (λ _. h)

sliced_listed : (room : ℕ) (s : Sliced) → Listed s → among (sliced_into room s).number (3 ∷ 11 ∷ 12 ∷ 14 ∷ []) ≡ true
sliced_listed room (text t) h = into_listed room t (3 ∷ 11 ∷ 12 ∷ 14 ∷ []) refl
sliced_listed room (refused k) h = wider (eqb k 0) (eqb k 11) (eqb k 12) (eqb k 3) (eqb k 14) h
  where
    wider : (a b c d e : Bool) → any (λ x. x) (a ∷ b ∷ c ∷ []) ≡ true → any (λ x. x) (a ∷ d ∷ b ∷ c ∷ e ∷ []) ≡ true
    wider true b c d e h = refl
    wider false b c true e h = refl
    wider false true c false e h = refl
    wider false false true false e h = refl
    wider false false false false e h = absurd (true≢false (sym h))

pub report_listed : (q : Report) (m : MagicString) → among (show q m).number (report_numbers q) ≡ true
unfolding show slice_rs.slice
report_listed (to_string room) m = into_listed room (mod_rs.to_string m) (14 ∷ []) refl
report_listed (slice start end room) m =
    let s : Sliced = slice_from m.source start (unwrap_or end (length m.source)) (find_start start (unwrap_or end (length m.source)) m.chunks) in
    of_guard (λ (x : Shown). among x.number (3 ∷ 11 ∷ 12 ∷ 14 ∷ []) ≡ true) (all (between m.source) (slice_positions start end)) (λ _. refl)
    (λ _. sliced_listed room s (from_listed m.source start (unwrap_or end (length m.source)) (find_start start (unwrap_or end (length m.source)) m.chunks)))
report_listed (last_line room) m = into_listed room (mod_rs.last_line m) (14 ∷ []) refl
report_listed (get_indent_string room) m = into_listed room (indent_rs.get_indent_string m.source) (14 ∷ []) refl
report_listed len m = refl
report_listed len_utf16 m = refl
report_listed line_count m = refl
report_listed is_empty m = refl
report_listed has_changed m = refl
report_listed (is_range_within_edited_chunk a b) m = refl
report_listed last_char m = refl

-- ---- an opening

pub opened_listed : (k : Limits) (source : Text) (m : MagicString) → among (opened k source m).number (13 ∷ 1 ∷ []) ≡ true
unfolding opened
opened_listed k source m =
    let P : Result → Type 0 = λ r. among r.number (13 ∷ 1 ∷ []) ≡ true in
    of_guard P (leb (length source) k.most_source) (λ _. refl) (λ _. of_guard P (utf8 source) (λ _. refl) (λ _. refl))

-- a number more in front
pub listed_behind : (n k : ℕ) (ns : List ℕ) → among n ns ≡ true → among n (k ∷ ns) ≡ true
listed_behind n k ns h = go (eqb n 0) (eqb n k) (any (eqb n) ns) h
  where
    go : (a b c : Bool) → (a || c) ≡ true → (a || (b || c)) ≡ true
    go true b c h = refl
    go false true c h = refl
    go false false c h = h

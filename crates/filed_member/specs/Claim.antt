-- Document 02, L9: "Two records that agree on these four and on the kept desk give the member, on equal desks and under the same member's calls, the same bytes, counts and refusals,
-- whatever the marks up to 100". Of any list of calls of the exported functions, whatever numbering and places in the store they choose. proofs/Theorem.antt proves it.
use Rattle.std.specs.Prelude.{◌≡◌, List, [], ℕ}
use Rattle.std.proofs.Math.Option.{some, map}
use Rattle.memory.specs.Layout.{magic_string_of}
use Rattle.memory.specs.WellFormed.{Taken}
use Rattle.model_filed.specs.Filed.{Entry}
use Rattle.model_filed.specs.Marks.{unmarked}
use Rattle.filed_record.specs.Record.{kept_chunks, kept_pieces, kept_store, entries_of}
use Rattle.filed_exported.specs.Sittings.{Lent}
use Rattle.filed_member.specs.Calls.{MemberCall, Seen, MemberRun}

-- two tables hold the same well-formed desk over some source: numbering and places in the store may differ
pub record Alike (t p s t' p' s' : List ℕ) : Type 0 where
  pub source : List ℕ
  pub holds : Taken source t p s
  pub holds' : Taken source t' p' s'
  pub desk : magic_string_of source t p s ≡ magic_string_of source t' p' s'

-- two memories hold equal desks, and well-formed records that "agree on these four", kind, positions, text and answer of each entry, "and on the kept desk", which without calls is not
-- looked at. Their marks are any up to 100: a record with higher ones is not well formed
pub record SameButMarks (M M' : Lent) : Type 0 where
  pub desk : Alike M.chunks M.pieces M.store M'.chunks M'.pieces M'.store
  pub entries : List Entry
  pub entries' : List Entry
  pub are : entries_of M.words M.bytes ≡ some entries
  pub are' : entries_of M'.words M'.bytes ≡ some entries'
  pub agree : unmarked entries ≡ unmarked entries'
  pub kept : (entries ≡ [] → ⊥)
      → Alike (kept_chunks M.words) (kept_pieces M.words) (kept_store M.bytes) (kept_chunks M'.words) (kept_pieces M'.words) (kept_store M'.bytes)

-- "the same bytes, counts and refusals": what is seen of each call is the same; and so are the desks and the entries afterwards, but for the marks
pub record Untold (seen seen' : List Seen) (M M' : Lent) : Type 0 where
  pub same : seen ≡ seen'
  pub desk : (source : List ℕ) → magic_string_of source M.chunks M.pieces M.store ≡ magic_string_of source M'.chunks M'.pieces M'.store
  pub entries : map unmarked (entries_of M.words M.bytes) ≡ map unmarked (entries_of M'.words M'.bytes)

abbrev pub MarksUntold : Type 0
MarksUntold =
    (M M' : Lent) → SameButMarks M M'
    → (calls : List MemberCall) (seen seen' : List Seen) (N N' : Lent) → MemberRun calls M seen N → MemberRun calls M' seen' N'
    → Untold seen seen' N N'

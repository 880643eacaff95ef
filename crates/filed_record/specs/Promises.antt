-- What filing, withdrawing and freezing beside a record promise of every input.
use Rattle.std.specs.Prelude.{ℕ, ◌+◌, ◌≤◌, ◌<◌, ◌≡◌, false, List, [], ◌++◌, length, get_or, drop}
use Rattle.std.proofs.Math.Option.{none, some}
use Rattle.memory_layout.specs.Layout.{RECORD_ANSWERS, RECORD_MARKS, KEPT_CHUNKS, KEPT_STORE}
use Rattle.model.specs.Call.{freeze}
use Rattle.model_sheet.specs.Record.{parsed}
use Rattle.model_sheet.specs.Sheet.{call_of}
use Rattle.model_filed.specs.Filed.{Entry, calls, Sitting, Answered, refused_filing, file, no_such_call, withdraw, freeze_beside}
use Rattle.memory.specs.Layout.{magic_string_of}
use Rattle.memory.specs.WellFormed.{limits_of, Lengths, WellFormed, Taken}
use Rattle.memory.specs.Calls.{Same, may_write}
use Rattle.memory.specs.declared.Answer.{Answer}
use Rattle.filed_record.specs.Record.{used_of, calls_of, kept_of, entries_of, KeptTaken}

-- every byte of the record's slices is as it was
pub record SameRecord (w b w' b' : List ℕ) : Type 0 where
  pub words : w' ≡ w
  pub bytes : b' ≡ b

-- nothing is changed: the tables of the desk and the record's slices
pub record Unchanged (t p s w b t' p' s' w' b' : List ℕ) : Type 0 where
  pub desk : Same t p s t' p' s'
  pub slices : SameRecord w b w' b'

-- the desk in lent memory, beside a record with these entries
abbrev pub sitting_of : List ℕ → List ℕ → List ℕ → List ℕ → List ℕ → List ℕ → List Entry → Sitting
sitting_of source t p s w b l = record { desk = magic_string_of source t p s; kept = kept_of source w b; entries = l }

-- each byte that lies behind the calls both as they were and as they are, and each that lies behind the n answers, or marks, before and the m after, is as it was; the kept desk apart
pub record KeptBehind (n m : ℕ) (w b w' b' : List ℕ) : Type 0 where
  pub calls : (i : ℕ) → used_of w ≤ i → used_of w' ≤ i → i < RECORD_ANSWERS → get_or b' i 0 ≡ get_or b i 0
  pub answers : (i : ℕ) → RECORD_ANSWERS + n ≤ i → RECORD_ANSWERS + m ≤ i → i < RECORD_MARKS → get_or b' i 0 ≡ get_or b i 0
  pub marks : (i : ℕ) → RECORD_MARKS + n ≤ i → RECORD_MARKS + m ≤ i → i < KEPT_STORE → get_or b' i 0 ≡ get_or b i 0

-- every word and byte of the kept desk is as it was
pub record SameKept (w b w' b' : List ℕ) : Type 0 where
  pub tables : drop KEPT_CHUNKS w' ≡ drop KEPT_CHUNKS w
  pub store : drop KEPT_STORE b' ≡ drop KEPT_STORE b

-- A call on a sitting with the entries l: its number and value, and the desk and the record after, are the model's. Numbering, places in the store, unused bytes of it, of the
-- kept desk too, and bytes of the record that are freed are the program's choice
pub record Becomes (source t p s w b t' p' s' w' b' : List ℕ) (l : List Entry) (o : Answered) (r : Answer) : Type 0 where
  pub number_is : r.number ≡ o.number
  pub value_is : r.value ≡ o.value
  pub desk_is : magic_string_of source t' p' s' ≡ o.left.desk
  pub record_is : entries_of w' b' ≡ some o.left.entries
  pub kept_is : kept_of source w' b' ≡ o.left.kept
  pub well_formed : WellFormed source t' p' s'
  pub kept_taken : KeptTaken source w' b' o.left.entries
  pub lengths : Lengths t p s t' p' s'
  pub kept : KeptBehind (length l) (length o.left.entries) w b w' b'

-- ── filing ──
pub record FiledOn (call source t p s w b t' p' s' w' b' : List ℕ) (l : List Entry) (r : Answer) : Type 0 where
  pub becomes : Becomes source t p s w b t' p' s' w' b' l (file (limits_of t p s) call (sitting_of source t p s w b l)) r
  -- 16, and the record's own 13
  pub refused : (refused_filing call (calls l) ≡ 0 → ⊥) → Unchanged t p s w b t' p' s' w' b'
  -- else the bytes of the call stand behind those of the others
  pub behind : refused_filing call (calls l) ≡ 0 → calls_of w' b' ≡ calls_of w b ++ call
  -- where the core call changes nothing, the tables of the desk are as they were
  pub same : may_write (call_of (parsed call)) r.number ≡ false → Same t p s t' p' s'
  -- while calls are filed the kept desk is not written
  pub same_kept : (l ≡ [] → ⊥) → SameKept w b w' b'

-- ── withdrawing: the others are run from the kept desk ──
pub record WithdrawnOn (k : ℕ) (source t p s w b t' p' s' w' b' : List ℕ) (l : List Entry) (r : Answer) : Type 0 where
  pub becomes : Becomes source t p s w b t' p' s' w' b' l (withdraw (limits_of t p s) k (sitting_of source t p s w b l)) r
  -- 17
  pub refused : (no_such_call k l ≡ 0 → ⊥) → Unchanged t p s w b t' p' s' w' b'
  pub same_kept : SameKept w b w' b'

-- ── freezing: with calls filed 20, and nothing is changed; without, the edit. The record is only read ──
pub record FrozenOn (from to : ℕ) (source t p s w b t' p' s' : List ℕ) (l : List Entry) (r : Answer) : Type 0 where
  pub becomes : Becomes source t p s w b t' p' s' w b l (freeze_beside (limits_of t p s) from to (sitting_of source t p s w b l)) r
  pub filed : (l ≡ [] → ⊥) → Same t p s t' p' s'
  pub same : may_write (freeze from to) r.number ≡ false → Same t p s t' p' s'

-- ── on any memory ──
-- 2 and nothing written where it holds no well-formed desk, or no well-formed record, or one with calls that keeps no well-formed desk; else what P says of the record's entries
pub record OnSitting (P : List Entry → Type 0) (source t p s w b t' p' s' w' b' : List ℕ) (r : Answer) : Type 0 where
  pub no_desk : (Taken source t p s → ⊥) → (r.number ≡ 2) × (r.value ≡ 0) × Unchanged t p s w b t' p' s' w' b'
  pub no_record : entries_of w b ≡ none → (r.number ≡ 2) × (r.value ≡ 0) × Unchanged t p s w b t' p' s' w' b'
  pub not_kept : (l : List Entry) → entries_of w b ≡ some l → (KeptTaken source w b l → ⊥) → (r.number ≡ 2) × (r.value ≡ 0) × Unchanged t p s w b t' p' s' w' b'
  pub taken : Taken source t p s → (l : List Entry) → entries_of w b ≡ some l → KeptTaken source w b l → P l

abbrev pub CallFiled : List ℕ → List ℕ → List ℕ → List ℕ → List ℕ → List ℕ → List ℕ → List ℕ → List ℕ → List ℕ → List ℕ → List ℕ → Answer → Type 0
CallFiled call source t p s w b t' p' s' w' b' r =
    OnSitting (λ l. FiledOn call source t p s w b t' p' s' w' b' l r) source t p s w b t' p' s' w' b' r

abbrev pub CallWithdrawn : ℕ → List ℕ → List ℕ → List ℕ → List ℕ → List ℕ → List ℕ → List ℕ → List ℕ → List ℕ → List ℕ → List ℕ → Answer → Type 0
CallWithdrawn k source t p s w b t' p' s' w' b' r =
    OnSitting (λ l. WithdrawnOn k source t p s w b t' p' s' w' b' l r) source t p s w b t' p' s' w' b' r

abbrev pub CallFrozen : ℕ → ℕ → List ℕ → List ℕ → List ℕ → List ℕ → List ℕ → List ℕ → List ℕ → List ℕ → List ℕ → Answer → Type 0
CallFrozen from to source t p s w b t' p' s' r =
    OnSitting (λ l. FrozenOn from to source t p s w b t' p' s' l r) source t p s w b t' p' s' w b r

-- The record as it stands once a desk is kept for its first call.
use Prim.Native.Nat.{ℕ, ◌+◌, ◌≤◌, ◌<◌}
use mathlib.Core.Path.{◌≡◌, refl, sym, ap, ap₂, subst, ◌∙◌}
use mathlib.Core.List.{List, [], ◌∷◌}
use native.Mathlib.Omega.{arith}
use lib.ListN.{length, get_or, take, drop}
use lib.Seq.{take-take, get_or-take}
use Rattle.memory_layout.specs.Layout.{RECORD_MARKS, KEPT_CHUNKS, KEPT_STORE}
use Rattle.memory.specs.Layout.{magic_string_of}
use Rattle.memory.specs.WellFormed.{Taken}
use Rattle.model_sheet.specs.Record.{Recorded, records}
use Rattle.model_filed.specs.Filed.{Entry, entries_with, before_first}
use Rattle.filed_record.specs.declared.Size.{Size}
use Rattle.filed_record.specs.Record.{used_of, calls_of, record_answers_of, record_marks_of, kept_chunks, kept_pieces, kept_store, kept_of, KeptTaken, Holds}
use Rattle.filed_record.specs.Promises.{KeptBehind, SameKept}
use Rattle.filed_kept.specs.Kept.{KeepsFirst}

module _ {w b : List ℕ} {z : Size} (h : Holds w b z) {t p s w₁ b₁ : List ℕ} (k : KeepsFirst z.count t p s w b w₁ b₁) where
  -- without calls, and with some
  none_filed : h.list ≡ [] → z.count ≡ 0
  none_filed e = sym h.count ∙ ap length e

  some_filed : {r : Recorded} {l : List Recorded} → h.list ≡ r ∷ l → z.count ≡ 0 → ⊥
  some_filed e q = absurd (omega (arith, h.count, ap length e))

  pub first_used : used_of w₁ ≡ used_of w
  first_used = go h.list refl
    where
      go : (l : List Recorded) → h.list ≡ l → used_of w₁ ≡ used_of w
      go [] e = (k.first (none_filed e)).used
      go (r ∷ l) e = ap used_of (k.later (some_filed e)).words

  front : take KEPT_STORE b₁ ≡ take KEPT_STORE b
  front = go h.list refl
    where
      go : (l : List Recorded) → h.list ≡ l → take KEPT_STORE b₁ ≡ take KEPT_STORE b
      go [] e = (k.first (none_filed e)).bytes
      go (r ∷ l) e = ap (take KEPT_STORE) (k.later (some_filed e)).bytes

  pub first_part : (n : ℕ) → n ≤ KEPT_STORE → take n b₁ ≡ take n b
  first_part n q = sym (take-take n KEPT_STORE b₁ q) ∙ ap (take n) front ∙ take-take n KEPT_STORE b q

  pub first_calls : calls_of w₁ b₁ ≡ calls_of w b
  first_calls = ap (λ n. take n b₁) first_used ∙ first_part (used_of w) (omega (arith, h.used, h.room))

  pub first_byte : (i : ℕ) → i < KEPT_STORE → get_or b₁ i 0 ≡ get_or b i 0
  first_byte i q = sym (get_or-take KEPT_STORE b₁ i 0 q) ∙ ap (λ l. get_or l i 0) front ∙ get_or-take KEPT_STORE b i 0 q

  abbrev pub first_holds : length w₁ ≡ length w → length b₁ ≡ length b → Holds w₁ b₁ z
  first_holds hw hb =
      record {
        words = hw ∙ h.words;
        bytes = hb ∙ h.bytes;
        used = first_used ∙ h.used;
        room = h.room;
        list = h.list;
        are = ap records (first_part z.used (omega (arith, h.room))) ∙ h.are;
        count = h.count;
        few = h.few;
        text = h.text;
        short = h.short;
        marks = λ i q. omega (arith, first_byte (RECORD_MARKS + i) (omega (arith, h.few)), h.marks i q);
      }

  -- the entries of the record
  abbrev held : List Entry
  held = entries_with h.list (record_answers_of b) (record_marks_of b)

  pub first_entries : entries_with h.list (record_answers_of b₁) (record_marks_of b₁) ≡ held
  first_entries = go h.list refl
    where
      go : (l : List Recorded) → h.list ≡ l → entries_with h.list (record_answers_of b₁) (record_marks_of b₁) ≡ held
      go [] e = ap (λ l. entries_with l (record_answers_of b₁) (record_marks_of b₁)) e ∙ sym (ap (λ l. entries_with l (record_answers_of b) (record_marks_of b)) e)
      go (r ∷ l) e = ap (λ x. entries_with h.list (record_answers_of x) (record_marks_of x)) (k.later (some_filed e)).bytes

  -- the desk before the first call is kept
  pub first_desk : (source : List ℕ) → kept_of source w₁ b₁ ≡ before_first held (magic_string_of source t p s) (kept_of source w b)
  first_desk source = go h.list refl
    where
      go : (l : List Recorded) → h.list ≡ l → kept_of source w₁ b₁ ≡ before_first held (magic_string_of source t p s) (kept_of source w b)
      go [] e =
          let f = k.first (none_filed e) in
          ap₂ (λ x y. magic_string_of source x y (kept_store b₁)) f.chunks f.pieces ∙ ap (magic_string_of source t p) f.store
          ∙ sym (ap (λ l. before_first (entries_with l (record_answers_of b) (record_marks_of b)) (magic_string_of source t p s) (kept_of source w b)) e)
      go (r ∷ l) e =
          let f = k.later (some_filed e) in
          ap₂ (kept_of source) f.words f.bytes
          ∙ sym (ap (λ l. before_first (entries_with l (record_answers_of b) (record_marks_of b)) (magic_string_of source t p s) (kept_of source w b)) e)

  pub first_taken : {source : List ℕ} → Taken source t p s → KeptTaken source w b held → Taken source (kept_chunks w₁) (kept_pieces w₁) (kept_store b₁)
  first_taken {source} d q = go h.list refl
    where
      go : (l : List Recorded) → h.list ≡ l → Taken source (kept_chunks w₁) (kept_pieces w₁) (kept_store b₁)
      go [] e =
          let f = k.first (none_filed e) in
          subst (λ x. Taken source x (kept_pieces w₁) (kept_store b₁)) (sym f.chunks)
          (subst (λ x. Taken source t x (kept_store b₁)) (sym f.pieces) (subst (Taken source t p) (sym f.store) d))
      go (r ∷ l) e =
          let f = k.later (some_filed e) in
          let there : KeptTaken source w b (entries_with (r ∷ l) (record_answers_of b) (record_marks_of b)) = subst (λ y. KeptTaken source w b (entries_with y (record_answers_of b) (record_marks_of b))) e q in
          subst (λ x. Taken source (kept_chunks x) (kept_pieces x) (kept_store b₁)) (sym f.words) (subst (λ x. Taken source (kept_chunks w) (kept_pieces w) (kept_store x)) (sym f.bytes) there)

  -- ── what is written later, on top of it ──
  pub first_behind : {n m : ℕ} {w' b' : List ℕ} → KeptBehind n m w₁ b₁ w' b' → KeptBehind n m w b w' b'
  first_behind x =
      record {
        calls = λ i q₁ q₂ q₃. x.calls i (omega (arith, first_used)) q₂ q₃ ∙ first_byte i (omega arith);
        answers = λ i q₁ q₂ q₃. x.answers i q₁ q₂ q₃ ∙ first_byte i (omega arith);
        marks = λ i q₁ q₂ q₃. x.marks i q₁ q₂ q₃ ∙ first_byte i q₃;
      }

  pub first_same_kept : {w' b' : List ℕ} → SameKept w₁ b₁ w' b' → (held ≡ [] → ⊥) → SameKept w b w' b'
  first_same_kept {w'} {b'} x some = go h.list refl
    where
      go : (l : List Recorded) → h.list ≡ l → SameKept w b w' b'
      go [] e = absurd (some (ap (λ l. entries_with l (record_answers_of b) (record_marks_of b)) e))
      go (r ∷ l) e =
          let f = k.later (some_filed e) in
          record { tables = x.tables ∙ ap (drop KEPT_CHUNKS) f.words; store = x.store ∙ ap (drop KEPT_STORE) f.bytes }

-- "Either does the call or gives one of the table's numbers", of the exported calls: what a contract says of a number, on any memory, leaves only those of the call.
use Prim.Native.Nat.{ℕ}
use mathlib.Core.Path.{◌≡◌, refl, sym, ap, ◌∙◌}
use mathlib.Core.Bool.{true, true≢false}
use mathlib.Core.List.{List, [], ◌∷◌}
use mathlib.Core.Option.{Option, none, some}
use lib.ListN.{length}
use Rattle.model.specs.MagicString.{new}
use Rattle.model.proofs.Lists.{bool-elim}
use Rattle.model.specs.Call.{freeze, edit_numbers, report_numbers}
use Rattle.memory.specs.Layout.{magic_string_of}
use Rattle.memory.specs.WellFormed.{limits_of, Full, Taken}
use Rattle.model_preservation.specs.Refusals.{among}
use Rattle.model_preservation.proofs.Refusals.{answer_listed}
use Rattle.model_preservation.proofs.Numbers.{listed_behind, report_listed, opened_listed}
use Rattle.model_sheet.specs.Record.{parsed}
use Rattle.model_sheet.specs.Sheet.{call_of, sheet_numbers}
use Rattle.model_sheet.proofs.Runs.{sheet_listed}
use Rattle.model_filed.specs.Filed.{Entry}
use Rattle.model_join.specs.Join.{join_numbers}
use Rattle.model_join.proofs.Joining.{join_listed}
use Rattle.model_filed.proofs.Numbers.{file_listed, withdraw_listed, freeze_listed, marks_listed, entry_listed}
use Rattle.memory.specs.declared.Answer.{Answer}
use Rattle.filed_record.specs.Record.{entries_of, KeptTaken}
use Rattle.filed_record.specs.Promises.{Unchanged, sitting_of, OnSitting}
use Rattle.filed_record.specs.Marks.{OnRecord}
use Rattle.magic_string_numbers.specs.Listed.{EditedListed, ReportedListed, OpenedNumberListed, SheetNumberListed, FiledNumberListed, WithdrawnNumberListed}
use Rattle.magic_string_numbers.specs.Listed.{FrozenNumberListed, MarkedNumberListed, EntryNumberListed, TotalNumberListed, JoinedNumberListed}

-- a number that is 2 where P does not hold, and one of these where it does, if 2 is one of them
either : {P : Type 0} (n : ℕ) (ns : List ℕ) → among 2 ns ≡ true → ((P → ⊥) → n ≡ 2) → (P → among n ns ≡ true) → among n ns ≡ true
either n ns here two one =
    bool-elim (among n ns) (λ z. z)
    (λ z. let none = two (λ w. true≢false (sym (one w) ∙ z)) in absurd (true≢false (sym here ∙ sym (ap (λ (k : ℕ). among k ns) none) ∙ z)))

pub edited_listed : EditedListed
edited_listed e source t p s t' p' s' n value x =
    either n (2 ∷ edit_numbers e) refl (λ none. (x.not_well_formed none).0)
    (λ (w : Taken source t p s).
    listed_behind n 2 (edit_numbers e)
    (ap (λ (k : ℕ). among k (edit_numbers e)) (x.well_formed w).number_is ∙ answer_listed (limits_of t p s) e (magic_string_of source t p s) w.well_formed.desk.formed))

pub reported_listed : ReportedListed
reported_listed q source t p s out out' n value x =
    either n (2 ∷ report_numbers q) refl (λ none. (x.not_well_formed none).0)
    (λ (w : Taken source t p s).
    listed_behind n 2 (report_numbers q) (ap (λ (k : ℕ). among k (report_numbers q)) (x.well_formed w).number_is ∙ report_listed q (magic_string_of source t p s)))

pub opened_number_listed : OpenedNumberListed
opened_number_listed source t p s t' p' s' n x =
    either n (2 ∷ 13 ∷ 1 ∷ []) refl x.not_sized
    (λ (w : Full t p s).
    listed_behind n 2 (13 ∷ 1 ∷ []) (ap (λ (k : ℕ). among k (13 ∷ 1 ∷ [])) (x.number_is w) ∙ opened_listed (limits_of t p s) source (new [])))

pub sheet_number_listed : SheetNumberListed
sheet_number_listed sheet t p s a t' p' s' a' r x =
    either r.number sheet_numbers refl (λ none. (x.not_sized none).0)
    (λ (w : Full t p s). ap (λ (k : ℕ). among k sheet_numbers) (x.sized w).number_is ∙ sheet_listed (limits_of t p s) (length a) (new []) sheet)

-- a call on a record: 2, or what it answers on the record's entries
on_record : {P : List Entry → Type 0} {unchanged : Type 0} {source w b : List ℕ} {r : Answer} (ns : List ℕ) → OnRecord P unchanged source w b r
    → ((l : List Entry) → P l → among r.number ns ≡ true) → among r.number (2 ∷ ns) ≡ true
on_record {source = source} {w} {b} {r} ns x f = go (entries_of w b) refl
  where
    go : (o : Option (List Entry)) → entries_of w b ≡ o → among r.number (2 ∷ ns) ≡ true
    go none e = ap (λ (k : ℕ). among k (2 ∷ ns)) (x.no_record e).0
    go (some l) e = either r.number (2 ∷ ns) refl (λ none. (x.not_kept l e none).0) (λ (k : KeptTaken source w b l). listed_behind r.number 2 ns (f l (x.taken l e k)))

-- a call on a desk and a record: 2 without a well-formed desk, too
on_sitting : {P : List Entry → Type 0} {source t p s w b t' p' s' w' b' : List ℕ} {r : Answer} (ns : List ℕ) → OnSitting P source t p s w b t' p' s' w' b' r
    → (Taken source t p s → (l : List Entry) → P l → among r.number ns ≡ true) → among r.number (2 ∷ ns) ≡ true
on_sitting {P} {source} {t} {p} {s} {w} {b} {t'} {p'} {s'} {w'} {b'} {r} ns x f =
    either r.number (2 ∷ ns) refl (λ none. (x.no_desk none).0)
    (λ (d : Taken source t p s).
    let beside : OnRecord P (Unchanged t p s w b t' p' s' w' b') source w b r = record { no_record = x.no_record; not_kept = x.not_kept; taken = x.taken d } in
    on_record ns beside (f d))

pub filed_number_listed : FiledNumberListed
filed_number_listed call source t p s w b t' p' s' w' b' r x =
    on_sitting (16 ∷ 13 ∷ edit_numbers (call_of (parsed call))) x
    (λ d l y.
    ap (λ (k : ℕ). among k (16 ∷ 13 ∷ edit_numbers (call_of (parsed call)))) y.becomes.number_is
    ∙ file_listed (limits_of t p s) call (sitting_of source t p s w b l) d.well_formed.desk.formed)

pub withdrawn_number_listed : WithdrawnNumberListed
withdrawn_number_listed k source t p s w b t' p' s' w' b' r x =
    on_sitting (17 ∷ []) x
    (λ d l y. ap (λ (n : ℕ). among n (17 ∷ [])) y.becomes.number_is ∙ withdraw_listed (limits_of t p s) k (sitting_of source t p s w b l))

pub frozen_number_listed : FrozenNumberListed
frozen_number_listed from to source t p s w b t' p' s' r x =
    on_sitting (20 ∷ edit_numbers (freeze from to)) x
    (λ d l y.
    ap (λ (k : ℕ). among k (20 ∷ edit_numbers (freeze from to))) y.becomes.number_is
    ∙ freeze_listed (limits_of t p s) from to (sitting_of source t p s w b l) d.well_formed.desk.formed)

pub marked_number_listed : MarkedNumberListed
marked_number_listed k marks source w b b' r x = on_record (17 ∷ 21 ∷ []) x (λ l y. ap (λ (n : ℕ). among n (17 ∷ 21 ∷ [])) y.number_is ∙ marks_listed k marks l)

pub entry_number_listed : EntryNumberListed
entry_number_listed reading k source w b out out' r x =
    on_record (17 ∷ 14 ∷ []) x (λ l y. ap (λ (n : ℕ). among n (17 ∷ 14 ∷ [])) y.number_is ∙ entry_listed reading k (length out) l)

pub total_number_listed : TotalNumberListed
total_number_listed source w b r x = on_record [] x (λ l y. ap (λ (n : ℕ). among n []) y.0)

pub joined_number_listed : JoinedNumberListed
joined_number_listed first second source t p s t' p' s' r x =
    either r.number join_numbers refl (λ none. (x.not_well_formed none).0)
    (λ (w : Taken source t p s).
    ap (λ (k : ℕ). among k join_numbers) (x.well_formed w).number_is ∙ join_listed (limits_of t p s) first second (magic_string_of source t p s))

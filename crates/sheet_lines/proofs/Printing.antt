-- Line after line: the lines so far, and the records that are left.
use Prim.Native.Nat.{ℕ, ◌+◌, ◌*◌, ◌≤◌, ◌<◌}
use mathlib.Core.Path.{◌≡◌, refl, sym, ap, ap₂, subst, ◌∙◌}
use mathlib.Core.List.{List, [], ◌∷◌, ◌++◌, append_assoc, append-nil}
use mathlib.Core.Option.{Option, none, some}
use lib.ListN.{length, get_or, take, drop, length-append}
use lib.Seq.{length-take-le, drop-cons, get_or-take}
use native.Mathlib.Nat.{zero-add}
use native.Mathlib.Numerals.{add-one}
use native.Mathlib.Omega.{arith}
use Rattle.utf8.specs.Chars.{All, nil, cons}
use Rattle.model.specs.Text.{Text}
use Rattle.model.proofs.Lists.{first_of}
use Rattle.model_sheet.specs.Record.{Recorded, parsed, next_record, records}
use Rattle.model_sheet.specs.Sheet.{MOST_LINE, line, lines}
use Rattle.model_sheet.proofs.Lists.{all_get}
use Rattle.model_sheet.proofs.Whole.{kind_most, whole_of}
use Rattle.model_sheet.proofs.Records.{Reads, done, next, reads}
use Rattle.sheet_records.specs.Found.{Taken, Counted}
use Rattle.sheet_records.proofs.Walk.{records_taken, not_none as none_there}
use Rattle.sheet_lines.specs.Lines.{PutText, PutLines}
use Rattle.sheet_lines.proofs.Lines.{line_most, put_then}

-- ── a kind has one digit, an answer at most two ──
kinds_below : {s : List ℕ} {l : List Recorded} → Reads s l → All (λ r. r.kind < 10) l
unfolding parsed
kinds_below done = nil
kinds_below (next {s = s} {r = r} e q) =
    let f = whole_of s r e in
    let k : r.kind ≡ get_or s 2 0 = ap (λ x. x.kind) f.1 in
    cons {x = r} (omega (arith, kind_most (get_or s 2 0) f.0.known)) (kinds_below q)

pub answer_below : (n : ℕ) (answers : List ℕ) (i : ℕ) → All (λ x. x < 100) (take n answers) → i < n → get_or answers i 0 < 100
answer_below n answers i h l = rw get_or-take at (all_get {P = λ x. x < 100} 0 (omega arith) i h)

-- ── turn after turn ──
-- the lines of i records stand up to `end`, and those of the records from `at` on are left
pub record Printing (s : List ℕ) (n : ℕ) (answers d d' : List ℕ) (at i end : ℕ) : Type 0 where
  pub text : Text
  pub left : List Recorded
  pub are : records (drop at s) ≡ some left
  pub count : i + length left ≡ n
  pub all : (list : List Recorded) → records s ≡ some list → lines list (take n answers) ≡ text ++ lines left (drop i (take n answers))
  pub put : PutText d 0 text d' end
  pub few : end ≤ MOST_LINE * i
  pub same : length d' ≡ length d

pub printing_none : (s : List ℕ) (n : ℕ) (answers d : List ℕ) {most : ℕ} → Counted s most n → Printing s n answers d d 0 0 0
printing_none s n answers d h =
    record {
      text = [];
      left = h.list;
      are = h.are;
      count = omega (arith, h.count);
      all = λ list e. let are = h.are in let same : list ≡ h.list = cc in ap (λ l. lines l (take n answers)) same;
      put = record { out_is = refl; next_is = refl };
      few = omega arith;
      same = refl;
    }

module _ {s : List ℕ} {n : ℕ} {answers d d' : List ℕ} {at i end : ℕ} (p : Printing s n answers d d' at i end) where
  -- a record stands there as long as lines are left
  pub not_none : {X : Type 0} → i < n → next_record (drop at s) ≡ none → X
  not_none l e = go p.left refl
    where
      go : {X : Type 0} (l : List Recorded) → p.left ≡ l → X
      go [] q = absurd (omega (arith, p.count, ap length q))
      go (r ∷ l) q = none_there s at (record { one = r; rest = l; are = p.are ∙ ap {B = Option (List Recorded)} some q }) e

  pub printing_done : n ≤ i → PutLines s n answers d d' end
  unfolding lines
  printing_done h =
      let nothing : p.left ≡ [] = empty p.left (omega (arith, p.count)) in
      let whole : (list : List Recorded) → records s ≡ some list → lines list (take n answers) ≡ p.text =
      λ list e. p.all list e ∙ rw nothing (append-nil p.text) in
      record {
        are = λ list e. record {
          out_is = rw (whole list e) (p.put.out_is ∙ rw zero-add);
          size_is = rw (whole list e) (p.put.next_is ∙ zero-add (length p.text));
        };
        few = omega (arith, p.few, p.count);
      }
    where
      empty : (l : List Recorded) → length l ≡ 0 → l ≡ []
      empty [] e = refl
      empty (r ∷ l) e = absurd (omega arith)

  module _ {r : Recorded} {next : ℕ} (g : Taken s at r next) where
    -- the record there, and those behind it
    record Split : Type 0 where
      behind : List Recorded
      first : p.left ≡ r ∷ behind
      onward : records (drop next s) ≡ some behind

    split : Split
    split = go (records (drop next s)) refl
      where
        go : (o : Option (List Recorded)) → records (drop next s) ≡ o → Split
        go none e = let taken = records_taken g in let are = p.are in let z : ◌≡◌ {A = ℕ} 0 1 = cc in absurd (omega arith)
        go (some m) e = let taken = records_taken g in let are = p.are in record { behind = m; first = cc; onward = e }

    pub kind_below : r.kind < 10
    kind_below = first_of (subst (All (λ r. r.kind < 10)) split.first (kinds_below (reads p.are)))

    pub printing_more : {d'' : List ℕ} {end' : ℕ} → n ≤ length answers → MOST_LINE * n ≤ length d → i < n
        → PutText d' end (line r.kind (get_or answers i 0)) d'' end' → length d'' ≡ length d' → Printing s n answers d d'' next (i + 1) end'
    unfolding lines
    printing_more most room h w same =
        let ns = take n answers in
        let x = get_or answers i 0 in
        let rest = lines split.behind (drop (i + 1) ns) in
        let long : length ns ≡ n = length-take-le n answers most in
        let here : drop i ns ≡ x ∷ drop (i + 1) ns =
        drop-cons ns i 0 (omega arith) ∙ ap₂ (λ y k. y ∷ drop k ns) (get_or-take n answers i 0 h) (sym (add-one i)) in
        let step : p.text ++ lines p.left (drop i ns) ≡ (p.text ++ line r.kind x) ++ rest =
        ap₂ (λ l y. p.text ++ lines l y) split.first here ∙ sym (append_assoc p.text (line r.kind x) rest) in
        let short : length (line r.kind x) ≤ MOST_LINE = line_most r.kind x kind_below in
        record {
          text = p.text ++ line r.kind x;
          left = split.behind;
          are = split.onward;
          count = omega (arith, p.count, ap length split.first);
          all = λ list e. p.all list e ∙ step;
          put = put_then p.put w (omega (arith, length-append p.text (line r.kind x), p.put.next_is, p.few));
          few = omega (arith, w.next_is, p.few);
          same = same ∙ p.same;
        }

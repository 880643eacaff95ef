-- Laws of the reports that go backwards over the output.
use mathlib.Core.Path.{◌≡◌, refl, ap, sym, ◌∙◌, subst}
use mathlib.Core.Bool.{true}
use mathlib.Core.List.{List, [], ◌∷◌, ◌++◌, map, reverse, reverse-append, map-append}
use mathlib.Core.Option.{Option, none, some}
use Prim.Native.Nat.{ℕ, zero, suc, ◌+◌, ◌*◌, ◌-◌, ◌≤◌, ◌<◌}
use native.Mathlib.Omega.{arith}
use lib.ListN.{length, take, drop}
use borrow.Author.Tests.{ne_eqb}
use lib.Dec.{eqb}
use Rattle.memory_layout.specs.Layout.{ROW}
use Rattle.utf8.specs.Rfc3629.{utf8, decode_at, code_of, LastStart}
use Rattle.utf8.specs.Chars.{All, chars, code}
use Rattle.utf8.proofs.Texts.{decode_drop, stops, end_past}
use Rattle.utf8.proofs.CharLaws.{chars_last, all_front, all_back}
use Rattle.utf8.proofs.Between.{utf8_drop}
use Rattle.utf8.specs.declared.Decoded.{Decoded}
use Rattle.utf8.specs.declared.Decoded.TheVariants.{Char, Invalid, End}
use Rattle.memory_table.specs.declared.Row.{Row}
use Rattle.memory_table.specs.Order.{Entry, entry_of, entries, count_of, prev_of, Linked}
use Rattle.model.specs.Text.{Text, back, unwrap_or}
use Rattle.model.specs.Chunk.{content}
use Rattle.model.specs.MagicString.{last_code, last_of_pieces, or_else, last_of_chunks, last_char}
use Rattle.model.specs.Call.{NO_CHAR, show, value_of, last_char as LastChar}
use Rattle.model.specs.WellFormed.{Valid}
use Rattle.model.proofs.Lists.{first_of, rest_of}
use Rattle.memory.specs.Layout.{magic_string_of, run_of, tabulate, chunk_of, replacement_of, bytes_at, piece_at}
use Rattle.memory.specs.WellFormed.{WellFormed, EntryIn}
use Rattle.memory.specs.Calls.{Told}
use Rattle.memory_texts.specs.Texts.{SpanIn, content_at}
use Rattle.memory_texts.proofs.Texts.{run_tabulate}
use Rattle.memory_fragments.specs.Sections.{SectionRow, section_at, section, fragments_of, head_of, tail_part_of, row_no}
use Rattle.memory_fragments.proofs.Sections.{row_edge, row_last, row_in, section_head, section_tail, entries_tabulate}
use Rattle.memory_fragments.proofs.Output.{ready}
use Rattle.memory_fragments.proofs.Telling.{told_value}
use Rattle.memory_fragments.proofs.Valid.{section_valid}
use Rattle.report_last_char.specs.Last.{last_of}

-- ---- the first of two answers

pub first_some : {v : ℕ} {o : Option ℕ} (q : Option ℕ) → some v ≡ o → some v ≡ or_else o q
first_some q e = ap (λ (x : Option ℕ). or_else x q) e

pub first_none : {o : Option ℕ} (q : Option ℕ) → none ≡ o → q ≡ or_else o q
first_none q e = ap (λ (x : Option ℕ). or_else x q) e

-- ---- the last character of a text

back_snoc : {A : Type 0} (l : List A) (x : A) → back (l ++ (x ∷ [])) ≡ some x
back_snoc [] x = refl
back_snoc (y ∷ l) x = rw (back_snoc l x)

pub code_empty : (s : Text) → true ≡ eqb (length s) 0 → none ≡ last_code s
unfolding chars
code_empty [] e = refl
code_empty (a ∷ s) e = let z : ◌≡◌ {A = ℕ} 0 1 = cc (e, ne_eqb (length (a ∷ s)) 0 (omega arith)) in absurd (omega arith)

abbrev code_in : Option Text → Option ℕ
code_in o = elim o [ none ↦ none | some c ↦ some (code c) ]

abbrev char_code_of : Option Text → Option ℕ
char_code_of o = elim o [ none ↦ none | some t ↦ last_code t ]

module _ (s : Text) (at : ℕ) (u : utf8 s ≡ true) (l : LastStart s at) where
  last_is : last_code s ≡ some (code (drop at s))
  last_is = ap code_in (ap back (chars_last s at u l) ∙ back_snoc (chars (take at s)) (drop at s))

  pub code_last : (v w : ℕ) → decode_at s at ≡ Char v w → some v ≡ last_code s
  unfolding code
  code_last v w e =
      let q : code (drop at s) ≡ v = ap code_of (decode_drop s at l.inside ∙ e) in
      sym (last_is ∙ ap some q)

  valid_from : utf8 (drop at s) ≡ true
  valid_from = utf8_drop s at u l.starts

  -- a character stands there
  pub code_other : (x : Decoded) → decode_at s at ≡ x → ((v w : ℕ) → x ≡ Char v w → ⊥) → none ≡ last_code s
  code_other (Char v w) e n = absurd (n v w refl)
  code_other Invalid e n = let z : ◌≡◌ {A = ℕ} 0 1 = cc (stops s at l.inside e, valid_from) in absurd (omega arith)
  code_other End e n = absurd (omega (arith, end_past s at e, l.inside))

-- ---- the last piece of a piece list

run_snoc : (p s : List ℕ) (at n k : ℕ) → n ≡ suc k → run_of p s (at, n) ≡ tabulate (λ j. bytes_at s (piece_at p (at + j))) k ++ (bytes_at s (piece_at p (at + k)) ∷ [])
run_snoc p s at n k e = rw e (run_tabulate p s at (suc k))

module _ (p s : List ℕ) (at n : ℕ) where
  pub run_none : n ≡ 0 → none ≡ last_of_pieces (run_of p s (at, n))
  run_none e = rw (e, run_tabulate p s at 0) refl

  module _ (h : n ≡ 0 → ⊥) where
    abbrev front : List Text
    front = tabulate (λ j. bytes_at s (piece_at p (at + j))) (n - 1)

    parts : run_of p s (at, n) ≡ front ++ (bytes_at s (piece_at p (at + (n - 1))) ∷ [])
    parts = run_snoc p s at n (n - 1) (omega arith)

    pub run_valid : All Valid (run_of p s (at, n)) → utf8 (bytes_at s (piece_at p (at + (n - 1)))) ≡ true
    run_valid a = first_of (all_back Valid front _ (subst (All Valid) parts a))

    pub run_last : last_code (bytes_at s (piece_at p (at + (n - 1)))) ≡ last_of_pieces (run_of p s (at, n))
    run_last = sym (ap char_code_of (ap back parts ∙ back_snoc front (bytes_at s (piece_at p (at + (n - 1))))))

-- ---- a row

module _ (source p s : List ℕ) (e : Entry) (a : All Valid (fragments_of source p s e)) where
  behind : All Valid (content_at source s e.start e.end e.text ∷ run_of p s e.outro)
  behind = all_back Valid (run_of p s e.intro) _ a

  pub intro_valid : All Valid (run_of p s e.intro)
  intro_valid = all_front Valid (run_of p s e.intro) _ a

  pub content_valid : utf8 (content_at source s e.start e.end e.text) ≡ true
  content_valid = first_of behind

  pub outro_valid : All Valid (run_of p s e.outro)
  outro_valid = rest_of behind

-- ---- the sections, last to first

abbrev pub last_to : (ℕ → Option ℕ) → ℕ → Option ℕ
last_to o zero = none
last_to o (suc n) = or_else (o n) (last_to o n)

else_assoc : (a b c : Option ℕ) → or_else (or_else a b) c ≡ or_else a (or_else b c)
else_assoc none b c = refl
else_assoc (some v) b c = refl

else_none : (a : Option ℕ) → or_else a none ≡ a
else_none none = refl
else_none (some v) = refl

-- the first apart from the others
last_first : (o : ℕ → Option ℕ) (n : ℕ) → last_to o (suc n) ≡ or_else (last_to (λ k. o (suc k)) n) (o 0)
last_first o zero = else_none (o 0)
last_first o (suc n) = ap (or_else (o (suc n))) (last_first o n) ∙ sym (else_assoc (o (suc n)) (last_to (λ k. o (suc k)) n) (o 0))

module _ (source p s : List ℕ) where
  last_tabulate : (f : ℕ → Entry) (n : ℕ) → last_of_chunks source (reverse (map (chunk_of p s) (tabulate f n))) ≡ last_to (λ k. last_of source p s (f k)) n
  last_tabulate f zero = refl
  last_tabulate f (suc n) =
      let c = chunk_of p s (f n) in
      let q : reverse (map (chunk_of p s) (tabulate f n ++ (f n ∷ []))) ≡ c ∷ reverse (map (chunk_of p s) (tabulate f n)) =
      ap reverse (map-append (chunk_of p s) (tabulate f n) (f n ∷ [])) ∙ reverse-append (map (chunk_of p s) (tabulate f n)) (c ∷ []) in
      ap (last_of_chunks source) q
      ∙ ap (λ (x : Option ℕ). or_else (last_of_pieces c.texts.outro) (or_else (last_code (content source c)) (or_else (last_of_pieces c.texts.intro) x))) (last_tabulate f n)
      ∙ sym (else_assoc (last_of_pieces c.texts.outro) (or_else (last_code (content source c)) (last_of_pieces c.texts.intro)) (last_to (λ k. last_of source p s (f k)) n)
      ∙ ap (or_else (last_of_pieces c.texts.outro)) (else_assoc (last_code (content source c)) (last_of_pieces c.texts.intro) (last_to (λ k. last_of source p s (f k)) n)))

  no_pieces : last_of_pieces (run_of p s (0, 0)) ≡ none
  no_pieces = rw (run_tabulate p s 0 0)

  last_head : (t : List ℕ) → last_of source p s (head_of t) ≡ last_of_pieces (run_of p s (head_of t).intro)
  unfolding replacement_of chars
  last_head t = rw no_pieces

  last_tail : (t : List ℕ) → last_of source p s (tail_part_of t) ≡ last_of_pieces (run_of p s (tail_part_of t).outro)
  unfolding replacement_of chars
  last_tail t = rw no_pieces (else_none (last_of_pieces (run_of p s (tail_part_of t).outro)))

abbrev pub section_last : List ℕ → List ℕ → List ℕ → List ℕ → ℕ → Option ℕ
section_last source t p s g = last_of source p s (section t g)

last_all : (source t p s : List ℕ) → Linked t → last_to (section_last source t p s) (suc (suc (count_of t))) ≡ last_char (magic_string_of source t p s)
unfolding last_char magic_string_of
last_all source t p s l =
    let o = section_last source t p s in
    let a : o (suc (count_of t)) ≡ last_of_pieces (run_of p s (tail_part_of t).outro) = ap (last_of source p s) (section_tail t) ∙ last_tail source p s t in
    let b : o 0 ≡ last_of_pieces (run_of p s (head_of t).intro) = ap (last_of source p s) (section_head t) ∙ last_head source p s t in
    let d : last_to (λ k. o (suc k)) (count_of t) ≡ last_of_chunks source (reverse (map (chunk_of p s) (entries t))) =
    sym (ap (λ (x : List Entry). last_of_chunks source (reverse (map (chunk_of p s) x))) (entries_tabulate t l) ∙ last_tabulate source p s (λ k. section t (suc k)) (count_of t)) in
    ap (or_else (o (suc (count_of t)))) (last_first o (count_of t)) ∙ rw (a, b, d)

-- `left` sections are not looked at yet, and those behind them have no character; `row` is the row of the last of them
pub record Seeking (source t p s : List ℕ) (left row : ℕ) : Type 0 where
  pub below : left ≤ count_of t + 2
  pub row_is : (g : ℕ) → left ≡ suc g → row ≡ row_no t g
  pub rest_is : last_to (section_last source t p s) left ≡ last_char (magic_string_of source t p s)

module _ (source t p s : List ℕ) (w : WellFormed source t p s) where
  pub seeking_all : (left : ℕ) → left ≡ count_of t + 2 → Seeking source t p s left 0
  seeking_all left e =
      let q : left ≡ suc (suc (count_of t)) = omega arith in
      record {
        below = omega arith;
        row_is = λ g h. sym (ap (row_no t) (let k : g ≡ suc (count_of t) = omega arith in k) ∙ row_last t);
        rest_is = ap (last_to (section_last source t p s)) q ∙ last_all source t p s w.readable.linked;
      }

  pub seeking_none : (left row : ℕ) → Seeking source t p s left row → left ≤ 0 → Told LastChar (magic_string_of source t p s) [] [] 0 NO_CHAR
  unfolding show
  seeking_none left row k h =
      let z : left ≡ 0 = omega arith in
      told_value LastChar (magic_string_of source t p s) NO_CHAR (ap (λ (x : Option ℕ). value_of (unwrap_or x NO_CHAR)) (sym k.rest_is ∙ ap (last_to (section_last source t p s)) z))

  module _ (left row : ℕ) (k : Seeking source t p s left row) (h : 0 < left) where
    suc_is : left ≡ suc (left - 1)
    suc_is = omega arith

    pub seeking_row : row * ROW + ROW ≤ length t
    seeking_row = rw (k.row_is (left - 1) suc_is) (row_in t (left - 1) w.readable.linked)

    module _ (r : Row) (sr : SectionRow t (left - 1) row r) where
      entry : entry_of r ≡ section t (left - 1)
      entry = sr.entry ∙ ap (section_at t (left - 1)) (k.row_is (left - 1) suc_is)

      pub seeking_requires : EntryIn p s (entry_of r) × SpanIn source (entry_of r) × All Valid (fragments_of source p s (entry_of r))
      seeking_requires =
          let x = (ready source t p s w).shown (left - 1) in (
            subst (EntryIn p s) (sym entry) x.entry,
            subst (SpanIn source) (sym entry) x.span,
            subst (λ (e : Entry). All Valid (fragments_of source p s e)) (sym entry) (section_valid source t p s w (left - 1)),
          )

      here : or_else (last_of source p s (entry_of r)) (last_to (section_last source t p s) (left - 1)) ≡ last_char (magic_string_of source t p s)
      here =
          ap (λ (e : Entry). or_else (last_of source p s e) (last_to (section_last source t p s) (left - 1))) entry
          ∙ sym (ap (last_to (section_last source t p s)) suc_is) ∙ k.rest_is

      pub seeking_found : (v : ℕ) → some v ≡ last_of source p s (entry_of r) → Told LastChar (magic_string_of source t p s) [] [] 0 v
      unfolding show
      seeking_found v e =
          told_value LastChar (magic_string_of source t p s) v
          (ap (λ (y : Option ℕ). value_of (unwrap_or y NO_CHAR)) (sym (first_some (last_to (section_last source t p s) (left - 1)) e ∙ here)))

      pub seeking_more : none ≡ last_of source p s (entry_of r) → Seeking source t p s (left - 1) r.prev
      seeking_more e = record {
        below = omega (arith, k.below);
        row_is = λ g q.
            sr.prev ∙ ap (prev_of t) (k.row_is (left - 1) suc_is ∙ ap (row_no t) q) ∙ (row_edge t g w.readable.linked (omega (arith, k.below))).bwd;
        rest_is = first_none (last_to (section_last source t p s) (left - 1)) e ∙ here;
      }

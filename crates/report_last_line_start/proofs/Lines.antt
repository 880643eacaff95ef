-- The walk backwards to the first line feed.
use mathlib.Core.Path.{◌≡◌, refl, ap, sym, ◌∙◌, subst}
use mathlib.Core.List.{List, [], ◌∷◌, ◌++◌, append_assoc}
use mathlib.Core.Option.{Option, none, some}
use Prim.Native.Nat.{ℕ, suc, ◌+◌, ◌*◌, ◌-◌, ◌≤◌, ◌<◌}
use native.Mathlib.Omega.{arith}
use lib.ListN.{length, get_or, take, drop, length-append, length-drop, take-append-drop, drop_of_length-le}
use lib.Seq.{drop-cons, drop-append-le}
use borrow.Author.Tests.{eq-eqb, ne_eqb}
use Rattle.memory_layout.specs.Layout.{ROW}
use Rattle.utf8.specs.Chars.{concat}
use Rattle.utf8.proofs.CharLaws.{concat_append}
use Rattle.memory_table.specs.declared.Row.{Row}
use Rattle.memory_table.specs.Order.{Entry, entry_of, count_of, prev_of}
use Rattle.model.specs.Text.{Text, sum, behind_last_line_feed}
use Rattle.model.specs.MagicString.{last_line, to_string}
use Rattle.model_preservation.specs.Results.{last_line_of}
use Rattle.model_preservation.proofs.Reports.{last_line_is, behind_back}
use Rattle.memory.specs.Layout.{magic_string_of}
use Rattle.memory.specs.WellFormed.{WellFormed, EntryIn}
use Rattle.memory_texts.specs.Texts.{SpanIn}
use Rattle.memory_texts.proofs.Texts.{concat_cons, concat_nil}
use Rattle.memory_fragments.specs.Sections.{SectionRow, section_at, section, sections, fragments_of, fragments_all, size, row_no, On, rest}
use Rattle.memory_fragments.proofs.Sections.{row_edge, row_last, row_in, rest_first, rest_end, rest_cons, rest_over}
use Rattle.memory_fragments.proofs.Output.{ready, output_bound, all_append, concat_sections, sum_length}
use Rattle.memory_fragments.specs.Output.{most_output}
use Rattle.report_last_line_start.specs.Line.{LineFrom}

-- ---- behind the last line feed

behind_feed : (a : ℕ) (t : Text) → a ≡ 10 → behind_last_line_feed t ≡ none → behind_last_line_feed (a ∷ t) ≡ some t
behind_feed a t e h = rw (h, eq-eqb a 10 e)

behind_other : (a : ℕ) (t : Text) → (a ≡ 10 → ⊥) → behind_last_line_feed t ≡ none → behind_last_line_feed (a ∷ t) ≡ none
behind_other a t e h = rw (h, ne_eqb a 10 e)

abbrev or_whole : Text → Option Text → Text
or_whole s o = elim o [ none ↦ s | some t ↦ t ]

-- a text without a line feed, and how long it is
pub record Line (x : Text) (n : ℕ) : Type 0 where
  pub no_feed : behind_last_line_feed x ≡ none
  pub length_is : n ≡ length x

module _ (source t p s : List ℕ) where
  abbrev pub left : ℕ → ℕ → Text
  left g item = concat (rest source t p s g item)

  pub record AtSection (g row item at n before : ℕ) : Type 0 where
    pub on : On t g row item
    pub item_is : item ≡ 0
    pub at_is : at ≡ 0
    pub before_is : (k : ℕ) → g ≡ suc k → before ≡ row_no t k
    pub line : Line (left g 0) n

  pub record AtFragment (g item at n : ℕ) : Type 0 where
    pub inside : item ≤ size (section t g)
    pub at_is : item ≡ 0 → at ≡ 0
    pub line : Line (left g item) n

  pub record AtByte (g item : ℕ) (x : Text) (at n : ℕ) : Type 0 where
    pub at_in : at ≤ length x
    pub line : Line (drop at x ++ left g (suc item)) n

  pub left_cons : (g item : ℕ) → g < count_of t + 2 → item < size (section t g) → left g item ≡ get_or (fragments_of source p s (section t g)) item [] ++ left g (suc item)
  left_cons g item h k = ap concat (rest_cons source t p s g item h k) ∙ concat_cons (get_or (fragments_of source p s (section t g)) item []) (rest source t p s g (suc item))

  -- what is left is an end of all
  front : ℕ → ℕ → Text
  front g item = concat (fragments_all source p s (take g (sections t))) ++ concat (take item (fragments_all source p s (drop g (sections t))))

  all_is : (g item : ℕ) → left 0 0 ≡ front g item ++ left g item
  unfolding rest front
  all_is g item =
      let a = fragments_all source p s (take g (sections t)) in
      let b = fragments_all source p s (drop g (sections t)) in
      let e : fragments_all source p s (sections t) ≡ a ++ b = ap (fragments_all source p s) (sym (take-append-drop g (sections t)))
      ∙ all_append source p s (take g (sections t)) (drop g (sections t)) in
      let q : concat b ≡ concat (take item b) ++ concat (drop item b) = ap concat (sym (take-append-drop item b)) ∙ concat_append (take item b) (drop item b) in
      ap concat e ∙ concat_append a b ∙ ap (λ (x : Text). concat a ++ x) q ∙ sym (append_assoc (concat a) (concat (take item b)) (concat (drop item b)))

  module _ (w : WellFormed source t p s) where
    output_is : to_string (magic_string_of source t p s) ≡ left 0 0
    output_is = sym (ap concat (rest_first source t p s) ∙ concat_sections source t p s w.readable.linked)

    line_is : last_line (magic_string_of source t p s) ≡ or_whole (left 0 0) (behind_last_line_feed (left 0 0))
    unfolding last_line_of
    line_is = last_line_is (magic_string_of source t p s) ∙ ap last_line_of output_is

    pub left_short : (g item : ℕ) → length (left g item) ≤ most_output
    left_short g item =
        let e : length (left 0 0) ≡ sum length (fragments_all source p s (sections t)) = ap (λ (x : List Text). length (concat x)) (rest_first source t p s)
        ∙ sym (sum_length (fragments_all source p s (sections t))) in
        omega (arith, output_bound source t p s w, ap length (all_is g item), length-append (front g item) (left g item))

    -- the start, at the end of the output
    pub at_first : (stop : ℕ) → stop ≡ count_of t + 2 → AtSection stop 0 0 0 0 0
    at_first stop e =
        let z : left stop 0 ≡ [] = ap concat (rest_end source t p s stop 0 (omega arith)) ∙ concat_nil in
        record {
          on = record { row_is = λ h. absurd (omega arith); inside = omega arith; item_in = omega arith };
          item_is = refl;
          at_is = refl;
          before_is = λ k h. sym (ap (row_no t) (let q : k ≡ suc (count_of t) = omega arith in q) ∙ row_last t);
          line = record { no_feed = ap behind_last_line_feed z; length_is = sym (ap length z) };
        }

    module _ (g row item at n before : ℕ) (v : AtSection g row item at n before) where
      pub at_end : g ≤ 0 → LineFrom source t p s g row item at n
      at_end h =
          let z : g ≡ 0 = omega arith in
          let x : left g 0 ≡ left 0 0 = ap (λ (k : ℕ). left k 0) z in
          let q : last_line (magic_string_of source t p s) ≡ left 0 0 = line_is ∙ ap (or_whole (left 0 0)) (ap behind_last_line_feed (sym x) ∙ v.line.no_feed) in
          record {
            on = v.on;
            below = omega arith;
            at_in = omega (arith, v.at_is);
            line_is = ap (λ (k : ℕ). drop k (left g item)) v.at_is ∙ ap (left g) v.item_is ∙ x ∙ sym q;
            length_is = v.line.length_is ∙ ap length (x ∙ sym q);
          }

      module _ (h : 0 < g) where
        pub before_row : before ≡ row_no t (g - 1)
        before_row = v.before_is (g - 1) (omega arith)

        pub before_in : before * ROW + ROW ≤ length t
        before_in = rw before_row (row_in t (g - 1) w.readable.linked)

        module _ (r : Row) (sr : SectionRow t (g - 1) before r) where
          pub entry : entry_of r ≡ section t (g - 1)
          entry = sr.entry ∙ ap (section_at t (g - 1)) before_row

          pub size_row : r.intro_n + r.outro_n + 1 ≡ size (section t (g - 1))
          size_row = omega (arith, ap size entry)

          pub section_in : AtFragment (g - 1) (r.intro_n + r.outro_n + 1) at n
          section_in =
              let e : left (g - 1) (r.intro_n + r.outro_n + 1) ≡ left g 0 =
              ap (left (g - 1)) size_row ∙ ap concat (rest_over source t p s (g - 1) (omega (arith, v.on.inside))) ∙ ap (λ (j : ℕ). left j 0) (let q : suc (g - 1) ≡ g = omega arith in q) in
              record {
                inside = omega (arith, size_row);
                at_is = λ z. absurd (omega arith);
                line = subst (λ (x : Text). Line x n) (sym e) v.line;
              }

          pub row_shown : EntryIn p s (entry_of r) × SpanIn source (entry_of r)
          row_shown =
              let x = (ready source t p s w).shown (g - 1) in
              (subst (EntryIn p s) (sym entry) x.entry, subst (SpanIn source) (sym entry) x.span)

          pub shown_is : (x : Text) (item' : ℕ) → x ≡ get_or (fragments_of source p s (entry_of r)) item' [] → x ≡ get_or (fragments_of source p s (section t (g - 1))) item' []
          shown_is x item' e = e ∙ ap (λ (y : Entry). get_or (fragments_of source p s y) item' []) entry

          pub section_out : (item' at' n' : ℕ) → AtFragment (g - 1) item' at' n' → item' ≤ 0 → AtSection (g - 1) before item' at' n' r.prev
          section_out item' at' n' f z =
              let i : item' ≡ 0 = omega arith in
              record {
                on = record { row_is = λ j. before_row; inside = omega (arith, v.on.inside); item_in = omega arith };
                item_is = i;
                at_is = f.at_is i;
                before_is = λ j e. sr.prev ∙ ap (prev_of t) (before_row ∙ ap (row_no t) e) ∙ (row_edge t j w.readable.linked (omega (arith, v.on.inside))).bwd;
                line = subst (λ (j : ℕ). Line (left (g - 1) j) n') i f.line;
              }

    module _ (g : ℕ) (b : g < count_of t + 2) where
      pub fragment_in : (item at n : ℕ) (x : Text) → AtFragment g item at n → 0 < item → AtByte g (item - 1) x (length x) n
      fragment_in item at n x f h =
          let q : suc (item - 1) ≡ item = omega arith in
          let e : drop (length x) x ++ left g (suc (item - 1)) ≡ left g item = ap (λ (y : Text). y ++ left g (suc (item - 1))) (drop_of_length-le x {i = length x} (omega arith)) ∙ ap (left g) q in
          record { at_in = omega arith; line = subst (λ (y : Text). Line y n) (sym e) f.line }

      module _ (item : ℕ) (i : item < size (section t g)) (x : Text) (e : x ≡ get_or (fragments_of source p s (section t g)) item []) (at n : ℕ) (v : AtByte g item x at n) where
        here : left g item ≡ x ++ left g (suc item)
        here = left_cons g item b i ∙ ap (λ (y : Text). y ++ left g (suc item)) (sym e)

        pub byte_short : n ≤ most_output
        byte_short =
            omega (arith, left_short g item, ap length here, length-append x (left g (suc item)), v.line.length_is, length-append (drop at x) (left g (suc item)), length-drop at x)

        pub fragment_out : at ≤ 0 → AtFragment g item at n
        fragment_out h =
            let z : at ≡ 0 = omega arith in
            record {
              inside = omega arith;
              at_is = λ j. z;
              line = subst (λ (y : Text). Line y n) (ap (λ (k : ℕ). drop k x ++ left g (suc item)) z ∙ sym here) v.line;
            }

        module _ (h : 0 < at) where
          byte_is : drop (at - 1) x ≡ get_or x (at - 1) 0 ∷ drop at x
          byte_is = drop-cons x (at - 1) 0 (omega (arith, v.at_in)) ∙ ap (λ (k : ℕ). get_or x (at - 1) 0 ∷ drop k x) (let q : suc (at - 1) ≡ at = omega arith in q)

          pub byte_more : (get_or x (at - 1) 0 ≡ 10 → ⊥) → AtByte g item x (at - 1) (n + 1)
          byte_more k = record {
            at_in = omega (arith, v.at_in);
            line = subst (λ (y : Text). Line (y ++ left g (suc item)) (n + 1)) (sym byte_is) (record {
              no_feed = behind_other (get_or x (at - 1) 0) (drop at x ++ left g (suc item)) k v.line.no_feed;
              length_is = omega (arith, v.line.length_is);
            });
          }

          pub at_feed : (row : ℕ) → row ≡ row_no t g → get_or x (at - 1) 0 ≡ 10 → LineFrom source t p s g row item at n
          at_feed row r k =
              let tail : Text = drop at x ++ left g (suc item) in
              let fore : Text = front g item ++ take (at - 1) x in
              let y : x ≡ take (at - 1) x ++ (get_or x (at - 1) 0 ∷ drop at x) = sym (take-append-drop (at - 1) x) ∙ ap (λ (l : Text). take (at - 1) x ++ l) byte_is in
              let a : left g item ≡ take (at - 1) x ++ (get_or x (at - 1) 0 ∷ tail) = here ∙ ap (λ (l : Text). l ++ left g (suc item)) y
              ∙ append_assoc (take (at - 1) x) (get_or x (at - 1) 0 ∷ drop at x) (left g (suc item)) in
              let d : left 0 0 ≡ fore ++ (get_or x (at - 1) 0 ∷ tail) = all_is g item ∙ ap (λ (l : Text). front g item ++ l) a
              ∙ sym (append_assoc (front g item) (take (at - 1) x) (get_or x (at - 1) 0 ∷ tail)) in
              let f : behind_last_line_feed (left 0 0) ≡ some tail = ap behind_last_line_feed d ∙ behind_back fore (get_or x (at - 1) 0 ∷ tail) tail
              (behind_feed (get_or x (at - 1) 0) tail k v.line.no_feed) in
              let q : last_line (magic_string_of source t p s) ≡ tail = line_is ∙ ap (or_whole (left 0 0)) f in
              record {
                on = record { row_is = λ j. r; inside = omega arith; item_in = i };
                below = b;
                at_in = omega (arith, v.at_in, ap length e);
                line_is = ap (drop at) here ∙ drop-append-le at x (left g (suc item)) v.at_in ∙ sym q;
                length_is = v.line.length_is ∙ ap length (sym q);
              }

pub below : {source t p s : List ℕ} {g row item at n before : ℕ} → AtSection source t p s g row item at n before → 0 < g → g - 1 < count_of t + 2
below v h = omega (arith, v.on.inside)

pub item_in : {source t p s : List ℕ} {g item at n : ℕ} → AtFragment source t p s g item at n → 0 < item → item - 1 < size (section t g)
item_in f h = omega (arith, f.inside)

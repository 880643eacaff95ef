-- `indent_with` is never refused on a formed desk: it cuts only inside chunks without a replacement. Of each source byte it is counted how many chunks with a
-- replacement hold it; no step of the walk changes that.
use Prim.Native.Nat.{ℕ, zero, suc, ◌+◌, ◌≤◌, ◌<◌}
use native.Mathlib.Omega.{arith}
use mathlib.Core.Path.{◌≡◌, refl, sym, ap, ◌∙◌}
use mathlib.Core.Bool.{Bool, true, false, cond, false≢true}
use native.Mathlib.Decide.{dec_lt}
use mathlib.Core.List.{List, [], ◌∷◌, map}
use mathlib.Core.Option.{Option, none, some}
use lib.Dec.{eqb}
use lib.ListN.{length}
use borrow.Author.Tests.{eqb-true}
use Rattle.utf8.specs.Rfc3629.{between}
use Rattle.utf8.specs.Chars.{All, nil, cons}
use Rattle.model.specs.Text.{Text, sum, is_some, unwrap_or}
use Rattle.model.specs.Chunk.{Chunk, Texts, with_texts, start_of, end_of, contains, is_edited, is_filled, first_half, second_half, edit}
use Rattle.model.specs.MagicString.{MagicString, Result, ok, and_then, with_chunks, with_intro, with_outro, by_start, at_start, holder, refuses_split, split_at, by_edge_mut}
use Rattle.model.specs.Insert.{right, front, push, push_to, insert, insert_step}
use Rattle.model.specs.Indent.{get_indent_string, Pieces, indent_pieces, excluded, insert_all, Marked, indent_chunk, indent_chunks, indent_by, is_empty_indentor, indent_with}
use Rattle.model.specs.WellFormed.{Valid, covers, Covered, Formed}
use Rattle.model.proofs.Lists.{all_map, all_map₂, all_of, sum_part}
use Rattle.model.proofs.Spans.{covers_key, covers_in, covers_out, covers_halves}
use Rattle.model_preservation.proofs.Lists.{of_cond, of_either, of_option, of_number, all_each, sum_others}
use Rattle.model_preservation.proofs.Spans.{Inside, spans_inside, covered_once, same_spans, contains_true, split_sum, split_covered}
use Rattle.model_preservation.proofs.Desk.{split_cases}
use Rattle.model_preservation.proofs.Indent.{chunk_starts}

-- ---- the count

-- how often a chunk with a replacement has the byte x
edited_at : ℕ → Chunk → ℕ
edited_at x c = cond (is_edited c) (covers x c) 0

edited_le : (x : ℕ) (c : Chunk) → edited_at x c ≤ covers x c
unfolding edited_at
edited_le x c = of_cond (λ (n : ℕ). n ≤ covers x c) (is_edited c) (λ _. omega arith) (λ _. omega arith)

edited_true : (x : ℕ) (c : Chunk) → is_edited c ≡ true → edited_at x c ≡ covers x c
unfolding edited_at
edited_true x c e = rw e

edited_false : (x : ℕ) (c : Chunk) → is_edited c ≡ false → edited_at x c ≡ 0
unfolding edited_at
edited_false x c e = rw e

-- where the count is 1, there is a replacement
edited_one : (x : ℕ) (c : Chunk) → 1 ≤ edited_at x c → is_edited c ≡ true
edited_one x c h = go (is_edited c) refl
  where
    go : (b : Bool) → is_edited c ≡ b → is_edited c ≡ true
    go true e = e
    go false e = absurd (omega (arith, edited_false x c e))

edited_key : (x : ℕ) (c d : Chunk) → d.span ≡ c.span → is_edited d ≡ is_edited c → edited_at x d ≡ edited_at x c
unfolding edited_at
edited_key x c d e q = rw (q, covers_key x c d e)

edited_halves : (x p : ℕ) (c : Chunk) → start_of c < p → p < end_of c → edited_at x (first_half p c) + edited_at x (second_half p c) ≡ edited_at x c
unfolding edited_at
edited_halves x p c h k = go (is_edited c)
  where
    go : (b : Bool) → ◌≡◌ {A = ℕ} (cond b (covers x (first_half p c)) 0 + cond b (covers x (second_half p c)) 0) (cond b (covers x c) 0)
    go true = covers_halves x p c (h, k)
    go false = refl

-- a cut where no chunk with a replacement holds the place is not refused
filled_edited : (e : Option Text) → is_filled e ≡ true → is_some e ≡ true
filled_edited none q = q
filled_edited (some t) q = refl

not_refused : (p : ℕ) (cs : List Chunk) → sum (edited_at p) cs ≡ 0 → refuses_split (holder p cs) ≡ true → ⊥
not_refused p [] z = λ q. false≢true q
not_refused p (c ∷ cs) z =
    of_cond (λ (o : Option Chunk). refuses_split o ≡ true → ⊥) (contains c p)
    (λ e q. let i = contains_true c p e in
    omega (arith, edited_true p c (filled_edited c.texts.edited_content q), covers_in p c (omega (arith, i.0), i.1)))
    (λ e. not_refused p cs (omega arith))

-- a change of texts at a start keeps the count if it does so at the chunk that starts there
at_start_count : (f : Chunk → ℕ) (p : ℕ) (g : Texts → Texts) {cs : List Chunk} → All (λ c. start_of c ≡ p → f (with_texts g c) ≡ f c) cs
    → sum f (at_start p g cs) ≡ sum f cs
at_start_count f p g nil = refl
at_start_count f p g (cons {x = c} {xs = cs} h k) =
    of_cond (λ (l : List Chunk). sum f l ≡ f c + sum f cs) (eqb (start_of c) p)
    (λ e. omega (arith, h (eqb-true (start_of c) p e))) (λ e. omega (arith, at_start_count f p g k))

at_start_spans : (p : ℕ) (g : Texts → Texts) (cs : List Chunk) → map (λ c. c.span) (at_start p g cs) ≡ map (λ c. c.span) cs
at_start_spans p g [] = refl
at_start_spans p g (c ∷ cs) =
    of_cond (λ (l : List Chunk). map (λ c. c.span) l ≡ c.span ∷ map (λ c. c.span) cs) (eqb (start_of c) p)
    (λ e. refl) (λ e i. c.span ∷ at_start_spans p g cs i)

-- ---- the chunks as they stood at the start

record Original (source : Text) (cs : List Chunk) (c : Chunk) : Type 0 where
  inside : Inside source c
  proper : 0 < length source → start_of c < end_of c
  unedited : (x : ℕ) → is_edited c ≡ false → start_of c ≤ x → x < end_of c → sum (edited_at x) cs ≡ 0
  counted : (x : ℕ) → edited_at x c ≤ sum (edited_at x) cs

proper_spans : (source : Text) (cs : List Chunk) → Covered source cs → All (λ c. 0 < length source → start_of c < end_of c) cs
proper_spans [] cs h = all_of (λ c l. absurd (omega arith)) cs
proper_spans (a ∷ s) cs h = all_map (λ c k _. k.proper) h.spans

unedited_none : (source : Text) (cs : List Chunk) → Covered source cs → All (λ c. (x : ℕ) → is_edited c ≡ false → start_of c ≤ x → x < end_of c → sum (edited_at x) cs ≡ 0) cs
unedited_none source cs h =
    all_map₂ (λ c i w x e a b. omega (arith, w x, covered_once source cs h x (omega (arith, i.inside)), covers_in x c (a, b), edited_false x c e))
    (spans_inside source cs h) (all_each cs (λ x. sum_others (covers x) (edited_at x) (edited_le x) cs))

originals : (source : Text) (cs : List Chunk) → Covered source cs → All (Original source cs) cs
originals source cs h = go (spans_inside source cs h) (proper_spans source cs h) (unedited_none source cs h) (all_each cs (λ x. sum_part (edited_at x) cs))
  where
    go : {ds : List Chunk} → All (Inside source) ds → All (λ c. 0 < length source → start_of c < end_of c) ds
        → All (λ c. (x : ℕ) → is_edited c ≡ false → start_of c ≤ x → x < end_of c → sum (edited_at x) cs ≡ 0) ds
        → All (λ c. (x : ℕ) → edited_at x c ≤ sum (edited_at x) cs) ds → All (Original source cs) ds
    go nil nil nil nil = nil
    go (cons a i) (cons b j) (cons d k) (cons e l) = cons (record { inside = a; proper = b; unedited = d; counted = e }) (go i j k l)

-- ---- what each step of the walk keeps

record Walks (source : Text) (cs : List Chunk) (m : MagicString) : Type 0 where
  source_is : m.source ≡ source
  covered : Covered source m.chunks
  same_count : (x : ℕ) → sum (edited_at x) m.chunks ≡ sum (edited_at x) cs

-- a step that is not refused, and what holds of the desk it leaves
record Accepts (P : MagicString → Type 0) (r : Result) : Type 0 where
  number : r.number ≡ 0
  desk : P r.desk

accepts_then : (P : MagicString → Type 0) (r : Result) (f : MagicString → Result) → Accepts P r → ((m : MagicString) → P m → Accepts P (f m)) → Accepts P (and_then r f)
accepts_then P r f h g = go r.number r.desk h.number h.desk
  where
    go : (n : ℕ) (m : MagicString) → n ≡ 0 → P m → Accepts P (and_then (record { number = n; desk = m }) f)
    go zero m e h = g m h
    go (suc n) m e h = absurd (omega arith)

edited_nowhere : (x : ℕ) (d : Chunk) → end_of d ≤ start_of d → edited_at x d ≡ 0
edited_nowhere x d h = omega (arith, edited_le x d, covers_out x d (λ i. omega arith))

module _ (source : Text) (cs : List Chunk) where
  -- a chunk that starts where one with a replacement stood at the start has a replacement, or no byte
  replaced_there : (c : Chunk) → Original source cs c → is_edited c ≡ true → (m : MagicString) → Walks source cs m
      → (t : Text) (x : ℕ) → All (λ d. start_of d ≡ start_of c → edited_at x (with_texts (edit t false) d) ≡ edited_at x d) m.chunks
  replaced_there c o e m w t x =
      let a : ℕ = start_of c in
      all_map₂ (λ d i k q. elim (dec_lt (start_of d) (end_of d)) [
        | no l ↦ edited_nowhere x (with_texts (edit t false) d) (omega arith) ∙ sym (edited_nowhere x d (omega arith))
        | yes l ↦ edited_key x d (with_texts (edit t false) d) refl
            (sym (edited_one a d (omega (
              arith,
              k,
              i.inside,
              i.ordered,
              covered_once source m.chunks w.covered a (omega (arith, i.inside)),
              covers_in a d (omega arith, omega arith),
              w.same_count a,
              o.counted a,
              edited_true a c e,
              covers_in a c (omega arith, o.proper (omega (arith, i.inside))),
            ))))
      ])
      (spans_inside source m.chunks w.covered) (sum_others (covers a) (edited_at a) (edited_le a) m.chunks)

  -- ---- the steps

  -- a place between characters that no chunk with a replacement held at the start
  Free : ℕ → Type 0
  Free x = (between source x ≡ true) × (sum (edited_at x) cs ≡ 0)

  cut_accepted : (p : ℕ) → Free p → (m : MagicString) → Walks source cs m → Accepts (Walks source cs) (split_at p m)
  unfolding Free
  cut_accepted p f m w =
      split_cases (Accepts (Walks source cs)) p m (record { number = refl; desk = w })
      (λ q. absurd (not_refused p m.chunks (w.same_count p ∙ f.1) q))
      (λ l. record {
        number = refl;
        desk = record {
          source_is = w.source_is;
          covered = split_covered source p (rw (← w.source_is) l) f.0 m.chunks w.covered;
          same_count = λ x. split_sum (edited_at x) p (edited_halves x p) m.chunks ∙ w.same_count x;
        };
      })

  -- other texts at a start, where the counts stay
  texts_walk : (p : ℕ) (g : Texts → Texts) (m : MagicString) → Walks source cs m
      → ((x : ℕ) → All (λ d. start_of d ≡ p → edited_at x (with_texts g d) ≡ edited_at x d) m.chunks) → Walks source cs (with_chunks m (at_start p g m.chunks))
  texts_walk p g m w h =
      record {
        source_is = w.source_is;
        covered = same_spans source m.chunks (at_start p g m.chunks) (at_start_spans p g m.chunks) w.covered;
        same_count = λ x. at_start_count (edited_at x) p g (h x) ∙ w.same_count x;
      }

  other_walk : (m : MagicString) (head tail : List Text) → Walks source cs m → Walks source cs (record { source = m.source; intro = head; outro = tail; chunks = m.chunks })
  other_walk m head tail w = record { source_is = w.source_is; covered = w.covered; same_count = w.same_count }

  insert_accepted : (p : ℕ) (t : Text) → Free p → (m : MagicString) → Walks source cs m → Accepts (Walks source cs) (insert p t right front m)
  unfolding by_edge_mut
  insert_accepted p t f m w =
      accepts_then (Walks source cs) (split_at p m) (insert_step p t right front) (cut_accepted p f m w)
      (λ n k. of_option (Accepts (Walks source cs)) (by_start p n.chunks)
      (λ _. record { number = refl; desk = other_walk n n.intro (push front t n.outro) k })
      (λ c _. record { number = refl; desk = texts_walk p (push_to right front t) n k (λ x. all_of (λ d _. edited_key x d (with_texts (push_to right front t) d) refl refl) n.chunks) }))

  insert_all_accepted : (t : Text) {l : List ℕ} → All Free l → (m : MagicString) → Walks source cs m → Accepts (Walks source cs) (insert_all t l m)
  insert_all_accepted t nil m w = record { number = refl; desk = w }
  insert_all_accepted t (cons {x = i} {xs = l} f k) m w =
      accepts_then (Walks source cs) (insert i t right front m) (insert_all t l) (insert_accepted i t f m w) (λ n. insert_all_accepted t k n)

  module _ (v : Valid source) (indentor : Text) (exclude : List ℕ) where
    indent_chunk_accepted : (mark : Bool) (c : Chunk) → Original source cs c → (m : MagicString) → Walks source cs m
        → Accepts (Walks source cs) (indent_chunk indentor exclude mark c m).result
    unfolding indent_chunk Free
    indent_chunk_accepted mark c o m w =
        let P : Marked → Type 0 = λ r. Accepts (Walks source cs) r.result in
        let s : m.source ≡ source = w.source_is in
        of_option P c.texts.edited_content
        (λ q. insert_all_accepted indentor
        (all_map (λ x b. (rw (← s) b.is_between, o.unedited x (ap is_some q) b.from_on b.below))
        (chunk_starts m.source c (rw s v) (rw s o.inside) exclude mark)) m w)
        (λ t q. of_either P (excluded exclude (start_of c)) (record { number = refl; desk = w })
        (record { number = refl; desk = texts_walk (start_of c) _ m w (λ x. replaced_there c o (ap is_some q) m w _ x) }))

    indent_chunks_accepted : (mark : Bool) {ds : List Chunk} → All (Original source cs) ds → (m : MagicString) → Walks source cs m
        → Accepts (Walks source cs) (indent_chunks indentor exclude mark ds m).result
    indent_chunks_accepted mark nil m w = record { number = refl; desk = w }
    indent_chunks_accepted mark (cons {x = c} {xs = ds} o k) m w =
        let r : Marked = indent_chunk indentor exclude mark c m in
        let a : Accepts (Walks source cs) r.result = indent_chunk_accepted mark c o m w in
        of_number (λ (r : Marked). Accepts (Walks source cs) r.result) r.result.number
        (λ _. indent_chunks_accepted r.mark k r.result.desk a.desk) (λ _ _. a)

-- ---- the call

pub indent_by_accepted : (indentor : Text) (exclude : List ℕ) (m : MagicString) → Formed m → (indent_by indentor exclude m).number ≡ 0
unfolding indent_by
indent_by_accepted indentor exclude m f =
    let W : MagicString → Type 0 = Walks m.source m.chunks in
    let head : Pieces = indent_pieces indentor true m.intro in
    let body : Marked = indent_chunks indentor exclude head.mark m.chunks (with_intro m head.pieces) in
    (accepts_then W body.result (λ n. ok (with_outro n (indent_pieces indentor body.mark n.outro).pieces))
    (indent_chunks_accepted m.source m.chunks f.source indentor exclude head.mark (originals m.source m.chunks f.covered) (with_intro m head.pieces)
    (record { source_is = refl; covered = f.covered; same_count = λ x. refl }))
    (λ n w. record { number = refl; desk = other_walk m.source m.chunks n n.intro _ w })).number

pub indent_with_accepted : (indentor : Option Text) (exclude : List ℕ) (m : MagicString) → Formed m → (indent_with indentor exclude m).number ≡ 0
unfolding indent_with
indent_with_accepted indentor exclude m f =
    of_cond (λ (r : Result). r.number ≡ 0) (is_empty_indentor indentor) (λ _. refl) (λ _. indent_by_accepted (unwrap_or indentor (get_indent_string m.source)) exclude m f)

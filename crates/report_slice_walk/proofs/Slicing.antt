-- The second loop of a slice.
use mathlib.Core.Path.{◌≡◌, refl, ap, sym, ◌∙◌, subst}
use mathlib.Core.Bool.{Bool, true, false, ◌&&◌, ◌||◌, not, cond}
use mathlib.Core.List.{List, [], ◌∷◌, ◌++◌, append-nil, append_assoc}
use Prim.Native.Nat.{ℕ, suc, ◌+◌, ◌*◌, ◌-◌, ◌^◌, ◌≤◌, ◌<◌}
use native.Mathlib.Omega.{arith}
use native.Mathlib.Numerals.{add-one}
use lib.Dec.{eqb}
use lib.ListN.{length, take, drop, length-append, length-take, length-drop, take-append-drop}
use Rattle.memory_layout.specs.Layout.{ROW}
use Rattle.utf8.specs.Chars.{concat}
use Rattle.memory_table.specs.declared.Row.{Row}
use Rattle.memory_table.specs.Table.{row_at}
use Rattle.memory_table.specs.Order.{Entry, entry_of, entry_at, entries, count_of, next_of, Linked}
use Rattle.model.specs.Text.{Text, sum, part}
use Rattle.model.specs.Chunk.{Chunk, end_of, content}
use Rattle.model.specs.Chunk as chunk
use Rattle.model.specs.MagicString.{chunk_fragments}
use Rattle.model.specs.Slice.{Sliced, text, refused, contains_end, ends_inside, chunk_slice, before, slice_rest}
use Rattle.model.proofs.Lists.{sum_append}
use Rattle.memory.specs.Layout.{chunk_of, magic_string_of}
use Rattle.memory.specs.WellFormed.{WellFormed, EntryIn}
use Rattle.memory.proofs.Desks.{edited_is, desk_full}
use Rattle.memory_texts.specs.Texts.{SpanIn}
use Rattle.memory_fragments.specs.Sections.{section, row_no, fragments_all, fragments_of}
use Rattle.memory_fragments.proofs.Sections.{row_edge, row_in, section_chunk, entries_drop, entries_end}
use Rattle.memory_fragments.proofs.Output.{ready, sum_length, all_append, output_short}
use Rattle.memory_fragments.specs.Output.{most_output}
use Rattle.report_slice_chunk.specs.Emit.{over_if, Emitted, Room}
use Rattle.report_slice_chunk.proofs.Emitting.{emitted_none, emitted_then}
use Rattle.report_slice_chunk.specs.Given.{holds_end, slice_of_entry}
use Rattle.report_slice_walk.specs.Walk.{span_ends_inside, chunks_of, slice_walk, Fits, Out}
use Rattle.report_slice_walk.proofs.Walk.{contains_is, walk_rest}

-- ---- a chunk's slice is at most what the chunk shows

cond_le : (b : Bool) (x : Text) → length (cond b x []) ≤ length x
cond_le true x = omega arith
cond_le false x = omega arith

part_le : (a b : ℕ) (s : Text) → length (part a b s) ≤ length s
part_le a b s = simp (length-take, length-drop) (omega arith)

slice_le : (source : Text) (w : Bool) (begin end : ℕ) (c : Chunk) → length (chunk_slice source w begin end c) ≤ sum length (chunk.fragments source c)
unfolding chunk_slice
slice_le source w begin end c =
    let s = content source c in
    let stop = cond (contains_end c end) (length s - (end_of c - end)) (length s) in
    let x = cond w (concat c.texts.intro) [] in
    let z = cond (not (contains_end c end) || eqb (end_of c) end) (concat c.texts.outro) [] in
    omega (
      arith,
      length-append x (part begin stop s ++ z),
      length-append (part begin stop s) z,
      cond_le w (concat c.texts.intro),
      part_le begin stop s,
      cond_le (not (contains_end c end) || eqb (end_of c) end) (concat c.texts.outro),
      sum_length c.texts.intro,
      sum_length c.texts.outro,
      sum_append length c.texts.intro (s ∷ c.texts.outro),
    )

-- all chunks together are short
chunks_short : (source t p s : List ℕ) → WellFormed source t p s → sum length (fragments_all source p s (entries t)) ≤ most_output
unfolding magic_string_of
chunks_short source t p s w =
    let m = magic_string_of source t p s in
    let cs = chunk_fragments m.source m.chunks in
    omega (arith, output_short m (desk_full w), sum_append length m.intro (cs ++ m.outro), sum_append length cs m.outro)

pub rest_short : (source t p s : List ℕ) (k : ℕ) → WellFormed source t p s → sum length (fragments_all source p s (drop k (entries t))) ≤ most_output
rest_short source t p s k w =
    let F = fragments_all source p s in
    let e : F (entries t) ≡ F (take k (entries t)) ++ F (drop k (entries t)) = ap F (sym (take-append-drop k (entries t))) ∙ all_append source p s (take k (entries t)) (drop k (entries t)) in
    omega (arith, chunks_short source t p s w, ap (sum length) e, sum_append length (F (take k (entries t))) (F (drop k (entries t))))

-- ---- a chunk's tests

pub ends_is : (p s : List ℕ) (e : Entry) (end : ℕ) → ends_inside (chunk_of p s e) end ≡ span_ends_inside e.start e.end e.text.0 end
unfolding ends_inside contains_end
ends_is p s e end = ap (λ (b : Bool). (holds_end e.start e.end end && b) && not (eqb e.end end)) (edited_is s e.text)

-- ---- one chunk of the walk

abbrev unless : Bool → Sliced → Sliced
unless h r = elim h [ true ↦ text [] | false ↦ r ]

abbrev step : Bool → Bool → Text → Sliced → Sliced
step e h x r = elim e [ true ↦ refused 12 | false ↦ before x (unless h r) ]

before_before : (x y : Text) (r : Sliced) → before x (before y r) ≡ before (x ++ y) r
before_before x y (text z) = ap text (sym (append_assoc x y z))
before_before x y (refused k) = refl

-- ---- the loop

pub record Slicing (w : Bool) (source t p s : List ℕ) (end : ℕ) (whole : Sliced) (d₀ : List ℕ) (n k row : ℕ) (wi : Bool) (begin o : ℕ) (d : List ℕ) : Type 0 where
  pub count_is : n ≡ count_of t
  pub below : k ≤ n
  pub row_is : k < n → row ≡ row_no t (suc k)
  pub done : Text
  pub whole_is : whole ≡ before done (slice_walk source wi begin end (chunks_of p s (drop k (entries t))))
  pub emitted : Emitted w d₀ 0 done d o
  pub small : o + sum length (fragments_all source p s (drop k (entries t))) ≤ most_output
  pub same : length d ≡ length d₀

before_nil : (r : Sliced) → before [] r ≡ r
before_nil (text x) = refl
before_nil (refused k) = refl

pub slicing_none : (w : Bool) (source t p s : List ℕ) (end : ℕ) (d : List ℕ) (n k row : ℕ) (wi : Bool) (begin : ℕ) → WellFormed source t p s → n ≡ count_of t → k < count_of t → row ≡ row_no t (suc k)
    → Slicing w source t p s end (slice_walk source wi begin end (chunks_of p s (drop k (entries t)))) d n k row wi begin 0 d
slicing_none w source t p s end d n k row wi begin f e h r = record {
  count_is = e;
  below = omega arith;
  row_is = λ j. r;
  done = [];
  whole_is = sym (before_nil _);
  emitted = emitted_none w d 0;
  small = omega (arith, rest_short source t p s k f);
  same = refl;
}

fits_whole : (w : Bool) (whole : Sliced) (d : List ℕ) (x y : Text) (r : Sliced) → (w ≡ true → Fits whole d) → whole ≡ before x (before y r) → w ≡ true → length (x ++ y) ≤ length d
fits_whole w whole d x y (text z) f e q =
    let g : length (x ++ (y ++ z)) ≤ length d = subst (λ (a : Sliced). Fits a d) e (f q) in
    omega (arith, length-append x (y ++ z), length-append y z, length-append x y)
fits_whole w whole d x y (refused k) f e q = absurd (subst (λ (a : Sliced). Fits a d) e (f q))

out_false : (d₀ done d : List ℕ) (o : ℕ) (w : Bool) → Emitted w d₀ 0 done d o → w ≡ false → d ≡ d₀
out_false d₀ done d o w e q = e.out_is ∙ ap (λ (b : Bool). over_if b d₀ 0 done) q

module _ {w : Bool} {source t p s : List ℕ} {end : ℕ} {whole : Sliced} {d₀ : List ℕ} {n k row : ℕ} {wi : Bool} {begin o : ℕ} {d : List ℕ}
    (c : Slicing w source t p s end whole d₀ n k row wi begin o d) (f : WellFormed source t p s) (fit : w ≡ true → Fits whole d₀) where
  pub slicing_small : o < 2 ^ 32
  slicing_small = omega (arith, c.small)

  text_out : (x : Text) (d' : List ℕ) (o' : ℕ) → whole ≡ text x → Emitted w d₀ 0 x d' o' → Out w whole d₀ d' 0 o'
  text_out x d' o' e v = subst (λ (a : Sliced). Out w a d₀ d' 0 o') (sym e) (refl, omega (arith, v.next_is), v.out_is)

  pub slicing_done : n ≤ k → Out w whole d₀ d 0 o
  slicing_done h =
      let e : whole ≡ text c.done =
      c.whole_is ∙ ap (λ (x : List Entry). before c.done (slice_walk source wi begin end (chunks_of p s x)))
      (entries_end t k f.readable.linked (omega (arith, c.count_is))) ∙ ap text (append-nil c.done) in
      text_out c.done d o e c.emitted

  module _ (h : k < n) where
    l : Linked t
    l = f.readable.linked

    inside : k < count_of t
    inside = omega (arith, c.count_is)

    pub slicing_row : row * ROW + ROW ≤ length t
    slicing_row = rw (c.row_is h) (row_in t (suc k) l)

    module _ (r : Row) (e : r ≡ row_at t row) where
      entry : entry_of r ≡ section t (suc k)
      entry = ap entry_of e ∙ ap (entry_at t) (c.row_is h) ∙ sym (section_chunk t k l inside)

      abbrev x : Text
      x = slice_of_entry source p s wi begin end (entry_of r)

      abbrev rest : Sliced
      rest = slice_rest source end (chunks_of p s (drop (suc k) (entries t)))

      split : whole ≡ before c.done (step (span_ends_inside r.start r.end r.text_at end) (holds_end r.start r.end end) x rest)
      split =
          c.whole_is
          ∙ ap (λ (y : List Entry). before c.done (slice_walk source wi begin end (chunks_of p s y))) (entries_drop t k l inside)
          ∙ ap (λ (y : Entry). before c.done (step (ends_inside (chunk_of p s y) end) (contains_end (chunk_of p s y) end) (slice_of_entry source p s wi begin end y) rest)) (sym entry)
          ∙ ap (λ (b : Bool). before c.done (step b (contains_end (chunk_of p s (entry_of r)) end) x rest)) (ends_is p s (entry_of r) end)
          ∙ ap (λ (b : Bool). before c.done (step (span_ends_inside r.start r.end r.text_at end) b x rest)) (contains_is p s (entry_of r) end)

      pub slicing_refused : span_ends_inside r.start r.end r.text_at end ≡ true → Out w whole d₀ d 12 0
      slicing_refused q =
          let y : whole ≡ refused 12 = split ∙ ap (λ (b : Bool). before c.done (step b (holds_end r.start r.end end) x rest)) q in
          subst (λ (a : Sliced). Out w a d₀ d 12 0) (sym y) (refl, refl, out_false d₀ c.done d o w c.emitted)

      size : sum length (fragments_all source p s (drop k (entries t))) ≡ sum length (fragments_of source p s (entry_of r)) + sum length (fragments_all source p s (drop (suc k) (entries t)))
      size =
          ap (λ (y : List Entry). sum length (fragments_all source p s y)) (entries_drop t k l inside)
          ∙ sum_append length (fragments_of source p s (section t (suc k))) (fragments_all source p s (drop (suc k) (entries t)))
          ∙ ap (λ (y : Entry). sum length (fragments_of source p s y) + sum length (fragments_all source p s (drop (suc k) (entries t)))) (sym entry)

      module _ (q : span_ends_inside r.start r.end r.text_at end ≡ false) where
        after : whole ≡ before c.done (before x (unless (holds_end r.start r.end end) rest))
        after = split ∙ ap (λ (b : Bool). before c.done (step b (holds_end r.start r.end end) x rest)) q

        room_all : Room w d₀ 0 (length (c.done ++ x))
        room_all = record {
          fits = λ y. let z = fits_whole w whole d₀ c.done x (unless (holds_end r.start r.end end) rest) fit after y in omega arith;
          small = omega (arith, c.small, size, slice_le source wi begin end (chunk_of p s (entry_of r)), c.emitted.next_is, length-append c.done x);
        }

        pub slicing_requires : EntryIn p s (entry_of r) × SpanIn source (entry_of r) × Room w d o (length x)
        slicing_requires =
            let y = (ready source t p s f).shown (suc k) in (
              subst (EntryIn p s) (sym entry) y.entry,
              subst (SpanIn source) (sym entry) y.span,
              Rattle.report_slice_chunk.proofs.Emitting.emitted_room c.emitted x room_all,
            )

        module _ {d' : List ℕ} {o' : ℕ} (v : Emitted w d o x d' o') (m : length d' ≡ length d) where
          both : Emitted w d₀ 0 (c.done ++ x) d' o'
          both = emitted_then c.emitted v room_all

          pub slicing_next_small : o' < 2 ^ 32
          slicing_next_small = omega (arith, both.next_is, room_all.small)

          pub slicing_last : holds_end r.start r.end end ≡ true → Out w whole d₀ d' 0 o'
          slicing_last b =
              let y : whole ≡ text (c.done ++ x) =
              after ∙ ap (λ (z : Bool). before c.done (before x (unless z rest))) b ∙ ap (λ (z : Text). text (c.done ++ z)) (append-nil x) in
              text_out (c.done ++ x) d' o' y both

          pub slicing_more : holds_end r.start r.end end ≡ false → Slicing w source t p s end whole d₀ n (k + 1) r.next true 0 o' d'
          slicing_more b = record {
            count_is = c.count_is;
            below = omega arith;
            row_is = λ j. rw add-one (ap (λ (z : Row). z.next) e ∙ ap (next_of t) (c.row_is h) ∙ (row_edge t (suc k) l (omega (arith, c.count_is))).fwd);
            done = c.done ++ x;
            whole_is = rw add-one (after ∙ ap (λ (z : Bool). before c.done (before x (unless z rest))) b
                ∙ before_before c.done x rest ∙ ap (before (c.done ++ x)) (walk_rest source end (chunks_of p s (drop (suc k) (entries t)))));
            emitted = both;
            small = rw add-one (omega (arith, c.small, size, slice_le source wi begin end (chunk_of p s (entry_of r)), v.next_is));
            same = m ∙ c.same;
          }

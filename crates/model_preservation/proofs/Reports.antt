-- What the reports say of the output: its length, its last line, whether it is the source.
use native.Mathlib.Omega.{arith}
use mathlib.Core.Path.{◌≡◌, refl, sym, ap, ◌∙◌}
use mathlib.Core.Logic.{◌↔◌}
use mathlib.Core.Bool.{Bool, true, false, ◌||◌, not, cond, or-true, true≢false, false≢true}
use mathlib.Core.List.{List, [], ◌∷◌, ◌++◌, reverse, reverse-cons, reverse-reverse, append_assoc, append-nil, flatten}
use mathlib.Core.Option.{Option, none, some, map}
use lib.Dec.{eqb}
use lib.ListN.{length}
use borrow.Author.Tests.{eqb-true, eq-eqb}
use Rattle.utf8.specs.Chars.{concat}
use Rattle.utf8.proofs.CharLaws.{concat_append}
use Rattle.utf8.proofs.Sequences.{both}
use Rattle.model.specs.Text.{Text, LF, same, behind_last_line_feed}
use Rattle.model.specs.Chunk.{Chunk}
use Rattle.model.specs.Chunk as chunk
use Rattle.model.specs.MagicString.{MagicString, chunk_fragments, fragments, to_string, len, output_len, has_changed, Scan, scan_last_line, unless_done, scan_chunks, last_line}
use Rattle.model.proofs.Lists.{sum_append, concat_sum}
use Rattle.model_preservation.proofs.Lists.{of_option}
use Rattle.model_preservation.specs.Results.{last_line_of, LastLineIs}

-- ---- lengths

pub output_len_is : (m : MagicString) → output_len m ≡ length (to_string m)
unfolding output_len len to_string
output_len_is m =
    let cs : List Text = chunk_fragments m.source m.chunks in
    omega (arith, concat_sum (fragments m), sum_append length m.intro (cs ++ m.outro), sum_append length cs m.outro)

-- ---- `has_changed`

pub same_refl : (s : Text) → same s s ≡ true
same_refl [] = refl
same_refl (a ∷ s) = rw (eq-eqb a a refl, same_refl s)

pub same_true : (s t : Text) → same s t ≡ true → s ≡ t
same_true [] [] e = refl
same_true [] (b ∷ t) e = absurd (false≢true e)
same_true (a ∷ s) [] e = absurd (false≢true e)
same_true (a ∷ s) (b ∷ t) e =
    let h = both (eqb a b) (same s t) e in
    let p = eqb-true a b h.0 in let q = same_true s t h.1 in cc

pub has_changed_is : (m : MagicString) → has_changed m ≡ not (same m.source (to_string m))
unfolding has_changed
has_changed_is m = go (same m.source (to_string m)) refl
  where
    go : (b : Bool) → same m.source (to_string m) ≡ b → (not (eqb (output_len m) (length m.source)) || not b) ≡ not b
    go true e = rw (eq-eqb (output_len m) (length m.source) (output_len_is m ∙ sym (ap length (same_true m.source (to_string m) e))))
    go false e = or-true (not (eqb (output_len m) (length m.source)))

pub unchanged_iff : (m : MagicString) → (has_changed m ≡ false) ↔ (m.source ≡ to_string m)
unchanged_iff m = (
  λ h. same_true m.source (to_string m) (borrow.Author.Tests.not-false _ (sym (has_changed_is m) ∙ h)),
  λ e. has_changed_is m ∙ ap not (ap (same m.source) (sym e) ∙ same_refl m.source),
)

pub changed_iff : (m : MagicString) → (has_changed m ≡ true) ↔ (m.source ≡ to_string m → ⊥)
changed_iff m = (λ h e. true≢false (sym h ∙ (unchanged_iff m).1 e), λ h. go (has_changed m) refl h)
  where
    go : (b : Bool) → has_changed m ≡ b → (m.source ≡ to_string m → ⊥) → has_changed m ≡ true
    go true e h = e
    go false e h = absurd (h ((unchanged_iff m).0 e))

-- ---- behind the last line feed

pub behind_back : (s t u : Text) → behind_last_line_feed t ≡ some u → behind_last_line_feed (s ++ t) ≡ some u
behind_back [] t u h = h
behind_back (a ∷ s) t u h = rw (behind_back s t u h)

-- the text at a byte more, from what stands behind the last line feed of the rest
behind_step : (b : Bool) (s : Text) → Option Text → Option Text
behind_step b s o = elim o [ none ↦ cond b (some s) none | some t ↦ some t ]

step_front : (b : Bool) (s t : Text) (o : Option Text) → behind_step b (s ++ t) (map (λ u. u ++ t) o) ≡ map (λ u. u ++ t) (behind_step b s o)
unfolding behind_step
step_front true s t none = refl
step_front false s t none = refl
step_front b s t (some u) = refl

behind_front : (s t : Text) → behind_last_line_feed t ≡ none → behind_last_line_feed (s ++ t) ≡ map (λ u. u ++ t) (behind_last_line_feed s)
unfolding behind_step
behind_front [] t h = h
behind_front (a ∷ s) t h = ap (behind_step (eqb a LF) (s ++ t)) (behind_front s t h) ∙ step_front (eqb a LF) s t (behind_last_line_feed s)

-- ---- `last_line`

-- what a scan of a text, last byte to first, has gathered
scanned : Text → Option Text → Scan
scanned s none = record { done = false; line = s }
scanned s (some t) = record { done = true; line = t }

scan_of : Text → Scan
scan_of s = scanned s (behind_last_line_feed s)

scan_none : (s : Text) → behind_last_line_feed s ≡ none → scan_of s ≡ record { done = false; line = s }
unfolding scan_of scanned
scan_none s e = ap (scanned s) e

scan_some : (s t : Text) → behind_last_line_feed s ≡ some t → scan_of s ≡ record { done = true; line = t }
unfolding scan_of scanned
scan_some s t e = ap (scanned s) e

scan_line : (s : Text) → (scan_of s).line ≡ last_line_of s
unfolding scan_of scanned last_line_of
scan_line s = go (behind_last_line_feed s)
  where
    go : (o : Option Text) → (scanned s o).line ≡ elim o as (λ _. Text) [ none ↦ s | some t ↦ t ]
    go none = refl
    go (some t) = refl

-- text in front is looked at only where no line feed was met
scan_then : (s t : Text) (f : Text → Scan) → (behind_last_line_feed s ≡ none → f s ≡ scan_of (t ++ s)) → unless_done (scan_of s) f ≡ scan_of (t ++ s)
scan_then s t f h = go (behind_last_line_feed s) refl
  where
    go : (o : Option Text) → behind_last_line_feed s ≡ o → unless_done (scan_of s) f ≡ scan_of (t ++ s)
    go none e = ap (λ (r : Scan). unless_done r f) (scan_none s e) ∙ h e
    go (some u) e = ap (λ (r : Scan). unless_done r f) (scan_some s u e) ∙ sym (scan_some (t ++ s) u (behind_back t s u e))

-- fragments in reverse output order
concat_last : (l : List Text) (f line : Text) → concat (l ++ (f ∷ [])) ++ line ≡ concat l ++ (f ++ line)
unfolding flatten
concat_last l f line = ap (λ (r : Text). r ++ line) (concat_append l (f ∷ []) ∙ ap (λ (r : Text). concat l ++ r) (append-nil f)) ∙ append_assoc (concat l) f line

scan_last_line_is : (fs : List Text) (line : Text) → behind_last_line_feed line ≡ none → scan_last_line fs line ≡ scan_of (concat (reverse fs) ++ line)
unfolding flatten
scan_last_line_is [] line h = sym (scan_none line h)
scan_last_line_is (f ∷ fs) line h =
    of_option (λ (r : Scan). r ≡ scan_of (concat (reverse (f ∷ fs)) ++ line)) (behind_last_line_feed f)
    (λ e. scan_last_line_is fs (f ++ line) (behind_front f line h ∙ ap (map (λ (u : Text). u ++ line)) e) ∙ ap scan_of (sym back))
    (λ t e. sym (scan_some (concat (reverse fs) ++ (f ++ line)) (t ++ line)
    (behind_back (concat (reverse fs)) (f ++ line) (t ++ line) (behind_front f line h ∙ ap (map (λ (u : Text). u ++ line)) e))) ∙ ap scan_of (sym back))
  where
    back : concat (reverse (f ∷ fs)) ++ line ≡ concat (reverse fs) ++ (f ++ line)
    back = ap (λ (l : List Text). concat l ++ line) (reverse-cons f fs) ∙ concat_last (reverse fs) f line

scan_pieces : (l : List Text) (line : Text) → behind_last_line_feed line ≡ none → scan_last_line (reverse l) line ≡ scan_of (concat l ++ line)
scan_pieces l line h = scan_last_line_is (reverse l) line h ∙ ap (λ (r : List Text). scan_of (concat r ++ line)) (reverse-reverse l)

-- chunks, last to first
module _ (source : Text) where
  fragments_append : (cs ds : List Chunk) → chunk_fragments source (cs ++ ds) ≡ chunk_fragments source cs ++ chunk_fragments source ds
  fragments_append [] ds = refl
  fragments_append (c ∷ cs) ds =
      ap (λ (l : List Text). chunk.fragments source c ++ l) (fragments_append cs ds) ∙ sym (append_assoc (chunk.fragments source c) (chunk_fragments source cs) (chunk_fragments source ds))

  concat_chunk : (cs : List Chunk) (c : Chunk) (line : Text)
      → concat (chunk_fragments source (reverse (c ∷ cs))) ++ line ≡ concat (chunk_fragments source (reverse cs)) ++ (concat (chunk.fragments source c) ++ line)
  concat_chunk cs c line =
      let a : List Text = chunk_fragments source (reverse cs) in
      let b : List Text = chunk.fragments source c in
      ap (λ (l : Text). l ++ line)
      (ap (λ (l : List Chunk). concat (chunk_fragments source l)) (reverse-cons c cs) ∙ ap concat (fragments_append (reverse cs) (c ∷ []) ∙ ap (λ (l : List Text). a ++ l) (append-nil b))
      ∙ concat_append a b) ∙ append_assoc (concat a) (concat b) line

  scan_chunks_is : (cs : List Chunk) (line : Text) → behind_last_line_feed line ≡ none → scan_chunks source cs line ≡ scan_of (concat (chunk_fragments source (reverse cs)) ++ line)
  unfolding flatten
  scan_chunks_is [] line h = sym (scan_none line h)
  scan_chunks_is (c ∷ cs) line h =
      let s : Text = concat (chunk.fragments source c) ++ line in
      ap (λ (r : Scan). unless_done r (scan_chunks source cs)) (scan_pieces (chunk.fragments source c) line h)
      ∙ scan_then s (concat (chunk_fragments source (reverse cs))) (scan_chunks source cs) (λ e. scan_chunks_is cs s e) ∙ ap scan_of (sym (concat_chunk cs c line))

-- the last line of the output
pub last_line_is : LastLineIs
unfolding last_line to_string
last_line_is m =
    let cs : List Text = chunk_fragments m.source m.chunks in
    let tail : Text = concat m.outro in
    let body : Text = concat cs in
    let first : scan_last_line (reverse m.outro) [] ≡ scan_of tail = scan_pieces m.outro [] refl ∙ ap scan_of (append-nil tail) in
    let second : unless_done (scan_of tail) (scan_chunks m.source (reverse m.chunks)) ≡ scan_of (body ++ tail) =
    scan_then tail body (scan_chunks m.source (reverse m.chunks))
    (λ e. scan_chunks_is m.source (reverse m.chunks) tail e ∙ ap (λ (l : List Chunk). scan_of (concat (chunk_fragments m.source l) ++ tail)) (reverse-reverse m.chunks))
    in
    let third : unless_done (scan_of (body ++ tail)) (scan_last_line (reverse m.intro)) ≡ scan_of (concat m.intro ++ (body ++ tail)) =
    scan_then (body ++ tail) (concat m.intro) (scan_last_line (reverse m.intro)) (λ e. scan_pieces m.intro (body ++ tail) e)
    in
    let output : concat (fragments m) ≡ concat m.intro ++ (body ++ tail) =
    concat_append m.intro (cs ++ m.outro) ∙ ap (λ (l : Text). concat m.intro ++ l) (concat_append cs m.outro)
    in
    ap (λ (r : Scan). (unless_done (unless_done r (scan_chunks m.source (reverse m.chunks))) (scan_last_line (reverse m.intro))).line) first
    ∙ ap (λ (r : Scan). (unless_done r (scan_last_line (reverse m.intro))).line) second
    ∙ ap (λ (r : Scan). r.line) third ∙ scan_line (concat m.intro ++ (body ++ tail)) ∙ ap last_line_of (sym output)

-- Laws of what `Row` in specs/ defines.
use mathlib.Core.Path.{◌≡◌, refl, sym, ap, ap₂, ◌∙◌, subst}
use mathlib.Core.Bool.{Bool, true, false, ◌&&◌, cond}
use mathlib.Core.List.{List, [], ◌∷◌, append-nil}
use mathlib.Core.Option.{Option, some}
use Prim.Native.Nat.{ℕ, zero, suc, ◌+◌, ◌*◌, ◌-◌, ◌≤◌, ◌<◌}
use native.Mathlib.Omega.{arith}
use native.Mathlib.Decide.{ℕ_discrete}
use lib.Dec.{eqb}
use lib.ListN.{length, take, drop, length-drop}
use lib.Seq.{length-take-le}
use borrow.Author.Tests.{eq-eqb, ne_eqb}
use Rattle.memory_layout.specs.Layout.{TRIM_STORE_LEN, NONE}
use Rattle.utf8.specs.Rfc3629.{utf8}
use Rattle.memory_table.specs.declared.Row.{Row}
use Rattle.memory_table.specs.Order.{Entry, entry_of}
use Rattle.model.specs.Text.{Text, is_nil, all}
use Rattle.model.proofs.Lists.{and_left, and_right}
use Rattle.model.specs.Chunk.{Texts}
use Rattle.model.specs.WellFormed.{ValidTexts}
use Rattle.memory.specs.Layout.{Place, bytes_at, run_of, replacement_of, texts_of, chunk_of}
use Rattle.memory.specs.WellFormed.{ReplacementIn, EntryIn, among, replacement_uses}
use Rattle.memory_texts.specs.Over.{over}
use Rattle.memory_texts.proofs.Over.{length_over, take_over, over_part}
use Rattle.memory_texts.specs.Texts.{SpanIn}
use Rattle.memory_used.specs.Below.{Below}
use Rattle.trim_text.specs.Sides.{trim_text, blank, PlaceTrimmed}
use Rattle.trim_run.specs.Deque.{trim_deque}
use Rattle.trim_run.proofs.Deque.{all_nil_deque, deque_nil}
use Rattle.memory_texts.specs.Low.{RowsKept, TextLow, RunsLow, EntryLow}
use Rattle.memory_texts.proofs.Low.{rows_same, bytes_same, none_below, run_same, run_still}
use Rattle.trim_run.specs.Run.{RunReady, RowRoom, RunTrimmed}
use Rattle.memory.proofs.Desks.{no_run, none_text, some_text, among_none}
use Rattle.trim_chunk.specs.declared.Stop.TheVariants.{Content, Far}
use Rattle.trim_chunk.specs.Uses.{NoMore, RowApart}
use Rattle.trim_chunk.proofs.Uses.{no_more_none, no_more_same, no_more_trimmed, rows_above, among_most, text_before, text_within, text_empty, Fewer, row_apart}
use Rattle.trim_chunk.specs.Plain.{plain_of, Behind}
use Rattle.trim_chunk.proofs.Plain.{plain_width, spent_of}
use Rattle.trim_chunk.specs.Sides.{trim_chunk}
use Rattle.trim_chunk.proofs.Sides.{near, far, with_sides, near_left, content_left, content_blank}
use Rattle.trim_chunk.specs.Row.{near_of, far_of, with_side_places, Rewritten, content_of, cleared_text_place, clear_of, blank_row, RowReady, pieces_of, RowFits, ContentReady, PartIs}
use Rattle.trim_chunk.specs.Row.{ContentTrimmed, RowTrimmed, RowDone}

-- ---- sides

module _ (p s : List ℕ) (e : Entry) where
  near_run : (front : Bool) → near front (texts_of p s e) ≡ run_of p s (near_of front e)
  near_run true = refl
  near_run false = refl

  far_run : (front : Bool) → far front (texts_of p s e) ≡ run_of p s (far_of front e)
  far_run true = refl
  far_run false = refl

  near_low : (front : Bool) (top byte : ℕ) → EntryLow p top byte e → Below p byte top (near_of front e)
  near_low true top byte h = h.runs.intro
  near_low false top byte h = h.runs.outro

  far_low : (front : Bool) (top byte : ℕ) → EntryLow p top byte e → Below p byte top (far_of front e)
  far_low true top byte h = h.runs.outro
  far_low false top byte h = h.runs.intro

  sides_low : (front : Bool) (top byte : ℕ) (n f x : Place) → Below p byte top n → Below p byte top f → RunsLow p top byte (with_side_places front e n f x)
  sides_low true top byte n f x a b = record { intro = a; outro = b }
  sides_low false top byte n f x a b = record { intro = b; outro = a }

  pub near_ready : (front : Bool) → EntryIn p s e → ValidTexts (texts_of p s e) → RunReady p s (near_of front e)
  near_ready true h v = record { inside = h.runs.intro; valid = v.intro }
  near_ready false h v = record { inside = h.runs.outro; valid = v.outro }

  far_ready : (front : Bool) → EntryIn p s e → ValidTexts (texts_of p s e) → RunReady p s (far_of front e)
  far_ready true h v = record { inside = h.runs.outro; valid = v.outro }
  far_ready false h v = record { inside = h.runs.intro; valid = v.intro }

few_near : (front : Bool) (e : Entry) → (near_of front e).1 ≤ pieces_of e
few_near true e = omega arith
few_near false e = omega arith

few_far : (front : Bool) (e : Entry) → (far_of front e).1 ≤ pieces_of e
few_far true e = omega arith
few_far false e = omega arith

-- a row with other sides, of which one stands above at most
sides_apart : (front : Bool) (p p' : List ℕ) (top byte : ℕ) (e : Entry) (n f x : Place) → RunsLow p top byte e → NoMore p p' top n (near_of front e) → NoMore p p' top f (far_of front e)
    → ((j : ℕ) → top ≤ j → among n j + among f j ≤ 1) → ((b : ℕ) → b < byte → replacement_uses b x ≤ replacement_uses b e.text) → RowApart p p' top byte e (with_side_places front e n f x)
sides_apart true p p' top byte e n f x h i o a t = row_apart p top byte e h p' (with_side_places true e n f x) i o a t
sides_apart false p p' top byte e n f x h i o a t = row_apart p top byte e h p' (with_side_places false e n f x) o i (λ j l. omega (arith, a j l)) t

-- a row with other sides and a replacement where it had one
sides_spent : (front : Bool) (e : Entry) (byte : ℕ) (n f x : Place) → (x.0 ≡ NONE → e.text.0 ≡ NONE) → TextLow (byte + plain_of e) x
    → (b : ℕ) → Behind byte (with_side_places front e n f x).text b → b + plain_of (with_side_places front e n f x) ≤ byte + plain_of e
sides_spent true e byte n f x = spent_of e (with_side_places true e n f x) byte refl
sides_spent false e byte n f x = spent_of e (with_side_places false e n f x) byte refl

-- a run that is not blank has a piece, so its rows end below
run_room : (pattern : ℕ) (p s : List ℕ) (top byte : ℕ) (r : Place) → Below p byte top r → all (blank pattern) (run_of p s r) ≡ false → (top + r.1) * 2 ≤ length p
    → length p ≤ 4294967296 → length s ≤ TRIM_STORE_LEN → RowRoom p s r.0 r.1 top
run_room pattern p s top byte r h b a n m = go r.1 refl
  where
    go : (k : ℕ) → r.1 ≡ k → RowRoom p s r.0 r.1 top
    go zero e = let z : ◌≡◌ {A = ℕ} 0 1 = cc (ap (λ (x : ℕ). all (blank pattern) (run_of p s (r.0, x))) e ∙ ap (all (blank pattern)) (no_run p s r.0)) in absurd (omega arith)
    go (suc k) e = record { below = omega (arith, (h k (omega arith)).0); room = omega arith; narrow = n; narrow_store = omega arith }

-- the chunk of a row with other sides
sides_are : (front : Bool) (pattern : ℕ) (source p s p' s' : List ℕ) (e : Entry) (n f x : Place) {N F : List Text} {E : Option Text} {k : Bool}
    → trim_chunk front pattern source (chunk_of p s e) ≡ with_sides front (chunk_of p s e) N F E k → run_of p' s' n ≡ N → run_of p' s' f ≡ F → replacement_of s' x ≡ E
    → trim_chunk front pattern source (chunk_of p s e) ≡ record { goes_on = k; chunk = chunk_of p' s' (with_side_places front e n f x) }
sides_are true pattern source p s p' s' e n f x h a b d = h ∙ rw (a, b, d)
sides_are false pattern source p s p' s' e n f x h a b d = h ∙ rw (a, b, d)

-- ---- the content of a chunk, and the replacement of one whose content is blank

plain_content : (source s : List ℕ) (e : Entry) → e.text.0 ≡ NONE → content_of source s e ≡ take (e.end - e.start) (drop e.start source)
unfolding replacement_of
plain_content source s e h = rw (eq-eqb e.text.0 NONE h)

replaced_content : (source s : List ℕ) (e : Entry) → (e.text.0 ≡ NONE → ⊥) → content_of source s e ≡ bytes_at s e.text
unfolding replacement_of
replaced_content source s e h = rw (ne_eqb e.text.0 NONE h)

content_length : (source s : List ℕ) (e : Entry) → SpanIn source e → ReplacementIn s e.text
    → length (content_of source s e) ≡ cond (eqb e.text.0 NONE) (e.end - e.start) e.text.1
unfolding ReplacementIn
content_length source s e h i =
    elim (ℕ_discrete e.text.0 NONE) [
      | yes q ↦ rw (eq-eqb e.text.0 NONE q) (ap length (plain_content source s e q) ∙ length-take-le (e.end - e.start) (drop e.start source)
          (simp length-drop (omega (arith, h.inside, h.ordered))))
      | no q ↦ rw (ne_eqb e.text.0 NONE q) (ap length (replaced_content source s e q) ∙ length-take-le e.text.1 (drop e.text.0 s) (simp length-drop (omega (arith, i q))))
    ]

nil_length : (l : Text) → is_nil l ≡ eqb (length l) 0
nil_length [] = refl
nil_length (x ∷ l) = sym (ne_eqb (length (x ∷ l)) 0 (λ q. omega arith))

no_text : (s : List ℕ) → replacement_of s (0, 0) ≡ some []
unfolding replacement_of
no_text s = refl

cleared_text : (source s : List ℕ) (e : Entry) → SpanIn source e → ReplacementIn s e.text
    → replacement_of s (cleared_text_place e) ≡ cond (is_nil (content_of source s e)) (replacement_of s e.text) (some [])
cleared_text source s e h i = rw (nil_length (content_of source s e), content_length source s e h i) (go (eqb (cond (eqb e.text.0 NONE) (e.end - e.start) e.text.1) 0))
  where
    go : (b : Bool) → replacement_of s (cond b e.text (0, 0)) ≡ cond b (replacement_of s e.text) (some [])
    go true = refl
    go false = no_text s

cleared_plain : (e : Entry) → (cleared_text_place e).0 ≡ NONE → e.text.0 ≡ NONE
cleared_plain e = go (eqb (cond (eqb e.text.0 NONE) (e.end - e.start) e.text.1) 0)
  where
    go : (b : Bool) → (cond {A = Place} b e.text (0, 0)).0 ≡ NONE → e.text.0 ≡ NONE
    go true n = n
    go false n = absurd (omega arith)

-- a cleared row shows no more source
pub clear_spent : (e : Entry) → plain_of (clear_of e) ≤ plain_of e
clear_spent e = go (eqb (cond (eqb e.text.0 NONE) (e.end - e.start) e.text.1) 0)
  where
    go : (b : Bool) → plain_of (with_side_places true e (0, 0) (0, 0) (cond b e.text (0, 0))) ≤ plain_of e
    go true = omega arith
    go false = omega arith

cleared_uses : (e : Entry) (b : ℕ) → replacement_uses b (cleared_text_place e) ≤ replacement_uses b e.text
cleared_uses e b = go (eqb (cond (eqb e.text.0 NONE) (e.end - e.start) e.text.1) 0)
  where
    go : (c : Bool) → replacement_uses b (cond c e.text (0, 0)) ≤ replacement_uses b e.text
    go true = omega arith
    go false = omega (arith, text_empty b 0)

-- and uses no more
pub clear_fewer : (p p' : List ℕ) (e : Entry) → Fewer p p' e (clear_of e)
clear_fewer p p' e =
    record {
      rows = λ j. omega (arith, among_none 0 j);
      bytes = λ b. omega (arith, (no_more_none p p' 0 (0, 0) e.intro refl).bytes b, (no_more_none p p' 0 (0, 0) e.outro refl).bytes b, cleared_uses e b);
    }

cleared_low : (e : Entry) (byte byte' : ℕ) → byte ≤ byte' → TextLow byte e.text → TextLow byte' (cleared_text_place e)
cleared_low e byte byte' h i = go (eqb (cond (eqb e.text.0 NONE) (e.end - e.start) e.text.1) 0)
  where
    go : (b : Bool) → TextLow byte' (cond b e.text (0, 0))
    go true n = omega (arith, i n)
    go false n = omega arith

-- ---- a content that is trimmed in part

module _ (front : Bool) (pattern : ℕ) (source s : List ℕ) (e : Entry) (byte : ℕ) (r : ContentReady source s e byte) where
  abbrev t : Text
  t = trim_text front pattern (content_of source s e)

  pub replaced_asks : (e.text.0 ≡ NONE → ⊥) → (e.text.0 + e.text.1 ≤ length s) × (utf8 (take e.text.1 (drop e.text.0 s)) ≡ true)
  unfolding ReplacementIn
  replaced_asks n = (r.replacement n, rw (replaced_content source s e n) at r.valid)

  pub plain_asks : e.text.0 ≡ NONE → (e.start + (e.end - e.start) ≤ length source) × (utf8 (take (e.end - e.start) (drop e.start source)) ≡ true)
  plain_asks n = (omega (arith, r.span.inside, r.span.ordered), rw (plain_content source s e n) at r.valid)

  pub content_shorter : (e.text.0 ≡ NONE → ⊥) → (a k : ℕ) → PlaceTrimmed front pattern s e.text.0 e.text.1 a k → ContentTrimmed front pattern source s e byte s (a, k)
  content_shorter n a k w =
      let i : e.text.0 + e.text.1 ≤ length s = (replaced_asks n).0 in
      let c : content_of source s e ≡ bytes_at s e.text = replaced_content source s e n in
      let d : take k (drop a s) ≡ t = w.text ∙ ap (trim_text front pattern) (sym c) in
      let l : length t ≡ k = sym (ap length d) ∙ length-take-le k (drop a s) (simp length-drop (omega (arith, w.last))) in
      let m : length (content_of source s e) ≡ e.text.1 = ap length c ∙ length-take-le e.text.1 (drop e.text.0 s) (simp length-drop (omega arith)) in
      record {
        kept = bytes_same byte s;
        text =
            some_text s (a, k) (λ q. omega (arith, w.last, r.small)) ∙ ap some d
            ∙ sym (elim (ℕ_discrete (length t) (length (content_of source s e))) [
              | yes q ↦
                  let y : e.text.1 ≡ k = omega arith in
                  let z : e.text.0 ≡ a = omega (arith, w.first, w.last) in
                  rw (eq-eqb (length t) (length (content_of source s e)) q) (some_text s e.text n ∙ ap some (ap₂ (λ (u v : ℕ). take u (drop v s)) y z ∙ d))
              | no q ↦ rw (ne_eqb (length t) (length (content_of source s e)) q)
            ]);
        low = λ h z. omega (arith, h n, w.last);
        plain = λ q. absurd (omega (arith, w.last, r.small));
        uses = λ b h. text_within b (a, k) e.text n (record { first = w.first; last = w.last });
      }

  module _ (n : e.text.0 ≡ NONE) (a k : ℕ) (w : PlaceTrimmed front pattern source e.start (e.end - e.start) a k) where
    c : content_of source s e ≡ take (e.end - e.start) (drop e.start source)
    c = plain_content source s e n

    d : take k (drop a source) ≡ t
    d = w.text ∙ ap (trim_text front pattern) (sym c)

    inside : a + k ≤ length source
    inside = omega (arith, w.last, r.span.inside, r.span.ordered)

    width : plain_of e ≡ e.end - e.start
    width = plain_width e n

    size : length (take k (drop a source)) ≡ k
    size = length-take-le k (drop a source) (simp length-drop (omega (arith, inside)))

    full : length (content_of source s e) ≡ e.end - e.start
    full = ap length c ∙ length-take-le (e.end - e.start) (drop e.start source) (simp length-drop (omega (arith, r.span.inside)))

    pub content_same : k ≡ e.end - e.start → ContentTrimmed front pattern source s e byte s (NONE, 0)
    content_same q =
        record {
          kept = bytes_same byte s;
          text = none_text s (NONE, 0) refl ∙ rw (eq-eqb (length t) (length (content_of source s e)) (sym (ap length d) ∙ size ∙ q ∙ sym full)) (sym (none_text s e.text n));
          low = λ h z. absurd (z refl);
          plain = λ _. n;
          uses = λ b h. omega (arith, text_empty b NONE);
        }

    pub content_copied : (k ≡ e.end - e.start → ⊥) → (s' : List ℕ) → s' ≡ over s byte (take k (drop a source)) → ContentTrimmed front pattern source s e byte s' (byte, k)
    content_copied q s' o =
        let T : Text = take k (drop a source) in
        let z : byte + 0 ≡ byte = omega arith in
        let b : take k (drop byte s') ≡ T =
        rw (o) (ap (λ (u : ℕ). take u (drop byte (over s byte T))) (sym size) ∙ rw (z, append-nil T) at (over_part s byte [] T [] (omega (arith, r.bytes)))) in
        record {
          kept = record { len = ap length o ∙ length_over s byte T (omega (arith, size, width, w.first, w.last, r.bytes)); bytes = ap (take byte) o ∙ take_over s byte T (omega (arith, r.bytes)) };
          text =
              some_text s' (byte, k) (λ y. omega (arith, r.bytes, r.small)) ∙ ap some (b ∙ d)
              ∙ sym (rw (ne_eqb (length t) (length (content_of source s e)) (λ y. q (sym size ∙ ap length d ∙ y ∙ full))));
          low = λ h y. omega (arith, width, w.first, w.last);
          plain = λ _. n;
          uses = λ b h. omega (arith, text_before b (byte, k) h);
        }

-- ---- the three ways in which a chunk stops a trim

module _ (front : Bool) (pattern : ℕ) (source p s : List ℕ) (e : Entry) (top byte : ℕ) (r : RowReady source p s e) (h : RowFits p s top byte e) where
  pub near_asks : all (blank pattern) (run_of p s (near_of front e)) ≡ false → RunReady p s (near_of front e) × RowRoom p s (near_of front e).0 (near_of front e).1 top
  near_asks b = (
    near_ready p s e front r.entry r.texts,
    run_room pattern p s top byte (near_of front e) (near_low p s e front top byte h.low) b (omega (arith, few_near front e, h.rows)) h.narrow h.small,
  )

  pub far_asks : all (blank pattern) (run_of p s (far_of front e)) ≡ false → RunReady p s (far_of front e) × RowRoom p s (far_of front e).0 (far_of front e).1 top
  far_asks b = (
    far_ready p s e front r.entry r.texts,
    run_room pattern p s top byte (far_of front e) (far_low p s e front top byte h.low) b (omega (arith, few_far front e, h.rows)) h.narrow h.small,
  )

  pub content_asks : ContentReady source s e byte
  content_asks = record { span = r.span; replacement = r.entry.replacement; valid = r.content_valid; bytes = h.bytes; small = h.small }

  below_run : (q' : List ℕ) (n : ℕ) (q : Place) → n ≤ pieces_of e → Below q' byte (top + n) q → Below q' byte (top + pieces_of e) q
  below_run q' n q m b k g = (omega (arith, (b k g).0), (b k g).1)

  far_above : (j : ℕ) → top ≤ j → among (far_of front e) j ≡ 0
  far_above = rows_above p top byte (far_of front e) (far_low p s e front top byte h.low)

  far_same : (p' : List ℕ) → RowsKept top p p' → NoMore p p' top (far_of front e) (far_of front e)
  far_same p' k = no_more_same p p' top byte (far_of front e) k (far_low p s e front top byte h.low)

  far_still : (p' : List ℕ) → RowsKept top p p' → Below p' byte (top + pieces_of e) (far_of front e)
  far_still p' k = run_still top byte p p' k (top + pieces_of e) byte (omega arith) (omega arith) (far_of front e) (far_low p s e front top byte h.low)

  sides_text : (f : Bool) (n q x : Place) → TextLow (byte + plain_of e) x → TextLow (byte + plain_of e) (with_side_places f e n q x).text
  sides_text true n q x t = t
  sides_text false n q x t = t

  pub stopped_near : all (blank pattern) (run_of p s (near_of front e)) ≡ false → (p' : List ℕ) (q : Place) → RunTrimmed front pattern p s (near_of front e).0 (near_of front e).1 top p' q
      → RowTrimmed front pattern source p s e top byte p' s (with_side_places front e q (far_of front e) e.text)
  stopped_near b p' q d =
      let c = chunk_of p s e in
      let k = near_left pattern source c front (ap (all (blank pattern)) (near_run p s e front) ∙ b) in
      record {
        rows = d.kept;
        bytes = bytes_same byte s;
        chunk =
            sides_are front pattern source p s p' s e q (far_of front e) e.text k (d.text ∙ ap (trim_deque front pattern) (sym (near_run p s e front)))
            (run_same top byte p s p' s d.kept (bytes_same byte s) (far_of front e) (far_low p s e front top byte h.low) ∙ sym (far_run p s e front)) refl;
        runs =
            sides_low p' s e front (top + pieces_of e) byte q (far_of front e) e.text (below_run p' (near_of front e).1 q (few_near front e) (d.low byte (near_low p s e front top byte h.low)))
            (far_still p' d.kept);
        text = sides_text front q (far_of front e) e.text (λ z. omega (arith, h.low.text z));
        spent = sides_spent front e byte q (far_of front e) e.text (λ z. z) (λ z. omega (arith, h.low.text z));
        apart =
            sides_apart front p p' top byte e q (far_of front e) e.text h.low.runs (no_more_trimmed p p' top front pattern s (near_of front e) q d) (far_same p' d.kept)
            (λ j l. omega (arith, among_most q j, far_above j l)) (λ b l. omega arith);
      }

  pub stopped_content : PartIs front pattern source p s e Content → (s' : List ℕ) (x : Place)
      → ContentTrimmed front pattern source s e byte s' x → RowTrimmed front pattern source p s e top byte p s' (with_side_places front e (0, 0) (far_of front e) x)
  stopped_content (b, g) s' x d =
      let c = chunk_of p s e in
      let k = content_left pattern source c front (ap (all (blank pattern)) (near_run p s e front) ∙ b) g in
      record {
        rows = rows_same top p;
        bytes = d.kept;
        chunk =
            sides_are front pattern source p s p s' e (0, 0) (far_of front e) x k (no_run p s' 0)
            (run_same top byte p s p s' (rows_same top p) d.kept (far_of front e) (far_low p s e front top byte h.low) ∙ sym (far_run p s e front)) d.text;
        runs = sides_low p s' e front (top + pieces_of e) byte (0, 0) (far_of front e) x (none_below p byte (top + pieces_of e) 0) (far_still p (rows_same top p));
        text = sides_text front (0, 0) (far_of front e) x (d.low h.low.text);
        spent = sides_spent front e byte (0, 0) (far_of front e) x d.plain (d.low h.low.text);
        apart =
            sides_apart front p p top byte e (0, 0) (far_of front e) x h.low.runs (no_more_none p p top (0, 0) (near_of front e) refl) (far_same p (rows_same top p))
            (λ j l. omega (arith, among_none 0 j, far_above j l)) d.uses;
      }

  pub stopped_far : PartIs front pattern source p s e Far → all (blank pattern) (run_of p s (far_of front e)) ≡ false
      → (p' : List ℕ) (q : Place) → RunTrimmed front pattern p s (far_of front e).0 (far_of front e).1 top p' q
      → RowTrimmed front pattern source p s e top byte p' s (with_side_places front e (0, 0) q (cleared_text_place e))
  stopped_far (b, g) f p' q d =
      let c = chunk_of p s e in
      let k = content_blank pattern source c front (ap (all (blank pattern)) (near_run p s e front) ∙ b) g in
      let z : is_nil (trim_deque front pattern (far front c.texts)) ≡ false = deque_nil front pattern (far front c.texts) ∙ ap (all (blank pattern)) (far_run p s e front) ∙ f in
      record {
        rows = d.kept;
        bytes = bytes_same byte s;
        chunk =
            sides_are front pattern source p s p' s e (0, 0) q (cleared_text_place e) (k ∙ rw z) (no_run p' s 0) (d.text ∙ ap (trim_deque front pattern) (sym (far_run p s e front)))
            (cleared_text source s e r.span r.entry.replacement);
        runs =
            sides_low p' s e front (top + pieces_of e) byte (0, 0) q (cleared_text_place e) (none_below p' byte (top + pieces_of e) 0)
            (below_run p' (far_of front e).1 q (few_far front e) (d.low byte (far_low p s e front top byte h.low)));
        text = sides_text front (0, 0) q (cleared_text_place e) (cleared_low e byte (byte + plain_of e) (omega arith) h.low.text);
        spent = sides_spent front e byte (0, 0) q (cleared_text_place e) (cleared_plain e) (cleared_low e byte (byte + plain_of e) (omega arith) h.low.text);
        apart =
            sides_apart front p p' top byte e (0, 0) q (cleared_text_place e) h.low.runs (no_more_none p p' top (0, 0) (near_of front e) refl)
            (no_more_trimmed p p' top front pattern s (far_of front e) q d)
            (λ j l. omega (arith, among_none 0 j, among_most q j)) (λ b l. cleared_uses e b);
      }

  -- a chunk that is not blank, but for its far side
  pub far_stays : PartIs front pattern source p s e Far → blank_row pattern source p s e ≡ false → all (blank pattern) (run_of p s (far_of front e)) ≡ false
  unfolding blank_row
  far_stays w b = other front w.0 w.1 b
    where
      other : (f : Bool) → all (blank pattern) (run_of p s (near_of f e)) ≡ true → blank pattern (content_of source s e) ≡ true
          → (all (blank pattern) (run_of p s e.intro) && (blank pattern (content_of source s e) && all (blank pattern) (run_of p s e.outro))) ≡ false
          → all (blank pattern) (run_of p s (far_of f e)) ≡ false
      other true a d x = rw (a, d) at x
      other false a d x = last _ (rw (a, d) at x)
        where
          last : (i : Bool) → (i && true) ≡ false → i ≡ false
          last true q = q
          last false q = refl

-- a blank chunk is cleared, and the trim goes on
pub row_blank : (front : Bool) (pattern : ℕ) (source p s : List ℕ) (e : Entry) → RowReady source p s e → blank_row pattern source p s e ≡ true
    → trim_chunk front pattern source (chunk_of p s e) ≡ record { goes_on = true; chunk = chunk_of p s (clear_of e) }
unfolding blank_row
row_blank front pattern source p s e r b =
    let c = chunk_of p s e in
    let I : Bool = all (blank pattern) (run_of p s e.intro) in
    let C : Bool = blank pattern (content_of source s e) in
    let O : Bool = all (blank pattern) (run_of p s e.outro) in
    let i = and_left I (C && O) b in
    let d = and_left C O (and_right I (C && O) b) in
    let o = and_right C O (and_right I (C && O) b) in
    let k = content_blank pattern source c front (either front near i o) d in
    let n : trim_deque front pattern (far front c.texts) ≡ [] = all_nil_deque front pattern (far front c.texts) (either front far o i) in
    k ∙ rw n (both front (cleared_text source s e r.span r.entry.replacement))
  where
    either : (f : Bool) (g : Bool → Texts → List Text) → all (blank pattern) (g true (texts_of p s e)) ≡ true → all (blank pattern) (g false (texts_of p s e)) ≡ true
        → all (blank pattern) (g f (texts_of p s e)) ≡ true
    either true g x y = x
    either false g x y = y

    both : (f : Bool) → replacement_of s (cleared_text_place e) ≡ cond (is_nil (content_of source s e)) (replacement_of s e.text) (some [])
        → with_sides f (chunk_of p s e) [] [] (cond (is_nil (content_of source s e)) (replacement_of s e.text) (some [])) true ≡ record { goes_on = true; chunk = chunk_of p s (clear_of e) }
    both true q = rw (q, no_run p s 0)
    both false q = rw (q, no_run p s 0)

-- ---- the row that is written

pub sides_start : (front : Bool) (e : Entry) (n f x : Place) → (with_side_places front e n f x).start ≡ e.start
sides_start true e n f x = refl
sides_start false e n f x = refl

pub row_done : (front : Bool) (pattern : ℕ) (source p s : List ℕ) (r : Row) (top byte : ℕ) (p' s' : List ℕ) (q : Row) (n f x : Place)
    → Rewritten r q (with_side_places front (entry_of r) n f x) → RowTrimmed front pattern source p s (entry_of r) top byte p' s' (with_side_places front (entry_of r) n f x)
    → RowDone front pattern source p s r top byte p' s' q
row_done front pattern source p s r top byte p' s' q n f x w d =
    record {
      trimmed = subst (RowTrimmed front pattern source p s (entry_of r) top byte p' s') (sym w.entry_is) d;
      start = ap (λ (e : Entry). e.start) w.entry_is ∙ sides_start front (entry_of r) n f x;
      next = w.next;
      prev = w.prev;
    }

-- a run by the place that was read
pub run_at : (front : Bool) (pattern : ℕ) (p s : List ℕ) (top : ℕ) (p' : List ℕ) (q : Place) {r r' : Place} → r ≡ r' → RunTrimmed front pattern p s r.0 r.1 top p' q
    → RunTrimmed front pattern p s r'.0 r'.1 top p' q
run_at front pattern p s top p' q e d = subst (λ (x : Place). RunTrimmed front pattern p s x.0 x.1 top p' q) e d

pub asks_at : (pattern : ℕ) (p s : List ℕ) (top : ℕ) {r r' : Place} → r ≡ r' → RunReady p s r' × RowRoom p s r'.0 r'.1 top → all (blank pattern) (run_of p s r') ≡ false
    → RunReady p s r × (RowRoom p s r.0 r.1 top × (all (blank pattern) (run_of p s r) ≡ false))
asks_at pattern p s top e d b = subst (λ (x : Place). RunReady p s x × (RowRoom p s x.0 x.1 top × (all (blank pattern) (run_of p s x) ≡ false))) (sym e) (d.0, (d.1, b))

-- a cleared row lies below
pub clear_low : (p : List ℕ) (top byte : ℕ) (e : Entry) → EntryLow p top byte e → EntryLow p top byte (clear_of e)
clear_low p top byte e h = record { runs = record { intro = none_below p byte top 0; outro = none_below p byte top 0 }; text = cleared_low e byte byte (omega arith) h.text }

-- Laws of what `Output` in specs/ defines.
use mathlib.Core.Path.{◌≡◌, refl, ap, sym, ◌∙◌, subst}
use mathlib.Core.Bool.{true}
use mathlib.Core.List.{List, [], ◌∷◌, ◌++◌, map, append_assoc, append-nil}
use mathlib.Core.Option.{Option, none, some}
use Prim.Native.Nat.{ℕ, zero, suc, ◌+◌, ◌*◌, ◌-◌, ◌≤◌}
use native.Mathlib.Omega.{arith}
use native.Mathlib.Nat.{mul-le-mul}
use lib.ListN.{length, take, drop, length-take, length-drop, take-append-drop}
use Rattle.utf8.specs.Chars.{All, nil, cons, concat}
use Rattle.utf8.proofs.CharLaws.{concat_append}
use Rattle.memory_table.specs.Order.{Entry, entry_at, entries, Linked}
use Rattle.model.specs.Text.{Text, sum, unwrap_or}
use Rattle.model.specs.Chunk.{Chunk, Span, content}
use Rattle.model.specs.Chunk as chunk
use Rattle.model.specs.MagicString.{MagicString, chunk_fragments, fragments, to_string}
use Rattle.model.specs.Limits.{full, within, chunk_bytes, replacement_bytes}
use Rattle.model.specs.WellFormed.{Covered, ProperSpan}
use Rattle.model.proofs.Lists.{all_map, map_kept, concat_sum, sum_append}
use Rattle.memory.specs.Layout.{run_of, chunk_of, magic_string_of, replacement_of}
use Rattle.memory.specs.WellFormed.{RunIn, ReplacementIn, WellFormed}
use Rattle.memory.proofs.Desks.{no_run, desk_full, within_keeps}
use Rattle.memory_texts.specs.Texts.{SpanIn}
use Rattle.memory_texts.proofs.Texts.{concat_cons, concat_nil, run_piece}
use Rattle.memory_fragments.specs.Sections.{head_of, tail_part_of, section, sections, fragments_of, fragments_all, Shown, Ready, rest}
use Rattle.memory_fragments.proofs.Sections.{sections_are, each_section}
use Rattle.memory_fragments.specs.Output.{most_output}

-- ---- fragments of several sections

pub all_append : (source p s : List ℕ) (xs ys : List Entry) → fragments_all source p s (xs ++ ys) ≡ fragments_all source p s xs ++ fragments_all source p s ys
all_append source p s [] ys = refl
all_append source p s (x ∷ xs) ys =
    ap (λ (l : List Text). fragments_of source p s x ++ l) (all_append source p s xs ys)
    ∙ sym (append_assoc (fragments_of source p s x) (fragments_all source p s xs) (fragments_all source p s ys))

-- the head shows its pieces and the empty text, the tail the empty text and its pieces
head_fragments : (source p s t : List ℕ) → fragments_of source p s (head_of t) ≡ run_of p s (entry_at t 0).intro ++ ([] ∷ [])
unfolding replacement_of
head_fragments source p s t = rw no_run

tail_fragments : (source p s t : List ℕ) → fragments_of source p s (tail_part_of t) ≡ [] ∷ run_of p s (entry_at t 0).outro
unfolding replacement_of
tail_fragments source p s t = rw no_run

-- all fragments, with the two empty ones
pub output_sections : (source t p s : List ℕ) → Linked t
    → fragments_all source p s (sections t)
    ≡ (run_of p s (entry_at t 0).intro ++ ([] ∷ [])) ++ (fragments_all source p s (entries t) ++ ([] ∷ run_of p s (entry_at t 0).outro))
output_sections source t p s l =
    ap (fragments_all source p s) (sections_are t l)
    ∙ ap (λ (x : List Text). fragments_of source p s (head_of t) ++ x) (all_append source p s (entries t) (tail_part_of t ∷ []))
    ∙ rw (head_fragments source p s t, append-nil (fragments_of source p s (tail_part_of t)), tail_fragments source p s t)

-- ---- a sum over the fragments: a count that the empty text does not change

pub sum_sections : (f : Text → ℕ) → f [] ≡ 0 → (source t p s : List ℕ) → Linked t
    → sum f (fragments_all source p s (sections t)) ≡ sum f (fragments (magic_string_of source t p s))
unfolding magic_string_of
sum_sections f z source t p s l =
    let m = fragments_all source p s (entries t) in
    let i = run_of p s (entry_at t 0).intro in
    let o = run_of p s (entry_at t 0).outro in
    ap (sum f) (output_sections source t p s l)
    ∙ omega (arith, z, sum_append f (i ++ ([] ∷ [])) (m ++ ([] ∷ o)), sum_append f i ([] ∷ []), sum_append f m ([] ∷ o), sum_append f i (m ++ o), sum_append f m o)

-- the text
pub concat_sections : (source t p s : List ℕ) → Linked t → concat (fragments_all source p s (sections t)) ≡ to_string (magic_string_of source t p s)
unfolding magic_string_of to_string
concat_sections source t p s l =
    let m = fragments_all source p s (entries t) in
    let i = run_of p s (entry_at t 0).intro in
    let o = run_of p s (entry_at t 0).outro in
    ap concat (output_sections source t p s l)
    ∙ simp (concat_append, concat_cons, concat_nil, append-nil)

pub sum_length : (ts : List Text) → sum length ts ≡ length (concat ts)
sum_length ts = sym (concat_sum ts)

-- ---- the output is short: each chunk shows at most the source and its own texts

content_le : (source : Text) (e : Option Text) (a b : ℕ) → length (unwrap_or e (take (b - a) (drop a source))) ≤ length source + replacement_bytes e
content_le source none a b = simp (length-take, length-drop) (omega arith)
content_le source (some t) a b = omega arith

chunks_le : (source : Text) (cs : List Chunk) → sum length (chunk_fragments source cs) ≤ length cs * length source + sum chunk_bytes cs
chunks_le source [] = omega arith
chunks_le source (c ∷ cs) =
    let e = sum_append length (chunk.fragments source c) (chunk_fragments source cs) in
    let f = sum_append length c.texts.intro (content source c ∷ c.texts.outro) in
    let k = content_le source c.texts.edited_content c.span.start c.span.end in
    let n : length (c ∷ cs) * length source ≡ length source + length cs * length source = suc_times (length cs) (length source) in
    omega (arith, chunks_le source cs)
  where
    suc_times : (a b : ℕ) → suc a * b ≡ b + a * b
    suc_times a b = native.Mathlib.Nat.suc-mul a b ∙ native.Mathlib.Nat.add_comm (a * b) b

pub output_short : (m : MagicString) → within full m ≡ true → sum length (fragments m) ≤ most_output
output_short m w =
    let k = within_keeps full m w in
    let chunks : length m.chunks * length m.source ≤ full.most_chunks * full.most_source = mul-le-mul k.chunks k.source in
    let middle = chunk_fragments m.source m.chunks in
    omega (arith, k.bytes, chunks, sum_append length m.intro (middle ++ m.outro), sum_append length middle m.outro, chunks_le m.source m.chunks)

-- ---- a well-formed desk is ready for every report

module _ {A : Type 0} where
  pub all_both : {P Q : A → Type 0} {xs : List A} → All P xs → All Q xs → All (λ x. P x × Q x) xs
  all_both nil nil = nil
  all_both (cons h k) (cons i j) = cons (h, i) (all_both k j)

Zero : Span → Type 0
Zero x = (x.start ≡ 0) × (x.end ≡ 0)

pub spans_in : (source p s : List ℕ) (es : List Entry) → Covered source (map (chunk_of p s) es) → All (SpanIn source) es
unfolding Zero
spans_in [] p s es h =
    let a : All Zero (map (λ (c : Chunk). c.span) (map (chunk_of p s) es)) = subst (All Zero) (sym h) (cons (refl, refl) nil) in
    let b = map_kept (chunk_of p s) {P = λ (c : Chunk). Zero c.span} es (map_kept (λ (c : Chunk). c.span) {P = Zero} (map (chunk_of p s) es) a) in
    all_map (λ e z. record { ordered = omega (arith, z.0); inside = omega (arith, z.1) }) b
spans_in (x ∷ source) p s es h =
    all_map (λ e z. record { ordered = omega (arith, z.proper); inside = z.inside }) (map_kept (chunk_of p s) {P = ProperSpan (x ∷ source)} es h.spans)

run_short : (p s : List ℕ) (at n : ℕ) → RunIn p s (at, n) → n * 2 ≤ length p
run_short p s at zero h = omega arith
run_short p s at (suc n) h = omega (arith, (run_piece p s at (suc n) n h (omega arith)).row)

none_in : (p s : List ℕ) → RunIn p s (0, 0)
unfolding RunIn
none_in p s k h = absurd (omega arith)

empty_in : (s : List ℕ) → ReplacementIn s (0, 0)
unfolding ReplacementIn
empty_in s h = omega arith

pub ready : (source t p s : List ℕ) → WellFormed source t p s → Ready source t p s
unfolding magic_string_of
ready source t p s w =
    let r = w.readable in
    let a : All (SpanIn source) (entries t) = spans_in source p s (entries t) w.desk.formed.covered in
    let z : SpanIn source (head_of t) = record { ordered = omega arith; inside = omega arith } in
    let y : SpanIn source (tail_part_of t) = record { ordered = omega arith; inside = omega arith } in
    let h : (g : ℕ) → Shown source p s (section t g) =
    each_section {P = Shown source p s} t r.linked
    (all_map (λ e x. record { entry = x.0; span = x.1 }) (all_both r.chunks a))
    (record { entry = record { runs = record { intro = r.desk.intro; outro = none_in p s }; replacement = empty_in s }; span = z })
    (record { entry = record { runs = record { intro = none_in p s; outro = r.desk.outro }; replacement = empty_in s }; span = y }) in
    record {
      linked = r.linked;
      narrow = (
        omega (arith, r.linked.room, w.sized.chunks),
        λ g.
            let x = run_short p s (section t g).intro.0 (section t g).intro.1 (h g).entry.runs.intro in
            let k = run_short p s (section t g).outro.0 (section t g).outro.1 (h g).entry.runs.outro in
            omega (arith, w.sized.pieces),
      );
      shown = h;
    }

-- the length of the output
pub output_bound : (source t p s : List ℕ) → WellFormed source t p s → sum length (fragments_all source p s (sections t)) ≤ most_output
output_bound source t p s w =
    rw (sum_sections length refl source t p s w.readable.linked) (output_short (magic_string_of source t p s) (desk_full w))

pub chunks_bound : (source t p s : List ℕ) → WellFormed source t p s → sum length (fragments_all source p s (entries t)) ≤ most_output
chunks_bound source t p s w =
    let F = fragments_all source p s in
    let h = fragments_of source p s (head_of t) in
    let z = tail_part_of t ∷ [] in
    let e : sum length (F (sections t)) ≡ sum length h + (sum length (F (entries t)) + sum length (F z)) =
    ap (λ (x : List Entry). sum length (F x)) (sections_are t w.readable.linked)
    ∙ sum_append length h (F (entries t ++ z))
    ∙ ap (λ (k : ℕ). sum length h + k) (ap (sum length) (all_append source p s (entries t) z) ∙ sum_append length (F (entries t)) (F z)) in
    omega (arith, output_bound source t p s w)

-- from any place on
sum_drop : (f : Text → ℕ) (i : ℕ) (ts : List Text) → sum f (drop i ts) ≤ sum f ts
sum_drop f zero ts = omega arith
sum_drop f (suc i) [] = omega arith
sum_drop f (suc i) (t ∷ ts) = omega (arith, sum_drop f i ts)

pub rest_short : (source t p s : List ℕ) → WellFormed source t p s → (g item : ℕ) → sum length (rest source t p s g item) ≤ most_output
unfolding rest
rest_short source t p s w g item =
    let all = fragments_all source p s (sections t) in
    let front = fragments_all source p s (take g (sections t)) in
    let back = fragments_all source p s (drop g (sections t)) in
    let e : all ≡ front ++ back = ap (fragments_all source p s) (sym (take-append-drop g (sections t))) ∙ all_append source p s (take g (sections t)) (drop g (sections t)) in
    let q : sum length all ≡ sum length front + sum length back = ap (sum length) e ∙ sum_append length front back in
    omega (arith, sum_drop length item back, output_bound source t p s w)

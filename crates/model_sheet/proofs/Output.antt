-- The output of a desk is at most as long as its texts and its source together: the spans cover the source once.
use Prim.Native.Nat.{ℕ, zero, suc, ◌+◌, ◌-◌, ◌≤◌, ◌<◌, min}
use mathlib.Core.Path.{◌≡◌}
use mathlib.Core.List.{List, [], ◌∷◌, ◌++◌}
use mathlib.Core.Option.{Option, none, some}
use mathlib.Core.Bool.{true}
use lib.Dec.{leb}
use lib.ListN.{length, drop, length-take}
use borrow.Author.Tests.{leb-true}
use native.Mathlib.Omega.{arith}
use native.Mathlib.Decide.{dec_lt}
use Rattle.utf8.specs.Chars.{All, nil, cons}
use Rattle.model.specs.Text.{Text, sum, unwrap_or}
use Rattle.model.specs.Chunk.{Chunk, start_of, end_of, span_text, content}
use Rattle.model.specs.Chunk as chunk
use Rattle.model.specs.MagicString.{MagicString, chunk_fragments, fragments, to_string}
use Rattle.model.specs.Limits.{full, replacement_bytes, chunk_bytes, piece_count, byte_count, within}
use Rattle.model.specs.WellFormed.{covers, Covered, Formed, WellFormed}
use Rattle.model.proofs.Lists.{and_left, and_right, all_map, sum_append, concat_sum}
use Rattle.model.proofs.Spans.{covers_in}
use Rattle.model_sheet.specs.Sheet.{MOST_TEXT}
use Rattle.model_preservation.proofs.Spans.{Inside, spans_inside, covered_once}

-- ── the spans are together at most as long as the source ──
abbrev width : Chunk → ℕ
width c = end_of c - start_of c

-- f at every number below n, together
abbrev sum_below : (ℕ → ℕ) → ℕ → ℕ
sum_below f zero = 0
sum_below f (suc n) = sum_below f n + f n

sum_add : (f g : ℕ → ℕ) (n : ℕ) → sum_below (λ x. f x + g x) n ≡ sum_below f n + sum_below g n
sum_add f g zero = omega arith
sum_add f g (suc n) = omega (arith, sum_add f g n)

sum_ones : (f : ℕ → ℕ) (n : ℕ) → ((x : ℕ) → x < n → f x ≡ 1) → sum_below f n ≤ n
sum_ones f zero h = omega arith
sum_ones f (suc n) h = omega (arith, sum_ones f n (λ x l. h x (omega arith)), h n (omega arith))

-- a span has every byte from its start up to its end
span_below : (c : Chunk) (n : ℕ) → min n (end_of c) ≤ sum_below (λ x. covers x c) n + start_of c
span_below c zero = omega arith
span_below c (suc n) =
    let h = span_below c n in
    elim (dec_lt n (start_of c)) [
      | yes p ↦ omega arith
      | no p ↦ elim (dec_lt n (end_of c)) [ yes q ↦ omega (arith, covers_in n c (omega arith, q)) | no q ↦ omega arith ]
    ]

inside_below : (source : Text) (c : Chunk) → Inside source c → width c ≤ sum_below (λ x. covers x c) (length source)
inside_below source c h = omega (arith, span_below c (length source), h.inside)

widths_below : (n : ℕ) {cs : List Chunk} → All (λ c. width c ≤ sum_below (λ x. covers x c) n) cs → sum width cs ≤ sum_below (λ x. sum (covers x) cs) n
widths_below n nil = omega arith
widths_below n (cons {x = c} {xs = cs} h hs) = omega (arith, h, widths_below n hs, sum_add (λ x. covers x c) (λ x. sum (covers x) cs) n)

widths : (source : Text) (cs : List Chunk) → Covered source cs → sum width cs ≤ length source
widths source cs h =
    let n = length source in
    omega (arith, widths_below n (all_map (inside_below source) (spans_inside source cs h)), sum_ones (λ x. sum (covers x) cs) n (covered_once source cs h))

-- ── what a chunk, the chunks and the desk show ──
content_le : (e : Option Text) (s : Text) (n : ℕ) → length s ≤ n → length (unwrap_or e s) ≤ replacement_bytes e + n
content_le none s n h = omega arith
content_le (some t) s n h = omega arith

chunk_le : (source : Text) (c : Chunk) → sum length (chunk.fragments source c) ≤ chunk_bytes c + width c
chunk_le source c =
    omega (
      arith,
      sum_append length c.texts.intro (content source c ∷ c.texts.outro),
      content_le c.texts.edited_content (span_text c.span source) (width c) (omega (arith, length-take (width c) (drop (start_of c) source))),
    )

chunks_le : (source : Text) (cs : List Chunk) → sum length (chunk_fragments source cs) ≤ sum chunk_bytes cs + sum width cs
chunks_le source [] = omega arith
chunks_le source (c ∷ cs) = omega (arith, sum_append length (chunk.fragments source c) (chunk_fragments source cs), chunk_le source c, chunks_le source cs)

pub output_le : (m : MagicString) → Formed m → length (to_string m) ≤ byte_count m + length m.source
unfolding to_string
output_le m f =
    let x = chunk_fragments m.source m.chunks in
    omega (
      arith,
      concat_sum (fragments m),
      sum_append length m.intro (x ++ m.outro),
      sum_append length x m.outro,
      chunks_le m.source m.chunks,
      widths m.source m.chunks f.covered,
    )

pub output_most : (m : MagicString) → WellFormed full m → length (to_string m) ≤ MOST_TEXT
unfolding within
output_most m w =
    let source = leb (length m.source) full.most_source in
    let chunks = leb (length m.chunks) full.most_chunks in
    let pieces = leb (piece_count m) full.most_pieces in
    let bytes = leb (byte_count m) full.most_bytes in
    let few : bytes ≡ true = and_right pieces bytes (and_right chunks _ (and_right source _ w.limits)) in
    let short : source ≡ true = and_left source _ w.limits in
    omega (arith, output_le m w.formed, leb-true (length m.source) full.most_source short, leb-true (byte_count m) full.most_bytes few)

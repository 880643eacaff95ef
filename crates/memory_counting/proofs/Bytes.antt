-- A desk whose texts lie inside the store, with no byte in two of them, has at most as many bytes of text as the store.
use mathlib.Core.Path.{◌≡◌, refl, sym, ◌∙◌}
use mathlib.Core.List.{List, [], ◌∷◌, map}
use Prim.Native.Nat.{ℕ, ◌+◌, ◌≤◌}
use native.Mathlib.Omega.{arith}
use native.Mathlib.Decide.{ℕ_discrete}
use borrow.Author.Tests.{eq-eqb, ne_eqb}
use lib.ListN.{length, length-take, length-drop}
use Rattle.utf8.specs.Chars.{All, nil, cons}
use Rattle.memory_table.specs.Order.{Entry, entry_at, entries}
use Rattle.model.specs.Text.{sum}
use Rattle.model.specs.Limits.{chunk_bytes, replacement_bytes, byte_count}
use Rattle.model.proofs.Lists.{sum_map, sum_same as sum-same-list}
use Rattle.memory_layout.specs.Layout.{NONE}
use Rattle.memory.specs.Layout.{Place, bytes_at, piece_at, tabulate, run_of, replacement_of, chunk_of, magic_string_of}
use Rattle.memory.specs.WellFormed.{Inside, RunIn, ReplacementIn, RunsIn, EntryIn, Readable, among, run_uses, replacement_uses, list_uses, byte_uses, Disjoint}
use Rattle.memory_counting.specs.Counts.{sum_to, indicator}
use Rattle.memory_counting.proofs.Sums.{sum_zero, sum_same, sum_add, sum_ones, sum_indicator}
use Rattle.memory_counting.proofs.Lists.{sum_swap, sum_tabulate}

module _ (s : List ℕ) where
  -- a text's length, byte by byte of the store
  text_bytes : (r : Place) → Inside s r → length (bytes_at s r) ≡ sum_to (among r) (length s)
  unfolding among indicator
  text_bytes r h =
      let l : length (bytes_at s r) ≡ r.1 = simp (length-take, length-drop) (omega arith) in
      let q : sum_to (among r) (length s) ≡ sum_to (indicator r.0 (r.0 + r.1)) (length s) = refl in
      let i = sum_indicator r.0 (r.0 + r.1) (length s) (omega arith) in
      omega (arith, l, q, i)

  run_bytes : (p : List ℕ) (r : Place) → RunIn p s r → sum length (run_of p s r) ≡ sum_to (λ b. run_uses p b r) (length s)
  unfolding run_of run_uses RunIn
  run_bytes p r h =
      let g : ℕ → Place = λ k. piece_at p (r.0 + k) in
      sum_tabulate length (λ k. bytes_at s (g k)) r.1
      ∙ sum_same (λ k. length (bytes_at s (g k))) (λ k. sum_to (among (g k)) (length s)) r.1 (λ k l. text_bytes (g k) (h k l).text)
      ∙ sym (sum_tabulate (λ x. sum_to (among x) (length s)) g r.1)
      ∙ sum_swap among (tabulate g r.1) (length s)

  replaced_bytes : (r : Place) → ReplacementIn s r → replacement_bytes (replacement_of s r) ≡ sum_to (λ b. replacement_uses b r) (length s)
  unfolding replacement_of replacement_uses ReplacementIn
  replaced_bytes r h =
      elim (ℕ_discrete r.0 NONE) [
        | yes e ↦ rw (eq-eqb r.0 NONE e) (sym (sum_zero (λ b. 0) (length s) (λ k l. refl)))
        | no e ↦ rw (ne_eqb r.0 NONE e) (text_bytes r (h e))
      ]

  list_bytes : (p : List ℕ) (e : Entry) → RunsIn p s e
      → sum length (run_of p s e.intro) + sum length (run_of p s e.outro) ≡ sum_to (λ b. list_uses p b e) (length s)
  list_bytes p e h =
      omega (arith, run_bytes p e.intro h.intro, run_bytes p e.outro h.outro, sum_add (λ b. run_uses p b e.intro) (λ b. run_uses p b e.outro) (length s))

  entry_bytes : (p : List ℕ) (e : Entry) → EntryIn p s e → chunk_bytes (chunk_of p s e) ≡ sum_to (λ b. byte_uses p b e) (length s)
  entry_bytes p e h =
      omega (arith, list_bytes p e h.runs, replaced_bytes e.text h.replacement, sum_add (λ b. list_uses p b e) (λ b. replacement_uses b e.text) (length s))

  all_bytes : (p : List ℕ) (es : List Entry) → All (EntryIn p s) es → All (λ e. chunk_bytes (chunk_of p s e) ≡ sum_to (λ b. byte_uses p b e) (length s)) es
  all_bytes p [] nil = nil
  all_bytes p (e ∷ es) (cons h k) = cons (entry_bytes p e h) (all_bytes p es k)

  chunks_bytes : (p : List ℕ) (es : List Entry) → All (EntryIn p s) es → sum chunk_bytes (map (chunk_of p s) es) ≡ sum_to (λ b. sum (byte_uses p b) es) (length s)
  chunks_bytes p es h =
      sum_map (chunk_of p s) chunk_bytes es
      ∙ sum-same-list (λ e. chunk_bytes (chunk_of p s e)) (λ e. sum_to (λ b. byte_uses p b e) (length s)) (all_bytes p es h)
      ∙ sum_swap (λ e b. byte_uses p b e) es (length s)

pub bytes_fit : (source t p s : List ℕ) → Readable t p s → Disjoint t p → byte_count (magic_string_of source t p s) ≤ length s
unfolding magic_string_of
bytes_fit source t p s r d =
    let e0 = entry_at t 0 in
    omega (
      arith,
      list_bytes s p e0 r.desk,
      chunks_bytes s p (entries t) r.chunks,
      sum_add (λ b. list_uses p b e0) (λ b. sum (byte_uses p b) (entries t)) (length s),
      sum_ones (λ b. list_uses p b e0 + sum (byte_uses p b) (entries t)) (length s) (λ b l. d.bytes b),
    )

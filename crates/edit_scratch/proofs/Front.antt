-- A desk in longer lists: the lent tables stand at the front of the scratch tables, and read the same there.
use mathlib.Core.Path.{◌≡◌, refl, sym, ap, ap₂, ◌∙◌, fun_ext}
use mathlib.Core.List.{List, [], ◌∷◌, ◌++◌, map}
use Prim.Native.Nat.{ℕ, zero, suc, ◌+◌, ◌*◌, ◌-◌, ◌≤◌}
use native.Mathlib.Omega.{arith}
use native.Mathlib.Decide.{dec_lt}
use lib.Dec.{eqb}
use lib.ListN.{length, get_or, take, drop, length-append, length-drop, get_or-append}
use lib.Seq.{get_or-append-add, get_or-drop, take-append-le, drop-append-le}
use borrow.Author.Tests.{eqb-false}
use Rattle.memory_layout.specs.Layout.{ROW, NONE}
use Rattle.utf8.specs.Chars.{All, nil, cons}
use Rattle.model.proofs.Lists.{bool-elim}
use Rattle.memory.proofs.Desks.{desk_same, piece_front}
use Rattle.memory_table.specs.declared.Row.{Row}
use Rattle.memory_table.specs.Table.{row_at}
use Rattle.memory_table.specs.Order.{Entry, entry_of, entry_at, entries, order, next_of, prev_of, count_of, Linked}
use Rattle.model.specs.Chunk.{Chunk}
use Rattle.memory.specs.Layout.{Place, bytes_at, piece_at, run_of, replacement_of, chunk_of, magic_string_of}
use Rattle.memory.specs.WellFormed.{RunIn, ReplacementIn, RunsIn, EntryIn, Readable}
use Rattle.memory_texts.proofs.Texts.{tabulate_ext, run_tabulate}

-- ── chunk rows: nothing but zeros behind ──
past : (l : List ℕ) (k : ℕ) → length l ≤ k → get_or l k 0 ≡ 0
past [] k h = refl
past (x ∷ l) zero h = absurd (omega arith)
past (x ∷ l) (suc k) h = past l k (omega arith)

pub padded : (t t₀ : List ℕ) → ((k : ℕ) → get_or t₀ k 0 ≡ 0) → (k : ℕ) → get_or (t ++ drop (length t) t₀) k 0 ≡ get_or t k 0
padded t t₀ z k =
    elim (dec_lt k (length t)) [
      | yes h ↦ get_or-append t (drop (length t) t₀) 0 k h
      | no h ↦
          let e : k ≡ length t + (k - length t) = omega arith in
          ap (λ (n : ℕ). get_or (t ++ drop (length t) t₀) n 0) e
          ∙ get_or-append-add t (drop (length t) t₀) (k - length t) 0
          ∙ get_or-drop (length t) t₀ (k - length t) 0
          ∙ z (length t + (k - length t))
          ∙ sym (past t k (omega arith))
    ]

-- a row is a function of the words
abbrev row_fn : (ℕ → ℕ) → ℕ → Row
row_fn g i =
    record {
      start = g (i * ROW);
      end = g (i * ROW + 1);
      next = g (i * ROW + 2);
      prev = g (i * ROW + 3);
      intro_at = g (i * ROW + 4);
      intro_n = g (i * ROW + 5);
      outro_at = g (i * ROW + 6);
      outro_n = g (i * ROW + 7);
      text_at = g (i * ROW + 8);
      text_n = g (i * ROW + 9);
      frozen = g (i * ROW + 10);
      spare = g (i * ROW + 11);
    }

module _ (t t' : List ℕ) (same : (k : ℕ) → get_or t' k 0 ≡ get_or t k 0) where
  pub same_row : (i : ℕ) → row_at t' i ≡ row_at t i
  same_row i = ap (λ (g : ℕ → ℕ). row_fn g i) (fun_ext {f = λ k. get_or t' k 0} {g = λ k. get_or t k 0} same)

  pub same_entries : length t ≤ length t' → Linked t → Linked t' × (entries t' ≡ entries t)
  unfolding order
  same_entries len l =
      let n : next_of t' ≡ next_of t = fun_ext (λ a. ap (λ (r : Row). r.next) (same_row a)) in
      let v : prev_of t' ≡ prev_of t = fun_ext (λ a. ap (λ (r : Row). r.prev) (same_row a)) in
      let c : count_of t' ≡ count_of t = ap (λ (r : Row). r.start) (same_row 0) in
      let f : entry_at t' ≡ entry_at t = fun_ext (λ a. ap entry_of (same_row a)) in
      let o : order t' ≡ order t = rw (n, c, ap (λ (r : Row). r.next) (same_row 0)) in (
        record { ring = rw (n, v, c) l.ring; room = rw c (omega (arith, l.room)) },
        ap₂ (λ (g : ℕ → Entry) (xs : List ℕ). map g xs) f o,
      )

  -- the desk that the rows hold
  pub same_desk : (p s : List ℕ) → length t ≤ length t' → Readable t p s
      → Readable t' p s × ((source : List ℕ) → magic_string_of source t' p s ≡ magic_string_of source t p s)
  unfolding magic_string_of
  same_desk p s len h =
      let q = same_entries len h.linked in
      let e : entry_at t' 0 ≡ entry_at t 0 = ap entry_of (same_row 0) in (
        record { linked = q.0; desk = rw e h.desk; chunks = rw q.1 h.chunks },
        λ source.
            desk_same source (ap (λ (x : Entry). run_of p s x.intro) e) (ap (λ (x : Entry). run_of p s x.outro) e) (ap (map (chunk_of p s)) q.1),
      )

-- ── pieces and texts: what is inside reads the same ──
bytes_front : (r : Place) (s z : List ℕ) → r.0 + r.1 ≤ length s → bytes_at (s ++ z) r ≡ bytes_at s r
bytes_front r s z h = ap (take r.1) (drop-append-le r.0 s z (omega arith)) ∙ take-append-le r.1 (drop r.0 s) z (simp length-drop (omega arith))

module _ (p s y z : List ℕ) where
  pub run_in_front : (r : Place) → RunIn p s r → RunIn (p ++ y) (s ++ z) r
  unfolding RunIn
  run_in_front r h k g =
      let e = ap (λ (x : Place). x.0 + x.1) (piece_front p y (r.0 + k) (h k g).row) in
      record { row = simp length-append (omega (arith, (h k g).row)); text = simp length-append (omega (arith, (h k g).text, e)) }

  pub run_front : (r : Place) → RunIn p s r → run_of (p ++ y) (s ++ z) r ≡ run_of p s r
  unfolding RunIn
  run_front r h =
      run_tabulate (p ++ y) (s ++ z) r.0 r.1
      ∙ tabulate_ext (λ k. bytes_at (s ++ z) (piece_at (p ++ y) (r.0 + k))) (λ k. bytes_at s (piece_at p (r.0 + k))) r.1
      (λ k g. ap (bytes_at (s ++ z)) (piece_front p y (r.0 + k) (h k g).row) ∙ bytes_front (piece_at p (r.0 + k)) s z (h k g).text)
      ∙ sym (run_tabulate p s r.0 r.1)

  pub text_in_front : (r : Place) → ReplacementIn s r → ReplacementIn (s ++ z) r
  unfolding ReplacementIn
  text_in_front r h n = simp length-append (omega (arith, h n))

  pub text_front : (r : Place) → ReplacementIn s r → replacement_of (s ++ z) r ≡ replacement_of s r
  unfolding replacement_of ReplacementIn
  text_front r h = bool-elim (eqb r.0 NONE) (λ e. rw e) (λ e. rw (e, bytes_front r s z (h (eqb-false _ _ e))))

  pub runs_front : (e : Entry) → RunsIn p s e → RunsIn (p ++ y) (s ++ z) e
  runs_front e h = record { intro = run_in_front _ h.intro; outro = run_in_front _ h.outro }

  pub entry_front : (e : Entry) → EntryIn p s e → EntryIn (p ++ y) (s ++ z) e
  entry_front e h = record { runs = runs_front e h.runs; replacement = text_in_front e.text h.replacement }

  pub chunk_front : (e : Entry) → EntryIn p s e → chunk_of (p ++ y) (s ++ z) e ≡ chunk_of p s e
  chunk_front e h = rw (run_front e.intro h.runs.intro, run_front e.outro h.runs.outro, text_front e.text h.replacement)

  pub entries_front : {es : List Entry} → All (EntryIn p s) es → All (EntryIn (p ++ y) (s ++ z)) es
  entries_front nil = nil
  entries_front (cons {x = e} h k) = cons (entry_front e h) (entries_front k)

  pub chunks_front : {es : List Entry} → All (EntryIn p s) es → map (chunk_of (p ++ y) (s ++ z)) es ≡ map (chunk_of p s) es
  chunks_front nil = refl
  chunks_front (cons {x = e} h k) = ap₂ (λ (x : Chunk) (l : List Chunk). x ∷ l) (chunk_front e h) (chunks_front k)

  -- the whole desk
  pub desk_front : (t : List ℕ) → Readable t p s
      → Readable t (p ++ y) (s ++ z) × ((source : List ℕ) → magic_string_of source t (p ++ y) (s ++ z) ≡ magic_string_of source t p s)
  unfolding magic_string_of
  desk_front t h = (
    record { linked = h.linked; desk = runs_front (entry_at t 0) h.desk; chunks = entries_front h.chunks },
    λ source. desk_same source (run_front _ h.desk.intro) (run_front _ h.desk.outro) (chunks_front h.chunks),
  )

-- Laws of what `Tables` in specs/ defines.
use mathlib.Core.Path.{◌≡◌, refl, sym, ap, ◌∙◌, subst}
use mathlib.Core.Bool.{true, false, ◌&&◌, and-false}
use mathlib.Core.List.{List, []}
use Prim.Native.Nat.{ℕ, suc, ◌≤◌, ◌<◌}
use native.Mathlib.Omega.{arith}
use lib.ListN.{length, get_or, take, drop, replicate, length-append, length-drop}
use borrow.Author.Tests.{le-leb, ne_eqb}
use Rattle.memory_layout.specs.Layout.{PIECES_LEN, STORE_LEN, SCRATCH_LEN}
use Rattle.memory_table.specs.Order.{count_of}
use Rattle.model.specs.MagicString.{MagicString, Result, err}
use Rattle.model.specs.Limits.{Limits, full, within, byte_count}
use Rattle.model.specs.Text.{all}
use Rattle.model.specs.Frozen.{any_frozen}
use Rattle.model.specs.Call.{Edit, options_valid, texts, positions, whole, idle, steps, refused_before, judged, run, may_change}
use Rattle.utf8.specs.Rfc3629.{utf8, between}
use Rattle.model.specs.WellFormed as model
use Rattle.memory.specs.Layout.{magic_string_of}
use Rattle.memory.specs.WellFormed.{limits_of, Readable, WellFormed}
use Rattle.memory.specs.Calls.{may_write, Ran}
use Rattle.model_preservation.proofs.Calls.{run_keeps}
use Rattle.edit_rebuild.specs.Rebuilt.{Finished}
use Rattle.memory.proofs.Desks.{zeros_length, zeros_at, within_keeps, all_same, chunk_count, short_source, desk_full, past_full, limits_as, sized_as, same_lengths}
use Rattle.model.proofs.Lists.{no_tf, bool-elim}
use Rattle.edit_scratch.specs.Loaded.{Loaded}
use Rattle.edit_scratch.proofs.Front.{padded, same_desk, desk_front}
use Rattle.edit_scratch.specs.Tables.{Scratch, Roomy, Did}

-- ── scratch tables ──
-- tables of zeros, as long as a call's own ones
pub zeros_scratch : (k m n : ℕ) → k ≡ SCRATCH_LEN → PIECES_LEN ≤ m → STORE_LEN ≤ n
    → Scratch (take k (replicate k 0)) (take m (replicate m 0)) (take n (replicate n 0))
zeros_scratch k m n e hp hs =
    record {
      chunks = zeros_length k k (omega arith) ∙ e;
      clear = zeros_at k k;
      pieces = rw (zeros_length m m (omega arith)) hp;
      store = rw (zeros_length n n (omega arith)) hs;
    }

-- ── the limits of a desk ──
pub past_bytes : (m : MagicString) → full.most_bytes < byte_count m → within full m ≡ false
past_bytes m h = bool-elim (within full m) (λ e. absurd (omega (arith, (within_keeps full m e).bytes))) (λ e. e)

pub few_chunks : (source t p s : List ℕ) → within full (magic_string_of source t p s) ≡ true → count_of t ≤ full.most_chunks
few_chunks source t p s e = omega (arith, (within_keeps full (magic_string_of source t p s) e).chunks, chunk_count source t p s)

-- the source's length is the only limit that the source decides
pub within_any : (k : Limits) (source t p s : List ℕ) → length source ≤ k.most_source → within k (magic_string_of [] t p s) ≡ within k (magic_string_of source t p s)
unfolding within magic_string_of
within_any k source t p s h = rw (le-leb (length source) k.most_source h, le-leb 0 k.most_source (omega arith))

-- ── loaded tables ──
module _ {source t p s t₀ p₀ s₀ t1 p1 s1 : List ℕ} (w : WellFormed source t p s) (f : Scratch t₀ p₀ s₀) (d : Loaded t p s t₀ p₀ s₀ t1 p1 s1) where
  same_words : (k : ℕ) → get_or t1 k 0 ≡ get_or t k 0
  same_words k = ap (λ (l : List ℕ). get_or l k 0) d.chunks ∙ padded t t₀ f.clear k

  loaded_length : length t1 ≡ SCRATCH_LEN
  loaded_length = ap length d.chunks ∙ simp (length-append, length-drop) (omega (arith, w.sized.chunks, f.chunks))

  loaded : Readable t1 p s × ((source : List ℕ) → magic_string_of source t1 p s ≡ magic_string_of source t p s)
  loaded = same_desk t t1 same_words p s (omega (arith, loaded_length, w.sized.chunks)) w.readable

  -- the scratch rows with the lent pieces and store hold the desk
  pub loaded_readable : Readable t1 p s
  loaded_readable = loaded.0

  pub loaded_desk : magic_string_of source t1 p s ≡ magic_string_of source t p s
  loaded_desk = loaded.1 source

  -- as many chunks
  pub loaded_count : count_of t1 ≡ count_of t
  loaded_count = omega (arith, ap (λ (x : MagicString). length x.chunks) loaded_desk, chunk_count source t p s, chunk_count source t1 p s)

  -- with room for three chunks
  pub loaded_roomy : Roomy 3 t1
  loaded_roomy =
      let c = few_chunks source t1 p s (ap (within full) loaded_desk ∙ desk_full w) in
      record { linked = loaded_readable.linked; room = omega (arith, loaded_length); narrow = omega (arith, loaded_length) }

  -- and so it does with the scratch pieces and store, whatever the steps made of the rows
  pub with_scratch : (t2 : List ℕ) → Readable t2 p s → Readable t2 p1 s1
  with_scratch t2 h = rw (d.pieces, d.store) (desk_front p s (drop (length p) p₀) (drop (length s) s₀) t2 h).0

  pub with_scratch_desk : (t2 : List ℕ) → Readable t2 p s → magic_string_of source t2 p1 s1 ≡ magic_string_of source t2 p s
  with_scratch_desk t2 h = rw (d.pieces, d.store) ((desk_front p s (drop (length p) p₀) (drop (length s) s₀) t2 h).1 source)

-- ── the call ──
pub refused_15 : (e : Edit) (m : MagicString) → options_valid e ≡ false → refused_before m e ≡ 15
unfolding refused_before
refused_15 e m h = rw h

run_refused : (k : Limits) (e : Edit) (m : MagicString) (n : ℕ) → refused_before m e ≡ suc n → run k e m ≡ err (suc n) m
unfolding run
run_refused k e m n h = rw (h, run)

run_judged : (k : Limits) (e : Edit) (m : MagicString) → refused_before m e ≡ 0 → run k e m ≡ judged k m (steps e m)
unfolding run
run_judged k e m h = rw (h, run)

judged_in : (k : Limits) (m : MagicString) (r : Result) → within k r.desk ≡ true → judged k m r ≡ r
unfolding judged
judged_in k m r e = rw e

judged_out : (k : Limits) (m : MagicString) (r : Result) → within k r.desk ≡ false → judged k m r ≡ err 13 m
unfolding judged
judged_out k m r e = rw e

-- nothing is written where the call leaves the desk as it was
still : (e : Edit) (source t p s : List ℕ) (r : ℕ) → WellFormed source t p s → run (limits_of t p s) e (magic_string_of source t p s) ≡ err r (magic_string_of source t p s)
    → Ran e source t p s t p s r 0
still e source t p s r w q =
    record {
      number_is = sym (ap (λ (x : Result). x.number) q);
      value_is = omega (arith, ap (λ (x : Result). length x.desk.chunks) q);
      desk_is = sym (ap (λ (x : Result). x.desk) q);
      well_formed = w;
      lengths = same_lengths t p s;
      same = λ _. all_same t p s;
    }

-- ── 1, 3, and 20 for the whole desk ──
module _ (e : Edit) (source t p s : List ℕ) (o : options_valid e ≡ true) where
  pub refused_1 : all utf8 (texts e) ≡ false → refused_before (magic_string_of source t p s) e ≡ 1
  unfolding refused_before magic_string_of
  refused_1 h = rw (o, h)

  pub refused_3 : all utf8 (texts e) ≡ true → all (between source) (positions e) ≡ false → refused_before (magic_string_of source t p s) e ≡ 3
  unfolding refused_before magic_string_of
  refused_3 h k = rw (o, h, k)

  module _ (h : all utf8 (texts e) ≡ true) (k : all (between source) (positions e) ≡ true) where
    pub refused_20 : whole e && any_frozen (magic_string_of source t p s) ≡ true → refused_before (magic_string_of source t p s) e ≡ 20
    unfolding refused_before magic_string_of
    refused_20 f = rw (o, h, k, f)

    pub not_refused : whole e && any_frozen (magic_string_of source t p s) ≡ false → refused_before (magic_string_of source t p s) e ≡ 0
    unfolding refused_before magic_string_of
    not_refused f = rw (o, h, k, f)

pub ran_before : (e : Edit) (source t p s : List ℕ) (n r : ℕ) → WellFormed source t p s → refused_before (magic_string_of source t p s) e ≡ suc n → r ≡ suc n
    → Ran e source t p s t p s r 0
ran_before e source t p s n r w h q = still e source t p s r w (run_refused (limits_of t p s) e (magic_string_of source t p s) n h ∙ rw q)

-- a refusal that changes nothing, and a no-op
pub ran_same : (e : Edit) (source t p s : List ℕ) (r : ℕ) → WellFormed source t p s → refused_before (magic_string_of source t p s) e ≡ 0
    → steps e (magic_string_of source t p s) ≡ err r (magic_string_of source t p s) → Ran e source t p s t p s r 0
ran_same e source t p s r w h q =
    let m = magic_string_of source t p s in
    still e source t p s r w (run_judged (limits_of t p s) e m h ∙ ap (judged (limits_of t p s) m) q ∙ judged_in (limits_of t p s) m (err r m) w.desk.limits)

-- 13 where the steps would leave too much
pub ran_past_limits : (e : Edit) (source t p s : List ℕ) → WellFormed source t p s → refused_before (magic_string_of source t p s) e ≡ 0
    → within full (steps e (magic_string_of source t p s)).desk ≡ false → Ran e source t p s t p s 13 0
ran_past_limits e source t p s w h q =
    let m = magic_string_of source t p s in
    still e source t p s 13 w (run_judged (limits_of t p s) e m h ∙ judged_out (limits_of t p s) m (steps e m) (past_full w.sized (steps e m).desk q))

-- steps on the loaded rows alone, and the scratch pieces and store as they were loaded
pub did_loaded : {f : MagicString → Result} {source t p s t₀ p₀ s₀ t1 p1 s1 t2 : List ℕ} {r k : ℕ} → WellFormed source t p s → Scratch t₀ p₀ s₀ → Loaded t p s t₀ p₀ s₀ t1 p1 s1
    → Did f source t1 p s t2 p s r k → Did f source t p s t2 p1 s1 r k
did_loaded {f} {source} {t2 = t2} {r = r} w c d l =
    record {
      readable = with_scratch w c d t2 l.readable;
      result = ap f (sym (loaded_desk w c d)) ∙ l.result ∙ ap (err r) (sym (with_scratch_desk w c d t2 l.readable));
      cuts = omega (arith, l.cuts, loaded_count w c d);
    }

-- ── which answers may write ──
pub may_write_busy : (e : Edit) (n : ℕ) → idle e ≡ false → may_change e n ≡ true → may_write e n ≡ true
unfolding may_write
may_write_busy e n h k = rw (h, k, and-false)

pub may_write_0 : (e : Edit) → idle e ≡ false → may_write e 0 ≡ true
may_write_0 e h = may_write_busy e 0 h refl

-- a number that leaves something
pub may_write_leaving : (e : Edit) (n : ℕ) → may_change e (suc n) ≡ true → may_write e (suc n) ≡ true
unfolding may_write
may_write_leaving e n h = rw (h, ne_eqb (suc n) 0 (λ z. omega arith))

-- the steps, and their end
pub ran_finished : {e : Edit} {source t p s t2 p2 s2 t' p' s' : List ℕ} {r c r' c' : ℕ} → WellFormed source t p s → refused_before (magic_string_of source t p s) e ≡ 0
    → Did (steps e) source t p s t2 p2 s2 r c → may_write e r ≡ true → Finished t2 p2 s2 t p s t' p' s' r c r' c' → Ran e source t p s t' p' s' r' c'
ran_finished {e} {source} {t} {p} {s} {t2} {p2} {s2} {t'} {p'} {s'} {r} w h d may f =
    let m = magic_string_of source t p s in
    let n = magic_string_of source t2 p2 s2 in
    let k₀ = limits_of t p s in
    let q : run k₀ e m ≡ judged k₀ m (err r n) = run_judged k₀ e m h ∙ ap (judged k₀ m) d.result in
    let i : within k₀ (magic_string_of [] t2 p2 s2) ≡ within k₀ n = within_any k₀ source t2 p2 s2 (short_source w) in
    let chunks : Result → ℕ = λ (y : Result). length y.desk.chunks in
    bool-elim (within k₀ n)
    (λ k.
    let g = f.fits (i ∙ k) in
    let o : run k₀ e m ≡ err r n = q ∙ judged_in k₀ m (err r n) k in
    let x : magic_string_of source t' p' s' ≡ (run k₀ e m).desk = g.1.desk source ∙ sym (ap (λ (y : Result). y.desk) o) in
    record {
      number_is = g.0 ∙ sym (ap (λ (y : Result). y.number) o);
      value_is = omega (arith, f.cuts (i ∙ k), d.cuts, ap chunks o, chunk_count source t p s, chunk_count source t2 p2 s2);
      desk_is = x;
      well_formed =
          record {
            sized = sized_as f.lengths w.sized;
            readable = g.1.readable;
            each = g.1.each;
            disjoint = g.1.disjoint;
            desk = rw (limits_as f.lengths) (subst (model.WellFormed k₀) (sym x) (run_keeps k₀ e m w.desk));
          };
      lengths = f.lengths;
      same = λ z. no_tf (sym may ∙ ap (may_write e) (sym g.0) ∙ z);
    })
    (λ k.
    let g = f.breaks (i ∙ k) in
    let o : run k₀ e m ≡ err 13 m = q ∙ judged_out k₀ m (err r n) k in
    let a = g.1 in
    let x : magic_string_of source t' p' s' ≡ m = rw (a.chunks, a.pieces, a.store) refl in
    record {
      number_is = g.0 ∙ sym (ap (λ (y : Result). y.number) o);
      value_is = omega (arith, f.no_cuts (i ∙ k), ap chunks o);
      desk_is = x ∙ sym (ap (λ (y : Result). y.desk) o);
      well_formed = rw (a.chunks, a.pieces, a.store) w;
      lengths = f.lengths;
      same = λ _. a;
    })

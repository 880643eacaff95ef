-- What a plan adds to the counts of chunks, pieces and bytes, and that the spans go on covering the source.
use Prim.Native.Nat.{ℕ, zero, suc, ◌+◌, ◌*◌, ◌-◌, ◌≤◌}
use native.Mathlib.Omega.{arith}
use native.Mathlib.Decide.{ℕ_discrete}
use mathlib.Core.Path.{◌≡◌, refl, sym, ◌∙◌}
use mathlib.Core.Bool.{Bool, true, false, cond}
use mathlib.Core.List.{List, [], ◌∷◌, map}
use mathlib.Core.Option.{Option, none, some}
use lib.ListN.{length, length-append, length-map}
use borrow.Author.Tests.{eq-eqb, ne_eqb}
use Rattle.utf8.specs.Chars.{All, nil, cons}
use Rattle.model.specs.Text.{Text, sum}
use Rattle.model.specs.Chunk.{Chunk, start_of, is_filled}
use Rattle.model.specs.MagicString.{MagicString}
use Rattle.model.specs.Limits.{chunk_pieces, chunk_bytes, replacement_bytes, piece_count, byte_count}
use Rattle.model.specs.WellFormed.{covers}
use Rattle.model.proofs.Lists.{clash, first_of, rest_of, all_of, all_map}
use Rattle.model.proofs.Spans.{covers_in}
use Rattle.model.proofs.Insert.{push_length, push_sum}
use Rattle.model_closed_forms.specs.Plan.{Plan, nothing, clear, replace, insert_piece, insert_whole, move, cuts, split, cut, cut_all}
use Rattle.model_closed_forms.specs.Plan.{acted, rearrange, on_head, on_tail, new_chunks, apply}
use Rattle.model_closed_forms.proofs.Cuts.{Contains, dec_contains, split_in, split_out, cut_keeps, Splittable, splittable_halves}
use Rattle.model_closed_forms.proofs.Spans.{Inside, sum_cut, covers_cut, covers_cut_all, Once}
use Rattle.model_closed_forms.specs.Spans.{Proper}
use Rattle.any_order.proofs.Acts.{Touch, dec_touch, act_out, act_clear, act_replace, act_insert}
use Rattle.any_order.proofs.Moves.{sum_rearrange}
use Rattle.any_order.proofs.Pair.{WellPlanned, proper_cut_all}

-- ── how often a byte is covered does not change ──
once_cut : (p : ℕ) (cs : List Chunk) → Once cs → Once (cut p cs)
once_cut p cs o x = omega (arith, o x, covers_cut x p cs)

once_cut_all : (ps : List ℕ) (cs : List Chunk) → Once cs → Once (cut_all ps cs)
once_cut_all ps cs o x = omega (arith, o x, covers_cut_all x ps cs)

-- ── chunks ──
abbrev one : Chunk → ℕ
one c = 1

sum_one : (cs : List Chunk) → sum one cs ≡ length cs
sum_one [] = refl
sum_one (c ∷ cs) = omega (arith, sum_one cs)

split_one : (p : ℕ) (c : Chunk) → length (split p c) ≤ 1 + covers p c
split_one p c = go (dec_contains p c)
  where
    go : Dec (Contains p c) → length (split p c) ≤ 1 + covers p c
    go (yes i) = rw (split_in p c i, covers_in p c (omega arith)) (omega arith)
    go (no i) = rw (split_out p c i) (omega arith)

length_cut : (p : ℕ) (cs : List Chunk) → length (cut p cs) ≤ length cs + sum (covers p) cs
length_cut p [] = omega arith
length_cut p (c ∷ cs) = omega (arith, length-append (split p c) (cut p cs), split_one p c, length_cut p cs)

length_cut_all : (ps : List ℕ) (cs : List Chunk) → Once cs → length (cut_all ps cs) ≤ length cs + length ps
length_cut_all [] cs o = omega arith
length_cut_all (p ∷ ps) cs o = omega (arith, length_cut_all ps (cut p cs) (once_cut p cs o), length_cut p cs, o p)

length_rearrange : (P : Plan) (cs : List Chunk) → length (rearrange P cs) ≡ length cs
length_rearrange P cs = sym (sum_one (rearrange P cs)) ∙ (sum_rearrange one P cs ∙ sum_one cs)

three_cuts : (P : Plan) → length (cuts P) ≤ 3
unfolding cuts
three_cuts nothing = omega arith
three_cuts (clear a b r) = omega arith
three_cuts (replace a b t o) = omega arith
three_cuts (insert_piece p t left front) = omega arith
three_cuts (insert_whole t left front) = omega arith
three_cuts (move a b to) = omega arith

pub more_chunks : (P : Plan) (cs : List Chunk) → Once cs → length (new_chunks P cs) ≤ length cs + 3
more_chunks P cs o =
    omega (
      arith,
      length_rearrange P (map (acted P) (cut_all (cuts P) cs)),
      length-map (cut_all (cuts P) cs) (acted P),
      length_cut_all (cuts P) cs o,
      three_cuts P,
    )

-- ── pieces and bytes: what a plan adds to the chunks, at the chunk that covers one byte ──
abbrev witness : Plan → ℕ
witness nothing = 0
witness (clear a b r) = 0
witness (replace a b t o) = a
witness (insert_piece p t left front) = cond left (p - 1) p
witness (insert_whole t left front) = 0
witness (move a b to) = 0

abbrev chunk_adds : Plan → ℕ
chunk_adds nothing = 0
chunk_adds (clear a b r) = 0
chunk_adds (replace a b t o) = 0
chunk_adds (insert_piece p t left front) = 1
chunk_adds (insert_whole t left front) = 0
chunk_adds (move a b to) = 0

abbrev byte_adds : Plan → ℕ
byte_adds nothing = 0
byte_adds (clear a b r) = 0
byte_adds (replace a b t o) = length t
byte_adds (insert_piece p t left front) = length t
byte_adds (insert_whole t left front) = 0
byte_adds (move a b to) = 0

no_bytes : (r : Option Text) → is_filled r ≡ false → replacement_bytes r ≡ 0
no_bytes none h = refl
no_bytes (some []) h = refl
no_bytes (some (x ∷ t)) h = clash refl h

record Adds (P : Plan) (c : Chunk) : Type 0 where
  pieces : chunk_pieces (acted P c) ≤ chunk_pieces c + chunk_adds P * covers (witness P) c
  bytes : chunk_bytes (acted P c) ≤ chunk_bytes c + byte_adds P * covers (witness P) c

replace_adds : (a b : ℕ) (x : Text) (y : Bool) (c : Chunk) → Proper c → Inside a b (start_of c) → Adds (replace a b x y) c
replace_adds a b x y c pr t = go (ℕ_discrete (start_of c) a) y
  where
    go : Dec (start_of c ≡ a) → (y : Bool) → Adds (replace a b x y) c
    go (yes h) true = record {
      pieces = rw (act_replace a b x true c.span c.texts t, eq-eqb (start_of c) a h) (omega arith);
      bytes = rw (act_replace a b x true c.span c.texts t, eq-eqb (start_of c) a h, covers_in a c (omega arith)) (omega arith);
    }
    go (yes h) false = record {
      pieces = rw (act_replace a b x false c.span c.texts t, eq-eqb (start_of c) a h) (omega arith);
      bytes = rw (act_replace a b x false c.span c.texts t, eq-eqb (start_of c) a h, covers_in a c (omega arith)) (omega arith);
    }
    go (no h) y = record {
      pieces = rw (act_replace a b x y c.span c.texts t, ne_eqb (start_of c) a h) (omega arith);
      bytes = rw (act_replace a b x y c.span c.texts t, ne_eqb (start_of c) a h) (omega arith);
    }

adds : (n : ℕ) (P : Plan) → WellPlanned n P → (c : Chunk) → Proper c → Adds P c
adds n P wl c pr = go (dec_touch P c.span)
  where
    touched : (P : Plan) → WellPlanned n P → Touch P c.span → Adds P c
    touched nothing wl t = absurd t
    touched (clear a b r) wl t = record {
      pieces = rw (act_clear a b r c.span c.texts t) (omega arith);
      bytes = rw (act_clear a b r c.span c.texts t) (omega (arith, no_bytes r wl.2));
    }
    touched (replace a b x y) wl t = replace_adds a b x y c pr t
    touched (insert_piece p x true y) wl t = record {
      pieces = rw (act_insert p x true y c.span c.texts t, covers_in (p - 1) c (omega arith)) (omega (arith, push_length y x c.texts.outro));
      bytes = rw (act_insert p x true y c.span c.texts t, covers_in (p - 1) c (omega arith)) (omega (arith, push_sum y x c.texts.outro));
    }
    touched (insert_piece p x false y) wl t = record {
      pieces = rw (act_insert p x false y c.span c.texts t, covers_in p c (omega arith)) (omega (arith, push_length y x c.texts.intro));
      bytes = rw (act_insert p x false y c.span c.texts t, covers_in p c (omega arith)) (omega (arith, push_sum y x c.texts.intro));
    }
    touched (insert_whole t left front) wl x = absurd x
    touched (move a b to) wl t = absurd t

    go : Dec (Touch P c.span) → Adds P c
    go (yes t) = touched P wl t
    go (no t) = record { pieces = rw (act_out P c.span c.texts t) (omega arith); bytes = rw (act_out P c.span c.texts t) (omega arith) }

acted_pieces : (P : Plan) {cs : List Chunk} → All (Adds P) cs → sum chunk_pieces (map (acted P) cs) ≤ sum chunk_pieces cs + chunk_adds P * sum (covers (witness P)) cs
acted_pieces P nil = omega arith
acted_pieces P (cons {x = c} {xs = cs} h hs) = omega (arith, h.pieces, acted_pieces P hs)

acted_bytes : (P : Plan) {cs : List Chunk} → All (Adds P) cs → sum chunk_bytes (map (acted P) cs) ≤ sum chunk_bytes cs + byte_adds P * sum (covers (witness P)) cs
acted_bytes P nil = omega arith
acted_bytes P (cons {x = c} {xs = cs} h hs) = omega (arith, h.bytes, acted_bytes P hs)

pieces_cut_all : (ps : List ℕ) (cs : List Chunk) → sum chunk_pieces (cut_all ps cs) ≡ sum chunk_pieces cs
pieces_cut_all [] cs = refl
pieces_cut_all (p ∷ ps) cs = pieces_cut_all ps (cut p cs) ∙ sum_cut chunk_pieces p (all_of (λ c i. omega arith) cs)

bytes_cut_all : (ps : List ℕ) {cs : List Chunk} → All (Splittable ps) cs → sum chunk_bytes (cut_all ps cs) ≡ sum chunk_bytes cs
bytes_cut_all [] h = refl
bytes_cut_all (p ∷ ps) h =
    bytes_cut_all ps (cut_keeps p (λ c. splittable_halves ps p c) (all_map (λ c k. rest_of k) h))
    ∙ sum_cut chunk_bytes p (all_map (λ c k i. omega (arith, no_bytes c.texts.edited_content (first_of k i))) h)

at_most : (k t : ℕ) → t ≤ 1 → k * t ≤ k
at_most k zero h = omega arith
at_most k (suc zero) h = omega arith
at_most k (suc (suc t)) h = absurd (omega arith)

module _ (n : ℕ) (P : Plan) (wl : WellPlanned n P) (cs : List Chunk) (o : Once cs) (pr : All Proper cs) where
  all_add : All (Adds P) (cut_all (cuts P) cs)
  all_add = all_map (adds n P wl) (proper_cut_all (cuts P) pr)

  witnessed : sum (covers (witness P)) (cut_all (cuts P) cs) ≤ 1
  witnessed = once_cut_all (cuts P) cs o (witness P)

  chunks_pieces : sum chunk_pieces (new_chunks P cs) ≤ sum chunk_pieces cs + chunk_adds P
  chunks_pieces =
      omega (
        arith,
        sum_rearrange chunk_pieces P (map (acted P) (cut_all (cuts P) cs)),
        acted_pieces P all_add,
        pieces_cut_all (cuts P) cs,
        at_most (chunk_adds P) _ witnessed,
      )

  chunks_bytes : All (Splittable (cuts P)) cs → sum chunk_bytes (new_chunks P cs) ≤ sum chunk_bytes cs + byte_adds P
  chunks_bytes s =
      omega (
        arith,
        sum_rearrange chunk_bytes P (map (acted P) (cut_all (cuts P) cs)),
        acted_bytes P all_add,
        bytes_cut_all (cuts P) s,
        at_most (byte_adds P) _ witnessed,
      )

-- ── with head and tail: all that a plan adds ──
abbrev pub plan_pieces : Plan → ℕ
plan_pieces nothing = 0
plan_pieces (clear a b r) = 0
plan_pieces (replace a b t o) = 0
plan_pieces (insert_piece p t left front) = 1
plan_pieces (insert_whole t left front) = 1
plan_pieces (move a b to) = 0

abbrev pub plan_bytes : Plan → ℕ
plan_bytes nothing = 0
plan_bytes (clear a b r) = 0
plan_bytes (replace a b t o) = length t
plan_bytes (insert_piece p t left front) = length t
plan_bytes (insert_whole t left front) = length t
plan_bytes (move a b to) = 0

ends_pieces : (P : Plan) (h t : List Text) → (length (on_head P h) + length (on_tail P t)) + chunk_adds P ≤ (length h + length t) + plan_pieces P
unfolding on_head on_tail
ends_pieces nothing h t = omega arith
ends_pieces (clear a b r) h t = omega arith
ends_pieces (replace a b x o) h t = omega arith
ends_pieces (insert_piece p x left front) h t = omega arith
ends_pieces (insert_whole x true front) h t = omega (arith, push_length front x h)
ends_pieces (insert_whole x false front) h t = omega (arith, push_length front x t)
ends_pieces (move a b to) h t = omega arith

ends_bytes : (P : Plan) (h t : List Text) → (sum length (on_head P h) + sum length (on_tail P t)) + byte_adds P ≤ (sum length h + sum length t) + plan_bytes P
unfolding on_head on_tail
ends_bytes nothing h t = omega arith
ends_bytes (clear a b r) h t = omega arith
ends_bytes (replace a b x o) h t = omega arith
ends_bytes (insert_piece p x left front) h t = omega arith
ends_bytes (insert_whole x true front) h t = omega (arith, push_sum front x h)
ends_bytes (insert_whole x false front) h t = omega (arith, push_sum front x t)
ends_bytes (move a b to) h t = omega arith

pub more_pieces : (n : ℕ) (P : Plan) → WellPlanned n P → (m : MagicString) → Once m.chunks → All Proper m.chunks → piece_count (apply P m) ≤ piece_count m + plan_pieces P
more_pieces n P wl m o pr = omega (arith, chunks_pieces n P wl m.chunks o pr, ends_pieces P m.intro m.outro)

pub more_bytes : (n : ℕ) (P : Plan) → WellPlanned n P → (m : MagicString) → Once m.chunks → All Proper m.chunks → All (Splittable (cuts P)) m.chunks →
    byte_count (apply P m) ≤ byte_count m + plan_bytes P
more_bytes n P wl m o pr s = omega (arith, chunks_bytes n P wl m.chunks o pr s, ends_bytes P m.intro m.outro)

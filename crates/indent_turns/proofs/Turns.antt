-- The turns of the walk: each leads to a place on the same walk, nearer to the end, or ends it.
use mathlib.Core.Path.{◌≡◌, refl, sym, ap, subst}
use mathlib.Core.Bool.{Bool, true, false}
use mathlib.Core.List.{List}
use mathlib.Core.Logic.{◌⊎◌, inl, inr}
use Prim.Native.Nat.{ℕ, ◌+◌, ◌≤◌, ◌<◌}
use native.Mathlib.Omega.{arith}
use lib.ListN.{length}
use Rattle.std.specs.Prelude.{Some, None, Ok, Err}
use Rattle.std.proofs.lemmas.Option.{same_Some}
use Rattle.utf8.specs.Rfc3629.{utf8}
use Rattle.memory_layout.specs.declared.refusal.Refusal.{Refusal}
use Rattle.memory_layout.specs.Refusals.{code}
use Rattle.memory_table.specs.Table.{row_at}
use Rattle.memory_table.specs.Order.{entry_at}
use Rattle.memory_table.specs.Sides.{side}
use Rattle.model.specs.Indent.{indent_frag}
use Rattle.memory.specs.Layout.{bytes_at, piece_at}
use Rattle.memory.proofs.Desks.{tabulate_all}
use Rattle.memory_texts.proofs.Texts.{run_piece, run_tabulate}
use Rattle.indent_head_tail.specs.Run.{RunReady, texts}
use Rattle.indent_head_tail.proofs.Run.{running_none, running_room, running_short, running_more, run_short, run_done}
use Rattle.indent_head_tail.specs.Own.{OwnReady}
use Rattle.indent_head_tail.proofs.Own.{own_run_ready, own_short, own_done}
use Rattle.indent_chunks.specs.Row.{RowDone}
use Rattle.indent_chunks.proofs.Walk.{ChunksIndented}
use Rattle.indent_chunks.proofs.Chunks.{walk_start, walk_row, walk_ready, walk_past, walk_more, walk_end}
use Rattle.indent_turns.specs.declared.Part.{Part}
use Rattle.indent_turns.specs.declared.Part.TheVariants.{Head, Chunks, Tail}
use Rattle.indent_turns.specs.declared.TextAt.{TextAt}
use Rattle.indent_turns.specs.declared.Texted.{Texted}
use Rattle.indent_turns.proofs.Rest.{rest_chunks, tail_ready, rest_tail, rest_done}
use Rattle.indent_turns.specs.Steps.{StepsReady, IndentSteps}
use Rattle.indent_turns.proofs.Steps.{head_ready, steps_head, rest_ready, steps_rest}
use Rattle.indent_turns.specs.Walk.{onward_at, run_from, chunks_from, parts_left, left, RunEnded, PieceReady, PieceDone, ChunkReady, ChunkDone, PartReady, PartTurned}
use Rattle.indent_turns.specs.Walk.{RunAt, Ends, HeadAt, ChunksAt, TailAt, Walking, TurnReady, Turned}
use Rattle.memory_layout.specs.Layout.{ROW, PIECE_ROWS, STORE_LEN}

-- ---- in the head or the tail

module _ {outro : Bool} {indentor pieces store : List ℕ} {Short : Type 0} {Next : List ℕ → List ℕ → List ℕ → Bool → ℕ → Type 0} {at : TextAt Part} {mark : Bool} {t p s : List ℕ}
    (h : RunAt outro indentor pieces store Short Next at mark t p s) where
  ready : RunReady pieces store at.row at.n h.p₀ h.s₀ at.top h.byte₀
  ready = own_run_ready outro indentor h.mark₀ pieces store t h.p₀ h.s₀ at.top h.byte₀ h.own (at.row, at.n) h.run_is

  pub run_narrow : at.top + at.n < 4294967296
  run_narrow = omega (arith, ready.rows, ready.rows_narrow)

  pub run_room : ROW ≤ length t
  run_room = omega (arith, h.own.linked.room)

  module _ (g : at.i < at.n) where
    valid : utf8 (bytes_at store (piece_at pieces (at.row + at.i))) ≡ true
    valid = tabulate_all (λ k. bytes_at store (piece_at pieces (at.row + k))) at.n (rw run_tabulate at ready.valid) at.i g

    pub run_text_ready : PieceReady pieces store p s at
    run_text_ready =
        record {
          inside = g;
          text =
              record {
                inside = run_piece pieces store at.row at.n at.i ready.inside g;
                valid = valid;
                room = running_room indentor h.mark₀ (texts pieces store at.row) h.p₀ h.s₀ h.byte₀ at.top h.run at.n g ready.rows ready.narrow;
              };
        }

    pub run_stops : length s < at.byte + length (indent_frag indentor mark (bytes_at store (piece_at pieces (at.row + at.i)))).text → Short
    run_stops k =
        h.short
        (own_short outro indentor h.mark₀ pieces store t h.p₀ h.s₀ at.top h.byte₀ h.own (at.row, at.n) h.run_is
        (run_short indentor h.mark₀ pieces store at.row at.n h.p₀ h.s₀ h.byte₀ at.top ready
        (running_short indentor h.mark₀ (texts pieces store at.row) h.p₀ h.s₀ h.byte₀ at.top h.run at.n g ready.rows (bytes_at store (piece_at pieces (at.row + at.i))) refl k)))

    pub run_goes_on : {p' s' : List ℕ} {x : Texted} → PieceDone indentor pieces store at mark p s p' s' x → RunAt outro indentor pieces store Short Next (onward_at at at.row at.top x.at.byte at.laid) x.mark t p' s'
    run_goes_on {x = x} d =
        record {
          few = h.few;
          p₀ = h.p₀;
          s₀ = h.s₀;
          mark₀ = h.mark₀;
          byte₀ = h.byte₀;
          own = h.own;
          run_is = h.run_is;
          inside = omega arith;
          run =
              running_more indentor h.mark₀ (texts pieces store at.row) h.p₀ h.s₀ h.byte₀ at.top h.run at.n g ready.rows
              (bytes_at store (piece_at pieces (at.row + at.i))) refl d.text valid x.mark d.mark_is ready.rows_narrow ready.narrow d.rows d.bytes;
          short = h.short;
          next = h.next;
        }

  pub run_finishes : at.i ≡ at.n → {t' : List ℕ} → RunEnded outro at.top t t' → Next t' p s mark at.byte
  run_finishes e {t'} x =
      h.next t' p s mark at.byte
      (own_done outro indentor h.mark₀ pieces store t h.p₀ h.s₀ at.top h.byte₀ h.own (at.row, at.n) h.run_is
      (run_done indentor h.mark₀ pieces store at.row at.n h.p₀ h.s₀ h.byte₀ at.top ready h.run e) t' x.put x.len)

-- ---- among the chunks

module _ {indentor exclude source pieces store t₀ : List ℕ} {at : TextAt Part} {mark : Bool} {t p s : List ℕ} (h : ChunksAt indentor exclude source pieces store t₀ at mark t p s) where
  pub chunk_room : ROW ≤ length t
  chunk_room = omega (arith, h.walk.linked.room)

  module _ (g : at.i < at.n) where
    pub chunk_ready : ChunkReady indentor source store t p s at
    chunk_ready = record { inside = g; room = walk_row h.rest.ready.walk h.walk g; row = walk_ready h.rest.ready.walk h.walk g }

    pub chunk_stops : (t' p' s' : List ℕ) → RowDone indentor exclude source t p s at.row mark at.top at.byte t' p' s' None → Ends indentor exclude source pieces store t₀
    chunk_stops t' p' s' d t2 p2 s2 =
        h.rest.then t2 p2 s2 13
        (rest_chunks indentor exclude source pieces store h.t₁ h.p₁ h.s₁ h.mark₁ h.top₁ h.byte₁ h.rest.ready (walk_past h.rest.ready.walk h.walk g d) t2 p2 s2)

    pub chunk_goes_on : {t' p' s' : List ℕ} {x : Texted} → ChunkDone indentor exclude source at mark t p s t' p' s' x
        → ChunksAt indentor exclude source pieces store t₀ (onward_at at (row_at t at.row).next x.at.top x.at.byte x.at.laid) x.mark t' p' s'
    chunk_goes_on d =
        record {
          part = h.part;
          t₁ = h.t₁;
          p₁ = h.p₁;
          s₁ = h.s₁;
          mark₁ = h.mark₁;
          top₁ = h.top₁;
          byte₁ = h.byte₁;
          rest = h.rest;
          inside = omega arith;
          walk = walk_more h.rest.ready.walk h.walk g d.row (row_at t at.row) refl;
        }

  -- the tail begins
  module _ (e : at.i ≡ at.n) where
    y : ChunksIndented indentor exclude source h.t₁ h.p₁ h.s₁ h.mark₁ h.top₁ h.byte₁ t p s mark at.top at.byte
    y = walk_end h.rest.ready.walk h.walk (omega (arith, e))

    own : OwnReady true pieces store t p s at.top at.byte
    own = tail_ready indentor exclude source pieces store h.t₁ h.p₁ h.s₁ h.mark₁ h.top₁ h.byte₁ h.rest.ready y

    pub tail_begins : TailAt indentor exclude source pieces store t₀ (run_from Tail (side true (entry_at t 0)) at.top at.byte) mark t p s
    tail_begins =
        record {
          part = refl;
          run =
              record {
                few = omega (arith, own.run.rows, h.walk.rows.len, h.rest.ready.long_pieces);
                p₀ = p;
                s₀ = s;
                mark₀ = mark;
                byte₀ = at.byte;
                own = own;
                run_is = refl;
                inside = omega arith;
                run = running_none indentor mark (texts pieces store (side true (entry_at t 0)).0) p s at.byte at.top own.run.byte_in;
                short = λ l t2 p2 s2.
                    h.rest.then t2 p2 s2 13 (rest_tail indentor exclude source pieces store h.t₁ h.p₁ h.s₁ h.mark₁ h.top₁ h.byte₁ h.rest.ready y l t2 p2 s2);
                next = λ t2 p2 s2 mark2 byte2 o.
                    h.rest.then t2 p2 s2 0 (rest_done indentor exclude source pieces store h.t₁ h.p₁ h.s₁ h.mark₁ h.top₁ h.byte₁ h.rest.ready y o);
              };
        }

-- ---- the start

pub head_begins : (indentor exclude source t pieces store p s : List ℕ) → StepsReady source t pieces store p s → (at : TextAt Part)
    → at ≡ run_from Head (side false (entry_at t 0)) PIECE_ROWS STORE_LEN → Walking indentor exclude source pieces store t at true t p s
head_begins indentor exclude source t pieces store p s w at ea =
    let own : OwnReady false pieces store t p s PIECE_ROWS STORE_LEN = head_ready indentor exclude source t pieces store p s w in
    subst (λ (a : TextAt Part). Walking indentor exclude source pieces store t a true t p s) (sym ea)
    (inl (record {
      part = refl;
      run =
          record {
            few = omega (arith, own.run.rows, w.long_pieces);
            p₀ = p;
            s₀ = s;
            mark₀ = true;
            byte₀ = STORE_LEN;
            own = own;
            run_is = refl;
            inside = omega arith;
            run = running_none indentor true (texts pieces store (side false (entry_at t 0)).0) p s STORE_LEN PIECE_ROWS own.run.byte_in;
            short = λ l t2 p2 s2. steps_head indentor exclude source t pieces store p s w l t2 p2 s2;
            next = λ t2 p2 s2 mark2 byte2 o.
                record {
                  ready = rest_ready indentor exclude source t pieces store p s w o _ refl;
                  then = λ t4 p4 s4 r x. steps_rest indentor exclude source t pieces store p s w o x;
                };
          };
    }))

-- the chunks begin
pub chunks_begin : {indentor exclude source pieces store t₀ : List ℕ} {at : TextAt Part} {mark : Bool} {t p s : List ℕ} (h : HeadAt indentor exclude source pieces store t₀ at mark t p s)
    → at.i ≡ at.n → {t' : List ℕ} → RunEnded false at.top t t' → ChunksAt indentor exclude source pieces store t₀ (chunks_from (row_at t' 0) (at.top + at.n) at.byte) mark t' p s
chunks_begin {indentor = indentor} {exclude = exclude} {at = at} {mark = mark} {p = p} {s = s} h e {t'} x =
    let g = run_finishes h.run e x in
    record {
      part = refl;
      t₁ = t';
      p₁ = p;
      s₁ = s;
      mark₁ = mark;
      top₁ = at.top + at.n;
      byte₁ = at.byte;
      rest = g;
      inside = omega arith;
      walk = walk_start indentor exclude mark (row_at t' 0) g.ready.walk refl;
    }

-- ---- a turn

pub no_chunk : {part : Part} → (part ≡ Head) ⊎ (part ≡ Tail) → part ≡ Chunks → ⊥
no_chunk (inl e) k = cc (e, k)
no_chunk (inr e) k = cc (e, k)

module _ {indentor exclude source pieces store t₀ : List ℕ} {at : TextAt Part} {mark : Bool} {t p s : List ℕ} where
  inside : Walking indentor exclude source pieces store t₀ at mark t p s → (at.i ≡ at.n → ⊥) → at.i < at.n
  inside (inl h) ne = omega (arith, h.run.inside, ne)
  inside (inr (inl h)) ne = omega (arith, h.inside, ne)
  inside (inr (inr h)) ne = omega (arith, h.run.inside, ne)

  pub piece_ready : Walking indentor exclude source pieces store t₀ at mark t p s → (at.i ≡ at.n → ⊥) → (at.part ≡ Chunks → ⊥) → PieceReady pieces store p s at
  piece_ready (inl h) ne np = run_text_ready h.run (inside (inl h) ne)
  piece_ready (inr (inl h)) ne np = absurd (np h.part)
  piece_ready (inr (inr h)) ne np = run_text_ready h.run (inside (inr (inr h)) ne)

  pub chunk_turn_ready : Walking indentor exclude source pieces store t₀ at mark t p s → (at.i ≡ at.n → ⊥) → at.part ≡ Chunks → ChunkReady indentor source store t p s at
  chunk_turn_ready (inl h) ne e = cc (h.part, e)
  chunk_turn_ready (inr (inl h)) ne e = chunk_ready h (inside (inr (inl h)) ne)
  chunk_turn_ready (inr (inr h)) ne e = cc (h.part, e)

  pub part_ready : Walking indentor exclude source pieces store t₀ at mark t p s → PartReady t at
  part_ready (inl h) = record { room = run_room h.run; narrow = λ _. run_narrow h.run }
  part_ready (inr (inl h)) = record { room = chunk_room h; narrow = λ e. cc (h.part, e) }
  part_ready (inr (inr h)) = record { room = run_room h.run; narrow = λ e. cc (h.part, e) }

module _ {indentor exclude source pieces store t₀ : List ℕ} where
  -- the place by another name
  named : {at at' : TextAt Part} {mark : Bool} {t p s : List ℕ} → at' ≡ at → Walking indentor exclude source pieces store t₀ at mark t p s → Walking indentor exclude source pieces store t₀ at' mark t p s
  named {mark = mark} {t} {p} {s} e w = subst (λ (a : TextAt Part). Walking indentor exclude source pieces store t₀ a mark t p s) (sym e) w

  -- 13 ends the walk
  stopped : (e : Refusal) (t p s : List ℕ) → code e ≡ 13 → Ends indentor exclude source pieces store t₀ → IndentSteps indentor exclude source t₀ pieces store t p s (code e)
  stopped e t p s z d = subst (IndentSteps indentor exclude source t₀ pieces store t p s) (sym z) (d t p s)

  module _ {at : TextAt Part} {mark : Bool} {t p s : List ℕ} where
    next_piece : Walking indentor exclude source pieces store t₀ at mark t p s → at.i < at.n → (at.part ≡ Chunks → ⊥) → {p' s' : List ℕ} {x : Texted} → PieceDone indentor pieces store at mark p s p' s' x
        → Walking indentor exclude source pieces store t₀ x.at x.mark t p' s'
    next_piece (inl h) g np d = named d.at_is (inl (record { part = h.part; run = run_goes_on h.run g d }))
    next_piece (inr (inl h)) g np d = absurd (np h.part)
    next_piece (inr (inr h)) g np d = named d.at_is (inr (inr (record { part = h.part; run = run_goes_on h.run g d })))

    piece_stops : Walking indentor exclude source pieces store t₀ at mark t p s → at.i < at.n → (at.part ≡ Chunks → ⊥)
        → length s < at.byte + length (indent_frag indentor mark (bytes_at store (piece_at pieces (at.row + at.i)))).text → Ends indentor exclude source pieces store t₀
    piece_stops (inl h) g np l = run_stops h.run g l
    piece_stops (inr (inl h)) g np l = absurd (np h.part)
    piece_stops (inr (inr h)) g np l = run_stops h.run g l

    next_chunk : Walking indentor exclude source pieces store t₀ at mark t p s → at.i < at.n → at.part ≡ Chunks → {t' p' s' : List ℕ} {x : Texted} → ChunkDone indentor exclude source at mark t p s t' p' s' x
        → Walking indentor exclude source pieces store t₀ x.at x.mark t' p' s'
    next_chunk (inl h) g e d = cc (h.part, e)
    next_chunk (inr (inl h)) g e d = named d.at_is (inr (inl (chunk_goes_on h g d)))
    next_chunk (inr (inr h)) g e d = cc (h.part, e)

    chunks_stop : Walking indentor exclude source pieces store t₀ at mark t p s → at.i < at.n → at.part ≡ Chunks → (t' p' s' : List ℕ)
        → RowDone indentor exclude source t p s at.row mark at.top at.byte t' p' s' None → Ends indentor exclude source pieces store t₀
    chunks_stop (inl h) g e t' p' s' d = cc (h.part, e)
    chunks_stop (inr (inl h)) g e t' p' s' d = chunk_stops h g t' p' s' d
    chunks_stop (inr (inr h)) g e t' p' s' d = cc (h.part, e)

    next_part : Walking indentor exclude source pieces store t₀ at mark t p s → at.i ≡ at.n → {t' : List ℕ} {at' : TextAt Part} → PartTurned at t t' (Some at')
        → Walking indentor exclude source pieces store t₀ at' mark t' p s
    next_part (inl h) e x = let y = x.chunks h.part in named (same_Some _ _ y.1) (inr (inl (chunks_begin h e y.0)))
    next_part (inr (inl h)) e {t'} {at'} x =
        let y = x.tail h.part in
        subst (λ (z : List ℕ). Walking indentor exclude source pieces store t₀ at' mark z p s) (sym y.0) (named (same_Some _ _ y.1) (inr (inr (tail_begins h e))))
    next_part (inr (inr h)) e x = let y = (x.end h.part).1 in cc y

    last_part : Walking indentor exclude source pieces store t₀ at mark t p s → at.i ≡ at.n → {t' : List ℕ} → PartTurned at t t' None → IndentSteps indentor exclude source t₀ pieces store t' p s 0
    last_part (inl h) e x = let y = (x.chunks h.part).1 in cc y
    last_part (inr (inl h)) e x = let y = (x.tail h.part).1 in cc y
    last_part (inr (inr h)) e x = run_finishes h.run e (x.end h.part).0

    -- a part that begins is not long
    part_less : Walking indentor exclude source pieces store t₀ at mark t p s → at.i ≡ at.n → {t' : List ℕ} {at' : TextAt Part} → PartTurned at t t' (Some at') → left at' < left at
    part_less (inl h) e x =
        let y = x.chunks h.part in
        let g = chunks_begin h e y.0 in
        omega (arith, ap parts_left h.part, ap left (same_Some _ _ y.1), g.rest.ready.walk.few, g.walk.size)
    part_less (inr (inl h)) e x = let y = x.tail h.part in omega (arith, ap parts_left h.part, ap left (same_Some _ _ y.1), (tail_begins h e).run.few)
    part_less (inr (inr h)) e x = let y = (x.end h.part).1 in cc y

module _ {indentor exclude source pieces store : List ℕ} {at : TextAt Part} {mark : Bool} {t p s : List ℕ} (w : TurnReady indentor exclude source pieces store at mark t p s) where
  pub turned_part : at.i ≡ at.n → {t' : List ℕ} {at' : TextAt Part} → PartTurned at t t' (Some at') → Turned indentor exclude source pieces store at mark t p s (Ok (Some (record { at = at'; mark = mark }))) t' p s
  turned_part e x = record { next = λ t₀ h. next_part h e x; less = part_less w.walking e x }

  pub turned_last : at.i ≡ at.n → {t' : List ℕ} → PartTurned at t t' None → Turned indentor exclude source pieces store at mark t p s (Ok None) t' p s
  turned_last e x = record { next = λ t₀ h. last_part h e x; less = tt }

  module _ (ne : at.i ≡ at.n → ⊥) where
    g : at.i < at.n
    g = inside w.walking ne

    module _ (np : at.part ≡ Chunks → ⊥) where
      pub turned_piece : {p' s' : List ℕ} {x : Texted} → PieceDone indentor pieces store at mark p s p' s' x → Turned indentor exclude source pieces store at mark t p s (Ok (Some x)) t p' s'
      turned_piece d = record { next = λ t₀ h. next_piece h g np d; less = omega (arith, ap left d.at_is, g) }

      pub stopped_piece : (p' s' : List ℕ) {e : Refusal} → (code e ≡ 13) × (length s < at.byte + length (indent_frag indentor mark (bytes_at store (piece_at pieces (at.row + at.i)))).text)
          → Turned indentor exclude source pieces store at mark t p s (Err e) t p' s'
      stopped_piece p' s' {e} d = record { next = λ t₀ h. stopped e t p' s' d.0 (piece_stops h g np d.1); less = tt }

    module _ (e : at.part ≡ Chunks) where
      pub turned_chunk : {t' p' s' : List ℕ} {x : Texted} → ChunkDone indentor exclude source at mark t p s t' p' s' x → Turned indentor exclude source pieces store at mark t p s (Ok (Some x)) t' p' s'
      turned_chunk d = record { next = λ t₀ h. next_chunk h g e d; less = omega (arith, ap left d.at_is, g) }

      pub stopped_chunk : (t' p' s' : List ℕ) {r : Refusal} → (code r ≡ 13) × RowDone indentor exclude source t p s at.row mark at.top at.byte t' p' s' None
          → Turned indentor exclude source pieces store at mark t p s (Err r) t' p' s'
      stopped_chunk t' p' s' {r} d = record { next = λ t₀ h. stopped r t' p' s' d.0 (chunks_stop h g e t' p' s' d.1); less = tt }

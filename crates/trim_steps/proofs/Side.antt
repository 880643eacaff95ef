-- Laws of what `Side` in specs/ defines.
use mathlib.Core.Path.{◌≡◌, refl, sym, ap, ap₂, ◌∙◌, subst}
use mathlib.Core.Bool.{Bool, true, false}
use mathlib.Core.List.{List, [], ◌∷◌, map}
use Prim.Native.Nat.{ℕ, zero, suc, ◌+◌, ◌*◌, ◌≤◌, ◌<◌}
use native.Mathlib.Omega.{arith}
use lib.ListN.{length}
use Rattle.memory_layout.specs.Layout.{TRIM_STORE_LEN}
use Rattle.utf8.specs.Chars.{All, nil, cons}
use Rattle.memory_table.specs.declared.Row.{Row}
use Rattle.memory_table.specs.Ring.{Each}
use Rattle.memory_table.specs.Table.{row_at, Put}
use Rattle.memory_table.specs.Order.{Entry, entry_of, entry_at, entries, order, count_of, Linked}
use Rattle.memory_table.proofs.Order.{write_keeps}
use Rattle.model.specs.Text.{Text, sum, all}
use Rattle.model.proofs.Lists.{sum_part}
use Rattle.model.specs.Chunk.{Chunk}
use Rattle.model.specs.MagicString.{MagicString}
use Rattle.model.specs.Limits.{chunk_pieces}
use Rattle.model.specs.Trim.{trim_chunks}
use Rattle.model.specs.WellFormed.{Valid, ValidTexts}
use Rattle.memory.specs.Layout.{Place, run_of, chunk_of, magic_string_of}
use Rattle.memory.proofs.Desks.{no_run, desk_same}
use Rattle.memory_texts.proofs.Texts.{run_length}
use Rattle.memory_used.specs.Below.{Below}
use Rattle.model_preservation.proofs.Spans.{Inside, spans_inside}
use Rattle.model_preservation.proofs.Trim.{content_valid}
use Rattle.trim_text.specs.Sides.{blank}
use Rattle.trim_run.specs.Deque.{trim_deque}
use Rattle.trim_run.proofs.Deque.{all_nil_deque}
use Rattle.memory_texts.specs.Low.{RowsKept, RunsLow, EntryLow}
use Rattle.memory_texts.proofs.Low.{rows_same, bytes_same, run_in, entry_in, run_same, run_still, entries_same, entries_still}
use Rattle.trim_run.specs.Run.{RunReady, RowRoom, RunTrimmed}
use Rattle.trim_chunk.specs.Sides.{trim_chunk}
use Rattle.trim_chunk.specs.Plain.{plain_bytes, plain_of}
use Rattle.trim_chunk.proofs.Plain.{plain_rows}
use Rattle.trim_chunk.specs.RunEnds.{RunsTo, RunsBehind}
use Rattle.trim_chunk.proofs.RunEnds.{runs_to, runs_low}
use Rattle.trim_chunk.specs.Row.{near_of, far_of, with_side_places, Rewritten, RowReady, RowFits, pieces_of}
use Rattle.trim_chunk.proofs.Row.{sides_start, run_at}
use Rattle.trim_chunk.proofs.Uses.{no_more_none, no_more_trimmed}
use Rattle.trim_chunks.specs.Sums.{way}
use Rattle.trim_chunks.specs.Walk.{ReadyAt, ChunksReady, ChunksTrimmed, chunk_row_count}
use Rattle.trim_steps.proofs.Apart.{own_apart, chunks_apart}
use Rattle.trim_steps.proofs.Model.{near_pieces, with_near, side_stops, side_goes_on}
use Rattle.trim_steps.specs.Side.{SideReady, SideTrimmed, OwnReady, OwnTrimmed}

-- ---- row 0

-- a write to row 0 that keeps its links and its count keeps every chunk
module _ (t t' : List ℕ) (l : Linked t) (r : Row) (u : Put t t' 0 r) (nx : r.next ≡ (row_at t 0).next) (pv : r.prev ≡ (row_at t 0).prev) (st : r.start ≡ (row_at t 0).start)
    (m : length t' ≡ length t) where
  map_each : (xs : List ℕ) → Each (λ x. (0 < x) × (x ≤ count_of t)) xs → map (entry_at t') xs ≡ map (entry_at t) xs
  map_each [] h = refl
  map_each (x ∷ xs) h = ap₂ (λ (e : Entry) (es : List Entry). e ∷ es) (ap entry_of (u.off x (λ z. omega (arith, h.0.0)))) (map_each xs h.1)

  own_kept : Linked t' × (entries t' ≡ entries t)
  unfolding order
  own_kept =
      let o = write_keeps t t' 0 r u nx pv (λ _. st) m l in
      (o.1, ap (map (entry_at t')) o.0 ∙ map_each (order t) l.ring.inside)

module _ (front : Bool) (pattern : ℕ) (p s : List ℕ) (top : ℕ) (t : List ℕ) (h : OwnReady front p s top t) (z : Row) (ez : z ≡ row_at t 0) (q : Place) (eq : q ≡ near_of front (entry_of z)) where
  near_is : q ≡ near_of front (entry_at t 0)
  near_is = eq ∙ ap (λ (r : Row). near_of front (entry_of r)) ez

  pub own_run : RunReady p s q
  own_run = subst (RunReady p s) (sym near_is) h.run

  pub own_room : all (blank pattern) (run_of p s q) ≡ false → RowRoom p s q.0 q.1 top
  own_room b = subst (λ (r : Place). RowRoom p s r.0 r.1 top) (sym near_is) (go (near_of front (entry_at t 0)).1 refl)
    where
      go : (k : ℕ) → (near_of front (entry_at t 0)).1 ≡ k → RowRoom p s (near_of front (entry_at t 0)).0 (near_of front (entry_at t 0)).1 top
      go zero e =
          let w : all (blank pattern) (run_of p s (near_of front (entry_at t 0))) ≡ true =
          ap (λ (x : ℕ). all (blank pattern) (run_of p s ((near_of front (entry_at t 0)).0, x))) e ∙ ap (all (blank pattern)) (no_run p s (near_of front (entry_at t 0)).0) in
          let v : all (blank pattern) (run_of p s (near_of front (entry_at t 0))) ≡ false = ap (λ (x : Place). all (blank pattern) (run_of p s x)) (sym near_is) ∙ b in
          let y : ◌≡◌ {A = ℕ} 0 1 = cc in absurd (omega arith)
      go (suc k) e = record { below = omega (arith, h.below k (omega arith)); room = omega (arith, h.rows); narrow = h.narrow; narrow_store = omega (arith, h.small) }

  module _ (r : Row) (n : Place) (w : Rewritten z r (with_side_places front (entry_of z) n (far_of front (entry_of z)) (entry_of z).text)) (t' : List ℕ) (u : Put t t' 0 r) (m : length t' ≡ length t) where
    kept : Linked t' × (entries t' ≡ entries t)
    kept =
        own_kept t t' h.linked r u (w.next ∙ ap (λ (x : Row). x.next) ez) (w.prev ∙ ap (λ (x : Row). x.prev) ez)
        (ap (λ (e : Entry). e.start) w.entry_is ∙ sides_start front (entry_of z) n (far_of front (entry_of z)) (entry_of z).text ∙ ap (λ (x : Row). x.start) ez) m

    row_is : entry_at t' 0 ≡ with_side_places front (entry_at t 0) n (far_of front (entry_at t 0)) (entry_at t 0).text
    row_is = ap entry_of u.at ∙ w.entry_is ∙ ap (λ (x : Row). with_side_places front (entry_of x) n (far_of front (entry_of x)) (entry_of x).text) ez

  -- nothing is left
  pub own_gone : (r : Row) → Rewritten z r (with_side_places front (entry_of z) (0, 0) (far_of front (entry_of z)) (entry_of z).text) → (t' : List ℕ) → Put t t' 0 r → length t' ≡ length t
      → all (blank pattern) (run_of p s q) ≡ true → OwnTrimmed front pattern p s top t p t' true
  own_gone r w t' u m b =
      let k = kept r (0, 0) w t' u m in
      let e : all (blank pattern) (run_of p s (near_of front (entry_at t 0))) ≡ true = ap (λ (x : Place). all (blank pattern) (run_of p s x)) (sym near_is) ∙ b in
      record {
        linked = k.0;
        len = m;
        entries_are = k.1;
        near = (0, 0);
        row = row_is r (0, 0) w t' u m;
        rows = rows_same top p;
        text = no_run p s 0 ∙ sym (all_nil_deque front pattern (run_of p s (near_of front (entry_at t 0))) e);
        low = λ byte g j i. absurd (omega arith);
        no_more = no_more_none p p top (0, 0) (near_of front (entry_at t 0)) refl;
        gone_is = sym e;
        same = λ _. refl;
      }

  -- something is left
  pub own_left : (p' : List ℕ) (n : Place) → RunTrimmed front pattern p s q.0 q.1 top p' n → (r : Row) → Rewritten z r (with_side_places front (entry_of z) n (far_of front (entry_of z)) (entry_of z).text)
      → (t' : List ℕ) → Put t t' 0 r → length t' ≡ length t → all (blank pattern) (run_of p s q) ≡ false → OwnTrimmed front pattern p s top t p' t' false
  own_left p' n d₀ r w t' u m b =
      let k = kept r n w t' u m in
      let d = run_at front pattern p s top p' n near_is d₀ in
      record {
        linked = k.0;
        len = m;
        entries_are = k.1;
        near = n;
        row = row_is r n w t' u m;
        rows = d.kept;
        text = d.text;
        low = d.low;
        no_more = no_more_trimmed p p' top front pattern s (near_of front (entry_at t 0)) n d;
        gone_is = sym (ap (λ (x : Place). all (blank pattern) (run_of p s x)) (sym near_is) ∙ b);
        same = λ e. let y : ◌≡◌ {A = ℕ} 0 1 = cc in absurd (omega arith);
      }

-- ---- the chunk rows are ready

-- pieces by their rows
rows_pieces : (p s : List ℕ) (es : List Entry) → sum chunk_pieces (map (chunk_of p s) es) ≡ sum pieces_of es
rows_pieces p s [] = refl
rows_pieces p s (e ∷ es) = omega (arith, run_length p s e.intro.0 e.intro.1, run_length p s e.outro.0 e.outro.1, rows_pieces p s es)

module _ (source p s : List ℕ) (top byte : ℕ) where
  Fit : ℕ → Entry → Type 0
  Fit wide e = RowReady source p s e × (RowFits p s top byte e × (pieces_of e ≤ wide))

  module _ (wide plain : ℕ) (v : Valid source) (rows : (top + wide) * 2 ≤ length p) (narrow : length p ≤ 4294967296) (bytes : byte + plain ≤ length s) (small : length s ≤ TRIM_STORE_LEN) where
    fit_one : (e : Entry) → EntryLow p top byte e → Inside source (chunk_of p s e) → ValidTexts (chunk_of p s e).texts → pieces_of e ≤ wide → plain_of e ≤ plain → Fit wide e
    unfolding Fit
    fit_one e l i t n q = (
      record {
        entry = entry_in p s top byte (omega arith) (omega arith) e l;
        span = record { ordered = i.ordered; inside = i.inside };
        texts = t;
        content_valid = content_valid source (chunk_of p s e) v i t;
      },
      (record { low = l; rows = omega arith; narrow = narrow; bytes = omega arith; small = small }, n),
    )

    fit_all : (es : List Entry) → All (EntryLow p top byte) es → All (Inside source) (map (chunk_of p s) es) → All (λ c. ValidTexts c.texts) (map (chunk_of p s) es)
        → All (λ e. pieces_of e ≤ wide) es → All (λ e. plain_of e ≤ plain) es → All (Fit wide) es
    fit_all [] l i t n q = nil
    fit_all (e ∷ es) (cons l ls) (cons i is) (cons t ts) (cons n ns) (cons q qs) = cons (fit_one e l i t n q) (fit_all es ls is ts ns qs)

  each_of : (wide : ℕ) (t : List ℕ) (xs : List ℕ) → All (Fit wide) (map (entry_at t) xs) → Each (ReadyAt source p s top wide byte t) xs
  unfolding Fit
  each_of wide t [] h = tt
  each_of wide t (x ∷ xs) (cons h k) = (h, each_of wide t xs k)

  fit_desk : (t : List ℕ) (wide : ℕ) → SideReady source t p s top wide byte → All (Fit (chunk_row_count t)) (entries t)
  unfolding magic_string_of
  fit_desk t wide h =
      let a = rows_pieces p s (entries t) in
      let b = plain_rows p s (entries t) in
      fit_all (chunk_row_count t) (sum plain_of (entries t)) h.formed.source (omega (arith, a, h.few, h.rows)) h.narrow (omega (arith, b, h.bytes)) h.small (entries t) h.low.chunks
      (spans_inside source (map (chunk_of p s) (entries t)) h.formed.covered) h.formed.texts (sum_part pieces_of (entries t)) (sum_part plain_of (entries t))

-- ---- one side

module _ (front : Bool) (pattern : ℕ) (source t p s : List ℕ) (top wide byte : ℕ) (h : SideReady source t p s top wide byte) where
  abbrev m : MagicString
  m = magic_string_of source t p s

  near_below : (f : Bool) → Below p byte top (near_of f (entry_at t 0))
  near_below true = h.low.desk.intro
  near_below false = h.low.desk.outro

  far_below : (f : Bool) → Below p byte top (far_of f (entry_at t 0))
  far_below true = h.low.desk.outro
  far_below false = h.low.desk.intro

  near_valid : (f : Bool) → All Valid (run_of p s (near_of f (entry_at t 0)))
  unfolding magic_string_of
  near_valid true = h.formed.intro
  near_valid false = h.formed.outro

  near_few : (f : Bool) → (near_of f (entry_at t 0)).1 ≤ wide
  unfolding magic_string_of
  near_few true = omega (arith, h.few, run_length p s (entry_at t 0).intro.0 (entry_at t 0).intro.1)
  near_few false = omega (arith, h.few, run_length p s (entry_at t 0).outro.0 (entry_at t 0).outro.1)

  near_desk : (f : Bool) → near_pieces f m ≡ run_of p s (near_of f (entry_at t 0))
  unfolding magic_string_of
  near_desk true = refl
  near_desk false = refl

  pub own_ready : OwnReady front p s top t
  own_ready =
      record {
        linked = h.low.linked;
        run = record { inside = run_in p s top byte (omega (arith, h.rows)) (omega (arith, h.bytes)) (near_of front (entry_at t 0)) (near_below front); valid = near_valid front };
        below = λ k g. (near_below front k g).0;
        rows = omega (arith, near_few front, h.rows);
        narrow = h.narrow;
        small = h.small;
      }

  -- the desk with another head or tail and other chunks
  desk_with : (f : Bool) (t' p' s' : List ℕ) (n x : Place) (N : List Text) (C : List Chunk) → entry_at t' 0 ≡ with_side_places f (entry_at t 0) n (far_of f (entry_at t 0)) x → run_of p' s' n ≡ N
      → run_of p' s' (far_of f (entry_at t 0)) ≡ run_of p s (far_of f (entry_at t 0)) → map (chunk_of p' s') (entries t') ≡ C → magic_string_of source t' p' s' ≡ with_near f m N C
  unfolding magic_string_of
  desk_with true t' p' s' n x N C e a b d = desk_same source (ap (λ (y : Entry). run_of p' s' y.intro) e ∙ a) (ap (λ (y : Entry). run_of p' s' y.outro) e ∙ b) d
  desk_with false t' p' s' n x N C e a b d = desk_same source (ap (λ (y : Entry). run_of p' s' y.intro) e ∙ b) (ap (λ (y : Entry). run_of p' s' y.outro) e ∙ a) d

  desk_low : (f : Bool) (t' p' : List ℕ) (a b : ℕ) (n x : Place) → entry_at t' 0 ≡ with_side_places f (entry_at t 0) n (far_of f (entry_at t 0)) x → Below p' b a n → Below p' b a (far_of f (entry_at t 0))
      → RunsLow p' a b (entry_at t' 0)
  desk_low true t' p' a b n x e i j = subst (RunsLow p' a b) (sym e) (record { intro = i; outro = j })
  desk_low false t' p' a b n x e i j = subst (RunsLow p' a b) (sym e) (record { intro = j; outro = i })

  chunks_are : m.chunks ≡ map (chunk_of p s) (entries t)
  unfolding magic_string_of
  chunks_are = refl

  -- plain bytes and pieces, by the rows
  plain_desk : (t' p' s' : List ℕ) → plain_bytes (magic_string_of source t' p' s') ≡ sum plain_of (entries t')
  unfolding magic_string_of
  plain_desk t' p' s' = plain_rows p' s' (entries t')

  chunks_few : chunk_row_count t ≤ wide
  unfolding magic_string_of
  chunks_few = omega (arith, rows_pieces p s (entries t), h.few)

  source_is : m.source ≡ source
  unfolding magic_string_of
  source_is = refl

  module _ (t1 p1 : List ℕ) (gone : Bool) (d : OwnTrimmed front pattern p s top t p1 t1 gone) where
    far_still : (p2 : List ℕ) → RowsKept top p p2 → (row : ℕ) → top ≤ row → (b : ℕ) → byte ≤ b → Below p2 b row (far_of front (entry_at t 0))
    far_still p2 k row kr b kb = run_still top byte p p2 k row b kr kb (far_of front (entry_at t 0)) (far_below front)

    near_still : Below p1 byte (top + wide) d.near
    near_still j i = (omega (arith, (d.low byte (near_below front) j i).0, near_few front), (d.low byte (near_below front) j i).1)

    own_low : RunsLow p1 (top + wide) byte (entry_at t1 0)
    own_low = desk_low front t1 p1 (top + wide) byte d.near _ d.row near_still (far_still p1 d.rows (top + wide) (omega arith) byte (omega arith))

    pub own_short : RunsTo 4294967295 (entry_at t1 0)
    own_short = runs_to p1 byte (top + wide) (entry_at t1 0) own_low 4294967295 (omega (arith, h.rows, h.narrow))

    -- the trim stops there
    pub own_stops : gone ≡ false → (row : ℕ) → RunsBehind top (entry_at t1 0) row → SideTrimmed front pattern source t p s top wide byte t1 p1 s row byte
    own_stops g row e =
        let b : all (blank pattern) (near_pieces front m) ≡ false = ap (all (blank pattern)) (near_desk front) ∙ sym d.gone_is ∙ g in
        record {
          low = record {
            linked = d.linked;
            desk = runs_low p1 byte (top + wide) (entry_at t1 0) own_low row e.runs;
            chunks = subst (All (EntryLow p1 row byte)) (sym d.entries_are) (entries_still top byte p p1 d.rows row byte e.least (omega arith) h.low.chunks);
          };
          most = e.most (top + wide) (omega arith) (runs_to p1 byte (top + wide) (entry_at t1 0) own_low (top + wide) (omega arith));
          desk =
              desk_with front t1 p1 s d.near _ (trim_deque front pattern (near_pieces front m)) m.chunks d.row (d.text ∙ ap (trim_deque front pattern) (sym (near_desk front)))
              (run_same top byte p s p1 s d.rows (bytes_same byte s) (far_of front (entry_at t 0)) (far_below front))
              (ap (map (chunk_of p1 s)) d.entries_are ∙ entries_same top byte p s p1 s d.rows (bytes_same byte s) h.low.chunks ∙ sym chunks_are)
              ∙ sym (side_stops front pattern m b);
          least = omega arith;
          spent = omega (arith, plain_desk t p s, plain_desk t1 p1 s, ap (sum plain_of) d.entries_are);
          len = d.len;
          pieces = d.rows.len;
          store = refl;
          apart = λ k. own_apart front t t1 p p1 top byte d.near _ h.low d.rows d.no_more d.row k d.entries_are;
        }

    -- the chunks are next
    pub chunks_ready : gone ≡ true → ChunksReady source p1 s top (chunk_row_count t1) byte t1
    unfolding Fit
    chunks_ready g =
        subst (λ (x : List ℕ). ChunksReady source x s top (chunk_row_count t1) byte t1) (sym (d.same g))
        (record {
          linked = d.linked;
          each = each_of source p s top byte (chunk_row_count t1) t1 (order t1) (subst (λ (es : List Entry). All (Fit source p s top byte (sum pieces_of es)) es)
              (sym d.entries_are) (fit_desk source p s top byte t wide h));
        })

    pub own_goes_on : gone ≡ true → (t2 p2 s2 : List ℕ) (row b : ℕ) → ChunksTrimmed front pattern source p1 s top (chunk_row_count t1) byte t1 p2 s2 t2 row b
        → SideTrimmed front pattern source t p s top wide byte t2 p2 s2 row b
    own_goes_on g t2 p2 s2 row b c₀ =
        let c = subst (λ (x : List ℕ). ChunksTrimmed front pattern source x s top (chunk_row_count t1) byte t1 p2 s2 t2 row b) (d.same g) c₀ in
        let f : all (blank pattern) (run_of p s (near_of front (entry_at t 0))) ≡ true = sym d.gone_is ∙ g in
        let few : chunk_row_count t1 ≤ wide = omega (arith, ap (sum pieces_of) d.entries_are, chunks_few) in
        let e : entry_at t2 0 ≡ with_side_places front (entry_at t 0) d.near (far_of front (entry_at t 0)) (entry_at t 0).text = ap entry_of c.desk ∙ d.row in
        let nil-text : run_of p s d.near ≡ [] = ap (λ (x : List ℕ). run_of x s d.near) (sym (d.same g)) ∙ d.text ∙ all_nil_deque front pattern (run_of p s (near_of front (entry_at t 0))) f in
        let zero-n : d.near.1 ≡ 0 = sym (run_length p s d.near.0 d.near.1) ∙ ap length nil-text in
        record {
          low = record {
            linked = c.linked;
            desk = desk_low front t2 p2 row b d.near _ e (λ j i. absurd (omega arith)) (far_still p2 c.rows row c.first b c.least);
            chunks = c.low;
          };
          most = omega (arith, c.most, few);
          desk =
              desk_with front t2 p2 s2 d.near _ [] (way front (trim_chunks (trim_chunk front pattern m.source) (way front m.chunks))) e
              (none_text p2 s2 d.near zero-n)
              (run_same top byte p s p2 s2 c.rows c.bytes (far_of front (entry_at t 0)) (far_below front))
              (c.chunks
              ∙ ap (λ (es : List Entry). way front (trim_chunks (trim_chunk front pattern source) (way front (map (chunk_of p s) es)))) d.entries_are
              ∙ ap₂ (λ (x : Text) (cs : List Chunk). way front (trim_chunks (trim_chunk front pattern x) (way front cs))) (sym source_is) (sym chunks_are))
              ∙ sym (side_goes_on front pattern m (ap (all (blank pattern)) (near_desk front) ∙ f));
          least = c.least;
          spent = omega (arith, plain_desk t p s, plain_desk t2 p2 s2, ap (sum plain_of) d.entries_are, c.spent);
          len = c.len ∙ d.len;
          pieces = c.rows.len;
          store = c.bytes.len;
          apart = λ k.
              chunks_apart front t t2 p p2 top byte d.near _ h.low c.rows (no_more_none p p2 top d.near (near_of front (entry_at t 0)) zero-n) e k zero-n t1 d.entries_are c.apart;
        }
      where
        none_text : (p' s' : List ℕ) (n : Place) → n.1 ≡ 0 → run_of p' s' n ≡ []
        none_text p' s' n z = ap (λ (k : ℕ). run_of p' s' (n.0, k)) z ∙ no_run p' s' n.0

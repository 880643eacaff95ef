-- update.rs: `update_with`, with `keep_original` false.
use Rattle.std.specs.Prelude.{ℕ, Bool, true, false, cond, List, [], ◌∷◌, ltb, eqb, length}
use Rattle.model.specs.Text.{Text}
use Rattle.model.specs.Chunk.{Chunk, with_texts, start_of, end_of, edit}
use Rattle.model.specs.MagicString.{MagicString, Result, ok, err, and_then, with_chunks, split_at}
use Rattle.model.specs.Frozen.{Guard, unless_guarded}

-- the chunks that a walk leaves, and whether it came to the end of the range
pub record Walk : Type 0 where
  pub done : Bool
  pub chunks : List Chunk

abbrev pub onto : Chunk → Walk → Walk
onto c w = record { done = w.done; chunks = c ∷ w.chunks }

-- the loop: behind a chunk that ends at `at`. If that is `end` the walk is done (so it is at once where the first chunk is the whole range); else the next chunk of the
-- list must start there, and it is cleared as it is passed. At a gap, or the list's end, the chunks cleared so far stay cleared
abbrev pub clear_run : ℕ → ℕ → List Chunk → Walk
clear_run at end [] = record { done = eqb at end; chunks = [] }
clear_run at end (c ∷ cs) =
    let r : Walk = onto (with_texts (edit [] true) c) (clear_run (end_of c) end cs) in
    cond (eqb at end) (record { done = true; chunks = c ∷ cs })
    (cond (eqb (start_of c) at) r (record { done = false; chunks = c ∷ cs }))

-- from the chunk that starts at `start` along the list; that first chunk is edited last, and only if the walk came through
abbrev pub update_walk : ℕ → ℕ → Text → Bool → List Chunk → Walk
update_walk start end t overwrite [] = record { done = false; chunks = [] }  -- cannot arise: after the cuts a chunk starts at `start`
update_walk start end t overwrite (c ∷ cs) =
    let r : Walk = clear_run (end_of c) end cs in
    let there : Walk = onto c (update_walk start end t overwrite cs) in
    cond (eqb (start_of c) start) (onto (cond r.done (with_texts (edit t overwrite) c) c) r) there

-- 7 where the list order breaks the range
unfoldable pub update_chunks : ℕ → ℕ → Text → Bool → MagicString → Result
update_chunks start end t overwrite m =
    let w : Walk = update_walk start end t overwrite m.chunks in
    cond w.done (ok (with_chunks m w.chunks)) (err 7 (with_chunks m w.chunks))

-- `update_with`: 5, 4, cut start, cut end, 10 (where the Rust panics), 20, then the walk
unfoldable pub update_with : Guard → ℕ → ℕ → Text → Bool → MagicString → Result
update_with g start end t overwrite m =
    cond (eqb start end) (err 5 m)
    (cond (ltb end start) (err 4 m)
    (and_then (split_at start m) λ m. and_then (split_at end m) λ m.
    cond (ltb (length m.source) end) (err 10 m)
    (unless_guarded g start end m (update_chunks start end t overwrite m))))

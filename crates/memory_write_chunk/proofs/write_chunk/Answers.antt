-- the three parts, and that there is room for them
use mathlib.Core.Path.{ap}
use mathlib.Core.List.{List, ◌++◌}
use Prim.Native.Nat.{ℕ, ◌+◌, ◌-◌, ◌≤◌}
use native.Mathlib.Omega.{arith}
use lib.ListN.{length-take, length-drop, length-append, length, take, drop}
use Rattle.utf8.specs.Chars.{concat}
use Rattle.memory_table.specs.Order.{Entry, entry_of}
use Rattle.memory.specs.Layout.{run_of}
use Rattle.memory_texts.specs.Over.{Wrote}
use Rattle.memory_texts.specs.Texts.{content_at, text_of_chunk}
use Rattle.memory_texts.proofs.Texts.{chunk_text}
use Rattle.memory_texts.proofs.Over.{put_back, wrote_then, wrote_same}
use Rattle.memory_write_chunk.proofs.write_chunk.Goals as goal
use Rattle.memory_write_chunk.proofs.write_chunk.Goals.{After-content-t, After-put}

abbrev intro : List ℕ → List ℕ → Entry → List ℕ
intro p s e = concat (run_of p s e.intro)

abbrev middle : List ℕ → List ℕ → Entry → List ℕ
middle source s e = content_at source s e.start e.end e.text

abbrev outro : List ℕ → List ℕ → Entry → List ℕ
outro p s e = concat (run_of p s e.outro)

fit : (source p s : List ℕ) (e : Entry) (o n : ℕ) → o + length (text_of_chunk source p s e) ≤ n
    → o + (length (intro p s e) + (length (middle source s e) + length (outro p s e))) ≤ n
fit source p s e o n h =
    let w : o + length (intro p s e ++ (middle source s e ++ outro p s e)) ≤ n = rw chunk_text at h in
    simp length-append at w

-- behind the intro
left : (c : After-content-t) → c.write_run-a.result + (length (middle c.args.source.now c.args.store.now (entry_of c.args.row)) + length (outro c.args.pieces.now c.args.store.now (entry_of c.args.row))) ≤ length c.write_run-a.new.out
left c =
    let f = fit _ _ _ (entry_of c.args.row) _ _ c.requires.row_in_bounds in
    omega (arith, f, c.write_run-a.auto.out, c.write_run-a.ensures.next_is)

room : (c : After-content-t) → c.write_run-a.result + (length c.content-t.result.now + length (outro c.args.pieces.now c.args.store.now (entry_of c.args.row))) ≤ length c.write_run-a.new.out
room c = rw c.content-t.ensures (left c)

pub write_run-a-requires-clause-n_in_bounds : goal.write_run-a-requires-clause-n_in_bounds
write_run-a-requires-clause-n_in_bounds c = let f = fit _ _ _ (entry_of c.args.row) _ _ c.requires.row_in_bounds in omega (arith, f)

pub slice_bounds-put-count : goal.slice_bounds-put-count
slice_bounds-put-count c = omega (arith, room (goal.at.slice_bounds-put-count c).After-content-t)

pub slice_bounds-put-start : goal.slice_bounds-put-start
slice_bounds-put-start c = omega (arith, room (goal.at.slice_bounds-put-start c).After-content-t)

pub put-requires : goal.put-requires
put-requires c = let r = room (goal.at.put-requires c).After-content-t in simp (length-take, length-drop) (omega (arith, r))

-- the content
second : (c : After-put) → c.write_run-a.result + length c.content-t.result.now ≤ length c.write_run-a.new.out → let d = c.write_run-a.new.out in
    let a = c.write_run-a.result in
    Wrote d a (middle c.args.source.now c.args.store.now (entry_of c.args.row)) (take a d ++ (c.put.new.out ++ drop (length d - a) (drop a d))) (a + length c.content-t.result.now)
second c r =
    record {
      out_is = put_back _ _ _ _ _ r c.put.ensures c.content-t.ensures;
      next_is = ap (λ t. c.write_run-a.result + length t) c.content-t.ensures;
    }

pub write_run-requires-clause-n_in_bounds : goal.write_run-requires-clause-n_in_bounds
write_run-requires-clause-n_in_bounds c =
    let b = (goal.at.write_run-requires-clause-n_in_bounds c).After-content-t in
    let r = room b in
    let l = wrote_same (second (goal.at.write_run-requires-clause-n_in_bounds c).After-put (omega (arith, r))) (omega (arith, left b)) in
    omega (arith, l, r)

pub returns : goal.returns
returns c =
    let b = (goal.at.returns c).After-content-t in
    let r = room b in
    let e = entry_of c.args.row in
    let whole : c.args.place + length (intro c.args.pieces.now c.args.store.now e ++ (middle c.args.source.now c.args.store.now e ++ outro c.args.pieces.now c.args.store.now e)) ≤ length c.args.out.now = rw chunk_text at c.requires.row_in_bounds in
    rw chunk_text (wrote_then c.write_run-a.ensures (wrote_then (second (goal.at.returns c).After-put (omega (arith, r))) c.write_run.ensures (simp length-append (left b))) whole)

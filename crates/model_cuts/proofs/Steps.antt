-- What an edit does behind its cuts, and a trim, keeps the number of chunks.
use Prim.Native.Nat.{ℕ, zero, suc, ◌+◌}
use native.Mathlib.Omega.{arith}
use mathlib.Core.Path.{◌≡◌, refl, ap, ◌∙◌}
use mathlib.Core.Bool.{Bool, false, cond}
use mathlib.Core.List.{List, [], ◌∷◌, ◌++◌, map, reverse}
use lib.Dec.{ltb, eqb}
use lib.ListN.{length, length-append, length-map, length-reverse}
use Rattle.model.specs.Text.{Text, is_nil}
use Rattle.model.specs.Chunk.{Chunk, Texts, start_of, end_of}
use Rattle.model.specs.MagicString.{MagicString, Result, ok, err, with_chunks, edge, by_edge, by_start, at_edge, at_start, change_at}
use Rattle.model.specs.Frozen.{Guard, unless_guarded, freeze_chunk}
use Rattle.model.specs.Update.{Walk, clear_run, update_walk, update_chunks}
use Rattle.model.specs.Movement.{Segment, together, apart, change_by_position, segment, insert_before, stands_there, move_segment}
use Rattle.model.specs.Trim.{Trimmed, trim_deque_start, trim_deque_end, trim_chunk_start, trim_chunk_end, trim_chunks, trim_start, trim_end, trim}
use Rattle.model_preservation.proofs.Lists.{of_cond, of_either, of_option}
use Rattle.model_preservation.proofs.Relocate.{Parts, segment_parts}
use Rattle.model_cuts.proofs.Cuts.{Keeps}

-- a list with as many chunks
abbrev SameLength : List Chunk → List Chunk → Type 0
SameLength cs ds = length ds ≡ length cs

-- ── texts alone ──
edge_length : (left : Bool) (p : ℕ) (f : Texts → Texts) (cs : List Chunk) → SameLength cs (at_edge left p f cs)
edge_length left p f [] = refl
edge_length left p f (c ∷ cs) =
    of_cond (SameLength (c ∷ cs)) (eqb (edge left c.span) p) (λ _. refl) (λ _. ap suc (edge_length left p f cs))

position_length : (n : ℕ) (f : Texts → Texts) (a b : ℕ) (cs : List Chunk) → SameLength cs (change_by_position n f a b cs)
position_length zero f a b cs = refl
position_length (suc n) f a b cs =
    of_option (SameLength cs) (by_start a cs) (λ _. refl)
    (λ c _. of_either (SameLength cs) (ltb (end_of c) b) (position_length n f (end_of c) b (at_start a f cs) ∙ edge_length false a f cs) (edge_length false a f cs))

clear_length : (y b : ℕ) (cs : List Chunk) → SameLength cs (clear_run y b cs).chunks
clear_length y b [] = refl
clear_length y b (c ∷ cs) =
    let P : Walk → Type 0 = λ w. SameLength (c ∷ cs) w.chunks in
    of_cond P (eqb y b) (λ _. refl) (λ _. of_cond P (eqb (start_of c) y) (λ _. ap suc (clear_length (end_of c) b cs)) (λ _. refl))

walk_length : (a b : ℕ) (t : Text) (o : Bool) (cs : List Chunk) → SameLength cs (update_walk a b t o cs).chunks
walk_length a b t o [] = refl
walk_length a b t o (c ∷ cs) =
    of_cond (λ (w : Walk). SameLength (c ∷ cs) w.chunks) (eqb (start_of c) a) (λ _. ap suc (clear_length (end_of c) b cs)) (λ _. ap suc (walk_length a b t o cs))

-- ── the steps behind the cuts ──
-- a range that is refused stays as the cuts left it
guarded_keeps : (g : Guard) (a b : ℕ) (step : MagicString → Result) → Keeps step → Keeps (λ m. unless_guarded g a b m (step m))
guarded_keeps g a b step k m = of_cond (λ (r : Result). SameLength m.chunks r.desk.chunks) (g a b m) (λ _. refl) (λ _. k m)

pub change_keeps : (g : Guard) (f : Texts → Texts) (a b : ℕ) → Keeps (λ m. unless_guarded g a b m (ok (with_chunks m (change_by_position (length m.chunks) f a b m.chunks))))
change_keeps g f a b = guarded_keeps g a b _ (λ m. position_length (length m.chunks) f a b m.chunks)

pub freeze_keeps : (a b : ℕ) → Keeps (λ m. ok (with_chunks m (map (freeze_chunk a b) m.chunks)))
freeze_keeps a b m = length-map m.chunks (freeze_chunk a b)

pub insert_keeps : (left : Bool) (p : ℕ) (f : Texts → Texts) (g : List Text → List Text) → Keeps (change_at left p f g)
insert_keeps left p f g m =
    of_option (λ (r : Result). SameLength m.chunks r.desk.chunks) (by_edge left p m.chunks) (λ _. refl) (λ c _. edge_length left p f m.chunks)

walk_keeps : (a b : ℕ) (t : Text) (o : Bool) → Keeps (update_chunks a b t o)
unfolding update_chunks
walk_keeps a b t o m =
    let w = walk_length a b t o m.chunks in
    of_cond (λ (r : Result). SameLength m.chunks r.desk.chunks) (update_walk a b t o m.chunks).done (λ _. w) (λ _. w)

pub update_keeps : (g : Guard) (a b : ℕ) (t : Text) (o : Bool) → Keeps (λ m. cond (ltb (length m.source) b) (err 10 m) (unless_guarded g a b m (update_chunks a b t o m)))
update_keeps g a b t o m =
    of_cond (λ (r : Result). SameLength m.chunks r.desk.chunks) (ltb (length m.source) b) (λ _. refl)
    (λ _. guarded_keeps g a b (update_chunks a b t o) (walk_keeps a b t o) m)

-- the range is taken out and put in again
insert_length : (to : ℕ) (range cs : List Chunk) → length (insert_before to range cs) ≡ length range + length cs
insert_length to range [] = omega arith
insert_length to range (c ∷ cs) =
    of_cond (λ (l : List Chunk). length l ≡ length range + length (c ∷ cs)) (eqb (start_of c) to) (λ _. length-append range (c ∷ cs))
    (λ _. omega (arith, insert_length to range cs))

segment_length : (to : ℕ) (m : MagicString) (g : Segment) → Parts m.chunks g → SameLength m.chunks (move_segment to m g).desk.chunks
segment_length to m apart e = refl
segment_length to m (together before range behind) e =
    of_cond (λ (r : Result). SameLength m.chunks r.desk.chunks) (stands_there (by_start to m.chunks) behind) (λ _. refl)
    (λ _. omega (
      arith,
      insert_length to range (before ++ behind),
      length-append before behind,
      length-append before (range ++ behind),
      length-append range behind,
      ap length e,
    ))

pub move_keeps : (a b to : ℕ) → Keeps (λ m. move_segment to m (segment a b m.chunks))
move_keeps a b to m = segment_length to m (segment a b m.chunks) (segment_parts a b m.chunks)

-- ── trims ──
trimmed_length : (f : Chunk → Trimmed) (cs : List Chunk) → SameLength cs (trim_chunks f cs)
trimmed_length f [] = refl
trimmed_length f (c ∷ cs) = of_cond (λ (l : List Chunk). length ((f c).chunk ∷ l) ≡ suc (length cs)) (f c).goes_on (λ _. ap suc (trimmed_length f cs)) (λ _. refl)

module _ (p : ℕ) (m : MagicString) where
  abbrev Kept : MagicString → Type 0
  Kept n = SameLength m.chunks n.chunks

  pub trim_start_length : length (trim_start p m).chunks ≡ length m.chunks
  unfolding trim_start
  trim_start_length = of_cond Kept (is_nil (trim_deque_start p m.intro)) (λ _. trimmed_length (trim_chunk_start p m.source) m.chunks) (λ _. refl)

  pub trim_end_length : length (trim_end p m).chunks ≡ length m.chunks
  unfolding trim_end
  trim_end_length =
      let f : Chunk → Trimmed = trim_chunk_end p m.source in
      of_cond Kept (is_nil (trim_deque_end p m.outro))
      (λ _. length-reverse (trim_chunks f (reverse m.chunks)) ∙ (trimmed_length f (reverse m.chunks) ∙ length-reverse m.chunks)) (λ _. refl)

pub trim_length : (p : ℕ) (m : MagicString) → length (trim p m).chunks ≡ length m.chunks
trim_length p m = trim_end_length p (trim_start p m) ∙ trim_start_length p m

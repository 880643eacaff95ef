-- The closed forms of the edits of document 01's list L: an edit becomes a plan, and a plan is its cuts, then a change of each chunk's texts by its span alone, or a
-- rearrangement of the list by spans. proofs/Steps.antt has the law that the model's walks equal them.
use Rattle.std.specs.Prelude.{ℕ, zero, suc, Bool, true, false, ◌&&◌, ◌||◌, not, cond, List, [], ◌∷◌, ◌++◌, map, ltb, leb, eqb, length}
use Rattle.std.proofs.Math.Option.{Option, none, some}
use Rattle.model.specs.Text.{Text, any, all}
use Rattle.model.specs.Chunk.{Span, Texts, Chunk, bare, with_texts, start_of, end_of, contains, is_filled, first_half, second_half, edit}
use Rattle.model.specs.MagicString.{MagicString, Result, ok, err, with_chunks, edge}
use Rattle.model.specs.Frozen.{starts_within}
use Rattle.model.specs.Insert.{left, right, front, back, push, push_to}
use Rattle.model.specs.Movement.{insert_before}
use Rattle.model.specs.Call.{Edit, remove, update_with, reset, insert, append, prepend, relocate, trim, trim_start, trim_end}
use Rattle.model.specs.Call.{trim_lines, indent_with, freeze}

-- ── plans ──
pub data Plan : Type 0 where
  -- the desk stays
  nothing : Plan
  -- chunks that start from a up to b lose their pieces and get this replacement, or none
  clear : ℕ → ℕ → Option Text → Plan
  -- the chunk that starts at a gets the text, with or without overwrite; the others that start before b are cleared
  replace : ℕ → ℕ → Text → Bool → Plan
  -- a piece at the front or the back of the outro of the chunk that ends at p (left), or of the intro of the chunk that starts there (right)
  insert_piece : ℕ → Text → Bool → Bool → Plan
  -- the same of the head (left) or the tail (right)
  insert_whole : Text → Bool → Bool → Plan
  -- chunks that start from the first position up to the second go before the chunk that starts at the third, or last
  move : ℕ → ℕ → ℕ → Plan

-- over a source of n bytes a chunk ends at p, once p is cut: past 0 and up to n; over an empty source at 0 too
abbrev pub chunk_ends : ℕ → ℕ → Bool
chunk_ends n p = leb p n && (ltb 0 p || eqb n 0)

-- a chunk starts at p, once p is cut: before n; over an empty source at 0 too
abbrev pub chunk_starts : ℕ → ℕ → Bool
chunk_starts n p = ltb p n || (eqb p 0 && eqb n 0)

-- the chunk that an insertion looks for is there
abbrev pub has_chunk : ℕ → ℕ → Bool → Bool
has_chunk n p true = chunk_ends n p
has_chunk n p false = chunk_starts n p

-- the plan of an edit of L; n is the source's length. No law speaks of the plan of another edit
unfoldable pub plan : ℕ → Edit → Plan
plan n (remove a b) = cond (eqb a b) nothing (clear a b (some []))
plan n (update_with a b t o) = replace a b t o
plan n (reset a b) = cond (eqb a b) nothing (clear a b none)
plan n (insert p t left front) = cond (has_chunk n p left) (insert_piece p t left front) (insert_whole t left front)
plan n (append t) = insert_whole t right back
plan n (prepend t) = insert_whole t left front
plan n (relocate a b to) = cond (eqb a b) nothing (move a b to)
plan n (trim p) = nothing
plan n (trim_start p) = nothing
plan n (trim_end p) = nothing
plan n trim_lines = nothing
plan n (indent_with i l) = nothing
plan n (freeze a b) = nothing

-- the number refused before any cut, by the arguments and the source's length alone: 4, 5, 8, and 10 but for update's; 0 for none
unfoldable pub refused_first : ℕ → Edit → ℕ
refused_first n (remove a b) = cond (eqb a b) 0 (cond (ltb b a) 4 0)
refused_first n (update_with a b t o) = cond (eqb a b) 5 (cond (ltb b a) 4 0)
refused_first n (reset a b) = cond (eqb a b) 0 (cond (ltb b a) 4 (cond (ltb n b) 10 0))
refused_first n (insert p t left front) = 0
refused_first n (append t) = 0
refused_first n (prepend t) = 0
refused_first n (relocate a b to) = cond (leb a to && leb to b) 8 (cond (eqb a b) 0 (cond (ltb b a) 4 (cond (ltb n b) 10 0)))
refused_first n (trim p) = 0
refused_first n (trim_start p) = 0
refused_first n (trim_end p) = 0
refused_first n trim_lines = 0
refused_first n (indent_with i l) = 0
refused_first n (freeze a b) = 0

-- ── cuts ──
-- one chunk: its two halves if it contains p, or itself
unfoldable pub split : ℕ → Chunk → List Chunk
split p c = cond (contains c p) (first_half p c ∷ second_half p c ∷ []) (c ∷ [])

-- the lists of all chunks, one behind the other (concatMap)
abbrev pub cut : ℕ → List Chunk → List Chunk
cut p [] = []
cut p (c ∷ cs) = split p c ++ cut p cs

abbrev pub cut_all : List ℕ → List Chunk → List Chunk
cut_all [] cs = cs
cut_all (p ∷ ps) cs = cut_all ps (cut p cs)

-- a cut at p is not refused at this chunk
unfoldable pub splittable : ℕ → Chunk → Bool
splittable p c = not (contains c p && is_filled c.texts.edited_content)

-- no cut of ps is refused
abbrev pub cuttable : List ℕ → List Chunk → Bool
cuttable [] cs = true
cuttable (p ∷ ps) cs = all (splittable p) cs && cuttable ps (cut p cs)

-- the cuts before the first that is refused
abbrev pub cut_until_refused : List ℕ → List Chunk → List Chunk
cut_until_refused [] cs = cs
cut_until_refused (p ∷ ps) cs =
    let r : List Chunk = cut_until_refused ps (cut p cs) in
    cond (all (splittable p) cs) r cs

-- where a plan cuts, in this order
unfoldable pub cuts : Plan → List ℕ
cuts nothing = []
cuts (clear a b r) = a ∷ b ∷ []
cuts (replace a b t o) = a ∷ b ∷ []
cuts (insert_piece p t left front) = p ∷ []
cuts (insert_whole t left front) = []
cuts (move a b to) = a ∷ b ∷ to ∷ []

-- ── texts: what a plan makes of a chunk's texts, by its span ──
-- from a up to but without b
abbrev pub inside : ℕ → ℕ → ℕ → Bool
inside a b x = leb a x && ltb x b

unfoldable pub act : Plan → Span → Texts → Texts
act nothing s x = x
act (clear a b r) s x = cond (inside a b s.start) (bare r) x
act (replace a b t o) s x = cond (inside a b s.start) (cond (eqb s.start a) (edit t o x) (bare (some []))) x
act (insert_piece p t left front) s x = cond (eqb (edge left s) p) (push_to left front t x) x
act (insert_whole t left front) s x = x
act (move a b to) s x = x

-- the chunk as a plan leaves it
abbrev pub acted : Plan → Chunk → Chunk
acted P c = with_texts (act P c.span) c

-- ── order: the move, by spans ──
-- the chunks whose start passes the test (filter)
abbrev pub keep : (ℕ → Bool) → List Chunk → List Chunk
keep f [] = []
keep f (c ∷ cs) = let r : List Chunk = keep f cs in cond (f (start_of c)) (c ∷ r) r

unfoldable pub outside : ℕ → ℕ → ℕ → Bool
outside a b x = not (inside a b x)

unfoldable pub rearrange : Plan → List Chunk → List Chunk
rearrange nothing cs = cs
rearrange (clear a b r) cs = cs
rearrange (replace a b t o) cs = cs
rearrange (insert_piece p t left front) cs = cs
rearrange (insert_whole t left front) cs = cs
rearrange (move a b to) cs = insert_before to (keep (inside a b) cs) (keep (outside a b) cs)

-- ── head and tail ──
unfoldable pub on_head : Plan → List Text → List Text
on_head nothing l = l
on_head (clear a b r) l = l
on_head (replace a b t o) l = l
on_head (insert_piece p t left front) l = l
on_head (insert_whole t left front) l = cond left (push front t l) l
on_head (move a b to) l = l

unfoldable pub on_tail : Plan → List Text → List Text
on_tail nothing l = l
on_tail (clear a b r) l = l
on_tail (replace a b t o) l = l
on_tail (insert_piece p t left front) l = l
on_tail (insert_whole t left front) l = cond left l (push front t l)
on_tail (move a b to) l = l

-- ── what an accepted plan leaves: cuts, texts, order ──
abbrev pub new_chunks : Plan → List Chunk → List Chunk
new_chunks P cs = rearrange P (map (acted P) (cut_all (cuts P) cs))

abbrev pub apply : Plan → MagicString → MagicString
apply P m =
    record { source = m.source; intro = on_head P m.intro; outro = on_tail P m.outro; chunks = new_chunks P m.chunks }

-- ── a range that stands together: 7 and 9 ──
-- the list begins with chunks that cover the range from a to b in ascending order
abbrev pub ascends : ℕ → ℕ → List Chunk → Bool
ascends a b [] = eqb a b
ascends a b (c ∷ cs) = eqb a b || (eqb (start_of c) a && ascends (end_of c) b cs)

-- at some place of the list it does
abbrev pub stands_together : ℕ → ℕ → List Chunk → Bool
stands_together a b [] = ascends a b []
stands_together a b (c ∷ cs) = ascends a b (c ∷ cs) || stands_together a b cs

unfoldable pub in_order : Plan → List Chunk → Bool
in_order nothing cs = true
in_order (clear a b r) cs = true
in_order (replace a b t o) cs = stands_together a b cs
in_order (insert_piece p t left front) cs = true
in_order (insert_whole t left front) cs = true
in_order (move a b to) cs = stands_together a b cs

-- the number where the order is refused; 0 where it never is
unfoldable pub order_number : Plan → ℕ
order_number nothing = 0
order_number (clear a b r) = 0
order_number (replace a b t o) = 7
order_number (insert_piece p t left front) = 0
order_number (insert_whole t left front) = 0
order_number (move a b to) = 9

-- "chunks cleared before 7": those behind the first up to whose end the range stands together
abbrev pub cleared_so_far : ℕ → List Chunk → Chunk → Chunk
cleared_so_far a cs c =
    with_texts (λ x. cond (ltb a (start_of c) && stands_together a (end_of c) cs) (bare (some [])) x) c

-- what 7 and 9 leave of the list that was cut
unfoldable pub left_over : Plan → List Chunk → List Chunk
left_over nothing cs = cs
left_over (clear a b r) cs = cs
left_over (replace a b t o) cs = map (cleared_so_far a cs) cs
left_over (insert_piece p t left front) cs = cs
left_over (insert_whole t left front) cs = cs
left_over (move a b to) cs = cs

-- update's 10, which stands behind its cuts
unfoldable pub ends_past : ℕ → Plan → Bool
ends_past n nothing = false
ends_past n (clear a b r) = false
ends_past n (replace a b t o) = ltb n b
ends_past n (insert_piece p t left front) = false
ends_past n (insert_whole t left front) = false
ends_past n (move a b to) = false

-- document 02's 20: the plan clears or replaces a range in which a marked chunk starts
unfoldable pub frozen_in : Plan → List Chunk → Bool
frozen_in nothing cs = false
frozen_in (clear a b r) cs = any (λ c. starts_within a b c && c.frozen) cs
frozen_in (replace a b t o) cs = any (λ c. starts_within a b c && c.frozen) cs
frozen_in (insert_piece p t left front) cs = false
frozen_in (insert_whole t left front) cs = false
frozen_in (move a b to) cs = false

-- ── an edit in closed form: number and desk ──
-- 6 leaves the cuts before the refused one; update's 10, 20, 7 and 9 leave all cuts, and 7 the chunks that it cleared
unfoldable pub closed_plan : Plan → MagicString → Result
closed_plan P m =
    let cs : List Chunk = cut_all (cuts P) m.chunks in
    cond (cuttable (cuts P) m.chunks)
    (cond (ends_past (length m.source) P) (err 10 (with_chunks m cs))
    (cond (frozen_in P cs) (err 20 (with_chunks m cs))
    (cond (in_order P cs) (ok (apply P m)) (err (order_number P) (with_chunks m (left_over P cs))))))
    (err 6 (with_chunks m (cut_until_refused (cuts P) m.chunks)))

-- a refusal before any cut changes nothing
abbrev pub unless_refused : ℕ → MagicString → Result → Result
unless_refused zero m r = r
unless_refused (suc k) m r = err (suc k) m

unfoldable pub closed : Edit → MagicString → Result
closed e m = unless_refused (refused_first (length m.source) e) m (closed_plan (plan (length m.source) e) m)

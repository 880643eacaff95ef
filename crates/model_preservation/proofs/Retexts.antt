-- Walks that change texts only: the chunk at a position, chunks by position, the walk of `update_with`; and the marks that freezing sets. Each keeps every span and leaves valid texts.
use Prim.Native.Nat.{ℕ, zero, suc}
use mathlib.Core.Path.{◌≡◌, refl, ◌∙◌, subst}
use mathlib.Core.Bool.{Bool, true, false}
use mathlib.Core.List.{List, [], ◌∷◌, map, reverse, reverse_aux, reverse-reverse}
use mathlib.Core.Option.{Option}
use lib.Dec.{ltb, eqb}
use Rattle.utf8.specs.Chars.{All, nil, cons}
use Rattle.utf8.proofs.Texts.{utf8_nil}
use Rattle.model.specs.Text.{Text}
use Rattle.model.specs.Chunk.{Chunk, Texts, bare, start_of, end_of, edit, reset_texts}
use Rattle.model.specs.MagicString.{MagicString, edge, by_start, at_start, at_edge}
use Rattle.model.specs.Frozen.{freeze_chunk}
use Rattle.model.specs.Insert.{right, push, push_to}
use Rattle.model.specs.Update.{Walk, clear_run, update_walk}
use Rattle.model.specs.Movement.{change_by_position}
use Rattle.model.specs.WellFormed.{Valid, ValidTexts, Formed}
use Rattle.model.proofs.Lists.{all_append}
use Rattle.model_preservation.proofs.Lists.{of_cond, of_either, of_option}
use Rattle.model_preservation.proofs.Desk.{texts_keep}

-- ---- the second list has the spans of the first, and valid texts

pub data Retexts : List Chunk → List Chunk → Type 0 where
  none : Retexts [] []
  more : {c d : Chunk} {cs ds : List Chunk} → d.span ≡ c.span → ValidTexts d.texts → Retexts cs ds → Retexts (c ∷ cs) (d ∷ ds)

pub retexts_spans : {cs ds : List Chunk} → Retexts cs ds → map (λ c. c.span) ds ≡ map (λ c. c.span) cs
retexts_spans none = refl
retexts_spans (more e h k) = λ i. e i ∷ retexts_spans k i

pub retexts_valid : {cs ds : List Chunk} → Retexts cs ds → All (λ c. ValidTexts c.texts) ds
retexts_valid none = nil
retexts_valid (more e h k) = cons h (retexts_valid k)

pub retexts_same : {cs : List Chunk} → All (λ c. ValidTexts c.texts) cs → Retexts cs cs
retexts_same nil = none
retexts_same (cons h k) = more refl h (retexts_same k)

pub retexts_trans : {cs ds es : List Chunk} → Retexts cs ds → Retexts ds es → Retexts cs es
retexts_trans none none = none
retexts_trans (more e h k) (more f i l) = more (f ∙ e) i (retexts_trans k l)

retexts_reverse_aux : {cs ds es fs : List Chunk} → Retexts cs ds → Retexts es fs → Retexts (reverse_aux cs es) (reverse_aux ds fs)
retexts_reverse_aux none k = k
retexts_reverse_aux (more e h i) k = retexts_reverse_aux i (more e h k)

-- a walk from the last chunk to the first
pub retexts_backwards : (cs ds : List Chunk) → Retexts (reverse cs) ds → Retexts cs (reverse ds)
retexts_backwards cs ds h = subst (λ (l : List Chunk). Retexts l (reverse ds)) (reverse-reverse cs) (retexts_reverse_aux h none)

-- such a walk keeps a desk formed, with any valid head and tail
pub retexts_keep : (m : MagicString) (head tail : List Text) (cs : List Chunk) → Formed m → All Valid head → All Valid tail → Retexts m.chunks cs
    → Formed (record { source = m.source; intro = head; outro = tail; chunks = cs })
retexts_keep m head tail cs f h t r = texts_keep m _ f refl (retexts_spans r) h t (retexts_valid r)

-- ---- the changes of a chunk's texts

-- a change that leaves valid texts
abbrev pub KeepsValid : (Texts → Texts) → Type 0
KeepsValid f = (x : Texts) → ValidTexts x → ValidTexts (f x)

pub bare_valid : ValidTexts (bare Option.none)
bare_valid = record { intro = nil; outro = nil; replacement = tt }

pub edit_valid : (t : Text) (overwrite : Bool) → Valid t → KeepsValid (edit t overwrite)
edit_valid t overwrite v x h =
    of_cond ValidTexts overwrite (λ _. record { intro = nil; outro = nil; replacement = v }) (λ _. record { intro = h.intro; outro = h.outro; replacement = v })

pub clear_valid : KeepsValid (edit [] true)
clear_valid = edit_valid [] true utf8_nil

pub reset_valid : KeepsValid reset_texts
reset_valid x h = bare_valid

pub push_valid : (front : Bool) (t : Text) → Valid t → {l : List Text} → All Valid l → All Valid (push front t l)
push_valid true t v h = cons v h
push_valid false t v h = all_append h (cons v nil)

pub push_to_valid : (left front : Bool) (t : Text) → Valid t → KeepsValid (push_to left front t)
push_to_valid true front t v x h = record { intro = h.intro; outro = push_valid front t v h.outro; replacement = h.replacement }
push_to_valid false front t v x h = record { intro = push_valid front t v h.intro; outro = h.outro; replacement = h.replacement }

-- ---- the walks

pub at_edge_retexts : (left : Bool) (p : ℕ) (f : Texts → Texts) → KeepsValid f → {cs : List Chunk} → All (λ c. ValidTexts c.texts) cs → Retexts cs (at_edge left p f cs)
at_edge_retexts left p f v nil = none
at_edge_retexts left p f v (cons {x = c} {xs = cs} h k) =
    of_cond (Retexts (c ∷ cs)) (eqb (edge left c.span) p) (λ _. more refl (v c.texts h) (retexts_same k)) (λ _. more refl h (at_edge_retexts left p f v k))

pub change_retexts : (n : ℕ) (f : Texts → Texts) → KeepsValid f → (p end : ℕ) (cs : List Chunk) → All (λ c. ValidTexts c.texts) cs
    → Retexts cs (change_by_position n f p end cs)
change_retexts zero f v p end cs h = retexts_same h
change_retexts (suc n) f v p end cs h =
    let r = at_edge_retexts right p f v h in
    of_option (Retexts cs) (by_start p cs) (λ _. retexts_same h)
    (λ c _. of_either (Retexts cs) (ltb (end_of c) end)
    (retexts_trans r (change_retexts n f v (end_of c) end (at_start p f cs) (retexts_valid r)))
    r)

clear_retexts : (p end : ℕ) {cs : List Chunk} → All (λ c. ValidTexts c.texts) cs → Retexts cs (clear_run p end cs).chunks
clear_retexts p end nil = none
clear_retexts p end (cons {x = c} {xs = cs} h k) =
    let P : Walk → Type 0 = λ w. Retexts (c ∷ cs) w.chunks in
    let s = retexts_same (cons {x = c} {xs = cs} h k) in
    of_cond P (eqb p end) (λ _. s)
    (λ _. of_cond P (eqb (start_of c) p) (λ _. more refl (clear_valid c.texts h) (clear_retexts (end_of c) end k)) (λ _. s))

-- `update_with`'s walk, accepted or refused
pub update_retexts : (start end : ℕ) (t : Text) (overwrite : Bool) → Valid t → {cs : List Chunk} → All (λ c. ValidTexts c.texts) cs
    → Retexts cs (update_walk start end t overwrite cs).chunks
update_retexts start end t overwrite v nil = none
update_retexts start end t overwrite v (cons {x = c} {xs = cs} h k) =
    let r = clear_retexts (end_of c) end k in
    of_cond (λ (w : Walk). Retexts (c ∷ cs) w.chunks) (eqb (start_of c) start)
    (λ _. of_cond (λ (d : Chunk). Retexts (c ∷ cs) (d ∷ (clear_run (end_of c) end cs).chunks)) (clear_run (end_of c) end cs).done
    (λ _. more refl (edit_valid t overwrite v c.texts h) r) (λ _. more refl h r))
    (λ _. more refl h (update_retexts start end t overwrite v k))

-- ---- marks

pub freeze_retexts : (start end : ℕ) {cs : List Chunk} → All (λ c. ValidTexts c.texts) cs → Retexts cs (map (freeze_chunk start end) cs)
freeze_retexts start end nil = none
freeze_retexts start end (cons h k) = more refl h (freeze_retexts start end k)

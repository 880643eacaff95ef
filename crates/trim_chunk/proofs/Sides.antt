-- Laws of what `Sides` in specs/ defines.
use mathlib.Core.Path.{◌≡◌, refl, ap, ◌∙◌}
use mathlib.Core.Bool.{Bool, true, false, cond}
use mathlib.Core.List.{List, [], ◌∷◌}
use mathlib.Core.Option.{Option, some}
use Prim.Native.Nat.{ℕ}
use native.Mathlib.Omega.{arith}
use lib.Dec.{eqb}
use lib.ListN.{length}
use borrow.Author.Tests.{ne_eqb}
use Rattle.model.specs.Text.{Text, is_nil, all}
use Rattle.model.specs.Chunk.{Chunk, Texts, content}
use Rattle.model.specs.Trim.{Trimmed, trim_chunk_start, trim_chunk_end}
use Rattle.trim_text.specs.Sides.{trim_text, blank}
use Rattle.trim_text.proofs.Sides.{trim_nil, blank_nil}
use Rattle.trim_run.specs.Deque.{trim_deque}
use Rattle.trim_run.proofs.Deque.{deque_nil, all_nil_deque}
use Rattle.trim_chunk.specs.Sides.{trim_chunk}

-- the pieces that are trimmed first, and those that are trimmed last
abbrev pub near : Bool → Texts → List Text
near true x = x.intro
near false x = x.outro

abbrev pub far : Bool → Texts → List Text
far true x = x.outro
far false x = x.intro

abbrev pub sides : Bool → List Text → List Text → Option Text → Texts
sides true n f e = record { intro = n; outro = f; edited_content = e }
sides false n f e = record { intro = f; outro = n; edited_content = e }

abbrev pub with_sides : Bool → Chunk → List Text → List Text → Option Text → Bool → Trimmed
with_sides front c n f e k = record { goes_on = k; chunk = record { span = c.span; frozen = c.frozen; texts = sides front n f e } }

-- the turn over what is left of the pieces on the near side (n), of the content s (t) and of the pieces on the far side (f)
pub turn : Bool → Chunk → List Text → Text → Text → List Text → Trimmed
turn front c n s t f =
    let e : Option Text = c.texts.edited_content in
    elim (is_nil n) [
      | false ↦ with_sides front c n (far front c.texts) e false
      | true ↦ elim (is_nil s) [
        | true ↦ with_sides front c n f e (is_nil f)
        | false ↦ elim (eqb (length t) (length s)) [
          | true ↦ with_sides front c n (far front c.texts) e false
          | false ↦ elim (is_nil t) [
            | false ↦ with_sides front c n (far front c.texts) (some t) false
            | true ↦ with_sides front c n f (some []) (is_nil f)
          ]
        ]
      ]
    ]

pub chunk_turn : (front : Bool) (p : ℕ) (source : Text) (c : Chunk)
    → trim_chunk front p source c
    ≡ turn front c (trim_deque front p (near front c.texts)) (content source c) (trim_text front p (content source c)) (trim_deque front p (far front c.texts))
unfolding trim_chunk_start trim_chunk_end turn
chunk_turn true p source c = refl
chunk_turn false p source c = refl

module _ (front : Bool) (c : Chunk) (n : List Text) (s t : Text) (f : List Text) where
  abbrev e : Option Text
  e = c.texts.edited_content

  turn_near : is_nil n ≡ false → turn front c n s t f ≡ with_sides front c n (far front c.texts) e false
  unfolding turn
  turn_near h = rw (h, turn)

  turn_content : is_nil n ≡ true → is_nil s ≡ false → is_nil t ≡ false
      → turn front c n s t f ≡ with_sides front c n (far front c.texts) (cond (eqb (length t) (length s)) e (some t)) false
  unfolding turn
  turn_content h k l = go (eqb (length t) (length s)) refl
    where
      go : (b : Bool) → eqb (length t) (length s) ≡ b → turn front c n s t f ≡ with_sides front c n (far front c.texts) (cond b e (some t)) false
      go true q = rw (h, k, q, turn)
      go false q = rw (h, k, q, l, turn)

  turn_empty : is_nil n ≡ true → is_nil s ≡ true → turn front c n s t f ≡ with_sides front c n f e (is_nil f)
  unfolding turn
  turn_empty h k = rw (h, k, turn)

  turn_gone : is_nil n ≡ true → is_nil s ≡ false → is_nil t ≡ true → turn front c n s t f ≡ with_sides front c n f (some []) (is_nil f)
  unfolding turn
  turn_gone h k l = rw (h, k, other s t k l, l, turn)
    where
      other : (x y : Text) → is_nil x ≡ false → is_nil y ≡ true → eqb (length y) (length x) ≡ false
      other [] y a b = let z : ◌≡◌ {A = ℕ} 0 1 = cc in absurd (omega arith)
      other (x ∷ xs) [] a b = ne_eqb 0 (length (x ∷ xs)) (λ q. omega arith)
      other (x ∷ xs) (y ∷ ys) a b = let z : ◌≡◌ {A = ℕ} 0 1 = cc in absurd (omega arith)

module _ (p : ℕ) (source : Text) (c : Chunk) (front : Bool) where
  abbrev s : Text
  s = content source c

  abbrev n : List Text
  n = near front c.texts

  abbrev f : List Text
  f = far front c.texts

  -- something is left of the pieces on the near side
  pub near_left : all (blank p) n ≡ false → trim_chunk front p source c ≡ with_sides front c (trim_deque front p n) f c.texts.edited_content false
  near_left h = chunk_turn front p source c ∙ turn_near front c (trim_deque front p n) s (trim_text front p s) (trim_deque front p f) (deque_nil front p n ∙ h)

  -- something is left of the content
  pub content_left : all (blank p) n ≡ true → blank p s ≡ false
      → trim_chunk front p source c ≡ with_sides front c [] f (cond (eqb (length (trim_text front p s)) (length s)) c.texts.edited_content (some (trim_text front p s))) false
  content_left h k =
      chunk_turn front p source c
      ∙ turn_content front c (trim_deque front p n) s (trim_text front p s) (trim_deque front p f) (deque_nil front p n ∙ h) (not_empty s k) (trim_nil front p s ∙ k)
      ∙ rw (all_nil_deque front p n h)
    where
      not_empty : (t : Text) → blank p t ≡ false → is_nil t ≡ false
      not_empty [] k = let z : ◌≡◌ {A = ℕ} 0 1 = cc (blank_nil p) in absurd (omega arith)
      not_empty (x ∷ t) k = refl

  -- nothing is left of either
  pub content_blank : all (blank p) n ≡ true → blank p s ≡ true
      → trim_chunk front p source c ≡ with_sides front c [] (trim_deque front p f) (cond (is_nil s) c.texts.edited_content (some [])) (is_nil (trim_deque front p f))
  content_blank h k = go (is_nil s) refl
    where
      go : (b : Bool) → is_nil s ≡ b
          → trim_chunk front p source c ≡ with_sides front c [] (trim_deque front p f) (cond b c.texts.edited_content (some [])) (is_nil (trim_deque front p f))
      go true q =
          chunk_turn front p source c
          ∙ turn_empty front c (trim_deque front p n) s (trim_text front p s) (trim_deque front p f) (deque_nil front p n ∙ h) q
          ∙ ap (λ (l : List Text). with_sides front c l (trim_deque front p f) c.texts.edited_content (is_nil (trim_deque front p f))) (all_nil_deque front p n h)
      go false q =
          chunk_turn front p source c
          ∙ turn_gone front c (trim_deque front p n) s (trim_text front p s) (trim_deque front p f) (deque_nil front p n ∙ h) q (trim_nil front p s ∙ k)
          ∙ ap (λ (l : List Text). with_sides front c l (trim_deque front p f) (some []) (is_nil (trim_deque front p f))) (all_nil_deque front p n h)

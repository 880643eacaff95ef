-- What keeps a desk formed: a cut at a place between characters, other texts on the same spans, another order of the chunks; and steps one behind the other.
use Prim.Native.Nat.{ℕ, zero, suc, ◌<◌}
use mathlib.Core.Path.{◌≡◌, refl, ◌∙◌}
use mathlib.Core.Bool.{Bool, true, ◌||◌}
use mathlib.Core.List.{List, map}
use lib.Dec.{leb, eqb}
use lib.ListN.{length}
use borrow.Author.Tests.{leb-false}
use Rattle.utf8.specs.Rfc3629.{between}
use Rattle.utf8.specs.Chars.{All, nil}
use Rattle.model.specs.Text.{Text, is_some}
use Rattle.model.specs.Chunk.{Chunk, start_of, end_of, first_half, second_half}
use Rattle.model.specs.MagicString.{MagicString, Result, ok, err, and_then, with_chunks, by_end, holder, split_holder, refuses_split, split_at}
use Rattle.model.specs.WellFormed.{Valid, ValidTexts, Formed}
use Rattle.model.proofs.Lists.{neither}
use Rattle.model_preservation.proofs.Lists.{of_cond}
use Rattle.model_preservation.proofs.Spans.{Rearranged, same_spans, rearranged_covered, split_all, split_covered}
use Rattle.model_preservation.specs.Results.{SplitAtKeeps}

-- ---- one step behind the other

-- the desk that a step leaves, accepted or refused
pub record Leaves (P : MagicString → Type 0) (r : Result) : Type 0 where
  pub desk : P r.desk

module _ (P : MagicString → Type 0) where
  pub of_and_then : (r : Result) (f : MagicString → Result) → Leaves P r → ((m : MagicString) → P m → Leaves P (f m)) → Leaves P (and_then r f)
  of_and_then r f h g = go r.number r.desk h.desk
    where
      go : (n : ℕ) (m : MagicString) → P m → Leaves P (and_then (record { number = n; desk = m }) f)
      go zero m h = g m h
      go (suc n) m h = record { desk = h }

-- ---- other texts on the same spans

-- "same spans, valid texts, valid head and tail, same source"
pub texts_keep : (m n : MagicString) → Formed m → n.source ≡ m.source → map (λ c. c.span) n.chunks ≡ map (λ c. c.span) m.chunks
    → All Valid n.intro → All Valid n.outro → All (λ c. ValidTexts c.texts) n.chunks → Formed n
texts_keep m n f e q h t x =
    record {
      source = rw e f.source;
      covered = rw e (same_spans m.source m.chunks n.chunks q f.covered);
      intro = h;
      outro = t;
      texts = x;
    }

-- ---- another order

pub order_keeps : (m : MagicString) (cs : List Chunk) → Formed m → Rearranged m.chunks cs → Formed (with_chunks m cs)
order_keeps m cs f r =
    record {
      source = f.source;
      covered = rearranged_covered m.source m.chunks cs r f.covered;
      intro = f.intro;
      outro = f.outro;
      texts = r.every (λ c. ValidTexts c.texts) f.texts;
    }

-- ---- a cut

halves_valid : (p : ℕ) (c : Chunk) → start_of c < p → p < end_of c → ValidTexts c.texts → ValidTexts (first_half p c).texts × ValidTexts (second_half p c).texts
halves_valid p c h k i =
    (record { intro = i.intro; outro = nil; replacement = i.replacement }, record { intro = nil; outro = i.outro; replacement = i.replacement })

-- what a cut gives: the desk as it was, or the refusal 6, or the desk with the chunk split that contains a place inside the source
pub split_cases : (P : Result → Type 0) (p : ℕ) (m : MagicString) → P (ok m) → (refuses_split (holder p m.chunks) ≡ true → P (err 6 m))
    → (p < length m.source → P (ok (with_chunks m (split_holder p m.chunks)))) → P (split_at p m)
unfolding split_at
split_cases P p m h k g =
    let past : Bool = leb (length m.source) p in
    let edge : Bool = is_some (by_end p m.chunks) in
    of_cond P (eqb p 0 || (past || edge)) (λ e. h)
    (λ e. of_cond P (refuses_split (holder p m.chunks)) k (λ _. g (leb-false (length m.source) p (neither past edge (neither (eqb p 0) (past || edge) e).1).0)))

split_desk : (P : MagicString → Type 0) (p : ℕ) (m : MagicString) → P m → (p < length m.source → P (with_chunks m (split_holder p m.chunks))) → P (split_at p m).desk
split_desk P p m h g = split_cases (λ r. P r.desk) p m h (λ _. h) g

pub split_at_source : (p : ℕ) (m : MagicString) → (split_at p m).desk.source ≡ m.source
split_at_source p m = split_desk (λ n. n.source ≡ m.source) p m refl (λ _. refl)

pub split_at_keeps : SplitAtKeeps
split_at_keeps p m f b =
    split_desk Formed p m f
    (λ l. record {
      source = f.source;
      covered = split_covered m.source p l b m.chunks f.covered;
      intro = f.intro;
      outro = f.outro;
      texts = split_all (λ c. ValidTexts c.texts) p (halves_valid p) f.texts;
    })

-- ---- a formed desk of a source that is given, which steps keep

pub record FormedOf (source : Text) (m : MagicString) : Type 0 where
  pub formed : Formed m
  pub source_is : m.source ≡ source

pub cut_keeps : (source : Text) (p : ℕ) → between source p ≡ true → (m : MagicString) → FormedOf source m → Leaves (FormedOf source) (split_at p m)
cut_keeps source p b m h =
    record { desk = record { formed = split_at_keeps p m h.formed (rw h.source_is b); source_is = split_at_source p m ∙ h.source_is } }

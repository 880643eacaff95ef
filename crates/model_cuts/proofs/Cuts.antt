-- A cut grows the list of chunks by one exactly if it says `made`, and cuts in a row by as many as say so, up to a refusal.
use Prim.Native.Nat.{ℕ, suc, ◌+◌, ◌≤◌}
use native.Mathlib.Omega.{arith}
use mathlib.Core.Path.{◌≡◌, refl, ap, ap₂, subst}
use mathlib.Core.List.{List, [], ◌∷◌, ◌++◌}
use lib.ListN.{length, length-append}
use Rattle.utf8.specs.Chars.{All, nil, cons}
use Rattle.model.specs.Chunk.{Chunk, is_filled, first_half, second_half}
use Rattle.model.specs.MagicString.{MagicString, Result, ok, err, and_then, with_chunks, split_at}
use Rattle.model.specs.Cut.{Cut, made, edge, outside, refused, is_outside, cut_at}
use Rattle.model.proofs.Lists.{bool-elim}
use Rattle.model_closed_forms.proofs.Cuts.{Contains, dec_contains}
use Rattle.model_closed_forms.specs.Spans.{Cover}
use Rattle.model_closed_forms.specs.SplitAt.{cuts_then}
use Rattle.model_closed_forms.proofs.SplitAt.{cover_cut}
use Rattle.model_closed_forms.proofs.CutAt.{cut_nothing, cut_refused, cut_made, cut_at_aligned, cut_at_inside}
use Rattle.model_cuts.specs.Cuts.{then_cuts, count_made}

-- ── one cut ──
-- the chunk that contains the position, or none does
data Holder (q : ℕ) (cs : List Chunk) : Type 0 where
  found : (xs : List Chunk) (c : Chunk) (ys : List Chunk) → cs ≡ xs ++ c ∷ ys → Contains q c → Holder q cs
  missing : All (λ c. Contains q c → ⊥) cs → Holder q cs

holder_of : (q : ℕ) (cs : List Chunk) → Holder q cs
holder_of q [] = missing nil
holder_of q (c ∷ cs) = go (dec_contains q c) (holder_of q cs)
  where
    go : Dec (Contains q c) → Holder q cs → Holder q (c ∷ cs)
    go (yes i) _ = found [] c cs refl i
    go (no n) (found xs d ys e i) = found (c ∷ xs) d ys (ap (λ (l : List Chunk). c ∷ l) e) i
    go (no n) (missing k) = missing (cons n k)

-- what a cut gives by what it says
data Did (m : MagicString) : Cut → Result → Type 0 where
  did_make : (cs : List Chunk) → length cs ≡ suc (length m.chunks) → Cover m.source cs → Did m made (ok (with_chunks m cs))
  did_edge : Did m edge (ok m)
  did_outside : Did m outside (ok m)
  did_refuse : Did m refused (err 6 m)

did : (q : ℕ) (m : MagicString) → Cover m.source m.chunks → Did m (cut_at q m) (split_at q m)
did q m v = go (holder_of q m.chunks)
  where
    go : Holder q m.chunks → Did m (cut_at q m) (split_at q m)
    go (missing n) =
        rw (cut_at_aligned q m v n, (cut_nothing q m v n).0)
        (bool-elim (is_outside q m) (λ h. rw h did_outside) (λ h. rw h did_edge))
    go (found xs c ys e i) =
        rw (cut_at_inside q m v xs c ys e i)
        (bool-elim (is_filled c.texts.edited_content) (λ f. rw (f, cut_refused q m v xs c ys e i f) did_refuse)
        (λ f. rw (f, (cut_made q m v xs c ys e i f).0)
        (did_make (xs ++ first_half q c ∷ second_half q c ∷ ys)
        (omega (arith, length-append xs (first_half q c ∷ second_half q c ∷ ys), length-append xs (c ∷ ys), ap length e))
        (subst (Cover m.source) (cut_made q m v xs c ys e i f).1 (cover_cut q v)))))

-- ── cuts in a row ──
pub count_step : (q : ℕ) (ps : List ℕ) (m : MagicString) {x : Cut} {r : Result} → cut_at q m ≡ x → split_at q m ≡ r → count_made (q ∷ ps) m ≡ then_cuts x (count_made ps r.desk)
count_step q ps m a b = ap₂ (λ (x : Cut) (r : Result). then_cuts x (count_made ps r.desk)) a b

-- a step that leaves as many chunks as it meets
abbrev pub Keeps : (MagicString → Result) → Type 0
Keeps step = (m : MagicString) → length (step m).desk.chunks ≡ length m.chunks

-- what is left has as many chunks more as the cuts say
abbrev pub Grows : List ℕ → MagicString → Result → Type 0
Grows ps m r = length r.desk.chunks ≡ length m.chunks + count_made ps m

pub cuts_grow : (ps : List ℕ) (step : MagicString → Result) → Keeps step → (m : MagicString) → Cover m.source m.chunks → Grows ps m (cuts_then ps step m)
cuts_grow [] step k m v = omega (arith, k m)
cuts_grow (q ∷ ps) step k m v = go (did q m v) (cuts_grow ps step k)
  where
    go : {x : Cut} {r : Result} → Did m x r → ((n : MagicString) → Cover n.source n.chunks → Grows ps n (cuts_then ps step n))
        → length (and_then r (cuts_then ps step)).desk.chunks ≡ length m.chunks + then_cuts x (count_made ps r.desk)
    go (did_make cs e w) ih = omega (arith, ih (with_chunks m cs) w)
    go did_edge ih = ih m v
    go did_outside ih = ih m v
    go did_refuse ih = omega arith

then_few : (x : Cut) (n k : ℕ) → n ≤ k → then_cuts x n ≤ suc k
then_few made n k h = omega arith
then_few edge n k h = omega arith
then_few outside n k h = omega arith
then_few refused n k h = omega arith

pub count_few : (ps : List ℕ) (m : MagicString) → count_made ps m ≤ length ps
count_few [] m = omega arith
count_few (q ∷ ps) m = then_few (cut_at q m) (count_made ps (split_at q m).desk) (length ps) (count_few ps (split_at q m).desk)

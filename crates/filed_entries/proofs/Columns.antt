-- Entries by their columns: answers and marks, place by place.
use Prim.Native.Nat.{ℕ, zero, suc, ◌≤◌, ◌<◌}
use mathlib.Core.Path.{◌≡◌, refl, sym, ap, ◌∙◌}
use mathlib.Core.List.{List, [], ◌∷◌, ◌++◌}
use native.Mathlib.Omega.{arith}
use lib.ListN.{length, get_or, take, drop}
use Rattle.model_sheet.specs.Record.{Recorded}
use Rattle.model_filed.specs.Filed.{Entry, entries_with}
use Rattle.model_filed.proofs.Filing.{behind_first}

-- two columns have the same in their first n places
abbrev pub SameFirst : ℕ → List ℕ → List ℕ → Type 0
SameFirst n ns ns' = (i : ℕ) → i < n → get_or ns' i 0 ≡ get_or ns i 0

rest_same : {n : ℕ} (ns ns' : List ℕ) → SameFirst (suc n) ns ns' → SameFirst n (drop 1 ns) (drop 1 ns')
rest_same ns ns' f i h = behind_first ns' i ∙ f (suc i) (omega arith) ∙ sym (behind_first ns i)

-- a call more behind the others, with what stands behind theirs
pub with_one_more : (l : List Recorded) (r : Recorded) (ns ms ns' ms' : List ℕ) → SameFirst (length l) ns ns' → SameFirst (length l) ms ms'
    → entries_with (l ++ (r ∷ [])) ns' ms' ≡ entries_with l ns ms ++ (record { call = r; answer = get_or ns' (length l) 0; marks = get_or ms' (length l) 0 } ∷ [])
with_one_more [] r ns ms ns' ms' f g = refl
with_one_more (q ∷ l) r ns ms ns' ms' f g =
    let here : ◌≡◌ {A = Entry} (record { call = q; answer = get_or ns' 0 0; marks = get_or ms' 0 0 }) (record { call = q; answer = get_or ns 0 0; marks = get_or ms 0 0 }) =
    λ i. record { call = q; answer = f 0 (omega arith) i; marks = g 0 (omega arith) i } in
    ap (λ (x : List Entry). record { call = q; answer = get_or ns' 0 0; marks = get_or ms' 0 0 } ∷ x)
    (with_one_more l r (drop 1 ns) (drop 1 ms) (drop 1 ns') (drop 1 ms') (rest_same ns ns' f) (rest_same ms ms' g))
    ∙ (λ i. here i ∷ (entries_with l (drop 1 ns) (drop 1 ms) ++ (record { call = r; answer = behind_first ns' (length l) i; marks = behind_first ms' (length l) i } ∷ [])))

-- a list without the element behind its first i: none above a bound if none of the list is
pub less_low : (i : ℕ) (l : List ℕ) (m : ℕ) → ((k : ℕ) → k < length l → get_or l k 0 ≤ m) → (j : ℕ) → j < length (take i l ++ drop (suc i) l)
    → get_or (take i l ++ drop (suc i) l) j 0 ≤ m
less_low zero [] m f j h = absurd (omega arith)
less_low zero (x ∷ l) m f j h = f (suc j) (omega arith)
less_low (suc i) [] m f j h = absurd (omega arith)
less_low (suc i) (x ∷ l) m f zero h = f 0 (omega arith)
less_low (suc i) (x ∷ l) m f (suc j) h = less_low i l m (λ k g. f (suc k) (omega arith)) j (omega arith)

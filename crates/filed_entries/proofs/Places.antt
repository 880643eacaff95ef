-- The walk to a call.
use Prim.Native.Nat.{ℕ, ◌+◌, ◌-◌, ◌≤◌}
use mathlib.Core.Path.{◌≡◌, refl, sym, ap, ◌∙◌}
use mathlib.Core.List.{List, [], ◌∷◌, ◌++◌}
use mathlib.Core.Option.{Option, none, some, map}
use lib.ListN.{length, take, drop, length-append}
use lib.Seq.{take_at, drop_at}
use native.Mathlib.Omega.{arith}
use Rattle.model_sheet.specs.Record.{Recorded, extent, records}
use Rattle.model_sheet.proofs.Records.{records_end}
use Rattle.model_sheet.proofs.Upto.{records_upto}
use Rattle.sheet_records.specs.Found.{Next}
use Rattle.sheet_records.proofs.Walk.{Walked, walk_start, walk_rest, walk_turn, taken_one, records_taken}
use Rattle.filed_entries.specs.Places.{Passed, Behind, Located}

-- k records have been passed
pub record Going (s : List ℕ) (at k : ℕ) : Type 0 where
  pub text : ℕ
  pub walked : Walked s at k text

pub going_start : (s : List ℕ) → Going s 0 0
going_start s = record { text = 0; walked = walk_start s }

module _ {s : List ℕ} {at k : ℕ} (g : Going s at k) where
  -- the records from the place on
  rest : (l : List Recorded) → records s ≡ some l → (m : List Recorded) × (records (drop at s) ≡ some m) × (l ≡ g.walked.list ++ m)
  rest l e = go (records (drop at s)) refl
    where
      go : (o : Option (List Recorded)) → records (drop at s) ≡ o → (m : List Recorded) × (records (drop at s) ≡ some m) × (l ≡ g.walked.list ++ m)
      go none q = let h = walk_rest g.walked q in let z : ◌≡◌ {A = ℕ} 0 1 = cc in absurd (omega arith)
      go (some m) q = let h = walk_rest g.walked q in (m, q, cc)

  pub going_next : {i : ℕ} → Behind s i → k ≤ i → Next s at
  going_next {i} b h = let r = rest b.list b.are in go r.0 r.1 r.2
    where
      go : (m : List Recorded) → records (drop at s) ≡ some m → b.list ≡ g.walked.list ++ m → Next s at
      go [] e q = absurd (omega (arith, b.more, ap length q, length-append g.walked.list [], g.walked.count))
      go (one ∷ m) e q = record { one = one; rest = m; are = e }

  pub going_turn : {next : ℕ} → Passed s at next → Going s next (k + 1)
  going_turn p = record { text = _; walked = walk_turn g.walked p.taken }

  going_upto : (l : List Recorded) → records s ≡ some l → records (take at s) ≡ some (take k l)
  going_upto l e =
      let r = rest l e in
      g.walked.upto ∙ ap {B = Option (List Recorded)} some (sym (ap (take k) r.2 ∙ take_at g.walked.list r.0 k g.walked.count))

  going_from : (l : List Recorded) → records s ≡ some l → records (drop at s) ≡ some (drop k l)
  going_from l e =
      let r = rest l e in
      r.1 ∙ ap {B = Option (List Recorded)} some (sym (ap (drop k) r.2 ∙ drop_at g.walked.list r.0 k g.walked.count))

-- the record at the place, alone
only : {s : List ℕ} {at i next : ℕ} (g : Going s at i) (p : Passed s at next) (l : List Recorded) → records s ≡ some l
    → records (take (next - at) (drop at s)) ≡ some (take 1 (drop i l))
only {s} {at} {i} {next} g p l e =
    let t = p.taken in
    let one = taken_one t in
    let n : next - at ≡ 0 + extent (drop 0 (drop at s)) = omega (arith, one.1) in
    let own : records (take (next - at) (drop at s)) ≡ some (p.one ∷ []) =
    records_upto (drop at s) 0 (next - at) records_end one.0 n in
    let is : drop i l ≡ p.one ∷ drop (i + 1) l =
    alike (going_from g l e) (records_taken t ∙ ap (map (λ m. p.one ∷ m)) (going_from (going_turn g p) l e)) in
    own ∙ ap (λ m. some (take 1 m)) (sym is)
  where
    alike : {o : Option (List Recorded)} {x y : List Recorded} → o ≡ some x → o ≡ some y → x ≡ y
    alike p q = cc

pub located : {s : List ℕ} {at i next : ℕ} → Going s at i → Passed s at next → Located s i at next
located g p =
    let t = p.taken in
    record {
      before_it = going_upto g;
      it = only g p;
      behind_it = going_from (going_turn g p);
      some_bytes = omega (arith, t.text_inside);
      within = t.there;
    }

-- A call that works on the record, or asks it, made on two memories that differ in nothing but marks.
use Prim.Native.Nat.{ℕ}
use mathlib.Core.Path.{◌≡◌, refl, sym, ◌∙◌, subst}
use mathlib.Core.List.{List, [], ◌∷◌, cons≢nil, nil≢cons}
use lib.ListN.{length}
use Rattle.model.specs.Limits.{Limits}
use Rattle.model_filed.specs.Filed.{Entry, Sitting, Answered, file, withdraw, freeze_beside}
use Rattle.model_filed.specs.Marks.{unmarked, AnsweredAlike, MemberAlike}
use Rattle.model_filed.proofs.Unseen.{marks_unseen}
use Rattle.memory.specs.WellFormed.{limits_of, Taken}
use Rattle.memory.specs.declared.Answer.{Answer}
use Rattle.filed_record.specs.Record.{kept_chunks, kept_pieces, kept_store, KeptTaken}
use Rattle.filed_record.specs.Promises.{sitting_of, Unchanged, Becomes, OnSitting}
use Rattle.filed_exported.specs.Sittings.{Lent}
use Rattle.filed_member.specs.Calls.{Seen, answer, Made}
use Rattle.filed_member.specs.Calls as calls
use Rattle.filed_member.specs.Claim.{Alike, SameButMarks}
use Rattle.filed_member.proofs.Unrefuted.{Unrefuted, is, and_then}
use Rattle.filed_member.proofs.Desks.{same_limits, same_desk, taken_or_not}
use Rattle.filed_member.proofs.Steps.{Goes, seen_same, shown_same, desk_beside, left_beside, stays, refuses, now_alike}

-- ── entries that differ in nothing but marks: both have calls, or neither ──
filed_too : (l l' : List Entry) → unmarked l ≡ unmarked l' → (l ≡ [] → ⊥) → l' ≡ [] → ⊥
filed_too [] l' e n z = n refl
filed_too (a ∷ l) [] e n z = cons≢nil e
filed_too (a ∷ l) (b ∷ l') e n z = cons≢nil z

-- what is kept beside calls
kept_desk : (source w b : List ℕ) (l : List Entry) → (l ≡ [] → ⊥) → KeptTaken source w b l → Taken source (kept_chunks w) (kept_pieces w) (kept_store b)
kept_desk source w b [] n k = absurd (n refl)
kept_desk source w b (e ∷ l) n k = k

-- over any source the kept desks of both are well formed, or those of neither
abbrev KeptAlike : List ℕ → List ℕ → List ℕ → List ℕ → Type 0
KeptAlike w b w' b' = Alike (kept_chunks w) (kept_pieces w) (kept_store b) (kept_chunks w') (kept_pieces w') (kept_store b')

kept_or_not : (source w b w' b' : List ℕ) (l l' : List Entry) → unmarked l ≡ unmarked l' → ((l ≡ [] → ⊥) → KeptAlike w b w' b') → {B : Type 0}
    → (KeptTaken source w b l → KeptTaken source w' b' l' → Unrefuted B) → ((KeptTaken source w b l → ⊥) → (KeptTaken source w' b' l' → ⊥) → Unrefuted B) → Unrefuted B
kept_or_not source w b w' b' [] [] e a f g = f tt tt
kept_or_not source w b w' b' [] (x ∷ l') e a f g = absurd (nil≢cons e)
kept_or_not source w b w' b' (x ∷ l) [] e a f g = absurd (cons≢nil e)
kept_or_not source w b w' b' (x ∷ l) (y ∷ l') e a f g = taken_or_not (a (λ z. cons≢nil z)) source f g

-- ── a call that works on a desk and the record beside it ──
abbrev sitting : List ℕ → Lent → List Entry → Sitting
sitting source M l = sitting_of source M.chunks M.pieces M.store M.words M.bytes l

abbrev limits : Lent → Limits
limits M = limits_of M.chunks M.pieces M.store

abbrev BecomesIn : List ℕ → Lent → Lent → List Entry → Answered → Answer → Type 0
BecomesIn source M N l o r =
    Becomes source M.chunks M.pieces M.store M.words M.bytes N.chunks N.pieces N.store N.words N.bytes l o r

abbrev OnMemory : (List Entry → Type 0) → List ℕ → Lent → Lent → Answer → Type 0
OnMemory P source M N r = OnSitting P source M.chunks M.pieces M.store M.words M.bytes N.chunks N.pieces N.store N.words N.bytes r

abbrev SameMemory : Lent → Lent → Type 0
SameMemory M N = Unchanged M.chunks M.pieces M.store M.words M.bytes N.chunks N.pieces N.store N.words N.bytes

module _ (M M' N N' : Lent) (x x' : Seen) (m : SameButMarks M M') (b : x.buffer ≡ x'.buffer) where
  not_taken : (x.number ≡ 2) × (x.value ≡ 0) × SameMemory M N → (x'.number ≡ 2) × (x'.value ≡ 0) × SameMemory M' N' → Goes x x' N N'
  not_taken o o' = refuses M M' N N' x x' m (o.0, o.1, o.2.desk) (o'.0, o'.1, o'.2.desk) b o.2.slices o'.2.slices

  -- what the model answers of both sittings differs in nothing but marks
  becomes : (source : List ℕ) (o o' : Answered) → BecomesIn source M N m.entries o (answer x) → BecomesIn source M' N' m.entries' o' (answer x') → AnsweredAlike o o'
      → Goes x x' N N'
  becomes source o o' c c' a =
      let left = a.left in
      record {
        seen = seen_same (c.number_is ∙ a.number ∙ sym c'.number_is) (c.value_is ∙ a.value ∙ sym c'.value_is) b;
        left = record {
          desk = now_alike M M' N N' source m c.lengths c'.lengths c.well_formed c'.well_formed (c.desk_is ∙ left.desk ∙ sym c'.desk_is);
          entries = o.left.entries;
          entries' = o'.left.entries;
          are = c.record_is;
          are' = c'.record_is;
          agree = left.entries;
          kept = λ n.
              record {
                source = source;
                holds = kept_desk source N.words N.bytes o.left.entries n c.kept_taken;
                holds' = kept_desk source N'.words N'.bytes o'.left.entries (filed_too o.left.entries o'.left.entries left.entries n) c'.kept_taken;
                desk = c.kept_is ∙ left.kept n ∙ sym c'.kept_is;
              };
        };
      }

  -- where both hold a desk and a record over the source, what the model's call leaves; elsewhere 2
  on_memory : (source : List ℕ) (f : Limits → Sitting → Answered) (P P' : List Entry → Type 0) → OnMemory P source M N (answer x) → OnMemory P' source M' N' (answer x')
      → (P m.entries → BecomesIn source M N m.entries (f (limits M) (sitting source M m.entries)) (answer x))
      → (P' m.entries' → BecomesIn source M' N' m.entries' (f (limits M') (sitting source M' m.entries')) (answer x'))
      → AnsweredAlike (f (limits M) (sitting source M m.entries)) (f (limits M) (sitting source M' m.entries')) → Unrefuted (Goes x x' N N')
  on_memory source f P P' c c' d d' a =
      let alike = subst (λ (k : Limits). AnsweredAlike (f (limits M) (sitting source M m.entries)) (f k (sitting source M' m.entries'))) (same_limits m.desk) a in
      taken_or_not m.desk source
      (λ h h'.
      kept_or_not source M.words M.bytes M'.words M'.bytes m.entries m.entries' m.agree m.kept
      (λ k k'. is (becomes source _ _ (d (c.taken h m.entries m.are k)) (d' (c'.taken h' m.entries' m.are' k')) alike))
      (λ n n'. is (not_taken (c.not_kept m.entries m.are n) (c'.not_kept m.entries' m.are' n'))))
      (λ n n'. is (not_taken (c.no_desk n) (c'.no_desk n')))

-- the model's calls do not tell the two sittings apart
member_alike : (M M' : Lent) (m : SameButMarks M M') (source : List ℕ) → MemberAlike (limits M) (sitting source M m.entries) (sitting source M' m.entries')
member_alike M M' m source =
    marks_unseen (limits M) (sitting source M m.entries) (sitting source M' m.entries')
    (record { desk = same_desk m.desk source; entries = m.agree; kept = λ n. same_desk (m.kept n) source })

-- ── the calls ──
module _ (M M' N N' : Lent) (x x' : Seen) (m : SameButMarks M M') where
  pub files : (source call : List ℕ) → Made (calls.file source call) M x N → Made (calls.file source call) M' x' N' → Unrefuted (Goes x x' N N')
  files source call c c' =
      on_memory M M' N N' x x' m (c.1 ∙ sym c'.1) source (λ k y. file k call y) _ _ c.0 c'.0 (λ o. o.becomes) (λ o. o.becomes) ((member_alike M M' m source).file call)

  pub withdraws : (source : List ℕ) (k : ℕ) → Made (calls.withdraw source k) M x N → Made (calls.withdraw source k) M' x' N' → Unrefuted (Goes x x' N N')
  withdraws source k c c' =
      on_memory M M' N N' x x' m (c.1 ∙ sym c'.1) source (λ j y. withdraw j k y) _ _ c.0 c'.0 (λ o. o.becomes) (λ o. o.becomes) ((member_alike M M' m source).withdraw k)

  -- the record is only read
  pub freezes : (source : List ℕ) (from to : ℕ) → Made (calls.freeze source from to) M x N → Made (calls.freeze source from to) M' x' N' → Unrefuted (Goes x x' N N')
  freezes source from to c c' =
      and_then
      (on_memory M M' (desk_beside N M) (desk_beside N' M') x x' m (c.1 ∙ sym c'.1) source (λ k y. freeze_beside k from to y) _ _ c.0 c'.0 (λ o. o.becomes) (λ o. o.becomes)
      ((member_alike M M' m source).freeze from to))
      (λ g. is (record { seen = g.seen; left = left_beside M M' N N' c.2 c'.2 g.left }))

  -- the member's reading
  pub reads : (source : List ℕ) (k : ℕ) (out : List ℕ) → Made (calls.entry source k out) M x N → Made (calls.entry source k out) M' x' N' → Unrefuted (Goes x x' N N')
  reads source k out c c' =
      let goes : x ≡ x' → Goes x x' N N' = λ e. record { seen = e; left = stays M M' N N' m c.1 c.2 c'.1 c'.2 } in
      kept_or_not source M.words M.bytes M'.words M'.bytes m.entries m.entries' m.agree m.kept
      (λ h h'.
      let o = c.0.taken m.entries m.are h in
      let o' = c'.0.taken m.entries' m.are' h' in
      let one = (member_alike M M' m source).entry k (length out) in
      is (goes (shown_same out one (o.number_is, o.value_is, o.written) (o'.number_is, o'.value_is, o'.written))))
      (λ n n'.
      let o = c.0.not_kept m.entries m.are n in
      let o' = c'.0.not_kept m.entries' m.are' n' in
      is (goes (seen_same (o.0 ∙ sym o'.0) (o.1 ∙ sym o'.1) (o.2 ∙ sym o'.2))))

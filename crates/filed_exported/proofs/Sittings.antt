-- The exported calls keep a desk and its record in agreement.
use Prim.Native.Nat.{ℕ}
use mathlib.Core.Path.{◌≡◌, refl, sym, subst, ◌∙◌}
use mathlib.Core.List.{List, [], ◌∷◌}
use lib.ListN.{length}
use native.Mathlib.Omega.{arith}
use Rattle.model.specs.MagicString.{MagicString}
use Rattle.model.specs.Limits.{Limits}
use Rattle.model_filed.specs.Filed.{Entry, Sitting, Answered}
use Rattle.model_filed.specs.Marks.{set_marks}
use Rattle.model_filed.specs.Kept.{marked_beside, Agrees}
use Rattle.model_filed.proofs.Kept.{file_agrees, withdraw_agrees, mark_agrees}
use Rattle.model_filed.proofs.Unseen.{same_count, marked_same}
use Rattle.memory.specs.WellFormed.{limits_of, Full, Taken}
use Rattle.memory.specs.declared.Answer.{Answer}
use Rattle.memory.proofs.Desks.{limits_as}
use Rattle.filed_record.specs.Record.{KeptTaken}
use Rattle.filed_record.specs.Promises.{sitting_of, SameKept, Becomes}
use Rattle.filed_record.proofs.Kept.{same_kept_desk, same_kept_tables}
use Rattle.filed_exported.specs.Sittings.{Lent, MarkCall, begun, filed, withdrawn, marked, Holds, AlwaysHolds}

-- the sitting that memory holds, with these entries
abbrev sitting : List ℕ → Lent → List Entry → Sitting
sitting source M l = sitting_of source M.chunks M.pieces M.store M.words M.bytes l

-- what a call becomes holds again, if the model's answer agrees
holds_on : {source : List ℕ} {start : MagicString} {M M' : Lent} {l : List Entry} {o : Answered} {r : Answer} → Full M.chunks M.pieces M.store
    → Becomes source M.chunks M.pieces M.store M.words M.bytes M'.chunks M'.pieces M'.store M'.words M'.bytes l o r
    → Agrees (limits_of M.chunks M.pieces M.store) start o.left → Holds source start M'
holds_on {source} {start} {M} {M'} {o = o} f b g =
    let n = b.lengths in
    let is : o.left ≡ sitting source M' o.left.entries = λ i. record { desk = sym b.desk_is i; kept = sym b.kept_is i; entries = o.left.entries } in
    let limits : limits_of M.chunks M.pieces M.store ≡ limits_of M'.chunks M'.pieces M'.store = sym (limits_as n) in
    record {
      desk = record {
        full = record { chunks = n.chunks ∙ f.chunks; pieces = n.pieces ∙ f.pieces; store = n.store ∙ f.store };
        well_formed = b.well_formed;
      };
      entries = o.left.entries;
      are = b.record_is;
      kept = b.kept_taken;
      agrees = subst (λ (k : Limits). Agrees k start (sitting source M' o.left.entries)) limits (subst (Agrees (limits_of M.chunks M.pieces M.store) start) is g);
    }

-- as many entries over a kept desk that is as it was
kept_on : (source : List ℕ) {w b w' b' : List ℕ} (l l' : List Entry) → length l ≡ length l' → SameKept w b w' b' → KeptTaken source w b l → KeptTaken source w' b' l'
kept_on source l [] h k x = tt
kept_on source [] (e ∷ l') h k x = absurd (omega arith)
kept_on source (d ∷ l) (e ∷ l') h k x = same_kept_tables k (Taken source) x

-- marks that are written into the record's bytes
marked_on : {source : List ℕ} {start : MagicString} {M M' : Lent} {r : Answer} (k marks : ℕ) → Holds source start M → MarkCall source k marks M r M' → Holds source start M'
marked_on {source} {start} {M} {M'} k marks h c =
    let on = c.called.taken h.entries h.are h.kept in
    let l = set_marks k marks h.entries in
    let x = sitting source M h.entries in
    let N : Lent = record { chunks = M.chunks; pieces = M.pieces; store = M.store; words = M.words; bytes = M'.bytes } in
    let is : N ≡ M' = λ i. record { chunks = sym c.desk.chunks i; pieces = sym c.desk.pieces i; store = sym c.desk.store i; words = sym c.words i; bytes = M'.bytes } in
    let left_is : (marked_beside k marks x).left ≡ sitting source N l = λ i. record { desk = x.desk; kept = sym (same_kept_desk on.same_kept source) i; entries = l } in
    subst (Holds source start) is
    (record {
      desk = h.desk;
      entries = l;
      are = on.record_is;
      kept = kept_on source h.entries l (same_count (marked_same k marks x)) on.same_kept h.kept;
      agrees = subst (Agrees (limits_of M.chunks M.pieces M.store) start) left_is (mark_agrees x h.agrees k marks);
    })

pub always_holds : AlwaysHolds
always_holds source start M (begun d e n) = record { desk = d; entries = []; are = n; kept = tt; agrees = record { begins = e; desk = e; answers = refl } }
always_holds source start M' (filed {M = M} call x c) =
    let h = always_holds source start M x in
    let k = limits_of M.chunks M.pieces M.store in
    let on = c.taken h.desk h.entries h.are h.kept in
    holds_on {M = M} {M' = M'} h.desk.full on.becomes (file_agrees k start (sitting source M h.entries) h.agrees call)
always_holds source start M' (withdrawn {M = M} n x c) =
    let h = always_holds source start M x in
    let k = limits_of M.chunks M.pieces M.store in
    let on = c.taken h.desk h.entries h.are h.kept in
    holds_on {M = M} {M' = M'} h.desk.full on.becomes (withdraw_agrees k start (sitting source M h.entries) h.agrees n)
always_holds source start M' (marked {M = M} k marks x c) = marked_on {M = M} {M' = M'} k marks (always_holds source start M x) c

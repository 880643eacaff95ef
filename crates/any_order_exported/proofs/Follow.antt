-- Runs of the exported functions follow the model: what a run of edits leaves, and what later calls give.
use Prim.Native.Nat.{ℕ, ◌≤◌}
use mathlib.Core.Path.{◌≡◌, refl, sym, ap, ◌∙◌, subst}
use mathlib.Core.List.{List, [], ◌++◌, map}
use native.Mathlib.Omega.{arith}
use lib.ListN.{length, drop}
use borrow.Author.Tests.{le-leb}
use Rattle.utf8.specs.Chars.{All, nil, cons}
use Rattle.model.specs.Text.{Text}
use Rattle.model.specs.MagicString.{MagicString, Result, to_string}
use Rattle.model.specs.Limits.{Limits}
use Rattle.model.specs.Call.{Edit, Report, Shown, Outcome, freeze, run, cuts_left, show, after}
use Rattle.model.specs.Call as call
use Rattle.model_calls.specs.Call.{DeskCall, on_desk, perform}
use Rattle.model_filed.specs.Filed.{Answered, freeze_beside, edited_beside}
use Rattle.model_filed.proofs.Filing.{freeze_empty}
use Rattle.model_join.specs.Join.{join}
use Rattle.model_join.proofs.Joining.{join_writes_none}
use Rattle.memory.proofs.Desks.{full_as, limits_as}
use Rattle.memory.specs.Calls.{Ran, Told}
use Rattle.filed_record.specs.Promises.{sitting_of}
use Rattle.any_order.specs.Claim.{AllAccepted, shown}
use Rattle.any_order_exported.specs.Runs.{Tables, Holds, desk_of, limits, Answer, EditRun, Seen, LaterRun}
use Rattle.any_order_exported.specs.Runs as runs
use Rattle.any_order_exported.specs.Claim.{Gave, AllGave, FinalText}
use Rattle.any_order_exported.specs.Claim as claim

-- ── edits ──
-- what an edit leaves holds a desk again, of the same limits
next_holds : {e : Edit} {source : List ℕ} {T T₁ : Tables} {number value : ℕ} → Holds source T
    → Ran e source T.chunks T.pieces T.store T₁.chunks T₁.pieces T₁.store number value → Holds source T₁
next_holds w ran = record { full = full_as ran.lengths w.full; well_formed = ran.well_formed }

pub record Follows (source : List ℕ) (L : List Edit) (T : Tables) (answers : List Answer) (T₁ : Tables) : Type 0 where
  pub holds : Holds source T₁
  pub same : limits T₁ ≡ limits T
  pub desk : desk_of source T₁ ≡ after (limits T) L (desk_of source T)
  pub accepted : AllAccepted (limits T) L (desk_of source T) → All (λ a. a.number ≡ 0) answers

pub follows : {source : List ℕ} {L : List Edit} {T : Tables} {answers : List Answer} {T₁ : Tables} → EditRun source L T answers T₁ → Holds source T
    → Follows source L T answers T₁
follows runs.EditRun.done w = record { holds = w; same = refl; desk = refl; accepted = λ a. nil }
follows {source} (runs.EditRun.next {L = L} {T = T} {T₁ = T₁} x r) w =
    let ran = x.well_formed w in
    let f = follows r (next_holds {T = T} {T₁ = T₁} w ran) in
    let e : limits T₁ ≡ limits T = limits_as ran.lengths in
    record {
      holds = f.holds;
      same = f.same ∙ e;
      desk = f.desk ∙ ap (λ (k : Limits). after k L (desk_of source T₁)) e ∙ ap (after (limits T) L) ran.desk_is;
      accepted = λ a.
          cons (ran.number_is ∙ a.0)
          (f.accepted (subst (λ (k : Limits). AllAccepted k L (desk_of source T₁)) (sym e) (subst (AllAccepted (limits T) L) (sym ran.desk_is) a.1)));
    }

-- ── later calls ──
edit_gave : (a : Answer) (value : ℕ) (r : Result) → a.number ≡ r.number → a.value ≡ value → Gave (runs.seen_edit a) (call.changed value r).shown
edit_gave a value r n v = record { number = n; value = v; buffer = refl }

told_gave : (q : Report) (m : MagicString) (x : Seen) → Told q m x.before x.after x.answer.number x.answer.value → Gave x (show q m)
told_gave q m x d = record { number = d.number_is; value = d.value_is; buffer = d.written }

join_gave : (a : Answer) (o : Outcome) → a.number ≡ o.shown.number → a.value ≡ o.shown.value → o.shown.written ≡ [] → Gave (runs.seen_edit a) o.shown
join_gave a o n v e = record { number = n; value = v; buffer = sym (ap (λ l. l ++ drop (length l) []) e) }

-- what the model shows of them
abbrev pub expected : Limits → List DeskCall → MagicString → List Shown
expected k calls m = shown k (map on_desk calls) m

pub gives : {source : List ℕ} {calls : List DeskCall} {T : Tables} {seen : List Seen} → LaterRun source calls T seen → Holds source T
    → AllGave seen (expected (limits T) calls (desk_of source T))
unfolding perform
gives runs.LaterRun.done w = claim.AllGave.nil
gives {source} (runs.LaterRun.changed {e = e} {calls = calls} {T = T} {T₁ = T₁} {a = a} {seen = seen} x r) w =
    let ran = x.well_formed w in
    let u : limits T₁ ≡ limits T = limits_as ran.lengths in
    let rest = gives r (next_holds {T = T} {T₁ = T₁} w ran) in
    claim.AllGave.cons (edit_gave a (cuts_left (limits T) e (desk_of source T)) (run (limits T) e (desk_of source T)) ran.number_is (omega (arith, ran.value_is)))
    (subst (AllGave seen) (ap (λ (k : Limits). expected k calls (desk_of source T₁)) u ∙ ap (expected (limits T) calls) ran.desk_is) rest)
gives {source} (runs.LaterRun.joined {first = first} {second = second} {calls = calls} {T = T} {T₁ = T₁} {a = a} {seen = seen} x r) w =
    let done = x.well_formed w in
    let u : limits T₁ ≡ limits T = limits_as done.lengths in
    let rest = gives r (record { full = full_as done.lengths w.full; well_formed = done.well_formed }) in
    claim.AllGave.cons (join_gave a (join (limits T) first second (desk_of source T)) done.number_is done.value_is (join_writes_none (limits T) first second (desk_of source T)))
    (subst (AllGave seen) (ap (λ (k : Limits). expected k calls (desk_of source T₁)) u ∙ ap (expected (limits T) calls) done.desk_is) rest)
gives {source} (runs.LaterRun.frozen {from = from} {to = to} {w = w} {b = b} {calls = calls} {T = T} {T₁ = T₁} {a = a} {seen = seen} none x r) h =
    let k = limits T in
    let m = desk_of source T in
    let done = (x.taken h [] none tt).becomes in
    let x₀ = sitting_of source T.chunks T.pieces T.store w b [] in
    let is : freeze_beside k from to x₀ ≡ edited_beside k (freeze from to) x₀ = freeze_empty k from to x₀ refl in
    let u : limits T₁ ≡ k = limits_as done.lengths in
    let rest = gives r (record { full = full_as done.lengths h.full; well_formed = done.well_formed }) in
    let number = done.number_is ∙ ap (λ (o : Answered). o.number) is in
    let value = done.value_is ∙ ap (λ (o : Answered). o.value) is in
    let desk = done.desk_is ∙ ap (λ (o : Answered). o.left.desk) is in
    claim.AllGave.cons (edit_gave a (cuts_left k (freeze from to) m) (run k (freeze from to) m) number value)
    (subst (AllGave seen) (ap (λ (j : Limits). expected j calls (desk_of source T₁)) u ∙ ap (expected k calls) desk) rest)
gives {source} (runs.LaterRun.reported {q = q} {T = T} {x = y} x r) w = claim.AllGave.cons (told_gave q (desk_of source T) y (x.well_formed w)) (gives r w)

-- ── the final text ──
long_enough : (t : Text) (room : ℕ) → length t ≤ room → call.into room t ≡ record { number = 0; value = length t; written = t }
long_enough t room h = rw (le-leb (length t) room h)

pub final_text : (source : List ℕ) (T : Tables) → Holds source T → FinalText source T (to_string (desk_of source T))
unfolding show
final_text source T w x h r =
    let m : MagicString = desk_of source T in
    let room : ℕ = length x.before in
    subst (Gave x) (long_enough (to_string m) room h) (told_gave (call.to_string room) m x (r.well_formed w))

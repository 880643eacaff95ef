-- Nothing that a member can call tells the marks.
use mathlib.Core.Path.{◌≡◌, refl, sym, ap, ◌∙◌}
use mathlib.Core.List.{List, ◌∷◌}
use mathlib.Core.Option.{some, map}
use Rattle.model_filed.specs.Marks.{unmarked}
use Rattle.filed_exported.specs.Sittings.{Lent}
use Rattle.filed_member.specs.Calls.{MemberCall, «open», check, change, report, join, run_sheet, freeze, file, withdraw, entry, Seen, Made, MemberRun, done, next}
use Rattle.filed_member.specs.Claim.{SameButMarks, MarksUntold}
use Rattle.filed_member.proofs.Unrefuted.{Unrefuted, is, and_then, lists, options, desks, entries, views}
use Rattle.filed_member.proofs.Desks.{same_desk}
use Rattle.filed_member.proofs.Steps.{Goes}
use Rattle.filed_member.proofs.DeskCalls.{opens, checks, changes, reports, joins, runs_sheet}
use Rattle.filed_member.proofs.RecordCalls.{freezes, files, withdraws, reads}

-- one call
made : (c : MemberCall) (M M' N N' : Lent) (x x' : Seen) → SameButMarks M M' → Made c M x N → Made c M' x' N' → Unrefuted (Goes x x' N N')
made («open» source) M M' N N' x x' m c c' = is (opens M M' N N' x x' m source c c')
made (check source) M M' N N' x x' m c c' = checks M M' N N' x x' m source c c'
made (change source e) M M' N N' x x' m c c' = changes M M' N N' x x' m source e c c'
made (report source q out) M M' N N' x x' m c c' = reports M M' N N' x x' m source q out c c'
made (join source first second) M M' N N' x x' m c c' = joins M M' N N' x x' m source first second c c'
made (run_sheet sheet answers) M M' N N' x x' m c c' = is (runs_sheet M M' N N' x x' m sheet answers c c')
made (freeze source from to) M M' N N' x x' m c c' = freezes M M' N N' x x' m source from to c c'
made (file source call) M M' N N' x x' m c c' = files M M' N N' x x' m source call c c'
made (withdraw source k) M M' N N' x x' m c c' = withdraws M M' N N' x x' m source k c c'
made (entry source k out) M M' N N' x x' m c c' = reads M M' N N' x x' m source k out c c'

-- a whole run
record Ran (seen seen' : List Seen) (N N' : Lent) : Type 0 where
  same : seen ≡ seen'
  left : SameButMarks N N'

ran : {calls : List MemberCall} {M M' N N' : Lent} {seen seen' : List Seen} → SameButMarks M M' → MemberRun calls M seen N → MemberRun calls M' seen' N'
    → Unrefuted (Ran seen seen' N N')
ran m done done = is (record { same = refl; left = m })
ran m (next {c = call} c r) (next c' r') = and_then (made call _ _ _ _ _ _ m c c') (λ g. and_then (ran g.left r r') (λ h. is (record { same = λ i. g.seen i ∷ h.same i; left = h.left })))

-- an equality that cannot be refuted holds
pub marks_untold : MarksUntold
marks_untold M M' m calls seen seen' N N' r r' =
    let both = ran m r r' in
    record {
      same = lists views seen seen' (and_then both (λ h. is h.same));
      desk = λ source. desks _ _ (and_then both (λ h. is (same_desk h.left.desk source)));
      entries =
          options (lists entries) _ _
          (and_then both (λ h.
          let left = h.left in
          is (ap (map unmarked) left.are ∙ ap some left.agree ∙ sym (ap (map unmarked) left.are'))));
    }

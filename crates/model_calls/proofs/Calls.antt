-- Every call keeps a desk well formed, and gives 0 or one of its numbers.
use mathlib.Core.List.{[], ◌∷◌}
use Rattle.model.specs.Call.{run, edit_numbers, show, report_numbers, opened}
use Rattle.model.specs.WellFormed.{WellFormed}
use Rattle.model_preservation.proofs.Calls.{run_keeps, opened_cases}
use Rattle.model_preservation.proofs.Refusals.{answer_listed}
use Rattle.model_preservation.proofs.Numbers.{report_listed, opened_listed, listed_behind}
use Rattle.model_join.proofs.Joining.{join_keeps, join_listed}
use Rattle.model_calls.specs.Call.{change, report, join, «open», on_desk, perform}
use Rattle.model_calls.specs.Results.{CallListed, PerformKeeps}

pub perform_keeps : PerformKeeps
unfolding perform
perform_keeps k («open» source) m l w = opened_cases k source m l (λ r. WellFormed k r.desk) w w (λ n. n)
perform_keeps k (on_desk (change e)) m l w = run_keeps k e m w
perform_keeps k (on_desk (report q)) m l w = w
perform_keeps k (on_desk (join first second)) m l w = join_keeps k first second m w

pub call_listed : CallListed
unfolding perform
call_listed k («open» source) m f = listed_behind (opened k source m).number 2 (13 ∷ 1 ∷ []) (opened_listed k source m)
call_listed k (on_desk (change e)) m f = listed_behind (run k e m).number 2 (edit_numbers e) (answer_listed k e m f)
call_listed k (on_desk (report q)) m f = listed_behind (show q m).number 2 (report_numbers q) (report_listed q m)
call_listed k (on_desk (join first second)) m f = join_listed k first second m

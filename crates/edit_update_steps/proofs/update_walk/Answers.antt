use Rattle.edit_update_steps.proofs.Walk.{walked_none, walked_done, walked_broken}
use Rattle.edit_update_steps.proofs.update_walk.Goals as goal

pub returns-in_err-i : goal.returns-in_err-i
returns-in_err-i c = rw c.from_residual.ensures (walked_none c.args.start c.args.end c.args.t.now c.requires c.in_err-i.ensures)

pub clear_run-requires : goal.clear_run-requires
clear_run-requires c = let w = c.in_ok-i.ensures in record { linked = c.requires; placed = record { us = w.us; bs = w.bs; place = w.place } }

pub returns-then-clear_run : goal.returns-then-clear_run
returns-then-clear_run c =
    walked_done c.args.start c.args.end c.args.t.now c.clear_run.new.t c.in_ok-i.i c.in_ok-i.ensures c.clear_run.result c.clear_run.ensures c.if-clear_run.true

pub returns-else-clear_run : goal.returns-else-clear_run
returns-else-clear_run c =
    walked_broken c.args.start c.args.end c.args.t.now c.clear_run.new.t c.in_ok-i.i c.in_ok-i.ensures c.clear_run.result c.clear_run.ensures c.if-clear_run.false

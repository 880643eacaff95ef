-- `filed::withdraw` meets its contract.
use mathlib.Core.Path.{refl, sym, subst, ◌∙◌}
use native.Mathlib.Omega.{arith}
use Rattle.memory_used.specs.Above.{Desk}
use Rattle.sheet_run.proofs.Codes.{handed_number}
use Rattle.filed_entries.proofs.Out.{out_room, out_counted}
use Rattle.filed.specs.Done.{Withdraws}
use Rattle.filed.proofs.Withdraws.{withdraws_refused, back_tables, withdraws_call}
use Rattle.filed.proofs.withdraw.Goals as goal

pub returns-in_err-i : goal.returns-in_err-i
returns-in_err-i c =
    let a = c.args in
    subst (λ n. Withdraws a.k a.source.now a.chunks.now a.pieces.now a.store.now a.words.now a.bytes.now a.chunks.now a.pieces.now a.store.now a.words.now a.bytes.now
    (record { number = n; value = 0 }))
    (sym (handed_number _ c.from_residual.result c.from_residual.ensures))
    (withdraws_refused c.requires.holds _ c.in_err-i.ensures.0 c.requires.taken.well_formed (λ z. omega (arith, z, c.in_err-i.ensures.1)))

pub take_out-used-requires : goal.take_out-used-requires
take_out-used-requires c = record { holds = c.requires.holds; i_lt_count = c.in_ok-i.ensures.2 }

pub run_anew-requires : goal.run_anew-requires
run_anew-requires c =
    let (none, place, few) = c.in_ok-i.ensures in
    record {
      desk = back_tables c.requires.holds _ none refl (sym place) c.take_out-used.ensures c.put_back.ensures (λ x y z. Desk c.args.source.now x y z c.args.start)
          (c.requires.desk (λ n. absurd (omega (arith, few, n))));
      bytes_len = c.take_out-used.auto.bytes ∙ c.requires.holds.bytes;
      used_bound = out_room c.requires.holds few c.take_out-used.ensures;
      counted = out_counted c.requires.holds few c.take_out-used.ensures _ refl;
    }

pub returns : goal.returns
returns c =
    let (none, place, few) = c.in_ok-i.ensures in
    withdraws_call c.requires.holds _ none refl (sym place) c.take_out-used.ensures c.put_back.ensures
    (record { chunks = c.put_back.auto.chunks; pieces = c.put_back.auto.pieces; store = c.put_back.auto.store }) c.run_anew.ensures c.take_out-used.auto.words
    (record { chunks = c.run_anew.auto.chunks ∙ c.put_back.auto.chunks; pieces = c.run_anew.auto.pieces ∙ c.put_back.auto.pieces; store = c.run_anew.auto.store ∙ c.put_back.auto.store })

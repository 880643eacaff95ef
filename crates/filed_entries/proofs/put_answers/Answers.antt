-- `filed_entries::put_answers` meets its contract.
use mathlib.Core.Path.{refl}
use native.Mathlib.Omega.{arith}
use Rattle.memory_texts.proofs.Over.{put_back}
use Rattle.filed_entries.proofs.put_answers.Goals as goal

pub returns : goal.returns
returns c = put_back _ _ _ _ _ (omega (arith, c.requires.bytes_len, c.requires.answers_len_bound)) c.put.ensures refl

use native.Mathlib.Omega.{arith}
use Rattle.trim_chunk.proofs.runs_behind.Goals as goal

pub returns : goal.returns
returns c =
    record {
      least = omega (arith, c.run_behind-k.ensures.least, c.run_behind.ensures.least);
      runs = record { intro = λ n. omega (arith, c.run_behind-k.ensures.run n, c.run_behind.ensures.least); outro = c.run_behind.ensures.run };
      most = λ z h l. c.run_behind.ensures.most z (c.run_behind-k.ensures.most z h l.intro) l.outro;
    }

-- A byte that is no kind's has no positions.
use Rattle.sheet_records.proofs.Fields.{no_kind}
use Rattle.sheet_records.proofs.kinds.KindTryFromU8.try_from.Goals as goal

pub returns-in_default : goal.returns-in_default
returns-in_default c = let ((((((((_, h₁), h₂), h₃), h₄), h₅), h₆), h₇), h₈) = c.in_default.in_default-own.rest in no_kind c.args.byte h₁ h₂ h₃ h₄ h₅ h₆ h₇ h₈

use Rattle.std.proofs.Common.{sym, ◌∙◌}
use Rattle.std.proofs.lemmas.Iterator.{YieldsList-from_slice}
use Rattle.std.proofs.lemmas.Iterator.Adapters.{option_map_id}
use Rattle.std.proofs.lemmas.Iterator.Consumers.{nth_from_yields_List, YieldsList-from_copied}
use Rattle.replay_read.specs.Names.{kinds}
use Rattle.replay_read.proofs.names.Kind.of.Goals as goal

pub returns : goal.returns
returns c =
    let yields = YieldsList-from_copied (YieldsList-from_slice kinds cc) in
    sym (option_map_id _) ∙ nth_from_yields_List c.nth.result _ c.args.number c.nth.ensures.ran yields

use Rattle.cip_input.proofs.ModelTexts.{each_limited}
use Rattle.cip_input.proofs.laws.programs_are_limited.Goals as goal

pub returns : goal.returns
returns c = each_limited c.programs_are_well_formed.ensures c.lp_programs_are_well_formed.ensures c.values_are_tested.ensures

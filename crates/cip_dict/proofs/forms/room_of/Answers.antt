use Rattle.std.proofs.lemmas.Grind.{common_steps}
use Rattle.std.proofs.Common.{arith}
use Rattle.cip_dict.proofs.forms.room_of.Goals as goal

pub offset_bounds-forms-form-index : goal.offset_bounds-forms-form-index
offset_bounds-forms-form-index c = grind (arith, common_steps)

use Rattle.std.proofs.Common.{refl}
use Rattle.cip_search.proofs.ReductionsTried.{of_form, of_constant}
use Rattle.cip_search.proofs.reduction_laws.examples.Goals as goal

pub returns : goal.returns
returns c = record {
  of_form = of_form;
  of_constant = of_constant;
  left = refl;
  old_numbers = refl;
  old_number = refl;
  new_number = refl;
  new_row = refl;
}

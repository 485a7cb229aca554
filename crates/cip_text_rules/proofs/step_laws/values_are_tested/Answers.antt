use Rattle.cip_text_rules.proofs.Told.{value_zero, value_negative, value_size, value_far, value_bound, value_bound_negative, value_bound_positive}
use Rattle.cip_text_rules.proofs.step_laws.values_are_tested.Goals as goal

pub returns : goal.returns
returns c = record {
  zero = value_zero;
  negative = value_negative;
  size = value_size;
  far = value_far;
  bound = value_bound;
  bound_negative = value_bound_negative;
  bound_positive = value_bound_positive;
}

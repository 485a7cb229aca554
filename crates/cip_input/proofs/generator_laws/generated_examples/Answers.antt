use Rattle.std.proofs.Common.{refl}
use Rattle.cip_input.specs.Generated.{next_state}
use Rattle.cip_input.proofs.generator_laws.generated_examples.Goals as goal

pub returns : goal.returns
unfolding next_state
returns c = record {
  first_draw = refl;
  seed_zero = refl;
  seed_one = refl;
  whole_program = refl;
  entries = refl;
}

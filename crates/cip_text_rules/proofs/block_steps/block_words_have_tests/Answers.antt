use Rattle.std.proofs.Common.{ℕ, cond, Option, None, Some, refl, ap}
use Rattle.cip_text_rules.specs.MpsWords.{number_in}
use Rattle.cip_text_rules.specs.BlockSteps.{is_placed, row_place}
use Rattle.cip_text_rules.proofs.LookUps.{not_some}
use Rattle.cip_text_rules.proofs.block_steps.block_words_have_tests.Goals as goal

pub returns : goal.returns
returns c = record {
  presolved = λ program state. refl;
  count_opens = λ program state. refl;
  block_opens = λ program state. refl;
  master = λ program state. refl;
  out_of_place = λ program state. refl;
  zero = λ program state. refl;
  count = λ program state number. refl;
  number = λ program state number. refl;
  name = λ program state block name.
      ap (λ t. cond {A = Option ℕ} t (Some 4) (cond (is_placed (row_place state.rows (number_in program.row_names name))) (Some 5) None))
      (not_some (number_in program.row_names name));
}

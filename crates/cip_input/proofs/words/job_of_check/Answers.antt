use Rattle.std.proofs.lemmas.Grind.{common_steps}
use Rattle.std.proofs.Common.{arith}
use Rattle.clap.specs.Words.{found_of}
use Rattle.cip_input.proofs.Numbers.{full_check, no_point, no_program}
use Rattle.cip_input.proofs.words.job_of_check.Goals as goal

pub returns-in_default : goal.returns-in_default
returns-in_default c = no_program (found_of c.args.check.now) c.in_default.ensures

pub returns-in-Some-get_str : goal.returns-in-Some-get_str
returns-in-Some-get_str c = full_check (found_of c.args.check.now) _ _ c.in-Some.ensures c.in-Some-get_str.ensures

pub returns-in-None : goal.returns-in-None
returns-in-None c = no_point (found_of c.args.check.now) _ c.in-Some.ensures c.in-None.ensures

pub fact_in-model : goal.fact_in-model
fact_in-model c = grind (arith, common_steps)

pub fact_in-point : goal.fact_in-point
fact_in-point c = grind (arith, common_steps)

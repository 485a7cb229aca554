use Rattle.clap.specs.Words.{found_of}
use Rattle.cip_input.proofs.Naturals.{full_self, no_seed, no_columns, no_rows}
use Rattle.cip_input.proofs.words.job_of_self.Goals as goal

pub returns-in_default : goal.returns-in_default
returns-in_default c = no_seed (found_of c.args.drawn.now) _ c.get_str.ensures c.in_default.ensures

pub returns-in_default-count_in : goal.returns-in_default-count_in
returns-in_default-count_in c =
    no_columns (found_of c.args.drawn.now) _ _ _ c.get_str.ensures c.get_str-2.ensures c.in-Some.ensures c.in_default-count_in.ensures

pub returns-in-None : goal.returns-in-None
returns-in-None c =
    no_rows (found_of c.args.drawn.now) _ _ _ _ _ c.get_str.ensures c.get_str-2.ensures c.get_str-3.ensures c.in-Some.ensures c.in-Some-count_in.ensures c.in-None.ensures

pub returns-in-Some-count_in-2 : goal.returns-in-Some-count_in-2
returns-in-Some-count_in-2 c =
    full_self (found_of c.args.drawn.now) _ _ _ _ _ _ c.get_str.ensures c.get_str-2.ensures c.get_str-3.ensures c.in-Some.ensures c.in-Some-count_in.ensures c.in-Some-count_in-2.ensures

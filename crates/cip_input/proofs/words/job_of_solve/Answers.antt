use Rattle.clap.specs.Words.{found_of}
use Rattle.cip_input.proofs.Numbers.{full_job, no_number, no_gap, no_model}
use Rattle.cip_input.proofs.words.job_of_solve.Goals as goal

pub returns-in_default : goal.returns-in_default
returns-in_default c = no_model (found_of c.args.solve.now) c.in_default.ensures

pub returns-in_default-nodes_in : goal.returns-in_default-nodes_in
returns-in_default-nodes_in c =
    no_number (found_of c.args.solve.now) _ _ c.in-Some.ensures c.get_str-2.ensures c.in_default-nodes_in.ensures

pub returns-in_default-gap_in : goal.returns-in_default-gap_in
returns-in_default-gap_in c =
    no_gap (found_of c.args.solve.now) _ _ _ _ c.in-Some.ensures c.get_str-2.ensures c.get_str-3.ensures c.in-Some-nodes_in.ensures c.in_default-gap_in.ensures

pub returns : goal.returns
returns c =
    full_job (found_of c.args.solve.now) _ _ _ _ _ _ c.in-Some.ensures c.get_str-blocks.ensures c.get_str-2.ensures c.get_str-3.ensures c.in-Some-nodes_in.ensures c.in-Some-gap_in.ensures
    _ _ _ _ _ _ _ c.get_str-4.ensures c.is_true-plain.ensures c.get_str-5.ensures c.is_true-trace.ensures c.get_str-6.ensures c.in_ok-off.ensures c.is_presolved-presolve.ensures

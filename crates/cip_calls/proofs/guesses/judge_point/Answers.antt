use Rattle.std.proofs.lemmas.Grind.{common_steps}
use Rattle.cip_core.specs.Verdicts.{verdict_of}
use Rattle.cip_problem.specs.WellFormed.{columns}
use Rattle.cip_problem.specs.Program.{Program}
use Rattle.std.proofs.Common.{rules, refl, sym, ap, ◌∙◌, arith}
use Rattle.cip_core.proofs.Relations.{later_at_itself}
use Rattle.cip_calls.proofs.guesses.judge_point.Goals as goal

pub returns-in_default : goal.returns-in_default
returns-in_default c = record {
  answer = search rules;
  after = refl;
  later = later_at_itself c.args.core.now c.args.node.now c.requires.at_work;
  region = refl;
  frame = refl;
}

pub hold-requires-clause-found : goal.hold-requires-clause-found
hold-requires-clause-found c = ap (λ (p : Program). verdict_of p c.args.values.now) (sym c.program.ensures) ∙ sym c.check.ensures.verdict ∙ c.in-Feasible.is

pub check-requires : goal.check-requires
check-requires c = c.requires.values ∙ ap columns (sym c.program.ensures)

pub hold-requires-clause-values : goal.hold-requires-clause-values
hold-requires-clause-values c = c.requires.values

pub hold-requires-clause-at_work : goal.hold-requires-clause-at_work
hold-requires-clause-at_work c = c.requires.at_work

pub returns-in-Feasible-clause-answer : goal.returns-in-Feasible-clause-answer
returns-in-Feasible-clause-answer c = grind (arith, common_steps)

pub returns-in-Feasible-clause-region : goal.returns-in-Feasible-clause-region
returns-in-Feasible-clause-region c = grind (arith, common_steps)

pub returns-in-Feasible-clause-frame : goal.returns-in-Feasible-clause-frame
returns-in-Feasible-clause-frame c = grind (arith, common_steps)

pub returns-in-Feasible-clause-after : goal.returns-in-Feasible-clause-after
returns-in-Feasible-clause-after c = grind (arith, common_steps)

pub returns-in-Feasible-clause-later : goal.returns-in-Feasible-clause-later
returns-in-Feasible-clause-later c = grind (arith, common_steps)

use Rattle.std.proofs.lemmas.Grind.{common_steps}
use Rattle.std.proofs.Common.{◌≡◌, ◌++◌, ℕ, List, refl, sym, subst, arith}
use Rattle.cip_search.specs.Figures.{cost_lines, held_lines, shown_lines, unless_infeasible, names_of}
use Rattle.cip_report.specs.declared.figures.Ended.{Ended}
use Rattle.cip_report.specs.declared.figures.Ended.TheVariants.{Infeasible}
use Rattle.cip_report.specs.Answers.{status_of, figures_of}
use Rattle.cip_report.specs.Writing.{Writes}
use Rattle.cip_report.proofs.WritingLemmas.{first_of_three, second_of_three, third_of_three, counts_failed}
use Rattle.cip_report.proofs.writing.write_figures.Goals as goal

-- the figures of a search with another end are all there
unless_same : (rows : List (List ℕ)) (ended : Ended) (text : List ℕ) → (ended ≡ Infeasible → ⊥) → unless_infeasible (status_of rows ended) text ≡ text
unless_same rows Infeasible text h = absurd (h refl)
unless_same rows other text h = refl

pub returns-in_err-write_costs-in_default-clause-taken : goal.returns-in_err-write_costs-in_default-clause-taken
returns-in_err-write_costs-in_default-clause-taken g c =
    let names = names_of c.args.program.now in
    let figures = figures_of c.args.program.now c.args.answer.now in
    let same = unless_same c.args.program.now.row_names c.args.answer.now.ended (cost_lines figures ++ held_lines names.columns figures.held ++ shown_lines names figures.status) c.in_default.not-Infeasible in
    subst (λ text. Writes c.from_residual.result (g.K.Sink.tells c.args.out.now) (g.K.Sink.tells c.write_costs.new.out) (c.args.buffer.now ++ text) c.write_costs.new.buffer) (sym same)
    (first_of_three c.from_residual.result _ _ c.args.buffer.now _ _ _ _ c.from_residual.ensures.0 c.in_err-write_costs-in_default.ensures.taken)

pub returns-in_err-write_held-in_default-clause-taken : goal.returns-in_err-write_held-in_default-clause-taken
returns-in_err-write_held-in_default-clause-taken g c =
    let names = names_of c.args.program.now in
    let figures = figures_of c.args.program.now c.args.answer.now in
    let same = unless_same c.args.program.now.row_names c.args.answer.now.ended (cost_lines figures ++ held_lines names.columns figures.held ++ shown_lines names figures.status) c.in_default.not-Infeasible in
    subst (λ text. Writes c.from_residual-in_err-write_held-in_default.result (g.K.Sink.tells c.args.out.now) (g.K.Sink.tells c.write_held.new.out) (c.args.buffer.now ++ text) c.write_held.new.buffer) (sym same)
    (second_of_three c.from_residual-in_err-write_held-in_default.result _ _ _ c.args.buffer.now _ _ _ _ _ c.from_residual-in_err-write_held-in_default.ensures.0
    c.in_ok-write_costs-in_default.ensures.taken c.in_err-write_held-in_default.ensures.taken)

pub returns-in_ok-write_held-in_default-clause-taken : goal.returns-in_ok-write_held-in_default-clause-taken
returns-in_ok-write_held-in_default-clause-taken g c =
    let names = names_of c.args.program.now in
    let figures = figures_of c.args.program.now c.args.answer.now in
    let same = unless_same c.args.program.now.row_names c.args.answer.now.ended (cost_lines figures ++ held_lines names.columns figures.held ++ shown_lines names figures.status) c.in_default.not-Infeasible in
    subst (λ text. Writes c.write_shown.result (g.K.Sink.tells c.args.out.now) (g.K.Sink.tells c.write_shown.new.out) (c.args.buffer.now ++ text) c.write_shown.new.buffer) (sym same)
    (third_of_three c.write_shown.result _ _ _ _ c.args.buffer.now _ _ _ _ _ _
    c.in_ok-write_costs-in_default.ensures.taken c.in_ok-write_held-in_default.ensures.taken c.write_shown.ensures.taken)

pub returns-in_ok-write_held-in_default-clause-faults : goal.returns-in_ok-write_held-in_default-clause-faults
returns-in_ok-write_held-in_default-clause-faults g c = grind (arith, common_steps)

pub write_shown-requires : goal.write_shown-requires
write_shown-requires g c = grind (arith, common_steps)

pub returns-in-Infeasible-clause-taken : goal.returns-in-Infeasible-clause-taken
returns-in-Infeasible-clause-taken g c = grind (arith, common_steps)

pub write_held-requires : goal.write_held-requires
write_held-requires g c = grind (arith, common_steps)

pub returns-in_err-write_costs-in_default-clause-faults : goal.returns-in_err-write_costs-in_default-clause-faults
returns-in_err-write_costs-in_default-clause-faults g c = counts_failed c.from_residual.result _ _ _ c.from_residual.ensures.0 refl c.in_err-write_costs-in_default.ensures.faults.1

pub returns-in_err-write_held-in_default-clause-faults : goal.returns-in_err-write_held-in_default-clause-faults
returns-in_err-write_held-in_default-clause-faults g c = counts_failed c.from_residual-in_err-write_held-in_default.result _ _ _ c.from_residual-in_err-write_held-in_default.ensures.0 c.in_ok-write_costs-in_default.ensures.faults.0 c.in_err-write_held-in_default.ensures.faults.1

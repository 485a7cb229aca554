use Rattle.std.proofs.lemmas.Grind.{common_steps}
use Rattle.std.proofs.Common.{◌+◌, ◌<◌, ◌^◌, ◌∙◌, refl, arith}
use Rattle.cip_report.specs.Answers.{figures_of}
use Rattle.cip_report.specs.Drawn.{drawn_of}
use Rattle.cip_report.proofs.SelfLines.{written_first, first_failed, costs_failed, end_failed, told_flushed}
use Rattle.cip_report.proofs.WritingLemmas.{counts_failed, counts_behind}
use Rattle.cip_report.proofs.drawn.report_self.Goals as goal

pub returns-in_err-write_all-clause-taken : goal.returns-in_err-write_all-clause-taken
returns-in_err-write_all-clause-taken g c =
    let few : c.args.drawn.seed + c.args.drawn.columns + c.args.drawn.rows + c.args.drawn.entries < 2 ^ 70 = omega arith in
    let figures = figures_of c.args.program.now c.args.answer.now in
    let first = written_first (drawn_of c.args.drawn) figures _ _ _ _ _ (c.as_bytes-seed.ensures.value ∙ c.format.ensures.text) (c.as_bytes-columns.ensures.value ∙ c.format-2.ensures.text) (c.as_bytes-rows.ensures.value ∙ c.format-3.ensures.text)
    (c.as_bytes-entries.ensures.value ∙ c.format-4.ensures.text) (c.as_bytes-word.ensures.value ∙ c.word.ensures c.args.program.now.row_names) few in
    first_failed c.from_residual.result _ _ (drawn_of c.args.drawn) figures _ _ c.from_residual.ensures.0 c.new-buffer.ensures first c.in_err-write_all.ensures.taken

pub returns-in_err-write_costs-clause-taken : goal.returns-in_err-write_costs-clause-taken
returns-in_err-write_costs-clause-taken g c =
    let few : c.args.drawn.seed + c.args.drawn.columns + c.args.drawn.rows + c.args.drawn.entries < 2 ^ 70 = omega arith in
    let figures = figures_of c.args.program.now c.args.answer.now in
    let first = written_first (drawn_of c.args.drawn) figures _ _ _ _ _ (c.as_bytes-seed.ensures.value ∙ c.format.ensures.text) (c.as_bytes-columns.ensures.value ∙ c.format-2.ensures.text) (c.as_bytes-rows.ensures.value ∙ c.format-3.ensures.text)
    (c.as_bytes-entries.ensures.value ∙ c.format-4.ensures.text) (c.as_bytes-word.ensures.value ∙ c.word.ensures c.args.program.now.row_names) few in
    costs_failed c.from_residual-in_err-write_costs.result _ _ _ (drawn_of c.args.drawn) figures _ _ _ c.from_residual-in_err-write_costs.ensures.0 c.new-buffer.ensures first c.in_ok-write_all.ensures.taken c.in_err-write_costs.ensures.taken

pub returns-in_err-write-clause-taken : goal.returns-in_err-write-clause-taken
returns-in_err-write-clause-taken g c =
    let few : c.args.drawn.seed + c.args.drawn.columns + c.args.drawn.rows + c.args.drawn.entries < 2 ^ 70 = omega arith in
    let figures = figures_of c.args.program.now c.args.answer.now in
    let first = written_first (drawn_of c.args.drawn) figures _ _ _ _ _ (c.as_bytes-seed.ensures.value ∙ c.format.ensures.text) (c.as_bytes-columns.ensures.value ∙ c.format-2.ensures.text) (c.as_bytes-rows.ensures.value ∙ c.format-3.ensures.text)
    (c.as_bytes-entries.ensures.value ∙ c.format-4.ensures.text) (c.as_bytes-word.ensures.value ∙ c.word.ensures c.args.program.now.row_names) few in
    end_failed c.from_residual-in_err-write.result _ _ _ _ (drawn_of c.args.drawn) figures _ _ _ _ c.from_residual-in_err-write.ensures.0 c.new-buffer.ensures first c.in_ok-write_all.ensures.taken c.in_ok-write_costs.ensures.taken c.in_err-write.ensures.taken

pub returns-clause-taken : goal.returns-clause-taken
returns-clause-taken g c =
    let few : c.args.drawn.seed + c.args.drawn.columns + c.args.drawn.rows + c.args.drawn.entries < 2 ^ 70 = omega arith in
    let figures = figures_of c.args.program.now c.args.answer.now in
    let first = written_first (drawn_of c.args.drawn) figures _ _ _ _ _ (c.as_bytes-seed.ensures.value ∙ c.format.ensures.text) (c.as_bytes-columns.ensures.value ∙ c.format-2.ensures.text) (c.as_bytes-rows.ensures.value ∙ c.format-3.ensures.text)
    (c.as_bytes-entries.ensures.value ∙ c.format-4.ensures.text) (c.as_bytes-word.ensures.value ∙ c.word.ensures c.args.program.now.row_names) few in
    told_flushed c.flush.result _ _ _ _ _ (drawn_of c.args.drawn) figures _ _ _ _ _ _ c.new-buffer.ensures first c.in_ok-write_all.ensures.taken c.in_ok-write_costs.ensures.taken c.in_ok-write.ensures.taken c.flush.ensures.taken c.flush.ensures.empty

pub overflow_cast-drawn-2 : goal.overflow_cast-drawn-2
overflow_cast-drawn-2 g c = grind (arith, common_steps)

pub overflow_cast-drawn : goal.overflow_cast-drawn
overflow_cast-drawn g c = grind (arith, common_steps)

pub returns-in_err-write_all-clause-faults : goal.returns-in_err-write_all-clause-faults
returns-in_err-write_all-clause-faults g c = counts_failed c.from_residual.result _ _ _ c.from_residual.ensures.0 refl c.in_err-write_all.ensures.faults.1

pub returns-in_err-write_costs-clause-faults : goal.returns-in_err-write_costs-clause-faults
returns-in_err-write_costs-clause-faults g c = counts_failed c.from_residual-in_err-write_costs.result _ _ _ c.from_residual-in_err-write_costs.ensures.0 c.in_ok-write_all.ensures.faults.0 c.in_err-write_costs.ensures.faults.1

pub returns-in_err-write-clause-faults : goal.returns-in_err-write-clause-faults
returns-in_err-write-clause-faults g c = counts_failed c.from_residual-in_err-write.result _ _ _ c.from_residual-in_err-write.ensures.0 (c.in_ok-write_costs.ensures.faults.0 ∙ c.in_ok-write_all.ensures.faults.0) c.in_err-write.ensures.faults.1

pub returns-clause-faults : goal.returns-clause-faults
returns-clause-faults g c = counts_behind c.flush.result _ _ _ (c.in_ok-write.ensures.faults.0 ∙ c.in_ok-write_costs.ensures.faults.0 ∙ c.in_ok-write_all.ensures.faults.0) c.flush.ensures.faults

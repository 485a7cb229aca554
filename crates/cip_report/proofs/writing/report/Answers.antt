use Rattle.std.proofs.lemmas.Grind.{common_steps}
use Rattle.std.proofs.Common.{◌≡◌, ◌∙◌, ◌++◌, [], ℕ, Ok, arith, refl}
use Rattle.cip_search.specs.Figures.{status_word, figure_lines, names_of, end_line}
use Rattle.cip_search.specs.TraceTexts.{trace_lines}
use Rattle.cip_report.specs.Answers.{figures_of, status_of}
use Rattle.cip_report.specs.Traces.{kept_lines}
use Rattle.cip_report.proofs.WritingLemmas.{first_of_two, second_of_two, first_of_three, second_of_three, third_of_three, Passes-three, Writes-part, status_passes, status_fails, failed_told, Writes-flushed, counts_failed, counts_behind}
use Rattle.cip_report.proofs.writing.report.Goals as goal

pub returns-in_err-write_line-clause-taken : goal.returns-in_err-write_line-clause-taken
returns-in_err-write_line-clause-taken g c =
    let program = c.args.program.now in
    let figures = figure_lines (names_of program) (figures_of program c.args.answer.now) in
    let traced = trace_lines 1 (kept_lines c.args.answer.now.trace) in
    let word : c.as_bytes-word.result.now ≡ status_word (status_of program.row_names c.args.answer.now.ended) = c.as_bytes-word.ensures.value ∙ c.word.ensures program.row_names in
    let failed = c.from_residual.ensures.0 in
    failed_told c.from_residual.result _ _ _ [] failed
    (first_of_three c.from_residual.result _ _ [] _ figures (traced ++ end_line) [] failed (status_fails _ _ _ _ _ c.new-buffer.ensures word c.in_err-write_line.ensures.taken))

pub returns-in_err-write_figures-clause-taken : goal.returns-in_err-write_figures-clause-taken
returns-in_err-write_figures-clause-taken g c =
    let program = c.args.program.now in
    let figures = figure_lines (names_of program) (figures_of program c.args.answer.now) in
    let traced = trace_lines 1 (kept_lines c.args.answer.now.trace) in
    let word : c.as_bytes-word.result.now ≡ status_word (status_of program.row_names c.args.answer.now.ended) = c.as_bytes-word.ensures.value ∙ c.word.ensures program.row_names in
    let failed = c.from_residual-in_err-write_figures.ensures.0 in
    failed_told c.from_residual-in_err-write_figures.result _ _ _ [] failed
    (second_of_three c.from_residual-in_err-write_figures.result _ _ _ [] _ figures (traced ++ end_line) _ [] failed (status_passes _ _ _ _ _ _ c.new-buffer.ensures word c.in_ok-write_line.ensures.taken) c.in_err-write_figures.ensures.taken)

pub returns-in_err-write_kept-clause-taken : goal.returns-in_err-write_kept-clause-taken
returns-in_err-write_kept-clause-taken g c =
    let program = c.args.program.now in
    let figures = figure_lines (names_of program) (figures_of program c.args.answer.now) in
    let traced = trace_lines 1 (kept_lines c.args.answer.now.trace) in
    let word : c.as_bytes-word.result.now ≡ status_word (status_of program.row_names c.args.answer.now.ended) = c.as_bytes-word.ensures.value ∙ c.word.ensures program.row_names in
    let failed = c.from_residual-in_err-write_kept.ensures.0 in
    failed_told c.from_residual-in_err-write_kept.result _ _ _ [] failed
    (third_of_three c.from_residual-in_err-write_kept.result _ _ _ _ [] _ figures (traced ++ end_line) _ _ []
    (status_passes _ _ _ _ _ _ c.new-buffer.ensures word c.in_ok-write_line.ensures.taken) c.in_ok-write_figures.ensures.taken
    (first_of_two c.from_residual-in_err-write_kept.result _ _ _ traced end_line [] failed c.in_err-write_kept.ensures.taken))

pub returns-in_err-write-clause-taken : goal.returns-in_err-write-clause-taken
returns-in_err-write-clause-taken g c =
    let program = c.args.program.now in
    let figures = figure_lines (names_of program) (figures_of program c.args.answer.now) in
    let traced = trace_lines 1 (kept_lines c.args.answer.now.trace) in
    let word : c.as_bytes-word.result.now ≡ status_word (status_of program.row_names c.args.answer.now.ended) = c.as_bytes-word.ensures.value ∙ c.word.ensures program.row_names in
    let failed = c.from_residual-in_err-write.ensures.0 in
    failed_told c.from_residual-in_err-write.result _ _ _ [] failed
    (third_of_three c.from_residual-in_err-write.result _ _ _ _ [] _ figures (traced ++ end_line) _ _ []
    (status_passes _ _ _ _ _ _ c.new-buffer.ensures word c.in_ok-write_line.ensures.taken) c.in_ok-write_figures.ensures.taken
    (second_of_two c.from_residual-in_err-write.result _ _ _ _ traced end_line _ [] c.in_ok-write_kept.ensures.taken
    (Writes-part c.from_residual-in_err-write.result _ _ _ [] failed c.in_err-write.ensures.taken)))

pub returns-clause-taken : goal.returns-clause-taken
returns-clause-taken g c =
    let program = c.args.program.now in
    let figures = figure_lines (names_of program) (figures_of program c.args.answer.now) in
    let traced = trace_lines 1 (kept_lines c.args.answer.now.trace) in
    let word : c.as_bytes-word.result.now ≡ status_word (status_of program.row_names c.args.answer.now.ended) = c.as_bytes-word.ensures.value ∙ c.word.ensures program.row_names in
    Writes-flushed c.flush.result _ _ _ _ _ _
    (Passes-three _ _ _ _ [] _ figures (traced ++ end_line) _ _ _ (status_passes _ _ _ _ _ _ c.new-buffer.ensures word c.in_ok-write_line.ensures.taken) c.in_ok-write_figures.ensures.taken
    (second_of_two {T = ℕ} {E = ℕ} (Ok 0) _ _ _ _ traced end_line _ _ c.in_ok-write_kept.ensures.taken c.in_ok-write.ensures.taken))
    c.flush.ensures.taken c.flush.ensures.empty

pub write_figures-requires : goal.write_figures-requires
write_figures-requires g c = grind (arith, common_steps)

pub returns-in_err-write_line-clause-faults : goal.returns-in_err-write_line-clause-faults
returns-in_err-write_line-clause-faults g c = counts_failed c.from_residual.result _ _ _ c.from_residual.ensures.0 refl c.in_err-write_line.ensures.faults.1

pub returns-in_err-write_figures-clause-faults : goal.returns-in_err-write_figures-clause-faults
returns-in_err-write_figures-clause-faults g c = counts_failed c.from_residual-in_err-write_figures.result _ _ _ c.from_residual-in_err-write_figures.ensures.0 c.in_ok-write_line.ensures.faults.0 c.in_err-write_figures.ensures.faults.1

pub returns-in_err-write_kept-clause-faults : goal.returns-in_err-write_kept-clause-faults
returns-in_err-write_kept-clause-faults g c = counts_failed c.from_residual-in_err-write_kept.result _ _ _ c.from_residual-in_err-write_kept.ensures.0 (c.in_ok-write_figures.ensures.faults.0 ∙ c.in_ok-write_line.ensures.faults.0) c.in_err-write_kept.ensures.faults.1

pub returns-in_err-write-clause-faults : goal.returns-in_err-write-clause-faults
returns-in_err-write-clause-faults g c = counts_failed c.from_residual-in_err-write.result _ _ _ c.from_residual-in_err-write.ensures.0 (c.in_ok-write_kept.ensures.faults.0 ∙ c.in_ok-write_figures.ensures.faults.0 ∙ c.in_ok-write_line.ensures.faults.0) c.in_err-write.ensures.faults.1

pub returns-clause-faults : goal.returns-clause-faults
returns-clause-faults g c = counts_behind c.flush.result _ _ _ (c.in_ok-write.ensures.faults.0 ∙ c.in_ok-write_kept.ensures.faults.0 ∙ c.in_ok-write_figures.ensures.faults.0 ∙ c.in_ok-write_line.ensures.faults.0) c.flush.ensures.faults

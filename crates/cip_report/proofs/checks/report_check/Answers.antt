use Rattle.std.proofs.lemmas.Grind.{common_steps}
use Rattle.std.proofs.Common.{◌≡◌, ◌∙◌, [], arith, refl}
use Rattle.cip_search.specs.Figures.{end_line}
use Rattle.cip_search.specs.Checks.{check_word, check_line}
use Rattle.cip_report.specs.Checks.{checked_of}
use Rattle.cip_report.proofs.WritingLemmas.{first_of_three, second_of_three, third_of_three, Passes-three, Writes-part, status_passes, status_fails, failed_told, Writes-flushed, counts_failed, counts_behind}
use Rattle.cip_report.proofs.checks.report_check.Goals as goal

pub returns-in_err-write_line-clause-taken : goal.returns-in_err-write_line-clause-taken
returns-in_err-write_line-clause-taken g c =
    let checked = checked_of c.args.program.now c.args.point.now c.args.verdict.now in
    let word : c.as_bytes-word.result.now ≡ check_word checked = c.as_bytes-word.ensures.value ∙ c.check_word.ensures c.args.program.now c.args.point.now in
    failed_told c.from_residual.result _ _ _ [] c.from_residual.ensures.0
    (first_of_three c.from_residual.result _ _ [] _ (check_line checked) end_line [] c.from_residual.ensures.0 (status_fails _ _ _ _ _ c.new-buffer.ensures word c.in_err-write_line.ensures.taken))

pub returns-in_err-write_verdict-clause-taken : goal.returns-in_err-write_verdict-clause-taken
returns-in_err-write_verdict-clause-taken g c =
    let checked = checked_of c.args.program.now c.args.point.now c.args.verdict.now in
    let word : c.as_bytes-word.result.now ≡ check_word checked = c.as_bytes-word.ensures.value ∙ c.check_word.ensures c.args.program.now c.args.point.now in
    let failed = c.from_residual-in_err-write_verdict.ensures.0 in
    failed_told c.from_residual-in_err-write_verdict.result _ _ _ [] failed
    (second_of_three c.from_residual-in_err-write_verdict.result _ _ _ [] _ (check_line checked) end_line _ [] failed
    (status_passes _ _ _ _ _ _ c.new-buffer.ensures word c.in_ok-write_line.ensures.taken) c.in_err-write_verdict.ensures.taken)

pub returns-in_err-write-clause-taken : goal.returns-in_err-write-clause-taken
returns-in_err-write-clause-taken g c =
    let checked = checked_of c.args.program.now c.args.point.now c.args.verdict.now in
    let word : c.as_bytes-word.result.now ≡ check_word checked = c.as_bytes-word.ensures.value ∙ c.check_word.ensures c.args.program.now c.args.point.now in
    let failed = c.from_residual-in_err-write.ensures.0 in
    failed_told c.from_residual-in_err-write.result _ _ _ [] failed
    (third_of_three c.from_residual-in_err-write.result _ _ _ _ [] _ (check_line checked) end_line _ _ []
    (status_passes _ _ _ _ _ _ c.new-buffer.ensures word c.in_ok-write_line.ensures.taken) c.in_ok-write_verdict.ensures.taken
    (Writes-part c.from_residual-in_err-write.result _ _ _ [] failed c.in_err-write.ensures.taken))

pub returns-clause-taken : goal.returns-clause-taken
returns-clause-taken g c =
    let checked = checked_of c.args.program.now c.args.point.now c.args.verdict.now in
    let word : c.as_bytes-word.result.now ≡ check_word checked = c.as_bytes-word.ensures.value ∙ c.check_word.ensures c.args.program.now c.args.point.now in
    Writes-flushed c.flush.result _ _ _ _ _ _
    (Passes-three _ _ _ _ [] _ (check_line checked) end_line _ _ _ (status_passes _ _ _ _ _ _ c.new-buffer.ensures word c.in_ok-write_line.ensures.taken) c.in_ok-write_verdict.ensures.taken c.in_ok-write.ensures.taken)
    c.flush.ensures.taken c.flush.ensures.empty

pub write_verdict-requires-clause-long : goal.write_verdict-requires-clause-long
write_verdict-requires-clause-long g c = grind (arith, common_steps)

pub write_verdict-requires-clause-meaning : goal.write_verdict-requires-clause-meaning
write_verdict-requires-clause-meaning g c = grind (arith, common_steps)

pub returns-in_err-write_line-clause-faults : goal.returns-in_err-write_line-clause-faults
returns-in_err-write_line-clause-faults g c = counts_failed c.from_residual.result _ _ _ c.from_residual.ensures.0 refl c.in_err-write_line.ensures.faults.1

pub returns-in_err-write_verdict-clause-faults : goal.returns-in_err-write_verdict-clause-faults
returns-in_err-write_verdict-clause-faults g c = counts_failed c.from_residual-in_err-write_verdict.result _ _ _ c.from_residual-in_err-write_verdict.ensures.0 c.in_ok-write_line.ensures.faults.0 c.in_err-write_verdict.ensures.faults.1

pub returns-in_err-write-clause-faults : goal.returns-in_err-write-clause-faults
returns-in_err-write-clause-faults g c = counts_failed c.from_residual-in_err-write.result _ _ _ c.from_residual-in_err-write.ensures.0 (c.in_ok-write_verdict.ensures.faults.0 ∙ c.in_ok-write_line.ensures.faults.0) c.in_err-write.ensures.faults.1

pub returns-clause-faults : goal.returns-clause-faults
returns-clause-faults g c = counts_behind c.flush.result _ _ _ (c.in_ok-write.ensures.faults.0 ∙ c.in_ok-write_verdict.ensures.faults.0 ∙ c.in_ok-write_line.ensures.faults.0) c.flush.ensures.faults

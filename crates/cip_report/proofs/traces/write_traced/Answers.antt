use Rattle.std.proofs.lemmas.Grind.{common_steps}
use Rattle.std.proofs.Common.{◌+◌, ◌<◌, ◌^◌, ◌∙◌, arith, refl}
use Rattle.cip_report.specs.Traces.{traced_line}
use Rattle.cip_report.proofs.TraceLemmas.{written_front, front_failed, name_failed, word_last}
use Rattle.cip_report.proofs.WritingLemmas.{counts_failed, counts_behind}
use Rattle.cip_report.proofs.traces.write_traced.Goals as goal

pub returns-in_err-write_all-clause-taken : goal.returns-in_err-write_all-clause-taken
returns-in_err-write_all-clause-taken g c =
    let few : c.args.number + c.args.traced.id < 2 ^ 70 = omega arith in
    let front = written_front c.args.number c.args.traced.id _ _ (c.as_bytes-number.ensures.value ∙ c.format.ensures.text) (c.as_bytes-id.ensures.value ∙ c.format-2.ensures.text) few in
    let told = traced_line c.args.names.now c.args.traced in
    front_failed c.from_residual.result _ _ c.args.buffer.now c.args.number told _ _ c.from_residual.ensures.0 front c.in_err-write_all.ensures.taken

pub returns-in_err-write-clause-taken : goal.returns-in_err-write-clause-taken
returns-in_err-write-clause-taken g c =
    let few : c.args.number + c.args.traced.id < 2 ^ 70 = omega arith in
    let front = written_front c.args.number c.args.traced.id _ _ (c.as_bytes-number.ensures.value ∙ c.format.ensures.text) (c.as_bytes-id.ensures.value ∙ c.format-2.ensures.text) few in
    let told = traced_line c.args.names.now c.args.traced in
    name_failed c.from_residual-in_err-write.result _ _ _ c.args.buffer.now c.args.number told _ _ _ _ c.from_residual-in_err-write.ensures.0 front c.name_in.ensures c.in_ok-write_all.ensures.taken c.in_err-write.ensures.taken

pub returns-clause-taken : goal.returns-clause-taken
returns-clause-taken g c =
    let few : c.args.number + c.args.traced.id < 2 ^ 70 = omega arith in
    let front = written_front c.args.number c.args.traced.id _ _ (c.as_bytes-number.ensures.value ∙ c.format.ensures.text) (c.as_bytes-id.ensures.value ∙ c.format-2.ensures.text) few in
    let told = traced_line c.args.names.now c.args.traced in
    word_last c.write_word.result _ _ _ _ c.args.buffer.now c.args.number told _ _ _ _ _ front c.name_in.ensures c.in_ok-write_all.ensures.taken c.in_ok-write.ensures.taken c.write_word.ensures.taken

pub overflow_cast-traced : goal.overflow_cast-traced
overflow_cast-traced g c = grind (arith, common_steps)

pub returns-in_err-write_all-clause-faults : goal.returns-in_err-write_all-clause-faults
returns-in_err-write_all-clause-faults g c = counts_failed c.from_residual.result _ _ _ c.from_residual.ensures.0 refl c.in_err-write_all.ensures.faults.1

pub returns-in_err-write-clause-faults : goal.returns-in_err-write-clause-faults
returns-in_err-write-clause-faults g c = counts_failed c.from_residual-in_err-write.result _ _ _ c.from_residual-in_err-write.ensures.0 c.in_ok-write_all.ensures.faults.0 c.in_err-write.ensures.faults.1

pub returns-clause-faults : goal.returns-clause-faults
returns-clause-faults g c = counts_behind c.write_word.result _ _ _ (c.in_ok-write.ensures.faults.0 ∙ c.in_ok-write_all.ensures.faults.0) c.write_word.ensures.faults

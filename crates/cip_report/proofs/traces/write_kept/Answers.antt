use Rattle.std.proofs.lemmas.Grind.{common_steps}
use Rattle.std.proofs.Common.{◌≡◌, ◌+◌, ◌++◌, ◌∙◌, suc, sym, ap, subst, take, map, append_assoc, arith, get_or}
use Rattle.std.proofs.lemmas.List.{get_or_default}
use Rattle.cip_events.specs.declared.words.Word.TheVariants.{Init}
use Rattle.cip_search.specs.TraceTexts.{trace_line, trace_lines}
use Rattle.cip_report.specs.Traces.{traced_line}
use Rattle.cip_report.specs.Writing.{Passes}
use Rattle.cip_report.proofs.WritingLemmas.{second_of_three, Passes-more, counts_failed}
use Rattle.cip_report.proofs.TraceLemmas.{trace_parts, trace_lines-more}
use Rattle.cip_report.proofs.traces.write_kept.Goals as goal

pub returns-in_err-write_traced-clause-taken : goal.returns-in_err-write_traced-clause-taken
returns-in_err-write_traced-clause-taken g c =
    let lines = c.as_slice-lines.result.now in
    let place = c.loop-place.place in
    let x = get_or lines place (record { id = 0; word = Init }) in
    let parts = trace_parts (traced_line c.as_slice-names.result.now) 1 lines place (place + 1) x (omega arith) c.loop-place-test.true (get_or_default lines place _ _ c.loop-place-test.true) in
    rw (c.in-Some.is, ← c.as_slice-names.ensures.value, ← c.as_slice-lines.ensures.value, parts)
    (second_of_three c.from_residual.result _ _ _ c.args.buffer.now _ _ _ _ _ c.from_residual.ensures.0 c.loop-place.invariant.0 c.in_err-write_traced.ensures.taken)

pub loop-place-preserved : goal.loop-place-preserved
loop-place-preserved g c =
    let told = traced_line c.as_slice-names.result.now in
    let lines = c.as_slice-lines.result.now in
    let place = c.loop-place.place in
    let x = get_or lines place (record { id = 0; word = Init }) in
    let old = c.loop-place.invariant in
    let one : place + 1 ≡ suc place = omega arith in
    let more = trace_lines-more told 1 lines place (place + 1) x (omega arith) c.loop-place-test.true (get_or_default lines place _ _ c.loop-place-test.true) in
    let whole : c.args.buffer.now ++ trace_lines 1 (map told (take (place + 1) lines)) ≡ (c.args.buffer.now ++ trace_lines 1 (map told (take place lines))) ++ trace_line (place + 1) (told x) =
    ap (λ n. c.args.buffer.now ++ trace_lines 1 (map told (take n lines))) one
    ∙ (ap (λ text. c.args.buffer.now ++ text) more ∙ sym (append_assoc c.args.buffer.now _ _)) in (
      subst (λ text. Passes (g.K.Sink.tells c.args.out.now) (g.K.Sink.tells c.write_traced.new.out) text c.write_traced.new.buffer) (sym whole)
          (Passes-more _ _ _ _ _ _ _ old.0 c.in_ok-write_traced.ensures.taken),
      c.in_ok-write_traced.ensures.faults.0 ∙ old.1,
    )

pub loop-place-init : goal.loop-place-init
loop-place-init g c = grind (arith, common_steps)

pub returns-clause-taken : goal.returns-clause-taken
returns-clause-taken g c = grind (arith, common_steps)

pub returns-in_default-clause-taken : goal.returns-in_default-clause-taken
returns-in_default-clause-taken g c = grind (arith, common_steps)

pub bounds-lines-place : goal.bounds-lines-place
bounds-lines-place g c = grind (arith, common_steps)

pub offset_bounds-lines-place : goal.offset_bounds-lines-place
offset_bounds-lines-place g c = grind (arith, common_steps)

pub overflow_add-place : goal.overflow_add-place
overflow_add-place g c = grind (arith, common_steps)

pub returns-clause-faults : goal.returns-clause-faults
returns-clause-faults g c = grind (arith, common_steps)

pub returns-in_err-write_traced-clause-faults : goal.returns-in_err-write_traced-clause-faults
returns-in_err-write_traced-clause-faults g c = counts_failed c.from_residual.result _ _ _ c.from_residual.ensures.0 c.loop-place.invariant.1 c.in_err-write_traced.ensures.faults.1

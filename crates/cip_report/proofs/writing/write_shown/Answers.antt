use Rattle.std.proofs.lemmas.Grind.{common_steps}
use Rattle.std.proofs.Common.{◌++◌, ◌∙◌, List, ℕ, length, ap, sym, subst, arith, refl}
use lib.Chars.{codes}
use Rattle.cip_search.specs.Figures.{line, names_of, overflow_text, shown_lines}
use Rattle.cip_report.specs.Answers.{overflow_of, status_of, StandsAmong, EndedFits}
use Rattle.cip_report.specs.declared.figures.Ended.{Ended}
use Rattle.cip_report.specs.Writing.{Writes}
use Rattle.cip_report.proofs.WritingLemmas.{first_of_three, second_of_three, third_of_three, Passes-as, PushesPart-as, Writes-as, counts_failed}
use Rattle.cip_report.proofs.LeafLines.{value_lines_as, on_lines_as, ray_lines_as}
use Rattle.cip_report.proofs.writing.write_shown.Goals as goal

pub returns-in_err-write_leaf_values-in-Wide-clause-taken : goal.returns-in_err-write_leaf_values-in-Wide-clause-taken
returns-in_err-write_leaf_values-in-Wide-clause-taken g c =
    rw (c.in-Wide.is)
    (first_of_three c.from_residual.result _ _ c.args.buffer.now _ _ _ _ c.from_residual.ensures.0
    (PushesPart-as _ _ c.args.buffer.now _ _ (value_lines_as _ _ _ _ _ _ c.whole.ensures.whole c.column_names-names.ensures.names c.as_slice.ensures.value) c.in_err-write_leaf_values-in-Wide.ensures.taken))

pub returns-in_err-write_leaf_choices-in-Wide-clause-taken : goal.returns-in_err-write_leaf_choices-in-Wide-clause-taken
returns-in_err-write_leaf_choices-in-Wide-clause-taken g c =
    rw (c.in-Wide.is)
    (second_of_three c.from_residual-in_err-write_leaf_choices-in-Wide.result _ _ _ c.args.buffer.now _ _ _ _ _ c.from_residual-in_err-write_leaf_choices-in-Wide.ensures.0
    (Passes-as _ _ c.args.buffer.now _ _ _ (value_lines_as _ _ _ _ _ _ c.whole.ensures.whole c.column_names-names.ensures.names c.as_slice.ensures.value) c.in_ok-write_leaf_values-in-Wide.ensures.taken)
    (PushesPart-as _ _ c.write_leaf_values.new.buffer _ _ (on_lines_as _ _ _ _ _ _ (c.as_slice-choices.ensures ∙ c.choices.ensures.choices) c.column_names-names.ensures.names c.as_slice-in-Wide.ensures.value) c.in_err-write_leaf_choices-in-Wide.ensures.taken))

pub returns-in_ok-write_leaf_choices-in-Wide-clause-taken : goal.returns-in_ok-write_leaf_choices-in-Wide-clause-taken
returns-in_ok-write_leaf_choices-in-Wide-clause-taken g c =
    rw (c.in-Wide.is)
    (third_of_three c.write_overflow.result _ _ _ _ c.args.buffer.now _ _ _ _ _ _
    (Passes-as _ _ c.args.buffer.now _ _ _ (value_lines_as _ _ _ _ _ _ c.whole.ensures.whole c.column_names-names.ensures.names c.as_slice.ensures.value) c.in_ok-write_leaf_values-in-Wide.ensures.taken)
    (Passes-as _ _ c.write_leaf_values.new.buffer _ _ _ (on_lines_as _ _ _ _ _ _ (c.as_slice-choices.ensures ∙ c.choices.ensures.choices) c.column_names-names.ensures.names c.as_slice-in-Wide.ensures.value) c.in_ok-write_leaf_choices-in-Wide.ensures.taken)
    (subst (λ rows. Writes c.write_overflow.result (g.K.Sink.tells c.write_leaf_choices.new.out) (g.K.Sink.tells c.write_overflow.new.out) (c.write_leaf_choices.new.buffer ++ line (codes "overflow") (overflow_text (overflow_of rows c.in-Wide.shown))) c.write_overflow.new.buffer) c.row_names.ensures.names c.write_overflow.ensures.taken))

pub returns-in-Unbounded-clause-taken : goal.returns-in-Unbounded-clause-taken
returns-in-Unbounded-clause-taken g c =
    Writes-as c.write_point.result _ _ c.args.buffer.now _ _ _
    (ray_lines_as _ _ _ _ c.column_names.ensures.names c.as_slice-in-Unbounded.ensures.value
    ∙ ap (λ (e : Ended). shown_lines (names_of c.args.program.now) (status_of c.args.program.now.row_names e)) (sym c.in-Unbounded.is))
    c.write_point.ensures.taken

pub returns-in_default : goal.returns-in_default
returns-in_default g c = grind (arith, common_steps)

pub write_leaf_choices-requires-clause-among : goal.write_leaf_choices-requires-clause-among
write_leaf_choices-requires-clause-among g c = grind (arith, common_steps)

pub write_leaf_choices-requires-clause-fits : goal.write_leaf_choices-requires-clause-fits
write_leaf_choices-requires-clause-fits g c = grind (arith, common_steps)

pub write_leaf_values-requires-clause-fits : goal.write_leaf_values-requires-clause-fits
write_leaf_values-requires-clause-fits g c = grind (arith, common_steps)

pub write_leaf_values-requires-clause-long : goal.write_leaf_values-requires-clause-long
write_leaf_values-requires-clause-long g c = grind (arith, common_steps)

pub write_overflow-requires : goal.write_overflow-requires
write_overflow-requires g c =
    subst (λ (names : List (List ℕ)). StandsAmong (length names) c.in-Wide.shown) (sym c.row_names.ensures.names) (subst (EndedFits c.args.program.now) c.in-Wide.is c.requires).2

pub write_point-requires : goal.write_point-requires
write_point-requires g c = grind (arith, common_steps)

pub returns-in_ok-write_leaf_choices-in-Wide-clause-faults : goal.returns-in_ok-write_leaf_choices-in-Wide-clause-faults
returns-in_ok-write_leaf_choices-in-Wide-clause-faults g c = grind (arith, common_steps)

pub returns-in-Unbounded-clause-faults : goal.returns-in-Unbounded-clause-faults
returns-in-Unbounded-clause-faults g c = grind (arith, common_steps)

pub returns-in_err-write_leaf_values-in-Wide-clause-faults : goal.returns-in_err-write_leaf_values-in-Wide-clause-faults
returns-in_err-write_leaf_values-in-Wide-clause-faults g c = counts_failed c.from_residual.result _ _ _ c.from_residual.ensures.0 refl c.in_err-write_leaf_values-in-Wide.ensures.faults.1

pub returns-in_err-write_leaf_choices-in-Wide-clause-faults : goal.returns-in_err-write_leaf_choices-in-Wide-clause-faults
returns-in_err-write_leaf_choices-in-Wide-clause-faults g c = counts_failed c.from_residual-in_err-write_leaf_choices-in-Wide.result _ _ _ c.from_residual-in_err-write_leaf_choices-in-Wide.ensures.0 c.in_ok-write_leaf_values-in-Wide.ensures.faults.0 c.in_err-write_leaf_choices-in-Wide.ensures.faults.1

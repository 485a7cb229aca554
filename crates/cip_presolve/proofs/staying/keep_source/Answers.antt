use Rattle.cip_presolve.proofs.StayingColumns.{source_in, no_source, no_form}
use Rattle.cip_presolve.specs.Forms.{Form}
use Rattle.std.specs.Prelude.{slice_index_or}
use Rattle.std.proofs.lemmas.Grind.{common_steps}
use Rattle.std.proofs.Common.{arith, List, Option, Some, None, sym, ap, ◌∙◌, ◌≡◌}
use Rattle.cip_presolve.proofs.staying.keep_source.Goals as goal

pub keep_column-requires : goal.keep_column-requires
keep_column-requires c = omega arith

pub overflow_cast-source : goal.overflow_cast-source
overflow_cast-source c = omega arith

pub returns-else-source-len-clause-source : goal.returns-else-source-len-clause-source
returns-else-source-len-clause-source c = grind (arith, common_steps)

pub returns-then-is_zero-clause-fewer : goal.returns-then-is_zero-clause-fewer
returns-then-is_zero-clause-fewer c = grind (arith, common_steps)

pub returns-then-source-len-clause-fewer : goal.returns-then-source-len-clause-fewer
returns-then-source-len-clause-fewer c = grind (arith, common_steps)

pub returns-else-source-len-clause-fewer : goal.returns-else-source-len-clause-fewer
returns-else-source-len-clause-fewer c = grind (arith, common_steps)

pub returns-in_default-clause-fewer : goal.returns-in_default-clause-fewer
returns-in_default-clause-fewer c = grind (arith, common_steps)

pub returns-then-source-len-clause-source : goal.returns-then-source-len-clause-source
returns-then-source-len-clause-source c =
    let own : Some c.in-Some.form ≡ slice_index_or c.args.forms.now.items c.args.column None =
    sym c.in-Some.is ∙ c.form_on.ensures ∙ ap (λ (fs : List (Option Form)). slice_index_or fs c.args.column None)
    c.as_slice.ensures.value in
    source_in c.args.forms.now.items c.keep_column.new.forms.items c.args.column c.form.inside.source
    c.in-Some.form own
    (ap (λ (f : Form). f.source) c.form.view_is) c.keep_column.ensures.fewer c.keep_column.ensures.stays

pub returns-then-is_zero-clause-source : goal.returns-then-is_zero-clause-source
returns-then-is_zero-clause-source c =
    let own : Some c.in-Some.form ≡ slice_index_or c.args.forms.now.items c.args.column None =
    sym c.in-Some.is ∙ c.form_on.ensures ∙ ap (λ (fs : List (Option Form)). slice_index_or fs c.args.column None)
    c.as_slice.ensures.value in
    no_source c.args.forms.now.items c.args.column c.in-Some.form own
    (sym (ap (λ (f : Form). f.factor) c.form.view_is) ∙ c.is_zero.ensures.0 c.if-is_zero.true)

pub returns-in_default-clause-source : goal.returns-in_default-clause-source
returns-in_default-clause-source c =
    no_form c.args.forms.now.items c.args.column
    (sym c.in_default.is ∙ c.form_on.ensures ∙ ap (λ (fs : List (Option Form)). slice_index_or fs c.args.column
    None) c.as_slice.ensures.value)

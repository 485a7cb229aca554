use Rattle.std.proofs.lemmas.Grind.{common_steps}
use Rattle.std.proofs.Common.{◌≡◌, ◌∷◌, [], IfSome, sym, ap, ◌∙◌, subst, arith}
use Rattle.cip_presolve.specs.Equalities.{equality_form}
use Rattle.cip_problem.specs.Program.{Term}
use Rattle.cip_presolve.proofs.FormsOfRows.{two_items, two_found_by, first_given, second_given, HasTwoTerms}
use Rattle.cip_presolve.proofs.forms.form_in.Goals as goal

pub returns-then-first-column : goal.returns-then-first-column
returns-then-first-column c =
    let terms : c.args.row.now.terms ≡ c.first-item.result ∷ c.second-item.result ∷ [] =
    sym c.terms.ensures.terms ∙ two_items c.terms.result.now c.first-item.result c.second-item.result c.in-len2.len_at_least c.in-len2.len_below c.first-item.is c.second-item.is in
    let two : HasTwoTerms c.args.row.now c.first-item.result c.second-item.result c.in-Some.value =
    two_found_by c.args.row.now c.first-item.result c.second-item.result (record { low = c.low.result; high = c.high.result }) c.in-Some.value (sym c.only_value.ensures ∙ c.in-Some.is) c.low.ensures c.high.ensures terms c.terms.ensures.valid in
    first_given c.args.row.now c.first-item.result c.second-item.result c.in-Some.value c.args.column c.form_of.result two
    (sym (ap (λ (t : Term). t.column) c.first.view_is) ∙ c.if-first-column.true)
    (subst (λ (t : Term). IfSome c.form_of.result (λ form. form ≡ equality_form t.coefficient c.second-item.result.coefficient c.in-Some.value c.second-item.result.column)) c.first.view_is
    (subst (λ (t : Term). IfSome c.form_of.result (λ form. form ≡ equality_form c.first.inside.coef t.coefficient c.in-Some.value t.column)) c.second.view_is c.form_of.ensures))

pub returns-then-second-column : goal.returns-then-second-column
returns-then-second-column c =
    let terms : c.args.row.now.terms ≡ c.first-item.result ∷ c.second-item.result ∷ [] =
    sym c.terms.ensures.terms ∙ two_items c.terms.result.now c.first-item.result c.second-item.result c.in-len2.len_at_least c.in-len2.len_below c.first-item.is c.second-item.is in
    let two : HasTwoTerms c.args.row.now c.first-item.result c.second-item.result c.in-Some.value =
    two_found_by c.args.row.now c.first-item.result c.second-item.result (record { low = c.low.result; high = c.high.result }) c.in-Some.value (sym c.only_value.ensures ∙ c.in-Some.is) c.low.ensures c.high.ensures terms c.terms.ensures.valid in
    second_given c.args.row.now c.first-item.result c.second-item.result c.in-Some.value c.args.column c.form_of-then-second-column.result two
    (sym (ap (λ (t : Term). t.column) c.second.view_is) ∙ c.if-second-column.true)
    (subst (λ (t : Term). IfSome c.form_of-then-second-column.result (λ form. form ≡ equality_form t.coefficient c.first-item.result.coefficient c.in-Some.value c.first-item.result.column)) c.second.view_is
    (subst (λ (t : Term). IfSome c.form_of-then-second-column.result (λ form. form ≡ equality_form c.second.inside.coef t.coefficient c.in-Some.value t.column)) c.first.view_is c.form_of-then-second-column.ensures))

pub bounds-first-0 : goal.bounds-first-0
bounds-first-0 c = omega arith

pub bounds-second-1 : goal.bounds-second-1
bounds-second-1 c = omega arith

pub form_of-requires : goal.form_of-requires
form_of-requires c =
    let terms : c.args.row.now.terms ≡ c.first-item.result ∷ c.second-item.result ∷ [] =
    sym c.terms.ensures.terms ∙ two_items c.terms.result.now c.first-item.result c.second-item.result c.in-len2.len_at_least c.in-len2.len_below c.first-item.is c.second-item.is in
    let two : HasTwoTerms c.args.row.now c.first-item.result c.second-item.result c.in-Some.value =
    two_found_by c.args.row.now c.first-item.result c.second-item.result (record { low = c.low.result; high = c.high.result }) c.in-Some.value (sym c.only_value.ensures ∙ c.in-Some.is) c.low.ensures c.high.ensures terms c.terms.ensures.valid in
    λ e. two.first_nonzero (sym (ap (λ (t : Term). t.coefficient) c.first.view_is) ∙ e)

pub form_of-requires-then-second-column : goal.form_of-requires-then-second-column
form_of-requires-then-second-column c =
    let terms : c.args.row.now.terms ≡ c.first-item.result ∷ c.second-item.result ∷ [] =
    sym c.terms.ensures.terms ∙ two_items c.terms.result.now c.first-item.result c.second-item.result c.in-len2.len_at_least c.in-len2.len_below c.first-item.is c.second-item.is in
    let two : HasTwoTerms c.args.row.now c.first-item.result c.second-item.result c.in-Some.value =
    two_found_by c.args.row.now c.first-item.result c.second-item.result (record { low = c.low.result; high = c.high.result }) c.in-Some.value (sym c.only_value.ensures ∙ c.in-Some.is) c.low.ensures c.high.ensures terms c.terms.ensures.valid in
    λ e. two.second_nonzero (sym (ap (λ (t : Term). t.coefficient) c.second.view_is) ∙ e)

pub returns-else-second-column : goal.returns-else-second-column
returns-else-second-column c = grind (arith, common_steps)

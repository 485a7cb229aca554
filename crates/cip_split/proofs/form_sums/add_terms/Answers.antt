use Rattle.std.proofs.lemmas.Grind.{common_steps}
use Rattle.std.proofs.Common.{◌≡◌, ◌+◌, ◌<◌, ℤ, pos, List, length, get_or, drop, Ok, Err, to_z, of_z, rules, arith, sym, ap, ◌∙◌}
use Rattle.std.specs.Int.{w128}
use Rattle.std.proofs.Math.ListN.{drop_of_length-le}
use Rattle.std.proofs.lemmas.List.{length-set, get_or_default}
use Rattle.cip_rational.specs.Rational.{ℚ, zeroℚ}
use Rattle.cip_problem.specs.Activity.{value_at}
use Rattle.cip_cert.specs.declared.splits.FormTerm.{FormTerm}
use Rattle.cip_split.specs.SplitChecks.{whole_product_added, form_added}
use Rattle.cip_split.proofs.SplitSteps.{term_added, term_fails}
use Rattle.cip_split.proofs.form_sums.add_terms.Goals as goal

pub loop-term-preserved : goal.loop-term-preserved
loop-term-preserved c =
    let form = c.args.form.now in
    let at = c.loop-term.term-index in
    let row = c.loop-term.row.entries in
    let blank : FormTerm = record { col = 0; coef = pos 0 } in
    let term : FormTerm = get_or form at blank in
    let inside : term.col < length row = omega (arith, c.requires at blank c.loop-term-test.true, c.loop-term.invariant.columns) in
    let before : value_at row term.col ≡ c.index-entries-term.result =
    get_or_default row term.col zeroℚ c.index-entries-term.result inside
    ∙ sym (c.index-entries-term.is ∙ ap (λ (es : List ℚ). get_or es term.col c.index-entries-term.result) c.entries.ensures.entries) in
    let coefficient : to_z w128 (of_z w128 term.coef) ≡ term.coef = search rules in
    let value : whole_product_added (value_at row term.col) c.args.factor term.coef ≡ Ok c.in-Ok.value =
    ap (λ (q : ℚ). whole_product_added q c.args.factor term.coef) before
    ∙ ap (λ (z : ℤ). whole_product_added c.index-entries-term.result c.args.factor z) (sym coefficient)
    ∙ sym c.in-Ok.ensures in
    record {
      steps = ap (form_added c.args.factor (drop (at + 1) form)) c.set.ensures ∙ sym (term_added c.args.factor form at blank row c.in-Ok.value c.loop-term-test.true value) ∙ c.loop-term.invariant.steps;
      columns = ap length c.set.ensures ∙ length-set row term.col c.in-Ok.value ∙ c.loop-term.invariant.columns;
    }

pub returns-in-Err-clause-steps : goal.returns-in-Err-clause-steps
returns-in-Err-clause-steps c =
    let form = c.args.form.now in
    let at = c.loop-term.term-index in
    let row = c.loop-term.row.entries in
    let blank : FormTerm = record { col = 0; coef = pos 0 } in
    let term : FormTerm = get_or form at blank in
    let inside : term.col < length row = omega (arith, c.requires at blank c.loop-term-test.true, c.loop-term.invariant.columns) in
    let before : value_at row term.col ≡ c.index-entries-term.result =
    get_or_default row term.col zeroℚ c.index-entries-term.result inside
    ∙ sym (c.index-entries-term.is ∙ ap (λ (es : List ℚ). get_or es term.col c.index-entries-term.result) c.entries.ensures.entries) in
    let coefficient : to_z w128 (of_z w128 term.coef) ≡ term.coef = search rules in
    let fault : whole_product_added (value_at row term.col) c.args.factor term.coef ≡ Err c.in-Err.fault =
    ap (λ (q : ℚ). whole_product_added q c.args.factor term.coef) before
    ∙ ap (λ (z : ℤ). whole_product_added c.index-entries-term.result c.args.factor z) (sym coefficient)
    ∙ sym c.in-Err.ensures in
    sym c.loop-term.invariant.steps ∙ term_fails c.args.factor form at blank row c.in-Err.fault c.loop-term-test.true fault

pub returns-clause-steps : goal.returns-clause-steps
returns-clause-steps c =
    sym c.loop-term.invariant.steps
    ∙ ap (λ (ts : List FormTerm). form_added c.args.factor ts c.loop-term.row.entries) (drop_of_length-le c.args.form.now c.loop-term-test.false)

pub set-requires : goal.set-requires
set-requires c = grind (arith, common_steps)

pub bounds-entries-term : goal.bounds-entries-term
bounds-entries-term c = grind (arith, common_steps)

pub returns-in-Err-clause-columns : goal.returns-in-Err-clause-columns
returns-in-Err-clause-columns c = grind (arith, common_steps)

pub offset_bounds-entries-term : goal.offset_bounds-entries-term
offset_bounds-entries-term c = grind (arith, common_steps)

pub offset_bounds-form-term-index : goal.offset_bounds-form-term-index
offset_bounds-form-term-index c = grind (arith, common_steps)

pub returns-clause-columns : goal.returns-clause-columns
returns-clause-columns c = grind (arith, common_steps)

pub loop-term-init : goal.loop-term-init
loop-term-init c = grind (arith, common_steps)

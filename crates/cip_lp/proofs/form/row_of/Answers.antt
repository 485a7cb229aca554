use Rattle.std.proofs.lemmas.Grind.{common_steps}
use Rattle.std.proofs.Common.{◌++◌, ◌∷◌, [], ap, sym, ◌∙◌, take, add-one, arith}
use Rattle.cip_problem.specs.Program.{Row}
use Rattle.cip_text_rules.specs.LpFacts.{terms_of}
use Rattle.cip_lp.proofs.FormLaws.{terms_before, terms_take, number_at}
use Rattle.cip_lp.proofs.form.row_of.Goals as goal

pub append-requires : goal.append-requires
append-requires c =
    let item = c.number-item.result in
    let at = number_at c.args.form.now c.loop-number.number-index item c.loop-number-test.true c.number-item.is in
    let below = terms_before c.args.form.now c.loop-number.number-index item c.requires at in
    rw c.loop-number.invariant below

pub loop-number-preserved : goal.loop-number-preserved
loop-number-preserved c =
    let item = c.number-item.result in
    let at = number_at c.args.form.now c.loop-number.number-index item c.loop-number-test.true c.number-item.is in
    let more = terms_take c.args.form.now c.loop-number.number-index item at in
    c.in_ok-append.ensures ∙ ap (λ (r : Row). record r { terms = r.terms ++ terms_of (item ∷ []) }) c.loop-number.invariant
    ∙ ap (λ ts. record { terms = ts; low = c.args.low; high = c.args.high }) (more ∙ ap (λ n. terms_of (take n c.args.form.now)) (sym (add-one c.loop-number.number-index)))

pub returns : goal.returns
returns c = grind (arith, common_steps)

pub offset_bounds-form-number-index : goal.offset_bounds-form-number-index
offset_bounds-form-number-index c = grind (arith, common_steps)

pub loop-number-init : goal.loop-number-init
loop-number-init c = grind (arith, common_steps)

pub same-row : goal.same-row
same-row c = grind (arith, common_steps)

use Rattle.std.proofs.lemmas.Grind.{common_steps}
use Rattle.std.proofs.Common.{◌≡◌, ◌∙◌, IfSome, ap, subst, ◌<◌, length, sym, arith}
use Rattle.cip_rational.specs.Rational.{negate, zeroℚ}
use Rattle.cip_problem.specs.Program.{Term, Sides}
use Rattle.cip_problem.specs.Box.{sides_at}
use Rattle.cip_presolve.specs.RowSums.{least_added}
use Rattle.cip_presolve.specs.Rests.{IsDifference}
use Rattle.cip_presolve.proofs.RestSums.{rested, less_stands, rests_by}
use Rattle.cip_presolve.proofs.ImpliedSides.{term_inside}
use Rattle.cip_presolve.proofs.rests.rests.Goals as goal

pub returns : goal.returns
returns c =
    let term : Term = c.term_at-term.result in
    let own : Sides = sides_at c.args.bounds.now term.column in
    let coef : c.term.inside.coef ≡ term.coefficient = ap (λ (t : Term). t.coefficient) c.term.view_is in
    let sides : c.sides-sides.result ≡ own = c.sides-sides.ensures ∙ ap (λ (t : Term). sides_at c.args.bounds.now t.column) c.term.view_is in
    let low_side : c.whole.inside.low ≡ c.args.whole.low = ap (λ (s : Sides). s.low) c.whole.view_is in
    let high_side : c.whole.inside.high ≡ c.args.whole.high = ap (λ (s : Sides). s.high) c.whole.view_is in
    rested c.args.bounds.now c.args.row.now.terms c.args.at c.terms-terms.ensures.valid c.requires.stands c.requires.inside
    term c.args.whole c.value_of-least.result c.negated_value-greatest.result c.difference.result c.difference-2.result c.add_least.result c.add_least-2.result
    c.term_at-term.ensures.term c.requires.encloses c.value_of-least.ensures c.negated_value-greatest.ensures
    (c.add_least.ensures ∙ ap (λ q. least_added q c.term.inside.coef c.sides-sides.result) c.zero.ensures ∙ ap (λ q. least_added zeroℚ q c.sides-sides.result) coef ∙ ap (λ (s : Sides). least_added zeroℚ term.coefficient s) sides)
    (c.add_least-2.ensures ∙ ap (λ q. least_added q c.neg.result c.sides-sides.result) c.zero-2.ensures ∙ ap (λ q. least_added zeroℚ q c.sides-sides.result) (c.neg.ensures ∙ ap negate coef) ∙ ap (λ (s : Sides). least_added zeroℚ (negate term.coefficient) s) sides)
    (subst (λ o. IfSome c.difference.result (IsDifference o c.value_of-least.result)) low_side c.difference.ensures)
    (subst (λ o. IfSome c.difference-2.result (IsDifference o c.negated_value-greatest.result)) high_side c.difference-2.ensures)

pub sides-sides-requires : goal.sides-sides-requires
sides-sides-requires c =
    subst (λ n. n < length c.args.bounds.now) (sym (ap (λ (t : Term). t.column) c.term.view_is))
    (term_inside (length c.args.bounds.now) c.args.row.now.terms c.args.at c.term_at-term.result c.requires.stands c.term_at-term.ensures.term)

pub term_at-term-requires : goal.term_at-term-requires
term_at-term-requires c = grind (arith, common_steps)

pub extent-requires : goal.extent-requires
extent-requires c =
    less_stands (length c.args.bounds.now) c.args.row.now.terms c.in-Some.rest.terms c.args.at (rw c.in-Some.is at c.in_ok-rest.ensures) c.requires.stands

pub returns-in-Some : goal.returns-in-Some
returns-in-Some c =
    rests_by c.args.bounds.now c.args.row.now.terms c.in-Some.rest.terms c.args.at c.extent.result c.requires.inside (rw c.in-Some.is at c.in_ok-rest.ensures) c.extent.ensures

pub returns-in-None : goal.returns-in-None
returns-in-None c = grind (arith, common_steps)

pub without-requires : goal.without-requires
without-requires c = grind (arith, common_steps)

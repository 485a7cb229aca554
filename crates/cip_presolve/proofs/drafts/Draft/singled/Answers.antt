use Rattle.std.proofs.lemmas.Grind.{common_steps}
use Rattle.std.proofs.Common.{◌≡◌, false, List, length, Some, slice_get, sym, ap, ◌∙◌, subst, arith, ◌<◌}
use Rattle.cip_problem.specs.Program.{Term, Sides}
use Rattle.cip_problem.specs.Box.{sides_at}
use Rattle.cip_problem.specs.Choices.{met, choice_at, is_open}
use Rattle.cip_presolve.specs.SingleRows.{inward_if, single_sides}
use Rattle.cip_search.specs.RowSteps.{divided_sides}
use Rattle.cip_presolve.specs.RuleEnds.{IsSingled}
use Rattle.cip_presolve.proofs.Singled.{singled, one_stands}
use Rattle.cip_presolve.proofs.drafts.Draft.singled.Goals as goal

pub returns : goal.returns
returns c =
    let column : c.term.inside.col ≡ c.in-Some.term.column = ap (λ (t : Term). t.column) c.term.view_is in
    let whole : slice_get c.args.self.now.integral c.in-Some.term.column ≡ Some c.is_whole.result = subst (λ n. slice_get c.args.self.now.integral n ≡ Some c.is_whole.result) column c.is_whole.ensures in
    let plain : is_open (choice_at c.args.self.now.choices c.in-Some.term.column) ≡ false = subst (λ n. is_open (choice_at c.args.self.now.choices n) ≡ false) column (sym c.is_semi.ensures ∙ c.if-is_semi.false) in
    let own : c.sides.result ≡ sides_at c.args.self.now.bounds c.in-Some.term.column = c.sides.ensures ∙ ap (λ (box : List Sides). sides_at box c.term.inside.col) c.bounds.ensures.bounds ∙ ap (λ n. sides_at c.args.self.now.bounds n) column in
    let coefficient : c.term.inside.coef ≡ c.in-Some.term.coefficient = ap (λ (t : Term). t.coefficient) c.term.view_is in
    let single : c.in-Some-single_sides.single ≡ single_sides c.is_whole.result c.in-Some.term.coefficient c.row-row.result.now.low c.row-row.result.now.high =
    c.in-Some-single_sides.ensures ∙ ap (λ q. inward_if c.is_whole.result (divided_sides q c.low.result c.high.result)) coefficient
    ∙ ap (λ side. inward_if c.is_whole.result (divided_sides c.in-Some.term.coefficient side c.high.result)) c.low.ensures
    ∙ ap (λ side. inward_if c.is_whole.result (divided_sides c.in-Some.term.coefficient c.row-row.result.now.low side)) c.high.ensures in
    let are : c.met.result ≡ met (sides_at c.args.self.now.bounds c.in-Some.term.column) (single_sides c.is_whole.result c.in-Some.term.coefficient c.row-row.result.now.low c.row-row.result.now.high) =
    c.met.ensures ∙ ap (λ s. met s c.in-Some-single_sides.single) own ∙ ap (λ s. met (sides_at c.args.self.now.bounds c.in-Some.term.column) s) single in
    subst (λ n. IsSingled c.args.self.now c.args.number n c.met.result) (sym column)
    (singled c.args.self.now c.args.number c.row-row.result.now c.in-Some.term c.is_whole.result c.met.result c.row-row.ensures.row c.in-Some.ensures.0 c.in-Some.ensures.1
    (one_stands (length c.args.self.now.bounds) c.row-row.result.now.terms c.in-Some.term c.row-row.ensures.stands c.in-Some.ensures.0) whole are plain)

pub single_sides-requires : goal.single_sides-requires
single_sides-requires c = grind (arith, common_steps)

pub returns-then-is_semi : goal.returns-then-is_semi
returns-then-is_semi c = grind (arith, common_steps)

pub sides-requires : goal.sides-requires
sides-requires c =
    let column : c.term.inside.col ≡ c.in-Some.term.column = ap (λ (t : Term). t.column) c.term.view_is in
    let below : c.in-Some.term.column < length c.args.self.now.bounds =
    one_stands (length c.args.self.now.bounds) c.row-row.result.now.terms c.in-Some.term c.row-row.ensures.stands
    c.in-Some.ensures.0 in
    subst (λ n. n < length c.bounds.result.now) (sym column)
    (subst (λ (box : List Sides). c.in-Some.term.column < length box) (sym c.bounds.ensures.bounds) below)

pub is_whole-requires : goal.is_whole-requires
is_whole-requires c =
    let column : c.term.inside.col ≡ c.in-Some.term.column = ap (λ (t : Term). t.column) c.term.view_is in
    subst (λ n. n < length c.args.self.now.bounds) (sym column)
    (one_stands (length c.args.self.now.bounds) c.row-row.result.now.terms c.in-Some.term c.row-row.ensures.stands
    c.in-Some.ensures.0)

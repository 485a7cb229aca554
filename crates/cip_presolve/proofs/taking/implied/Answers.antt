use Rattle.std.proofs.lemmas.Grind.{common_steps}
use Rattle.std.proofs.Common.{◌≡◌, true, false, List, [], refl, Some, IfSome, slice_get, length, ap, sym, ◌∙◌, subst, ◌<◌, arith}
use Rattle.cip_problem.specs.Program.{Term, Sides}
use Rattle.cip_problem.specs.Box.{sides_at}
use Rattle.cip_problem.specs.Choices.{met, choice_at, is_open}
use Rattle.cip_presolve.specs.Rests.{IsDifference, AreRests}
use Rattle.cip_search.specs.RowSteps.{divided_sides}
use Rattle.cip_presolve.specs.SingleRows.{inward_if}
use Rattle.cip_presolve.specs.Taken.{IsImplied}
use Rattle.cip_presolve.proofs.ImpliedSides.{implied_all, found_by, term_inside, Implies}
use Rattle.cip_problem.specs.Activity.{StandsBelow}
use Rattle.cip_presolve.specs.RowReading.{Encloses}
use Rattle.cip_presolve.proofs.taking.implied.Goals as goal

pub returns : goal.returns
returns c =
    let column : c.term.inside.col ≡ c.term_at-term.result.column = ap (λ (t : Term). t.column) c.term.view_is in
    let plain : is_open (choice_at c.args.draft.now.choices c.term_at-term.result.column) ≡ false =
    subst (λ n. is_open (choice_at c.args.draft.now.choices n) ≡ false) column (sym c.is_semi.ensures ∙ c.if-is_semi.false) in
    let whole : slice_get c.args.draft.now.integral c.term_at-term.result.column ≡ Some true =
    subst (λ n. slice_get c.args.draft.now.integral n ≡ Some true) column (c.is_whole.ensures ∙ ap (λ b. Some b) c.if-not-is_whole.false) in
    let low_side : c.others.inside.low ≡ c.in_ok-others.others.low = ap (λ (s : Sides). s.low) c.others.view_is in
    let high_side : c.others.inside.high ≡ c.in_ok-others.others.high = ap (λ (s : Sides). s.high) c.others.view_is in
    let low : IfSome c.difference-low.result (IsDifference c.row-row.result.now.low c.in_ok-others.others.high) = subst (λ o. IfSome c.difference-low.result (IsDifference c.row-row.result.now.low o)) high_side (rw (← c.low.ensures) c.difference-low.ensures) in
    let high : IfSome c.difference-high.result (IsDifference c.row-row.result.now.high c.in_ok-others.others.low) = subst (λ o. IfSome c.difference-high.result (IsDifference c.row-row.result.now.high o)) low_side (rw (← c.high.ensures) c.difference-high.ensures) in
    let coefficient : c.term.inside.coef ≡ c.term_at-term.result.coefficient = ap (λ (t : Term). t.coefficient) c.term.view_is in
    let single : IfSome c.single_sides.result (λ sides. sides ≡ inward_if true (divided_sides c.term_at-term.result.coefficient c.difference-low.result c.difference-high.result)) =
    subst (λ q. IfSome c.single_sides.result (λ sides. sides ≡ inward_if true (divided_sides q c.difference-low.result c.difference-high.result))) coefficient c.single_sides.ensures in
    let each : (box : List Sides) → AreRests box c.row-row.result.now.terms c.args.at c.in_ok-others.others → Implies box c.row-row.result.now c.args.at true c.in-Some.implied =
    rw c.in-Some.is at (implied_all c.row-row.result.now (record { terms = []; low = c.difference-low.result; high = c.difference-high.result }) c.args.at true c.in_ok-others.others c.difference-low.result c.difference-high.result c.term_at-term.result c.single_sides.result
    c.term_at-term.ensures.term c.term_at-term.ensures.nonzero low high refl single) in
    let read : Implies c.bounds.result.now c.row-row.result.now c.args.at true c.in-Some.implied = each c.bounds.result.now c.in_ok-others.ensures in
    let implies : Implies c.args.draft.now.bounds c.row-row.result.now c.args.at true c.in-Some.implied = subst (λ (box : List Sides). Implies box c.row-row.result.now c.args.at true c.in-Some.implied) c.bounds.ensures.bounds read in
    let own : c.sides.result ≡ sides_at c.args.draft.now.bounds c.term_at-term.result.column =
    c.sides.ensures ∙ ap (λ (box : List Sides). sides_at box c.term.inside.col) c.bounds-2.ensures.bounds ∙ ap (λ n. sides_at c.args.draft.now.bounds n) column in
    subst (λ n. IsImplied c.args.draft.now n c.met.result) (sym column)
    (found_by c.args.draft.now c.args.number c.args.at c.row-row.result.now c.term_at-term.result c.in-Some.implied c.met.result c.row-row.ensures.row c.term_at-term.ensures.term
    (term_inside (length c.args.draft.now.bounds) c.row-row.result.now.terms c.args.at c.term_at-term.result c.row-row.ensures.stands c.term_at-term.ensures.term)
    plain whole implies (c.met.ensures ∙ ap (λ s. met s c.in-Some.implied) own))

pub is_whole-requires : goal.is_whole-requires
is_whole-requires c =
    let inside : c.term_at-term.result.column < length c.args.draft.now.bounds =
    term_inside (length c.args.draft.now.bounds) c.row-row.result.now.terms c.args.at c.term_at-term.result c.row-row.ensures.stands c.term_at-term.ensures.term in
    let own : c.term.inside.col < length c.args.draft.now.bounds = subst (λ n. n < length c.args.draft.now.bounds) (sym (ap (λ (t : Term). t.column) c.term.view_is)) inside in
    own

pub sides-requires : goal.sides-requires
sides-requires c =
    let inside : c.term_at-term.result.column < length c.args.draft.now.bounds =
    term_inside (length c.args.draft.now.bounds) c.row-row.result.now.terms c.args.at c.term_at-term.result c.row-row.ensures.stands c.term_at-term.ensures.term in
    let own : c.term.inside.col < length c.args.draft.now.bounds = subst (λ n. n < length c.args.draft.now.bounds) (sym (ap (λ (t : Term). t.column) c.term.view_is)) inside in
    subst (λ (box : List Sides). c.term.inside.col < length box) (sym c.bounds-2.ensures.bounds) own

pub rests-requires-clause-stands : goal.rests-requires-clause-stands
rests-requires-clause-stands c = subst (λ (box : List Sides). StandsBelow (length box) c.row-row.result.now.terms) (sym c.bounds.ensures.bounds) c.row-row.ensures.stands

pub rests-requires-clause-encloses : goal.rests-requires-clause-encloses
rests-requires-clause-encloses c =
    subst (λ (box : List Sides). Encloses box c.row-row.result.now.terms c.args.extent) (sym c.bounds.ensures.bounds) (c.requires.encloses c.row-row.result.now c.row-row.ensures.row)

pub rests-requires-clause-inside : goal.rests-requires-clause-inside
rests-requires-clause-inside c = grind (arith, common_steps)

pub term_at-term-requires : goal.term_at-term-requires
term_at-term-requires c = grind (arith, common_steps)

pub row-row-requires : goal.row-row-requires
row-row-requires c = grind (arith, common_steps)

pub single_sides-requires : goal.single_sides-requires
single_sides-requires c = grind (arith, common_steps)

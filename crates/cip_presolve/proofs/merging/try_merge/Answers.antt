use Rattle.std.proofs.lemmas.Grind.{common_steps}
use Rattle.std.proofs.Common.{◌≡◌, sym, ap, ◌∙◌, ◌<◌, List, length, subst, arith}
use Rattle.std.proofs.lemmas.Option.{same_Some}
use Rattle.cip_problem.specs.Program.{Term, Sides, Row, Program}
use Rattle.cip_problem.specs.Choices.{met}
use Rattle.cip_search.specs.NarrowedPrograms.{with_row}
use Rattle.cip_presolve.specs.RowsMet.{sides_of}
use Rattle.cip_presolve.proofs.Merged.{merged_by, made_by, never_met, count_same}
use Rattle.cip_problem.specs.Activity.{StandsBelow}
use Rattle.cip_search.proofs.Pairing.{exact_self}
use Rattle.cip_presolve.proofs.merging.try_merge.Goals as goal

pub returns-clause-step : goal.returns-clause-step
returns-clause-step c =
    let one : c.row-2.result.now ≡ c.row.result.now = same_Some _ _ (sym c.row-2.ensures.row ∙ c.row.ensures.row) in
    let other : c.row-3.result.now ≡ c.row-else-first-second.result.now = same_Some _ _ (sym c.row-3.ensures.row ∙ c.row-else-first-second.ensures.row) in
    let again : c.row-4.result.now ≡ c.row.result.now = same_Some _ _ (sym c.row-4.ensures.row ∙ c.row.ensures.row) in
    let terms : c.row.result.now.terms ≡ c.row-else-first-second.result.now.terms =
    sym c.terms.ensures.terms ∙ c.if-not-are_same.ensures ∙ c.terms-else-first-second.ensures.terms in
    let sides : c.met_sides-sides.result ≡ met (sides_of c.row.result.now) (sides_of c.row-else-first-second.result.now) =
    c.met_sides-sides.ensures ∙ ap (λ (r : Row). met (sides_of r) (sides_of c.row-3.result.now)) one ∙ ap (λ (r : Row). met (sides_of c.row.result.now) (sides_of r)) other in
    merged_by c.args.draft.now c.set_row.new.self c.set_row-2.new.self c.args.first c.args.second c.row.result.now c.row-else-first-second.result.now c.in_ok-row.row c.met_sides-sides.result
    c.if-first-second.false c.row.ensures.row c.row-else-first-second.ensures.row terms sides
    (made_by c.row.result.now c.in_ok-row.row c.terms-2.result.now c.sides.inside.low c.sides.inside.high c.met_sides-sides.result c.in_ok-row.ensures
    (c.terms-2.ensures.terms ∙ ap (λ (r : Row). r.terms) again) (ap (λ (s : Sides). s.low) c.sides.view_is) (ap (λ (s : Sides). s.high) c.sides.view_is))
    c.set_row.ensures (c.set_row-2.ensures ∙ ap (λ (r : Row). with_row c.set_row.new.self c.args.second r) c.empty.ensures)

pub returns-in_err-row-clause-step : goal.returns-in_err-row-clause-step
returns-in_err-row-clause-step c = exact_self c.args.draft.now

pub returns-then-cross-clause-step : goal.returns-then-cross-clause-step
returns-then-cross-clause-step c = exact_self c.args.draft.now

pub returns-then-first-second-clause-step : goal.returns-then-first-second-clause-step
returns-then-first-second-clause-step c = exact_self c.args.draft.now

pub returns-then-cross-clause-end : goal.returns-then-cross-clause-end
returns-then-cross-clause-end c =
    let one : c.row-2.result.now ≡ c.row.result.now = same_Some _ _ (sym c.row-2.ensures.row ∙ c.row.ensures.row) in
    let other : c.row-3.result.now ≡ c.row-else-first-second.result.now = same_Some _ _ (sym c.row-3.ensures.row ∙ c.row-else-first-second.ensures.row) in
    let terms : c.row.result.now.terms ≡ c.row-else-first-second.result.now.terms =
    sym c.terms.ensures.terms ∙ c.if-not-are_same.ensures ∙ c.terms-else-first-second.ensures.terms in
    let sides : c.met_sides-sides.result ≡ met (sides_of c.row.result.now) (sides_of c.row-else-first-second.result.now) =
    c.met_sides-sides.ensures ∙ ap (λ (r : Row). met (sides_of r) (sides_of c.row-3.result.now)) one ∙ ap (λ (r : Row). met (sides_of c.row.result.now) (sides_of r)) other in
    never_met c.args.draft.now c.args.first c.args.second c.row.result.now c.row-else-first-second.result.now c.met_sides-sides.result
    c.row.ensures.row c.row-else-first-second.ensures.row terms sides (sym c.cross.ensures ∙ c.if-cross.true)

pub set_row-requires-clause-stands : goal.set_row-requires-clause-stands
set_row-requires-clause-stands c =
    let terms : c.in_ok-row.row.terms ≡ c.row-4.result.now.terms = ap (λ (r : Row). r.terms) c.in_ok-row.ensures ∙ c.terms-2.ensures.terms in
    subst (λ (ts : List Term). StandsBelow (length c.args.draft.now.bounds) ts) (sym terms) c.row-4.ensures.stands

pub set_row-requires-2-clause-inside : goal.set_row-requires-2-clause-inside
set_row-requires-2-clause-inside c =
    let count : length c.set_row.new.self.rows ≡ length c.args.draft.now.rows = ap (λ (p : Program). length p.rows) c.set_row.ensures ∙ count_same c.args.draft.now.rows c.args.first c.in_ok-row.row in
    subst (λ n. c.args.second < n) (sym count) c.requires.second

pub returns-clause-rows : goal.returns-clause-rows
returns-clause-rows c =
    ap (λ (p : Program). length p.rows) c.set_row-2.ensures ∙ count_same c.set_row.new.self.rows c.args.second c.empty.result
    ∙ ap (λ (p : Program). length p.rows) c.set_row.ensures ∙ count_same c.args.draft.now.rows c.args.first c.in_ok-row.row

pub row-requires-2 : goal.row-requires-2
row-requires-2 c = omega arith

pub row-requires-3 : goal.row-requires-3
row-requires-3 c = omega arith

pub row-requires-4 : goal.row-requires-4
row-requires-4 c = omega arith

pub row_of_terms-requires : goal.row_of_terms-requires
row_of_terms-requires c = grind (arith, common_steps)

pub set_row-requires-2-clause-stands : goal.set_row-requires-2-clause-stands
set_row-requires-2-clause-stands c =
    λ k d h. absurd (omega (arith, h, ap (λ (r : Row). length r.terms) c.empty.ensures))

pub set_row-requires-clause-inside : goal.set_row-requires-clause-inside
set_row-requires-clause-inside c = omega arith

pub returns-in_err-row-clause-rows : goal.returns-in_err-row-clause-rows
returns-in_err-row-clause-rows c = grind (arith, common_steps)

pub row-requires-else-first-second : goal.row-requires-else-first-second
row-requires-else-first-second c = grind (arith, common_steps)

pub row-requires : goal.row-requires
row-requires c = grind (arith, common_steps)

pub returns-then-cross-clause-rows : goal.returns-then-cross-clause-rows
returns-then-cross-clause-rows c = grind (arith, common_steps)

pub returns-clause-end : goal.returns-clause-end
returns-clause-end c = grind (arith, common_steps)

pub returns-then-first-second-clause-end : goal.returns-then-first-second-clause-end
returns-then-first-second-clause-end c = grind (arith, common_steps)

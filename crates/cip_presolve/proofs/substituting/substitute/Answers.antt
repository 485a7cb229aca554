use Rattle.cip_presolve.proofs.Chained.{open_ends}
use Rattle.std.proofs.lemmas.Grind.{common_steps}
use Rattle.std.proofs.Common.{◌∙◌, refl, sym, ap, subst, arith}
use Rattle.cip_search.proofs.Pairing.{exact_self, exact_after}
use Rattle.cip_presolve.specs.declared.substituting.Substitution.{Substitution}
use Rattle.cip_presolve.specs.ColumnForms.{RowGives, IsSubstitute}
use Rattle.cip_presolve.specs.Substitutions.{IsFound}
use Rattle.cip_presolve.proofs.Substituted.{found_still, found_later}
use Rattle.cip_presolve.proofs.substituting.substitute.Goals as goal

pub returns-in_default-take_sides-clause-step : goal.returns-in_default-take_sides-clause-step
returns-in_default-take_sides-clause-step c =
    exact_after _ _ _ (exact_after _ _ _ c.loop-at.invariant.step c.move_cost.ensures.step) c.take_sides.ensures.step

pub returns-in-NoPoint-clause-step : goal.returns-in-NoPoint-clause-step
returns-in-NoPoint-clause-step c =
    exact_after _ _ _ (exact_after _ _ _ c.loop-at.invariant.step c.move_cost.ensures.step) c.take_sides.ensures.step

pub take_sides-requires-clause-there : goal.take_sides-requires-clause-there
take_sides-requires-clause-there c =
    let found : IsFound c.move_cost.new.draft c.args.found.now =
    found_later c.loop-at.draft c.move_cost.new.draft c.args.found.now c.loop-at.invariant.found c.move_cost.ensures.step c.move_cost.ensures.rows c.move_cost.ensures.bounds in
    found.there

pub take_sides-requires-clause-gives : goal.take_sides-requires-clause-gives
take_sides-requires-clause-gives c =
    let found : IsFound c.move_cost.new.draft c.args.found.now =
    found_later c.loop-at.draft c.move_cost.new.draft c.args.found.now c.loop-at.invariant.found c.move_cost.ensures.step c.move_cost.ensures.rows c.move_cost.ensures.bounds in
    subst (λ n. RowGives c.move_cost.new.draft c.args.found.now.row n c.args.found.now.form) (sym (ap (λ (s : Substitution). s.column) c.found.view_is)) found.gives

pub take_sides-requires-clause-substitute : goal.take_sides-requires-clause-substitute
take_sides-requires-clause-substitute c =
    let found : IsFound c.move_cost.new.draft c.args.found.now =
    found_later c.loop-at.draft c.move_cost.new.draft c.args.found.now c.loop-at.invariant.found c.move_cost.ensures.step c.move_cost.ensures.rows c.move_cost.ensures.bounds in
    subst (λ n. IsSubstitute c.move_cost.new.draft n c.args.found.now.form) (sym (ap (λ (s : Substitution). s.column) c.found.view_is)) found.substitute

pub move_cost-requires-clause-there : goal.move_cost-requires-clause-there
move_cost-requires-clause-there c = omega arith

pub returns-in-NoPoint-clause-end : goal.returns-in-NoPoint-clause-end
returns-in-NoPoint-clause-end c = grind (arith, common_steps)

pub returns-in-NoPoint-clause-rows : goal.returns-in-NoPoint-clause-rows
returns-in-NoPoint-clause-rows c = grind (arith, common_steps)

pub returns-in_default-take_sides-clause-end : goal.returns-in_default-take_sides-clause-end
returns-in_default-take_sides-clause-end c =
    open_ends c.take_sides.new.draft c.open_after.result c.open_after.ensures

pub returns-in_default-take_sides-clause-rows : goal.returns-in_default-take_sides-clause-rows
returns-in_default-take_sides-clause-rows c = grind (arith, common_steps)

pub move_cost-requires-clause-substitute : goal.move_cost-requires-clause-substitute
move_cost-requires-clause-substitute c = grind (arith, common_steps)

pub returns-in_err-try_replace-clause-step : goal.returns-in_err-try_replace-clause-step
returns-in_err-try_replace-clause-step c = exact_after _ _ _ c.loop-at.invariant.step c.try_replace.ensures.step

pub returns-in_err-row_moved-clause-step : goal.returns-in_err-row_moved-clause-step
returns-in_err-row_moved-clause-step c = exact_after _ _ _ c.loop-at.invariant.step c.try_replace.ensures.step

pub loop-at-init : goal.loop-at-init
loop-at-init c = record { step = exact_self c.args.draft.now; found = c.requires; rows = refl }

pub loop-at-preserved : goal.loop-at-preserved
loop-at-preserved c =
    record {
      step = exact_after _ _ _ c.loop-at.invariant.step c.try_replace.ensures.step;
      found = found_still c.loop-at.draft c.try_replace.new.draft c.args.found.now c.loop-at.invariant.found
          c.try_replace.ensures.rows
          (subst (λ n. RowGives c.try_replace.new.draft c.args.found.now.row n c.args.found.now.form)
          (ap (λ (s : Substitution). s.column) c.found.view_is) c.try_replace.ensures.gives)
          (subst (λ n. IsSubstitute c.try_replace.new.draft n c.args.found.now.form)
          (ap (λ (s : Substitution). s.column) c.found.view_is) c.try_replace.ensures.substitute);
      rows = c.try_replace.ensures.rows ∙ c.loop-at.invariant.rows;
    }

pub try_replace-requires-clause-gives : goal.try_replace-requires-clause-gives
try_replace-requires-clause-gives c = grind (arith, common_steps)

pub move_cost-requires-clause-gives : goal.move_cost-requires-clause-gives
move_cost-requires-clause-gives c = grind (arith, common_steps)

pub try_replace-requires-clause-there : goal.try_replace-requires-clause-there
try_replace-requires-clause-there c = grind (arith, common_steps)

pub returns-in_err-try_replace-clause-rows : goal.returns-in_err-try_replace-clause-rows
returns-in_err-try_replace-clause-rows c = grind (arith, common_steps)

pub try_replace-requires-clause-inside : goal.try_replace-requires-clause-inside
try_replace-requires-clause-inside c = grind (arith, common_steps)

pub try_replace-requires-clause-substitute : goal.try_replace-requires-clause-substitute
try_replace-requires-clause-substitute c = grind (arith, common_steps)

pub overflow_cast-row : goal.overflow_cast-row
overflow_cast-row c = grind (arith, common_steps)

pub loop-at-preserved-in_default : goal.loop-at-preserved-in_default
loop-at-preserved-in_default c = grind (arith, common_steps)

pub returns-in_err-row_moved-clause-rows : goal.returns-in_err-row_moved-clause-rows
returns-in_err-row_moved-clause-rows c = c.try_replace.ensures.rows ∙ c.loop-at.invariant.rows

use Rattle.std.proofs.lemmas.Grind.{common_steps}
use Rattle.cip_presolve.proofs.MayLeave.{one_may, all_may, FirstMayGo, none_yet}
use Rattle.std.proofs.Common.{◌≡◌, length, rules, List, Option, sym, subst, arith}
use Rattle.cip_presolve.specs.Forms.{Form}
use Rattle.cip_presolve.proofs.candidates.values_out.Goals as goal

pub loop-column-preserved : goal.loop-column-preserved
loop-column-preserved c =
    one_may c.args.draft.now c.loop-column.forms.items c.push.new.self.items c.value_out.result c.loop-column.column
    c.loop-column.invariant c.value_out.ensures c.in_ok-push.ensures.items

pub returns : goal.returns
returns c =
    let count : c.loop-column.column ≡ length c.args.draft.now.bounds = search rules in
    all_may c.args.draft.now c.loop-column.forms.items c.loop-column.column c.loop-column.invariant count

pub loop-column-init : goal.loop-column-init
loop-column-init c = subst (λ (fs : List (Option Form)). FirstMayGo c.args.draft.now fs 0) (sym c.new-forms.ensures.items) (none_yet c.args.draft.now)

pub value_out-requires : goal.value_out-requires
value_out-requires c = grind (arith, common_steps)

pub overflow_cast-column-end : goal.overflow_cast-column-end
overflow_cast-column-end c = grind (arith, common_steps)

use Rattle.std.proofs.lemmas.Grind.{common_steps}
use Rattle.std.proofs.Common.{List, IfSome, subst, arith}
use Rattle.std.proofs.lemmas.Option.{IfSome_then}
use Rattle.std.proofs.lemmas.Result.{IfOk-weaker}
use Rattle.cip_problem.specs.Program.{Row}
use Rattle.cip_presolve.specs.FreeColumns.{RowsFree}
use Rattle.cip_presolve.specs.Moves.{AreTargets, AreEntries, IsPlanned}
use Rattle.cip_presolve.proofs.Plans.{plan_is}
use Rattle.cip_presolve.proofs.moves.planned.Goals as goal

pub returns : goal.returns
returns c =
    let rows : RowsFree c.args.rising c.in_ok-free.free.items c.args.forms.now c.args.draft.now.rows =
    subst (λ (rs : List Row). RowsFree c.args.rising c.in_ok-free.free.items c.args.forms.now rs) c.rows.ensures c.in_ok-free.ensures in
    let targets : AreTargets c.args.rising c.as_slice.result.now c.args.draft.now c.in_ok-targets.targets.items = c.in_ok-targets.ensures in
    IfOk-weaker c.entries.result _ (λ found. IfSome found (λ plan. IsPlanned c.args.rising c.args.draft.now c.args.forms.now plan.items))
    (λ found h. IfSome_then found h
    (λ plan e. plan_is c.args.rising c.in_ok-free.free.items c.args.draft.now c.args.forms.now c.in_ok-targets.targets.items plan.items c.requires.may c.requires.sources rows
    (subst (λ free. AreTargets c.args.rising free c.args.draft.now c.in_ok-targets.targets.items) c.as_slice.ensures.value targets)
    (subst (λ ts. AreEntries c.args.forms.now ts plan.items) c.as_slice-2.ensures.value e)))
    c.entries.ensures

pub entries-requires : goal.entries-requires
entries-requires c = omega arith

pub free_columns-requires : goal.free_columns-requires
free_columns-requires c = grind (arith, common_steps)

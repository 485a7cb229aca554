use Rattle.std.proofs.lemmas.Grind.{common_steps}
use Rattle.std.proofs.Common.{refl, arith}
use Rattle.cip_presolve.proofs.MayLeave.{form_added}
use Rattle.cip_presolve.proofs.candidates.add_lone.Goals as goal

pub returns-in-Some : goal.returns-in-Some
returns-in-Some c = form_added c.args.draft.now c.args.forms.now.items _ c.args.column c.in-Some.form c.requires.may c.in-Some.ensures refl

pub form_out-requires : goal.form_out-requires
form_out-requires c = omega arith

pub index_mut-requires : goal.index_mut-requires
index_mut-requires c = grind (arith, common_steps)

pub returns-in-None : goal.returns-in-None
returns-in-None c = grind (arith, common_steps)

pub returns-in_default : goal.returns-in_default
returns-in_default c = grind (arith, common_steps)

pub returns-in_default-2 : goal.returns-in_default-2
returns-in_default-2 c = grind (arith, common_steps)

pub get-requires : goal.get-requires
get-requires c = grind (arith, common_steps)

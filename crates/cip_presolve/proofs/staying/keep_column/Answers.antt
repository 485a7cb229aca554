use Rattle.std.proofs.lemmas.Grind.{common_steps}
use Rattle.std.proofs.Common.{refl, arith}
use Rattle.cip_presolve.proofs.StayingColumns.{column_in, column_fewer}
use Rattle.cip_presolve.proofs.staying.keep_column.Goals as goal

pub returns-clause-stays : goal.returns-clause-stays
returns-clause-stays c = column_in c.args.forms.now.items _ c.args.column c.requires refl

pub returns-clause-fewer : goal.returns-clause-fewer
returns-clause-fewer c = column_fewer c.args.forms.now.items _ c.args.column refl

pub index_mut-requires : goal.index_mut-requires
index_mut-requires c = grind (arith, common_steps)

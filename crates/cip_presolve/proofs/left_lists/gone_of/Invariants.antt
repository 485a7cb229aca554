use Rattle.std.proofs.Common.{◌≡◌, ◌++◌, drop}
use Rattle.std.specs.Prelude.{map, is_some}
use Rattle.cip_presolve.proofs.left_lists.gone_of.Given as goal

abbrev pub invariant-loop-form : goal.invariant-loop-form
invariant-loop-form l = l.gone.items ++ map is_some (drop l.form-index l.forms) ≡ map is_some l.forms

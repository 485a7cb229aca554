use Rattle.std.proofs.Common.{◌≡◌, ◌++◌, drop}
use Rattle.std.specs.Prelude.{map, is_none}
use Rattle.cip_presolve.proofs.places.columns_left.Given as goal

abbrev pub invariant-loop-form : goal.invariant-loop-form
invariant-loop-form l = l.left.items ++ map is_none (drop l.form-index l.forms) ≡ map is_none l.forms

-- What a boxed plugin means.
use Rattle.std.specs.Prelude.{ℕ, List, Option}
use Rattle.cip_plugin.specs.declared.kinds.Kind.{Kind}
use Rattle.cip_plugin.specs.Calls.{Call}

-- the callbacks that it tells, its name, and its kind
pub record Who : Type 0 where
  pub told : Option (List Call)
  pub label : List ℕ
  pub kind : Kind

-- What a draft is to its callers.
use Rattle.std.specs.Prelude.{false, []}
use Rattle.cip_problem.specs.Program as problem
use Rattle.cip_presolve.specs.DraftParts.{IsDraft}
use Rattle.cip_presolve.specs.declared.drafts.Draft.TheInside.{Inside}

abbrev pub shown : Inside → problem.Program
shown d = record {
  column_names = [];
  row_names = [];
  rows = d.rows.items;
  costs = d.costs.items;
  constant = d.constant;
  maximized = false;
  integral = d.whole.items;
  bounds = d.bounds;
  choices = d.choices;
}

abbrev pub IsSound : Inside → Type 0
IsSound d = IsDraft (shown d)

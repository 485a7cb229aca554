-- What the code keeps of the tokens that were read, as facts.
use Rattle.std.specs.Prelude.{◌≡◌, ℕ, Bool, false, List, Option, None, Some, option_map}
use Rattle.cip_text_rules.specs.MpsWords.{is_in}
use Rattle.cip_text_rules.specs.LpFacts.{LpFacts}
use Rattle.cip_text_rules.specs.LpSound.{IsSoundLp}
use Rattle.cip_lp.specs.declared.draft.LpDraft.TheInside.{Inside}

-- the facts
abbrev pub facts_in : Inside → LpFacts
facts_in draft = record {
  maximized = draft.maximized;
  objective = option_map (λ name. name.items) draft.objective;
  row_names = draft.row_names;
  rows = draft.rows.items;
  row_name = option_map (λ name. name.items) draft.row_name;
  column_names = draft.column_names;
  costs = draft.costs.items;
  bounds = draft.sides.items;
  integral = draft.whole.items;
  constant = draft.constant;
  form = draft.form;
  entries = draft.entries;
}

-- a name, where there is one, is among these
abbrev pub is_among : List (List ℕ) → Option (List ℕ) → Bool
is_among names None = false
is_among names (Some name) = is_in names name

-- the facts are sound, and the row that hasn't ended has a name that no other row has
pub record IsKeptLp (facts : LpFacts) : Type 0 where
  pub sound : IsSoundLp facts
  pub fresh : is_among facts.row_names facts.row_name ≡ false

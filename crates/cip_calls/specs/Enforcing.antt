-- What handlers say of the point of a node's last linear program, and what branching rules come to.
use Rattle.std.specs.Prelude.{◌≡◌, ℕ, List, [], ◌∷◌, Option, None, Some}
use Rattle.cip_plugin.specs.Asking.{answer_of}
use Rattle.cip_plugin.specs.Calls.{Ask, Branch}
use Rattle.cip_plugin.specs.declared.asking.Given.{Given}
use Rattle.cip_plugin.specs.declared.proposals.Split.{Split}
use Rattle.cip_tree.specs.Nodes.{TakenNode}
use Rattle.cip_calls.specs.CoreStates.{CoreState}
use Rattle.cip_calls.specs.ProposalsJudged.{IsShownEmpty}
use Rattle.cip_calls.specs.SplitsJudged.{IsPlace}
use Rattle.cip_calls.specs.Noted.{IsSameNode}
use Rattle.cip_calls.specs.Served.{count_for}
use Rattle.cip_calls.specs.declared.enforcing.Verdict.{Verdict}
use Rattle.cip_calls.specs.declared.enforcing.Verdict.TheVariants.{Quiet, Emptied, Changed, Place}

-- how many proposals that are judged were given, if memory was there
abbrev pub made : Ask → Option Given → ℕ
made ask None = 0
made ask (Some given) = count_for ask (answer_of given)

-- a node and the rows of the pool are as they were
pub record IsLeftAlone (old new : CoreState) (had has : TakenNode) : Type 0 where
  pub same : IsSameNode old new had has
  pub pool : new.pool ≡ old.pool

-- what handlers came to: nothing has changed; or no improving point is in the node's box; or a side or a row may have
-- come; or nothing has changed, and the node can be split at this place
abbrev pub IsVerdict : CoreState → CoreState → TakenNode → TakenNode → Verdict → Type 0
IsVerdict old new had has Quiet = IsLeftAlone old new had has
IsVerdict old new had has Emptied = IsShownEmpty new has
IsVerdict old new had has Changed = Unit {0}
IsVerdict old new had has (Place split) = IsLeftAlone old new had has × IsPlace new split.col split.at

-- what each rule was asked where none of their splits was accepted; some may not be asked where one was
abbrev pub asked_of_rules : Option Split → List Ask
asked_of_rules None = Branch ∷ []
asked_of_rules (Some split) = []

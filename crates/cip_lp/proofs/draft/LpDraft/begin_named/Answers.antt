use Rattle.std.proofs.Common.{subst, List, ℕ, Some}
use Rattle.cip_text_rules.specs.LpPlaces.{Begins}
use Rattle.cip_lp.specs.LpEvents.{IsTaken}
use Rattle.cip_lp.proofs.draft.LpDraft.begin_named.Goals as goal

pub returns : goal.returns
returns c =
    let name = c.in_ok-owned.ensures.items_if_clones_equal (λ x y e. e) in
    subst (λ (n : List ℕ). IsTaken c.args.self.now c.begin.new.self (Begins (Some n)) c.begin.result) name
    c.begin.ensures

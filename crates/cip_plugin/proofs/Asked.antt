-- What a plugin of a kind is asked for, where it is asked for something that its kind is asked for.
use Rattle.std.proofs.Common.{◌≡◌, true, refl}
use Rattle.cip_plugin.specs.Asking.{ask_of, asks}
use Rattle.cip_plugin.specs.declared.asking.Question.{Question}
use Rattle.cip_plugin.specs.declared.asking.Question.TheVariants as questions
use Rattle.cip_plugin.specs.declared.kinds.Kind.TheVariants as kinds

-- a separator is asked for cuts
pub separator_is_asked : (q : Question) → asks kinds.Separator (ask_of q) ≡ true
    → (q ≡ questions.Separate → ⊥) → ⊥
separator_is_asked questions.Separate fits not_separate = not_separate refl
separator_is_asked questions.Propagate fits not_separate = cc
separator_is_asked (questions.Price block costs) fits not_separate = cc
separator_is_asked questions.Search fits not_separate = cc
separator_is_asked questions.Branch fits not_separate = cc
separator_is_asked questions.Enforce fits not_separate = cc
separator_is_asked (questions.OnEvent event) fits not_separate = cc

-- a propagator is asked for reductions
pub propagator_is_asked : (q : Question) → asks kinds.Propagator (ask_of q) ≡ true
    → (q ≡ questions.Propagate → ⊥) → ⊥
propagator_is_asked questions.Separate fits not_propagate = cc
propagator_is_asked questions.Propagate fits not_propagate = not_propagate refl
propagator_is_asked (questions.Price block costs) fits not_propagate = cc
propagator_is_asked questions.Search fits not_propagate = cc
propagator_is_asked questions.Branch fits not_propagate = cc
propagator_is_asked questions.Enforce fits not_propagate = cc
propagator_is_asked (questions.OnEvent event) fits not_propagate = cc

-- a pricer is asked for points of a block
pub pricer_is_asked : (q : Question) → asks kinds.Pricer (ask_of q) ≡ true
    → ((block : _) (costs : _) → q ≡ questions.Price block costs → ⊥) → ⊥
pricer_is_asked questions.Separate fits not_price = cc
pricer_is_asked questions.Propagate fits not_price = cc
pricer_is_asked (questions.Price block costs) fits not_price = not_price block costs refl
pricer_is_asked questions.Search fits not_price = cc
pricer_is_asked questions.Branch fits not_price = cc
pricer_is_asked questions.Enforce fits not_price = cc
pricer_is_asked (questions.OnEvent event) fits not_price = cc

-- a heuristic is asked for points
pub heuristic_is_asked : (q : Question) → asks kinds.Heuristic (ask_of q) ≡ true
    → (q ≡ questions.Search → ⊥) → ⊥
heuristic_is_asked questions.Separate fits not_search = cc
heuristic_is_asked questions.Propagate fits not_search = cc
heuristic_is_asked (questions.Price block costs) fits not_search = cc
heuristic_is_asked questions.Search fits not_search = not_search refl
heuristic_is_asked questions.Branch fits not_search = cc
heuristic_is_asked questions.Enforce fits not_search = cc
heuristic_is_asked (questions.OnEvent event) fits not_search = cc

-- a branching rule is asked for a split
pub branch_rule_is_asked : (q : Question) → asks kinds.BranchRule (ask_of q) ≡ true
    → (q ≡ questions.Branch → ⊥) → ⊥
branch_rule_is_asked questions.Separate fits not_branch = cc
branch_rule_is_asked questions.Propagate fits not_branch = cc
branch_rule_is_asked (questions.Price block costs) fits not_branch = cc
branch_rule_is_asked questions.Search fits not_branch = cc
branch_rule_is_asked questions.Branch fits not_branch = not_branch refl
branch_rule_is_asked questions.Enforce fits not_branch = cc
branch_rule_is_asked (questions.OnEvent event) fits not_branch = cc

-- a handler is asked what to do, and for cuts and reductions
pub cons_handler_is_asked : (q : Question) → asks kinds.ConsHandler (ask_of q) ≡ true
    → (q ≡ questions.Enforce → ⊥)
    → (q ≡ questions.Separate → ⊥)
    → (q ≡ questions.Propagate → ⊥) → ⊥
cons_handler_is_asked questions.Separate fits not_enforce not_separate not_propagate = not_separate refl
cons_handler_is_asked questions.Propagate fits not_enforce not_separate not_propagate = not_propagate refl
cons_handler_is_asked (questions.Price block costs) fits not_enforce not_separate not_propagate = cc
cons_handler_is_asked questions.Search fits not_enforce not_separate not_propagate = cc
cons_handler_is_asked questions.Branch fits not_enforce not_separate not_propagate = cc
cons_handler_is_asked questions.Enforce fits not_enforce not_separate not_propagate = not_enforce refl
cons_handler_is_asked (questions.OnEvent event) fits not_enforce not_separate not_propagate = cc

-- an event handler is asked for wishes
pub event_handler_is_asked : (q : Question) → asks kinds.EventHandler (ask_of q) ≡ true
    → ((event : _) → q ≡ questions.OnEvent event → ⊥) → ⊥
event_handler_is_asked questions.Separate fits not_on_event = cc
event_handler_is_asked questions.Propagate fits not_on_event = cc
event_handler_is_asked (questions.Price block costs) fits not_on_event = cc
event_handler_is_asked questions.Search fits not_on_event = cc
event_handler_is_asked questions.Branch fits not_on_event = cc
event_handler_is_asked questions.Enforce fits not_on_event = cc
event_handler_is_asked (questions.OnEvent event) fits not_on_event = not_on_event event refl

-- Plugins are used by one part of the work on a node and the next.
use Rattle.std.proofs.Common.{◌≡◌, ℕ, List, [], ◌∷◌, ◌++◌, All, Bool, true, false, Option, None, Some, Result, Ok, Err, sym, subst}
use Rattle.std.specs.Prelude.{IfOk, OnOk}
use Rattle.cip_events.specs.Events.{event_at}
use Rattle.cip_events.specs.declared.events.EventKind.TheVariants.{NodeFocused}
use Rattle.cip_plugin.specs.Calls.{Ask, Branch, OnEvent}
use Rattle.cip_plugin.specs.Seats.{State, is_settled}
use Rattle.cip_calls.specs.declared.judged.Judged.{Judged}
use Rattle.cip_plugin.specs.declared.proposals.Split.{Split}
use Rattle.cip_node.specs.NodeEnds.{IsLeafEnd}
use Rattle.cip_node.specs.declared.bounding.Found.{Found}
use Rattle.cip_node.specs.declared.ends.NodeEnd.{NodeEnd}
use Rattle.cip_node.specs.declared.ends.NodeEnd.TheVariants as by
use Rattle.cip_calls.specs.Served.{Used}
use Rattle.cip_calls.proofs.PassedOn.{used_further, used_first, used_none}
use Rattle.cip_solve.specs.NodesReached.{asks_in_pass, IsUsedIn, IsUsedIf}
use Rattle.cip_solve.specs.NodesDone.{asks_for_split, asks_until, IsUsedAt, IsEndUsed, IsDoneUsing}
use Rattle.cip_solve.specs.declared.reached.Reached.{Reached}
use Rattle.cip_solve.specs.declared.reached.Reached.TheVariants as stage
use Rattle.cip_solve.specs.declared.ends.Done.{Done}

-- nobody is called first
pub used_behind : {X V : Type 0} (state : X → State) (items : V → List (ℕ × Judged)) (x y : X) (v w : V) (qs : List Ask) (c : State) (e : List (ℕ × Judged)) → y ≡ x → w ≡ v → Used qs (state y) (items w) c e → Used qs (state x) (items v) c e
used_behind state items x y v w qs c e same kept used =
    subst (λ z. Used qs (state z) (items v) c e) same (subst (λ z. Used qs (state y) (items z) c e) kept used)

-- nor at last
pub used_before : {X V : Type 0} (state : X → State) (items : V → List (ℕ × Judged)) (x y : X) (v w : V) (qs : List Ask) (a : State) (h : List (ℕ × Judged)) → y ≡ x → w ≡ v → Used qs a h (state x) (items v) → Used qs a h (state y) (items w)
used_before state items x y v w qs a h same kept used =
    subst (λ z. Used qs a h (state z) (items w)) (sym same) (subst (λ z. Used qs a h (state x) (items z)) (sym kept) used)

-- what is told counts for no question
pub told_behind : {X V A E : Type 0} (state : X → State) (items : V → List (ℕ × Judged)) (x y : X) (v w : V) (r : Result A E) (ws : List Ask) (c : State) (e : List (ℕ × Judged)) → y ≡ x → w ≡ v → OnOk r (Used ws (state y) (items w) c e) → OnOk r (Used [] (state x) (items v) c e)
told_behind state items x y v w (Ok z) ws c e same kept used = used_behind state items x y v w [] c e same kept (used_first [] ws (state y) c (items w) e used)
told_behind state items x y v w (Err z) ws c e same kept used = tt

-- by what is known whether there is an answer or not
pub from_ok : {A E : Type 0} (r : Result A E) (P : Type 0) (Q : A → Type 0) → OnOk r P → ((x : A) → P → Q x) → IfOk r Q
from_ok (Ok x) P Q h so = so x h
from_ok (Err e) P Q h so = tt

-- ---- where a node is open

-- what was used before goes in front
pub in_further : (qs ws : List Ask) (reached : Reached) (a b c : State) (h m e : List (ℕ × Judged)) → All (λ seat. is_settled seat ≡ true) b.seats → Used qs a h b m → IsUsedIn ws reached b m c e → IsUsedIn (qs ++ ws) reached a h c e
in_further qs ws stage.Empty a b c h m e settled first second = tt
in_further qs ws stage.Leaf a b c h m e settled first second = tt
in_further qs ws (stage.Open found) a b c h m e settled first second = used_further qs ws a b c h m e settled first second
in_further qs ws (stage.Place found split) a b c h m e settled first second = used_further qs ws a b c h m e settled first second

-- and what is used behind a node that is open
pub in_then : (ws : List Ask) (a b c : State) (h m e : List (ℕ × Judged)) → All (λ seat. is_settled seat ≡ true) b.seats → Used ws a h b m → Used [] b m c e → Used ws a h c e
in_then ws a b c h m e settled first second = used_first ws [] a c h e (used_further ws [] a b c h m e settled first second)

-- ---- the end

-- a leaf's end says nothing of who was used
pub leaf_used : (number : ℕ) (proposed : Bool) (ended : NodeEnd) (a c : State) (h e : List (ℕ × Judged)) → IsLeafEnd ended → IsUsedAt number proposed ended a h c e
leaf_used number proposed by.Pruned a c h e k = absurd k
leaf_used number proposed (by.Split low high) a c h e k = absurd k
leaf_used number proposed by.Empty a c h e k = tt
leaf_used number proposed by.Solved a c h e k = tt
leaf_used number proposed (by.Parked leaf on bound shown) a c h e k = tt
leaf_used number proposed (by.Ray point ray) a c h e k = tt

at_end : (number : ℕ) (proposed : Bool) (ended : NodeEnd) (a c : State) (h e : List (ℕ × Judged)) → Used (asks_until number proposed ended) a h c e → IsUsedAt number proposed ended a h c e
at_end number proposed by.Pruned a c h e k = k
at_end number proposed (by.Split low high) a c h e k = k
at_end number proposed by.Empty a c h e k = tt
at_end number proposed by.Solved a c h e k = tt
at_end number proposed (by.Parked leaf on bound shown) a c h e k = tt
at_end number proposed (by.Ray point ray) a c h e k = tt

pub used_done : (number : ℕ) (reached : Reached) (done : Done) (a b c : State) (h m e : List (ℕ × Judged)) → All (λ seat. is_settled seat ≡ true) b.seats → IsUsedIn (OnEvent (event_at number NodeFocused) ∷ asks_in_pass) reached a h b m → IsEndUsed reached done b m c e → IsDoneUsing number done a h c e
used_done number stage.Empty done a b c h m e settled first second = leaf_used number done.proposed done.end a c h e second
used_done number stage.Leaf done a b c h m e settled first second = leaf_used number done.proposed done.end a c h e second
used_done number (stage.Open found) done a b c h m e settled first second =
    at_end number done.proposed done.end a c h e (used_further (OnEvent (event_at number NodeFocused) ∷ asks_in_pass) (asks_for_split done.proposed done.end) a b c h m e settled first second)
used_done number (stage.Place found split) done a b c h m e settled first second =
    at_end number done.proposed done.end a c h e (used_further (OnEvent (event_at number NodeFocused) ∷ asks_in_pass) (asks_for_split done.proposed done.end) a b c h m e settled first second)

-- ---- rules

-- all rules were asked
pub by_rule : (proposed : Bool) (ended : NodeEnd) (a b : State) (h m : List (ℕ × Judged)) → proposed ≡ false → Used (Branch ∷ []) a h b m → Used (asks_for_split proposed ended) a h b m
by_rule true ended a b h m e used = cc
by_rule false by.Pruned a b h m e used = used_first [] (Branch ∷ []) a b h m used
by_rule false (by.Split low high) a b h m e used = used
by_rule false by.Empty a b h m e used = used_first [] (Branch ∷ []) a b h m used
by_rule false by.Solved a b h m e used = used_first [] (Branch ∷ []) a b h m used
by_rule false (by.Parked leaf on bound shown) a b h m e used = used_first [] (Branch ∷ []) a b h m used
by_rule false (by.Ray point ray) a b h m e used = used_first [] (Branch ∷ []) a b h m used

-- or one of them proposed the split
pub by_plugin : (proposed : Bool) (ended : NodeEnd) (a b : State) (h m : List (ℕ × Judged)) → proposed ≡ true → Used [] a h b m → Used (asks_for_split proposed ended) a h b m
by_plugin true ended a b h m e used = used
by_plugin false ended a b h m e used = cc

-- or none was asked, as the node was pruned
pub by_bound : (proposed : Bool) (ended : NodeEnd) (a : State) (h : List (ℕ × Judged)) → proposed ≡ false → ended ≡ by.Pruned → Used (asks_for_split proposed ended) a h a h
by_bound proposed ended a h p e =
    subst (λ b. Used (asks_for_split b ended) a h a h) (sym p) (subst (λ n. Used (asks_for_split false n) a h a h) (sym e) (used_none a h))

-- ---- turns

-- behind a pass and what handlers said
pub decided_used : (turned : Option Reached) (a b c : State) (h m e : List (ℕ × Judged)) → All (λ seat. is_settled seat ≡ true) b.seats → Used asks_in_pass a h b m → Used [] b m c e → IsUsedIf turned a h c e
decided_used None a b c h m e settled first second = used_further [] [] a b c h m e settled (used_first [] asks_in_pass a b h m first) second
decided_used (Some stage.Empty) a b c h m e settled first second = tt
decided_used (Some stage.Leaf) a b c h m e settled first second = tt
decided_used (Some (stage.Open found)) a b c h m e settled first second = in_then asks_in_pass a b c h m e settled first second
decided_used (Some (stage.Place found split)) a b c h m e settled first second = in_then asks_in_pass a b c h m e settled first second

-- ---- by what was reached

pub ends_empty : (reached : Reached) (done : Done) (a b : State) (h m : List (ℕ × Judged)) → reached ≡ stage.Empty → IsLeafEnd done.end → IsEndUsed reached done a h b m
ends_empty reached done a b h m e k = subst (λ r. IsEndUsed r done a h b m) (sym e) k

pub ends_leaf : (reached : Reached) (done : Done) (a b : State) (h m : List (ℕ × Judged)) → reached ≡ stage.Leaf → IsLeafEnd done.end → IsEndUsed reached done a h b m
ends_leaf reached done a b h m e k = subst (λ r. IsEndUsed r done a h b m) (sym e) k

pub ends_open : (reached : Reached) (found : Found) (done : Done) (a b : State) (h m : List (ℕ × Judged)) → reached ≡ stage.Open found → Used (asks_for_split done.proposed done.end) a h b m → IsEndUsed reached done a h b m
ends_open reached found done a b h m e k = subst (λ r. IsEndUsed r done a h b m) (sym e) k

pub ends_place : (reached : Reached) (found : Found) (split : Split) (done : Done) (a b : State) (h m : List (ℕ × Judged)) → reached ≡ stage.Place found split → Used (asks_for_split done.proposed done.end) a h b m → IsEndUsed reached done a h b m
ends_place reached found split done a b h m e k = subst (λ r. IsEndUsed r done a h b m) (sym e) k

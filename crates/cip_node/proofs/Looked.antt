-- What the look of a node's box tells: a box without a whole value has no improving point.
use Rattle.std.proofs.Common.{◌≡◌, inl, inr, false, Some, sym, ap, ◌∙◌, subst}
use Rattle.std.proofs.lemmas.Option.{slice_get-get_or}
use Rattle.cip_rational.specs.Rational.{numerator}
use Rattle.cip_rational.proofs.Rational.Whole.{whole_is}
use Rattle.cip_problem.specs.Program.{Program}
use Rattle.cip_problem.specs.Box.{Between, sides_at}
use Rattle.cip_problem.specs.Activity.{value_at}
use Rattle.cip_problem.proofs.Points.AtPlaces.{in_box_at, whole_at}
use Rattle.cip_domain.specs.Changes.{Region}
use Rattle.cip_problem.specs.Improving.{HasNoImproving}
use Rattle.cip_node_rules.specs.BoxLooks.{IsBoxLook}
use Rattle.cip_node_rules.specs.declared.looks.Looked.{Looked}
use Rattle.cip_node_rules.specs.declared.looks.Looked.TheVariants.{Empty, Leaf, Open}
use Rattle.cip_tree.specs.Nodes.{TakenNode, region_of, box_of, choices_of}
use Rattle.cip_core.specs.CoreStates.{CoreState, reduced_of, held_of}
use Rattle.cip_core.specs.Later.{IsLaterAt}
use Rattle.cip_problem.specs.Wholes.{AllHaveWholes}
use Rattle.cip_node_rules.specs.OpenChoices.{IsOpenBox}
use Rattle.cip_node.specs.Looking.{IsLook, IsOpenNode}

pub look_empty : (core : CoreState) (node : TakenNode) → IsLook core node Empty → HasNoImproving (reduced_of core) (held_of core) (box_of core.tree node)
look_empty core node (inl h) = λ point i w. h point w
look_empty core node (inr h) = λ point i w.
    let program = reduced_of core in
    let box = box_of core.tree node in
    let whole = whole_at program.integral point h.0 i.feasible.whole (slice_get-get_or program.integral h.0 false h.1.within ∙ ap Some h.1.whole) in
    h.1.lacks (record {
      number = numerator (value_at point h.0);
      between = subst (Between (sides_at box h.0).low (sides_at box h.0).high) (whole_is (value_at point h.0) whole) (in_box_at box point h.0 w);
    })

own_look : (core : CoreState) (node : TakenNode) (looked : Looked) → core.tree.work ≡ region_of core.tree node → IsBoxLook (reduced_of core).integral (box_of core.tree node) (choices_of core.tree node) looked → IsLook core node looked
own_look core node Empty e l = inr l
own_look core node Leaf e l = record { full = record { region = e; wholes = l.has }; settled = l.settled }
own_look core node Open e l = record { full = record { region = e; wholes = l.0 }; open_ = l.1 }

-- the look of the region in work, where that is the node's
pub look_entered : (core : CoreState) (node : TakenNode) (looked : Looked) → core.tree.work ≡ region_of core.tree node → IsBoxLook (reduced_of core).integral core.tree.work.box core.tree.work.choices looked → IsLook core node looked
look_entered core node looked e l =
    own_look core node looked e (subst (λ (r : Region). IsBoxLook (reduced_of core).integral r.box r.choices looked) e l)

-- an open node whose region stays the same is still open after steps of its work
pub open_after : (old mid : CoreState) (node has : TakenNode) → IsLaterAt old node mid has → region_of mid.tree has ≡ region_of old.tree node → IsOpenNode old node → IsOpenNode mid has
open_after old mid node has l e o =
    let integral = ap (λ (p : Program). p.integral) l.later.reduced in
    record {
      full = record {
        region = l.at_work.region;
        wholes = subst (λ w. AllHaveWholes w (box_of mid.tree has)) (sym integral) (subst (λ (r : Region). AllHaveWholes (reduced_of old).integral r.box) (sym e) o.full.wholes);
      };
      open_ = subst (λ w. IsOpenBox w (box_of mid.tree has) (choices_of mid.tree has)) (sym integral) (subst (λ (r : Region). IsOpenBox (reduced_of old).integral r.box r.choices) (sym e) o.open_);
    }

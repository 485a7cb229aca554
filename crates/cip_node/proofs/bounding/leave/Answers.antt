use Rattle.std.proofs.lemmas.Grind.{common_steps}
use Rattle.std.proofs.Common.{◌≡◌, ◌∙◌, Option, IfSome, length, sym, ap, subst, arith}
use Rattle.cip_problem.specs.WellFormed.{columns}
use Rattle.cip_domain.specs.Changes.{Region}
use Rattle.cip_problem.specs.Improving.{IsBoundIn, HasNoImproving}
use Rattle.cip_tree.specs.Nodes.{region_of, box_of}
use Rattle.cip_core.specs.CoreStates.{CoreState, reduced_of, held_of}
use Rattle.cip_core.specs.Steps.{IsTriedBack, IsRaisedTo}
use Rattle.cip_core.proofs.CoreSteps.{work_long}
use Rattle.cip_core.proofs.Relations.{later_at_itself, later_at_further}
use Rattle.cip_node.specs.Bounding.{IsFound}
use Rattle.cip_node.specs.declared.bounding.Told.{Told}
use Rattle.cip_node.proofs.NodeBound.{tells, none_told, bound_told, long_told, offered_core, told_found}
use Rattle.cip_node.proofs.bounding.leave.Goals as goal

pub returns-in-None-clause-later : goal.returns-in-None-clause-later
returns-in-None-clause-later c = later_at_itself c.args.core.now c.args.node.now c.requires.at_work

pub returns-in-None-clause-bounded : goal.returns-in-None-clause-bounded
returns-in-None-clause-bounded c =
    let core = c.args.core.now in
    let t = tells core c.requires.at_work c.is_sound.ensures.sound c.is_sound.ensures.pool c.is_sound.ensures.reduced in
    subst (HasNoImproving (reduced_of core) (held_of core)) (ap (λ (g : Region). g.box) c.requires.at_work.region) (t.empty (none_told core c.args.relaxed c.in-None.ensures c.requires.relaxed))

pub raise_if-requires-clause-holds : goal.raise_if-requires-clause-holds
raise_if-requires-clause-holds c =
    let core = c.args.core.now in
    let own = box_of core.tree c.args.node.now in
    let t = tells core c.requires.at_work c.is_sound.ensures.sound c.is_sound.ensures.pool c.is_sound.ensures.reduced in
    subst (λ (o : Option Told). IfSome o (λ told. IfSome told.bound (IsBoundIn (reduced_of core) (held_of core) own))) (sym c.in-Some.ensures)
    (bound_told core own c.args.relaxed (ap (λ (g : Region). g.box) c.requires.at_work.region) t c.requires.relaxed)

pub offer_if-requires-clause-values : goal.offer_if-requires-clause-values
offer_if-requires-clause-values c =
    let core = c.args.core.now in
    subst (λ (o : Option Told). IfSome o (λ told. IfSome told.found.point (λ v. length v.items ≡ columns (reduced_of core)))) (sym c.in-Some.ensures)
    (long_told core (columns (reduced_of core)) c.args.relaxed (work_long core c.args.node.now c.is_sound.ensures.reduced c.requires.at_work) c.requires.relaxed)

pub returns-in-Err-clause-later : goal.returns-in-Err-clause-later
returns-in-Err-clause-later c =
    let core = c.args.core.now in
    later_at_further core core c.offer_if.new.core c.args.node.now c.raise_if.new.node c.raise_if.new.node c.raise_if.ensures.later c.offer_if.ensures.later

pub returns-in-Ok-clause-later : goal.returns-in-Ok-clause-later
returns-in-Ok-clause-later c =
    let core = c.args.core.now in
    later_at_further core core c.offer_if.new.core c.args.node.now c.raise_if.new.node c.raise_if.new.node c.raise_if.ensures.later c.offer_if.ensures.later

pub returns-in-Ok-clause-bounded : goal.returns-in-Ok-clause-bounded
returns-in-Ok-clause-bounded c =
    let core = c.args.core.now in
    let node = c.args.node.now in
    let new = c.offer_if.new.core in
    let last = c.raise_if.new.node in
    let found = c.in-Some.field-0.found in
    let tried = subst (λ (k : CoreState). IfSome found.point (λ v. IsTriedBack k v.items)) c.offer_if.ensures.frame c.in-Ok.ensures.tried in
    let told = subst (λ (o : Option Told). IfSome o (λ t. IfSome t.bound (λ b. IsRaisedTo core b last.bound) → IfSome t.found.point (λ v. IsTriedBack (offered_core core new.tree new.incumbent) v.items) → IsFound (offered_core core new.tree new.incumbent) (box_of new.tree last) last.bound t.found)) (sym c.in-Some.ensures)
    (told_found core new.tree new.incumbent node last c.requires.at_work c.is_sound.ensures.sound c.is_sound.ensures.pool c.is_sound.ensures.reduced (c.offer_if.ensures.region ∙ ap (region_of core.tree) c.raise_if.ensures.node) c.args.relaxed c.requires.relaxed) in
    subst (λ (k : CoreState). IsFound k (box_of k.tree last) last.bound found) (sym c.offer_if.ensures.frame) (told c.raise_if.ensures.raised tried)

pub returns-in-Err-clause-region : goal.returns-in-Err-clause-region
returns-in-Err-clause-region c = c.offer_if.ensures.region ∙ ap (region_of c.args.core.now.tree) c.raise_if.ensures.node

pub returns-in-Ok-clause-region : goal.returns-in-Ok-clause-region
returns-in-Ok-clause-region c = c.offer_if.ensures.region ∙ ap (region_of c.args.core.now.tree) c.raise_if.ensures.node

pub returns-in-Ok-clause-frame : goal.returns-in-Ok-clause-frame
returns-in-Ok-clause-frame c = c.offer_if.ensures.frame

pub returns-in-Err-clause-frame : goal.returns-in-Err-clause-frame
returns-in-Err-clause-frame c = c.offer_if.ensures.frame

pub offer_if-requires-clause-at_work : goal.offer_if-requires-clause-at_work
offer_if-requires-clause-at_work c = c.raise_if.ensures.later.at_work

pub raise_if-requires-clause-at_work : goal.raise_if-requires-clause-at_work
raise_if-requires-clause-at_work c = c.requires.at_work

pub returns-in-None-clause-region : goal.returns-in-None-clause-region
returns-in-None-clause-region c = grind (arith, common_steps)

pub returns-in-None-clause-frame : goal.returns-in-None-clause-frame
returns-in-None-clause-frame c = grind (arith, common_steps)

pub returns-in-Err-clause-bounded : goal.returns-in-Err-clause-bounded
returns-in-Err-clause-bounded c = grind (arith, common_steps)

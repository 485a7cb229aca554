use Rattle.std.proofs.lemmas.Grind.{common_steps}
use Rattle.std.proofs.Common.{◌≡◌, ◌∙◌, sym, ap, arith}
use Rattle.cip_problem.specs.Box.{sides_at}
use Rattle.cip_problem.specs.Choices.{choice_at}
use Rattle.cip_domain.specs.Changes.{choice_after, with_column}
use Rattle.cip_domain.specs.Domain.{Domain, region_of, is_settled}
use Rattle.cip_domain.proofs.Marks.{keeps_itself}
use Rattle.cip_domain.proofs.Steps.{none_chosen, one_chosen, unsettled}
use Rattle.cip_domain.proofs.stores.DomainStore.settle.Goals as goal

pub set_choice-requires-clause-column : goal.set_choice-requires-clause-column
set_choice-requires-clause-column c = c.requires.column

pub set_choice-requires-clause-room : goal.set_choice-requires-clause-room
set_choice-requires-clause-room c = c.requires.room

pub set_choice-requires-clause-unsettled : goal.set_choice-requires-clause-unsettled
set_choice-requires-clause-unsettled c =
    let d = c.args.self.now in
    let choice : c.choice-choice.result ≡ choice_at d.choices c.args.col = c.choice-choice.ensures
    ∙ ap (λ (d : Domain). choice_at d.choices c.args.col) c.self.view_is in
    unsettled (choice_at d.choices c.args.col) c.args.made (ap (λ h. is_settled h c.args.made) (sym choice)
    ∙ sym c.is_settled.ensures ∙ c.if-not-is_settled.true)

pub returns-then-not-is_settled-clause-region : goal.returns-then-not-is_settled-clause-region
returns-then-not-is_settled-clause-region c =
    let d = c.args.self.now in
    let choice : c.choice-choice.result ≡ choice_at d.choices c.args.col = c.choice-choice.ensures
    ∙ ap (λ (d : Domain). choice_at d.choices c.args.col) c.self.view_is in
    c.set_choice.ensures.region
    ∙ ap (with_column (region_of d) c.args.col (sides_at d.box c.args.col)) (c.choice_past.ensures
    ∙ ap (λ h. choice_after h c.args.made) choice)
    ∙ one_chosen (region_of d) c.args.col c.args.made

pub returns-then-not-is_settled-clause-marks : goal.returns-then-not-is_settled-clause-marks
returns-then-not-is_settled-clause-marks c = c.set_choice.ensures.marks

pub returns-then-not-is_settled-clause-room : goal.returns-then-not-is_settled-clause-room
returns-then-not-is_settled-clause-room c = c.set_choice.ensures.room

pub returns-else-not-is_settled-clause-region : goal.returns-else-not-is_settled-clause-region
returns-else-not-is_settled-clause-region c =
    let d = c.args.self.now in
    let choice : c.choice-choice.result ≡ choice_at d.choices c.args.col = c.choice-choice.ensures
    ∙ ap (λ (d : Domain). choice_at d.choices c.args.col) c.self.view_is in
    none_chosen (region_of d) c.args.col c.args.made (ap (λ h. is_settled h c.args.made) (sym choice)
    ∙ sym c.is_settled.ensures ∙ c.if-not-is_settled.false)

pub returns-else-not-is_settled-clause-marks : goal.returns-else-not-is_settled-clause-marks
returns-else-not-is_settled-clause-marks c = keeps_itself c.args.self.now

pub returns-else-not-is_settled-clause-room : goal.returns-else-not-is_settled-clause-room
returns-else-not-is_settled-clause-room c = omega arith

pub same-self-else-not-is_settled : goal.same-self-else-not-is_settled
same-self-else-not-is_settled c = grind (arith, common_steps)

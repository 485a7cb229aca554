use Rattle.std.proofs.lemmas.Grind.{common_steps}
use Rattle.std.proofs.Common.{◌≡◌, ◌∙◌, sym, ap, refl, arith}
use Rattle.cip_problem.specs.Program.{Open}
use Rattle.cip_problem.specs.Box.{sides_at}
use Rattle.cip_problem.specs.Choices.{choice_at}
use Rattle.cip_lin.specs.ChoiceParts.{own_if_open}
use Rattle.cip_domain.specs.Changes.{Change}
use Rattle.cip_domain.specs.Domain.{Domain, choosing, making}
use Rattle.cip_domain.proofs.Choosing.{closed_same, made_change, making_open, chosen_after}
use Rattle.cip_domain.proofs.Marks.{keeps_itself}
use Rattle.cip_domain.proofs.Trails.{open_is}
use Rattle.cip_domain.proofs.stores.DomainStore.choose.Goals as goal

pub returns-in_default-clause-outcome : goal.returns-in_default-clause-outcome
returns-in_default-clause-outcome c =
    let choice : c.choice.result ≡ choice_at c.args.self.now.choices c.args.col = c.choice.ensures
    ∙ ap (λ (d : Domain). choice_at d.choices c.args.col) c.self.view_is in
    closed_same (choice_at c.args.self.now.choices c.args.col) (sides_at c.args.self.now.box c.args.col) c.args.on
    (ap own_if_open (sym choice) ∙ sym c.own.ensures ∙ c.in_default.is)

pub returns-in_default-clause-same : goal.returns-in_default-clause-same
returns-in_default-clause-same c = λ _. refl

pub returns-in_default-clause-after : goal.returns-in_default-clause-after
returns-in_default-clause-after c = refl

pub returns-in_default-clause-marks : goal.returns-in_default-clause-marks
returns-in_default-clause-marks c = keeps_itself c.args.self.now

pub make-requires-clause-column : goal.make-requires-clause-column
make-requires-clause-column c = omega (arith, ap (λ (t : Change). t.column) c.choice_change.ensures, c.requires.column)

pub make-requires-clause-room : goal.make-requires-clause-room
make-requires-clause-room c = c.requires.room

pub returns-clause-outcome : goal.returns-clause-outcome
returns-clause-outcome c =
    let d = c.args.self.now in
    let choice : c.choice.result ≡ choice_at d.choices c.args.col = c.choice.ensures
    ∙ ap (λ (d : Domain). choice_at d.choices c.args.col) c.self.view_is in
    let e : choice_at d.choices c.args.col ≡ Open c.in-Some.own = sym choice
    ∙ open_is c.choice.result c.in-Some.own (sym c.own.ensures ∙ c.in-Some.is) in
    c.make.ensures.outcome
    ∙ ap (λ (t : Change). making (sides_at d.box t.column) (choice_at d.choices t.column) t) c.choice_change.ensures
    ∙ ap (λ h. making (sides_at d.box c.args.col) h (made_change c.args.col c.in-Some.own c.args.on)) e
    ∙ making_open c.args.col (sides_at d.box c.args.col) c.in-Some.own c.args.on
    ∙ ap (λ h. choosing h (sides_at d.box c.args.col) c.args.on) (sym e)

pub returns-clause-same : goal.returns-clause-same
returns-clause-same c = c.make.ensures.same

pub returns-clause-after : goal.returns-clause-after
returns-clause-after c =
    let d = c.args.self.now in
    let choice : c.choice.result ≡ choice_at d.choices c.args.col = c.choice.ensures
    ∙ ap (λ (d : Domain). choice_at d.choices c.args.col) c.self.view_is in
    let e : choice_at d.choices c.args.col ≡ Open c.in-Some.own = sym choice
    ∙ open_is c.choice.result c.in-Some.own (sym c.own.ensures ∙ c.in-Some.is) in
    chosen_after c.make.result d c.make.new.self c.args.col c.in-Some.own c.args.on c.choice_change.result e
    c.choice_change.ensures c.make.ensures.same c.make.ensures.narrows

pub returns-clause-marks : goal.returns-clause-marks
returns-clause-marks c = c.make.ensures.marks

pub same-self-2 : goal.same-self-2
same-self-2 c = grind (arith, common_steps)

use Rattle.std.proofs.lemmas.Grind.{common_steps}
use Rattle.std.proofs.Common.{◌∙◌, take, ap, sym, subst, refl, take_all, arith}
use Rattle.std.specs.Prelude.{List}
use Rattle.cip_rational.specs.Rational.{ℚ}
use Rattle.cip_problem.specs.Box.{IsInBox}
use Rattle.cip_domain.specs.Changes.{Change, tightened, narrowed}
use Rattle.cip_domain.specs.Domain.{region_of}
use Rattle.cip_domain.specs.Narrowing.{ArePlainPast, IsNarrowed}
use Rattle.cip_domain.proofs.Marks.{keeps_trans}
use Rattle.cip_tree.specs.Notes.{noted}
use Rattle.cip_tree.proofs.Filled.{past_stays}
use Rattle.cip_tree.proofs.Walking.{one_note_more, none_by_notes}
use Rattle.cip_domain.proofs.Marks.{keeps_itself}
use Rattle.cip_tree.proofs.walks.narrow_by.Goals as goal

pub loop-note-preserved : goal.loop-note-preserved
loop-note-preserved c = record {
  region = λ p.
      let past : ArePlainPast (region_of c.loop-note.domain) = subst ArePlainPast (sym (c.loop-note.invariant.region p)) (past_stays (region_of c.args.domain.now) (noted (take c.loop-note.note-index c.args.notes.now)) p) in
      let step = subst (IsNarrowed (region_of c.loop-note.domain) (region_of c.narrow.new.self) c.of_side-change.result) c.if-not-branch.false (c.in_ok-narrow.ensures.narrowed past) in
      one_note_more (region_of c.args.domain.now) (region_of c.loop-note.domain) (region_of c.narrow.new.self) c.args.notes.now c.loop-note.note-index c.note-item.result c.loop-note-test.true c.note-item.is (c.loop-note.invariant.region p)
      (step ∙ ap (tightened (region_of c.loop-note.domain)) c.of_side-change.ensures);
  marks = keeps_trans c.args.domain.now c.loop-note.domain c.narrow.new.self c.loop-note.invariant.marks c.in_ok-narrow.ensures.marks;
}

pub returns-then-not-branch-clause-narrowed : goal.returns-then-not-branch-clause-narrowed
returns-then-not-branch-clause-narrowed c = λ p.
    let past : ArePlainPast (region_of c.loop-note.domain) = subst ArePlainPast (sym (c.loop-note.invariant.region p)) (past_stays (region_of c.args.domain.now) (noted (take c.loop-note.note-index c.args.notes.now)) p) in
    let step = subst (IsNarrowed (region_of c.loop-note.domain) (region_of c.narrow.new.self) c.of_side-change.result) c.if-not-branch.true (c.in_ok-narrow.ensures.narrowed past) in
    none_by_notes (region_of c.args.domain.now) (region_of c.loop-note.domain) c.args.notes.now c.loop-note.note-index c.note-item.result c.loop-note-test.true c.note-item.is (c.loop-note.invariant.region p)
    (subst (λ (t : Change). (point : List ℚ) → ¬ IsInBox (tightened (region_of c.loop-note.domain) t).box point) c.of_side-change.ensures step)

pub loop-note-init : goal.loop-note-init
loop-note-init c = record { region = λ p. refl; marks = keeps_itself c.args.domain.now }

pub bounds-notes-note-index : goal.bounds-notes-note-index
bounds-notes-note-index c = c.loop-note-test.true

pub returns-in_err-narrow-clause-marks : goal.returns-in_err-narrow-clause-marks
returns-in_err-narrow-clause-marks c = keeps_trans c.args.domain.now c.loop-note.domain c.narrow.new.self
    c.loop-note.invariant.marks c.narrow.ensures.marks

pub returns-then-not-branch-clause-marks : goal.returns-then-not-branch-clause-marks
returns-then-not-branch-clause-marks c = keeps_trans c.args.domain.now c.loop-note.domain c.narrow.new.self
    c.loop-note.invariant.marks c.narrow.ensures.marks

pub returns-clause-narrowed : goal.returns-clause-narrowed
returns-clause-narrowed c = λ p. c.loop-note.invariant.region p ∙ ap (λ l. narrowed (region_of c.args.domain.now)
    (noted l)) (take_all c.loop-note.note-index c.args.notes.now c.loop-note-test.false)

pub returns-clause-marks : goal.returns-clause-marks
returns-clause-marks c = c.loop-note.invariant.marks

pub offset_bounds-notes-note-index : goal.offset_bounds-notes-note-index
offset_bounds-notes-note-index c = grind (arith, common_steps)

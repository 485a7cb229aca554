use Rattle.std.proofs.lemmas.Grind.{common_steps}
use Rattle.std.proofs.Common.{subst, arith}
use Rattle.cip_domain.specs.Domain.{region_of}
use Rattle.cip_domain.specs.Narrowing.{ArePlainPast}
use Rattle.cip_domain.proofs.Marks.{keeps_trans}
use Rattle.cip_tree.specs.Notes.{noted}
use Rattle.cip_tree.specs.Walks.{AreNarrowed}
use Rattle.cip_tree.proofs.Walking.{none_more, narrowed_more}
use Rattle.cip_tree.proofs.walks.narrow_more.Goals as goal

pub returns-then-branch-clause-narrowed : goal.returns-then-branch-clause-narrowed
returns-then-branch-clause-narrowed c =
    narrowed_more (region_of c.args.domain.now) (region_of c.narrow_by.new.domain) (region_of c.narrow.new.self) c.args.notes.now c.args.change c.narrow.result
    (subst (λ b. ArePlainPast (region_of c.args.domain.now) → AreNarrowed (region_of c.args.domain.now) (region_of c.narrow_by.new.domain) (noted c.args.notes.now) b) c.if-branch.true c.in_ok-narrow_by.ensures.narrowed)
    c.narrow.ensures.narrowed

pub returns-then-branch-clause-marks : goal.returns-then-branch-clause-marks
returns-then-branch-clause-marks c = keeps_trans _ _ _ c.narrow_by.ensures.marks c.narrow.ensures.marks

pub returns-else-branch-clause-narrowed : goal.returns-else-branch-clause-narrowed
returns-else-branch-clause-narrowed c = λ p.
    none_more (region_of c.args.domain.now) c.args.change (noted c.args.notes.now)
    (subst (λ b. AreNarrowed (region_of c.args.domain.now) (region_of c.narrow_by.new.domain) (noted c.args.notes.now) b) c.if-branch.false (c.in_ok-narrow_by.ensures.narrowed p))

pub returns-else-branch-clause-marks : goal.returns-else-branch-clause-marks
returns-else-branch-clause-marks c = grind (arith, common_steps)

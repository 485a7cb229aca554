use Rattle.std.proofs.Common.{◌≡◌, take}
use Rattle.std.specs.Prelude.{List}
use Rattle.cip_domain.specs.Changes.{narrowed}
use Rattle.cip_domain.specs.Domain.{Domain, region_of, KeepsMarks}
use Rattle.cip_domain.specs.Narrowing.{ArePlainPast}
use Rattle.cip_tree.specs.declared.notes.Note.{Note}
use Rattle.cip_tree.specs.Notes.{noted}
use Rattle.cip_tree.proofs.walks.narrow_by.Given as goal

-- the region after the notes so far, and what stood at marks stands there still
pub record NarrowedSoFar (first now : Domain) (told : List Note) : Type 0 where
  pub region : ArePlainPast (region_of first) → region_of now ≡ narrowed (region_of first) (noted told)
  pub marks : KeepsMarks first now

abbrev pub invariant-loop-note : goal.invariant-loop-note
invariant-loop-note l = NarrowedSoFar l.fn.domain l.domain (take l.note-index l.notes)

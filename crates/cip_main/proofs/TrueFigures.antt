-- The figures that are printed of an answer of the code are those of the answer that it stands for.
use Rattle.std.proofs.Common.{◌≡◌, ◌≢◌, ℕ, ◌<◌, Bool, List, Option, None, Some, refl, ap, subst}
use Rattle.std.specs.Prelude.{option_map}
use Rattle.cip_rational.specs.Rational.{ℚ}
use Rattle.cip_problem.specs.Program.{Program}
use Rattle.cip_problem.specs.WellFormed.{IsWellFormed}
use Rattle.cip_problem.specs.Log.{Entry}
use Rattle.cip_search.specs.Searched.{NoMore}
use Rattle.cip_solve.specs.Mark.{Mark}
use Rattle.cip_search.specs.SearchEnds as ends
use Rattle.cip_search.specs.SearchAnswers.{TellsBound}
use Rattle.cip_search.specs.Figures.{Status, Figures, Held as PrintedHeld, Wide as PrintedWide}
use Rattle.cip_search.specs.Headline.{AreTrue, overflow_at}
use Rattle.cip_search.specs.Printed.{IsPrintable, status_of as status_printed, printed_held as held_printed, figures_of as figures_printed}
use Rattle.cip_search.proofs.Roots.{root_no_less, no_more}
use Rattle.cip_search.proofs.TrueFigures.{figures_are_true}
use Rattle.cip_model.specs.declared.verdicts.Place.TheVariants.{Row, Cost}
use Rattle.cip_report.specs.declared.figures.Ended.{Ended}
use Rattle.cip_report.specs.declared.figures.Ended.TheVariants.{Optimal, Infeasible, Unbounded, Wide, NodeLimit, Gap, NoMemory}
use Rattle.cip_solve.specs.Shown.{Shown}
use Rattle.cip_solve.specs.Shown.TheVariants.{Place, Moves}
use Rattle.cip_report.specs.declared.figures.Held.{Held}
use Rattle.cip_report.specs.declared.figures.Answer.{Answer}
use Rattle.cip_report.specs.Answers.{status_of, overflow_of, printed_held, figures_of}
use Rattle.cip_solve.specs.LeafAnswers.{shown_as}
use Rattle.cip_solve.specs.AnswerOf.{ended_of, held_of, answer_of}
use Rattle.cip_solve.specs.Beginning.{root_value}
use Rattle.cip_solve.specs.Solved.{IsSolvedBy}

overflow_same : (rows : List (List ℕ)) (shown : Shown) → overflow_at rows (shown_as shown) ≡ overflow_of rows shown
overflow_same rows (Place (Row number)) = refl
overflow_same rows (Place Cost) = refl
overflow_same rows (Moves number) = refl

status_same : (rows : List (List ℕ)) (ended : Ended) → status_printed rows (ended_of ended) ≡ status_of rows ended
status_same rows Optimal = refl
status_same rows Infeasible = refl
status_same rows (Unbounded ray) = refl
status_same rows NodeLimit = refl
status_same rows Gap = refl
status_same rows (Wide leaf on shown) = ap (PrintedWide (record { values = leaf.items; on = on.items })) (overflow_same rows shown)
status_same rows NoMemory = refl

held_same : (program : Program) (held : Option Held) → option_map (held_printed program) (option_map held_of held) ≡ option_map (printed_held program) held
held_same program None = refl
held_same program (Some held) = refl

abbrev figures : Status → Option PrintedHeld → Option ℚ → Figures
figures status held bound = record { status = status; held = held; bound = bound }

same : {a b : Status} {c d : Option PrintedHeld} (bound : Option ℚ) → a ≡ b → c ≡ d → figures a c bound ≡ figures b d bound
same bound e f = cc

pub figures_same : (program : Program) (answer : Answer) → figures_printed program (answer_of answer) ≡ figures_of program answer
figures_same program answer = same (figures_of program answer).bound (status_same program.row_names answer.ended) (held_same program answer.best)

-- ---- ends

tells : (start bound : Option ℚ) (ended : ends.Ended) → ended ≢ ends.Infeasible → ((ray : List ℚ) → ended ≢ ends.Unbounded ray) → (TellsBound ended → NoMore start bound) → NoMore start bound
tells start bound ends.Optimal n m h = h tt
tells start bound ends.Infeasible n m h = absurd (n refl)
tells start bound (ends.Unbounded ray) n m h = absurd (m ray refl)
tells start bound ends.NodeLimit n m h = h tt
tells start bound ends.Gap n m h = h tt
tells start bound (ends.Wide leaf shown) n m h = h tt
tells start bound ends.NoMemory n m h = h tt

-- want of memory is that of the code
pub lacks : (ended : Ended) → ended_of ended ≡ ends.NoMemory → ended ≡ NoMemory
lacks Optimal e = absurd (cc)
lacks Infeasible e = absurd (cc)
lacks (Unbounded ray) e = absurd (cc)
lacks NodeLimit e = absurd (cc)
lacks Gap e = absurd (cc)
lacks (Wide leaf on shown) e = absurd (cc)
lacks NoMemory e = refl

-- a right answer has true figures
pub are_true : (program : Program) (nodes : ℕ) (asked : Option ℚ) (presolved alone : Bool) (log : List Entry) (marks : List (ℕ × Mark)) (answer : Answer) → 0 < nodes → IsWellFormed program → (r : IsSolvedBy program nodes asked presolved alone log marks (answer_of answer)) → AreTrue program (root_value program) r.start nodes asked log (figures_of program answer)
are_true program nodes asked presolved alone log marks answer some formed r =
    let box = root_value program in
    let least : NoMore box r.start = root_no_less program box r.start r.root.whole r.root.plain in
    let printable : IsPrintable program box r.start nodes asked log (answer_of answer) = record {
      some = some;
      right = r.right.right;
      bound = λ n m. no_more box r.start answer.bound least (tells r.start answer.bound (ended_of answer.ended) n m r.right.bound);
      ray = r.right.long;
    } in
    subst (AreTrue program box r.start nodes asked log) (figures_same program answer) (figures_are_true program box r.start nodes asked log (answer_of answer) formed printable)

-- An answer fits its program, so that it can be printed.
use Rattle.std.proofs.Common.{◌≡◌, inl, inr, ℕ, zero, suc, ◌<◌, List, [], ◌∷◌, length, Option, None, Some, IfSome, refl, sym, ◌∙◌, subst, arith, slice_get}
use Rattle.std.specs.Prelude.{option_map}
use Rattle.std.proofs.lemmas.Option.{none-some}
use Rattle.cip_rational.specs.Rational.{ℚ}
use Rattle.cip_problem.specs.Program.{Row, Program}
use Rattle.cip_problem.specs.WellFormed.{IsWellFormed, columns}
use Rattle.cip_problem.specs.Choices.{decided}
use Rattle.cip_problem.proofs.Choices.Decided.{decided_formed}
use Rattle.cip_problem.proofs.Points.AtPlaces.{IsInBox-long}
use Rattle.cip_problem.specs.Log.{Entry}
use Rattle.cip_bland.specs.EndAnswers as linear
use Rattle.cip_bland.specs.NoRepeat.{whole_answer}
use Rattle.cip_search.specs.Leaf.{Leaf, IsLeafOf}
use Rattle.cip_search.specs.Wide.{InRow}
use Rattle.cip_search.specs.LeafProgram.{program_of_leaf}
use Rattle.cip_search.specs.WideLeaf.{AtPlace, EndOverflows, IsWideBy}
use Rattle.cip_model.specs.declared.verdicts.Place.TheVariants.{Row as AtRow, Cost}
use Rattle.cip_solve.specs.Figures.{names_of}
use Rattle.cip_search.proofs.Fitting.{leaf_values, leaf_choices}
use Rattle.cip_search.specs.SearchEnds as ends
use Rattle.cip_search.specs.SearchEnds.{IsHeldPoint, EndHolds}
use Rattle.cip_search.specs.SearchAnswers.{IsSearchAnswer}
use Rattle.cip_endings.specs.Answers.{StandsAmong, EndedFits, AnswerFits}
use Rattle.cip_endings.specs.Ended.{Ended}
use Rattle.cip_endings.specs.Ended.TheVariants.{Optimal, Infeasible, Unbounded, NodeLimit, Gap, Wide, NoMemory}
use Rattle.cip_solve.specs.Shown.{Shown}
use Rattle.cip_solve.specs.Shown.TheVariants.{Place, Moves}
use Rattle.cip_endings.specs.Held.{Held}
use Rattle.cip_endings.specs.Answer.{Answer}
use Rattle.cip_solve.specs.LeafAnswers.{shown_as}
use Rattle.cip_endings.specs.AnswerOf.{ended_of, held_of, answer_of}
use Rattle.cip_solve.proofs.FirstRows.{first_row_there}

point_fits : (program : Program) (best : Option Held) → IsWellFormed program → IfSome (option_map held_of best) (IsHeldPoint program) → IfSome best (λ held. length held.point.items ≡ columns program)
point_fits program None formed h = tt
point_fits program (Some held) formed h = IsInBox-long program.bounds held.point.items h.feasible.within ∙ formed.bounds

-- ---- the leaf that is shown

row_below : (rows : List Row) (number : ℕ) (row : Row) → slice_get rows number ≡ Some row → number < length rows
row_below [] number row e = absurd (none-some row e)
row_below (r ∷ rs) zero row e = omega arith
row_below (r ∷ rs) (suc number) row e = let l = row_below rs number row e in omega (arith, l)

end_row : (program : Program) (leaf : List ℚ) (number : ℕ) (answer : linear.Answer) → EndOverflows program leaf (InRow number) answer → number < length program.rows
end_row program leaf number (linear.Optimal others certificate cost) h = row_below program.rows number h.row h.is_row
end_row program leaf number (linear.NoPoint certificate) h = absurd h
end_row program leaf number (linear.Unbounded others direction) (inl h) = row_below program.rows number h.row h.is_row
end_row program leaf number (linear.Unbounded others direction) (inr h) = row_below program.rows number h.row h.is_row
end_row program leaf number (linear.OutOfRange moves) h = absurd h
end_row program leaf number linear.LimitReached h = absurd h

row_there : (program : Program) (leaf : List ℚ) (number : ℕ) → IsWideBy program leaf (AtPlace (InRow number)) → number < length program.rows
row_there program leaf number (inl h) = row_below program.rows number h.row h.is_row
row_there program leaf number (inr (inl h)) = first_row_there program leaf number h
row_there program leaf number (inr (inr h)) = end_row program leaf number (whole_answer (program_of_leaf program leaf)) h

stands_there : (program : Program) (leaf : List ℚ) (shown : Shown) → IsWellFormed program → IsWideBy program leaf (shown_as shown) → StandsAmong (length program.row_names) shown
stands_there program leaf (Place (AtRow number)) formed h = let l = row_there program leaf number h in omega (arith, l, formed.row_names)
stands_there program leaf (Place Cost) formed h = tt
stands_there program leaf (Moves number) formed h = tt

-- a leaf that is shown has a value for each whole column and a choice for each semi-continuous one, and what overflows
-- is there
leaf_fits : (program : Program) (leaf : Leaf) (shown : Shown) → IsWellFormed program → IsLeafOf program leaf → IsWideBy (decided program leaf.on) leaf.values (shown_as shown) → (length leaf.values ≡ length (names_of program).wholes) × (length leaf.on ≡ length (names_of program).semis) × StandsAmong (length program.row_names) shown
leaf_fits program leaf shown formed h w = (
  leaf_values program leaf formed h,
  leaf_choices program leaf formed h,
  stands_there (decided program leaf.on) leaf.values shown (decided_formed program leaf.on formed) w,
)

-- ---- the end

ended_fits : (program : Program) (start : Option ℚ) (nodes : ℕ) (asked : Option ℚ) (log : List Entry) (answer : ends.Answer) (ended : Ended) → IsWellFormed program → answer.ended ≡ ended_of ended → ((ray : List ℚ) → answer.ended ≡ ends.Unbounded ray → length ray ≡ columns program) → EndHolds program start nodes asked log answer (ended_of ended) → EndedFits program ended
ended_fits program start nodes asked log answer Optimal formed e r h = tt
ended_fits program start nodes asked log answer Infeasible formed e r h = tt
ended_fits program start nodes asked log answer (Unbounded ray) formed e r h = r ray.items e ∙ sym formed.column_names
ended_fits program start nodes asked log answer NodeLimit formed e r h = tt
ended_fits program start nodes asked log answer Gap formed e r h = tt
ended_fits program start nodes asked log answer (Wide leaf on shown) formed e r h =
    let k = (subst (ends.EndsAs program start nodes log answer.held) e h.ends).2 in
    leaf_fits program (record { values = leaf.items; on = on.items }) shown formed k.is_leaf k.wide
ended_fits program start nodes asked log answer NoMemory formed e r h = tt

pub answer_fits : (program : Program) (start : Option ℚ) (nodes : ℕ) (asked : Option ℚ) (log : List Entry) (marked : List ℕ) (answer : Answer) → IsWellFormed program → IsSearchAnswer program start nodes asked log marked (answer_of answer) → AnswerFits program answer
answer_fits program start nodes asked log marked answer formed h = record {
  point = point_fits program answer.best formed h.right.point;
  ended = ended_fits program start nodes asked log (answer_of answer) answer.ended formed refl h.long h.right.end_;
}

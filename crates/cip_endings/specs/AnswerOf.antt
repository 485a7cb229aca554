-- The answer of the code as one of the definitions.
use Rattle.std.specs.Prelude.{option_map}
use Rattle.cip_report.specs.LeafAnswers.{shown_as}
use Rattle.cip_report.specs.declared.figures.Ended.{Ended}
use Rattle.cip_report.specs.declared.figures.Ended.TheVariants.{Optimal, Infeasible, Unbounded, NodeLimit}
use Rattle.cip_report.specs.declared.figures.Ended.TheVariants.{Gap, Wide, NoMemory}
use Rattle.cip_report.specs.declared.figures.Held.{Held}
use Rattle.cip_report.specs.declared.figures.Answer.{Answer}
use Rattle.cip_search.specs.SearchEnds as ends

abbrev pub ended_of : Ended → ends.Ended
ended_of Optimal = ends.Optimal
ended_of Infeasible = ends.Infeasible
ended_of (Unbounded ray) = ends.Unbounded ray.items
ended_of NodeLimit = ends.NodeLimit
ended_of Gap = ends.Gap
ended_of (Wide leaf on shown) = ends.Wide (record { values = leaf.items; on = on.items }) (shown_as shown)
ended_of NoMemory = ends.NoMemory

abbrev pub held_of : Held → ends.Held
held_of held = record { cost = held.cost; point = held.point.items }

abbrev pub answer_of : Answer → ends.Answer
answer_of answer =
    record { ended = ended_of answer.ended; held = option_map held_of answer.best; bound = answer.bound }

-- What is told of a program that is drawn, as the report has it.
use Rattle.cip_search.specs.SelfTexts.{Drawn as Told}
use Rattle.cip_report.specs.declared.drawn.Drawn.{Drawn}

abbrev pub drawn_of : Drawn → Told
drawn_of drawn = record { seed = drawn.seed; columns = drawn.columns; rows = drawn.rows; entries = drawn.entries }

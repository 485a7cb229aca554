-- The code by which a proof tells starts apart.
use Rattle.std.specs.Prelude.{List, Option}
use Rattle.std.specs.Coded.{Coded, coded_list, coded_option}
use Rattle.cip_bland.specs.declared.moves.Stand.{Stand}
use Rattle.cip_dict.specs.DictionaryCode.{stand_code}

-- each variable's place
abbrev pub start_code : Coded (List (Option Stand))
start_code = coded_list (coded_option stand_code)

use Rattle.std.proofs.Common.{◌≡◌, map}
use Rattle.std.specs.List.{range_with_len}
use Rattle.cip_input.specs.Generated.{name_of}
use Rattle.cip_input.proofs.columns.numbered_names.Given as goal

abbrev pub invariant-loop-number : goal.invariant-loop-number
invariant-loop-number l = l.names ≡ map (name_of l.letter) (range_with_len 0 l.number)

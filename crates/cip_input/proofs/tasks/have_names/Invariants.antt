use Rattle.std.proofs.Common.{◌≡◌, take, true}
use Rattle.std.specs.List.{list_all, list_any}
use Rattle.std.specs.Str.{bytes_eq}
use Rattle.cip_input.proofs.tasks.have_names.Given as goal

abbrev pub invariant-loop-name : goal.invariant-loop-name
invariant-loop-name g l = list_all (λ name. list_any (λ plugin. bytes_eq (g.P.Tells.who plugin).label name.now) l.plugins) (take l.name-index l.names) ≡ true

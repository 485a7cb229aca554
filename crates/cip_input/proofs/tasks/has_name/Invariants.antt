use Rattle.std.proofs.Common.{◌≡◌, take, false}
use Rattle.std.specs.List.{list_any}
use Rattle.std.specs.Str.{bytes_eq}
use Rattle.cip_input.proofs.tasks.has_name.Given as goal

abbrev pub invariant-loop-plugin : goal.invariant-loop-plugin
invariant-loop-plugin g l = list_any (λ plugin. bytes_eq (g.P.Tells.who plugin).label l.name) (take l.plugin-index l.plugins) ≡ false

-- What `Words` is to its callers, and what reading them comes to.
use Rattle.std.specs.Prelude.{◌≡◌, ⊤, ℕ, List, Option, None, map, option_map, string_bytes}
use Rattle.cip_input.specs.Jobs.{Limits, Job, Solve, Check, Generate}
use Rattle.cip_input.specs.declared.words.Job.{Job as Told}
use Rattle.cip_input.specs.declared.words.Job.TheVariants as told
use Rattle.cip_input.specs.declared.words.Limits.{Limits as LimitsTold}
use Rattle.cip_input.specs.declared.words.Words.TheInside.{Inside}
use Rattle.cip_input.specs.declared.words.WordsFault.{WordsFault}
use Rattle.cip_input.specs.declared.words.WordsFault.TheVariants.{Refused, NoMemory}

-- the words' bytes
abbrev pub words_of : Inside → List (List ℕ)
words_of line = map (λ word. string_bytes word) line.words.items

-- the limits that a value of `Limits` tells
abbrev pub limits_of : LimitsTold → Limits
limits_of limits = record {
  nodes = limits.nodes;
  gap = limits.gap;
  presolved = limits.presolve;
  plain = limits.plain;
  off = map (λ name. name.now) limits.off.items;
  trace = limits.trace;
}

-- the job that a value of `Job` tells
abbrev pub meant : Told → Job
meant (told.Solve model blocks limits) =
    Solve model.now (option_map (λ text. text.now) blocks) (limits_of limits)
meant (told.Check model point) = Check model.now point.now
meant (told.Generate seed columns rows) = Generate seed columns rows

-- why words whose job this would be give none: they are not accepted; want of memory says nothing of them
abbrev pub WordsCause : Option Job → WordsFault → Type 0
WordsCause job Refused = job ≡ None
WordsCause job NoMemory = ⊤

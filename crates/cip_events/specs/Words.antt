-- The words of the trace as they are printed.
use lib.Chars.{codes}
use Rattle.std.specs.Prelude.{ℕ, List}
use Rattle.cip_events.specs.declared.words.Word.{Word}
use Rattle.cip_events.specs.declared.words.Word.TheVariants.{Init, InitSolve, Separate, Propagate, Price, Search, Branch, Enforce, OnEvent, ExitSolve, Exit, Disabled, Enabled, NoMemory, Dropped, Refused}

-- a word's text, up to the number or the fault that may follow
abbrev pub text_of_word : Word → List ℕ
text_of_word Init = codes "init"
text_of_word InitSolve = codes "init_solve"
text_of_word Separate = codes "separate"
text_of_word Propagate = codes "propagate"
text_of_word Price = codes "price"
text_of_word Search = codes "search"
text_of_word Branch = codes "branch"
text_of_word Enforce = codes "enforce"
text_of_word OnEvent = codes "on_event"
text_of_word ExitSolve = codes "exit_solve"
text_of_word Exit = codes "exit"
text_of_word Disabled = codes "disabled"
text_of_word Enabled = codes "enabled"
text_of_word NoMemory = codes "nomemory"
text_of_word (Dropped count) = codes "dropped"
text_of_word (Refused fault) = codes "refused"

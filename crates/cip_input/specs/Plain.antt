-- The answers without figures: the text and the exit status of each.
use Rattle.std.specs.Prelude.{ℕ, List}
use Rattle.cip_search.specs.Figures.{usage_text, read_fault_text, no_memory_text}
use Rattle.cip_input.specs.declared.plain.Plain.{Plain}
use Rattle.cip_input.specs.declared.plain.Plain.TheVariants.{Usage, ReadFault, Refused, NoMemory}
use Rattle.cip_input.specs.Refusals.{refused_text}

-- what is printed
abbrev pub plain_text : Plain → List ℕ
plain_text Usage = usage_text
plain_text ReadFault = read_fault_text
plain_text (Refused fault) = refused_text fault
plain_text NoMemory = no_memory_text

-- the exit status
abbrev pub plain_status : Plain → ℕ
plain_status Usage = 2
plain_status ReadFault = 3
plain_status (Refused fault) = 4
plain_status NoMemory = 6

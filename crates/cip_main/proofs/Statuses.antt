-- What a status tells of an answer.
use Rattle.std.specs.Prelude.{◌≡◌, ◌≢◌, List, refl}
use Rattle.std.proofs.Common.{arith}
use lib.Chars.{codes}
use Rattle.cip_rational.specs.Rational.{ℚ}
use Rattle.cip_search.specs.Leaf.{Leaf}
use Rattle.cip_search.specs.Figures.{Overflow, Status, Optimal, Infeasible, Unbounded, Wide, NodeLimit, Gap, NoMemory as LacksMemory, status_word, exit_status}
use Rattle.cip_search.proofs.AnswerTexts.{apart}
use Rattle.cip_search.specs.Checks.{Checked, Feasible, BreaksBound, BreaksWhole, BreaksRow, WideRow, WideCost, check_status}
use Rattle.cip_input.specs.declared.refusals.FaultyText.{FaultyText}
use Rattle.cip_input.specs.declared.plain.Plain.{Plain}
use Rattle.cip_input.specs.declared.plain.Plain.TheVariants.{Usage, ReadFault, Refused, NoMemory}
use Rattle.cip_input.specs.Plain.{plain_status}
use Rattle.cip_problem.specs.Program.{Program}
use Rattle.cip_model.specs.declared.verdicts.Place.{Place}
use Rattle.cip_model.specs.declared.verdicts.Place.TheVariants as places
use Rattle.cip_model.specs.declared.verdicts.Verdict.{Verdict}
use Rattle.cip_model.specs.declared.verdicts.Verdict.TheVariants as verdicts
use Rattle.cip_main.specs.Checks.{checked_of}
use Rattle.cip_main.specs.Running.{IsBreach, IsStatus, solved, broken, usage, read_fault, refused, no_memory, spent, wide, near}

-- ---- answers without figures

pub says_usage : (answer : Plain) → plain_status answer ≡ 2 → answer ≡ Usage
says_usage Usage e = refl
says_usage ReadFault e = absurd (omega (arith, e))
says_usage (Refused fault) e = absurd (omega (arith, e))
says_usage NoMemory e = absurd (omega (arith, e))

pub says_read_fault : (answer : Plain) → plain_status answer ≡ 3 → answer ≡ ReadFault
says_read_fault Usage e = absurd (omega (arith, e))
says_read_fault ReadFault e = refl
says_read_fault (Refused fault) e = absurd (omega (arith, e))
says_read_fault NoMemory e = absurd (omega (arith, e))

pub says_refused : (answer : Plain) → plain_status answer ≡ 4 → (fault : FaultyText) × (answer ≡ Refused fault)
says_refused Usage e = absurd (omega (arith, e))
says_refused ReadFault e = absurd (omega (arith, e))
says_refused (Refused fault) e = (fault, refl)
says_refused NoMemory e = absurd (omega (arith, e))

pub says_no_memory : (answer : Plain) → plain_status answer ≡ 6 → answer ≡ NoMemory
says_no_memory Usage e = absurd (omega (arith, e))
says_no_memory ReadFault e = absurd (omega (arith, e))
says_no_memory (Refused fault) e = absurd (omega (arith, e))
says_no_memory NoMemory e = refl

pub plain_below_five : (answer : Plain) → plain_status answer ≢ 5
plain_below_five Usage e = absurd (omega (arith, e))
plain_below_five ReadFault e = absurd (omega (arith, e))
plain_below_five (Refused fault) e = absurd (omega (arith, e))
plain_below_five NoMemory e = absurd (omega (arith, e))

pub plain_not_ten : (answer : Plain) → plain_status answer ≢ 10
plain_not_ten Usage e = absurd (omega (arith, e))
plain_not_ten ReadFault e = absurd (omega (arith, e))
plain_not_ten (Refused fault) e = absurd (omega (arith, e))
plain_not_ten NoMemory e = absurd (omega (arith, e))

pub plain_not_eleven : (answer : Plain) → plain_status answer ≢ 11
plain_not_eleven Usage e = absurd (omega (arith, e))
plain_not_eleven ReadFault e = absurd (omega (arith, e))
plain_not_eleven (Refused fault) e = absurd (omega (arith, e))
plain_not_eleven NoMemory e = absurd (omega (arith, e))

pub plain_not_thirteen : (answer : Plain) → plain_status answer ≢ 13
plain_not_thirteen Usage e = absurd (omega (arith, e))
plain_not_thirteen ReadFault e = absurd (omega (arith, e))
plain_not_thirteen (Refused fault) e = absurd (omega (arith, e))
plain_not_thirteen NoMemory e = absurd (omega (arith, e))

pub plain_not_one : (answer : Plain) → plain_status answer ≢ 1
plain_not_one Usage e = absurd (omega (arith, e))
plain_not_one ReadFault e = absurd (omega (arith, e))
plain_not_one (Refused fault) e = absurd (omega (arith, e))
plain_not_one NoMemory e = absurd (omega (arith, e))

pub plain_is : (answer : Plain) → IsStatus (plain_status answer)
plain_is Usage = usage
plain_is ReadFault = read_fault
plain_is (Refused fault) = refused
plain_is NoMemory = no_memory

-- ---- answers with figures

pub figures_not_two : (status : Status) → exit_status status ≢ 2
figures_not_two Optimal e = absurd (omega (arith, e))
figures_not_two Infeasible e = absurd (omega (arith, e))
figures_not_two (Unbounded ray) e = absurd (omega (arith, e))
figures_not_two NodeLimit e = absurd (omega (arith, e))
figures_not_two Gap e = absurd (omega (arith, e))
figures_not_two (Wide leaf place) e = absurd (omega (arith, e))
figures_not_two LacksMemory e = absurd (omega (arith, e))

pub figures_not_three : (status : Status) → exit_status status ≢ 3
figures_not_three Optimal e = absurd (omega (arith, e))
figures_not_three Infeasible e = absurd (omega (arith, e))
figures_not_three (Unbounded ray) e = absurd (omega (arith, e))
figures_not_three NodeLimit e = absurd (omega (arith, e))
figures_not_three Gap e = absurd (omega (arith, e))
figures_not_three (Wide leaf place) e = absurd (omega (arith, e))
figures_not_three LacksMemory e = absurd (omega (arith, e))

pub figures_not_four : (status : Status) → exit_status status ≢ 4
figures_not_four Optimal e = absurd (omega (arith, e))
figures_not_four Infeasible e = absurd (omega (arith, e))
figures_not_four (Unbounded ray) e = absurd (omega (arith, e))
figures_not_four NodeLimit e = absurd (omega (arith, e))
figures_not_four Gap e = absurd (omega (arith, e))
figures_not_four (Wide leaf place) e = absurd (omega (arith, e))
figures_not_four LacksMemory e = absurd (omega (arith, e))

pub figures_not_five : (status : Status) → exit_status status ≢ 5
figures_not_five Optimal e = absurd (omega (arith, e))
figures_not_five Infeasible e = absurd (omega (arith, e))
figures_not_five (Unbounded ray) e = absurd (omega (arith, e))
figures_not_five NodeLimit e = absurd (omega (arith, e))
figures_not_five Gap e = absurd (omega (arith, e))
figures_not_five (Wide leaf place) e = absurd (omega (arith, e))
figures_not_five LacksMemory e = absurd (omega (arith, e))

pub figures_not_one : (status : Status) → exit_status status ≢ 1
figures_not_one Optimal e = absurd (omega (arith, e))
figures_not_one Infeasible e = absurd (omega (arith, e))
figures_not_one (Unbounded ray) e = absurd (omega (arith, e))
figures_not_one NodeLimit e = absurd (omega (arith, e))
figures_not_one Gap e = absurd (omega (arith, e))
figures_not_one (Wide leaf place) e = absurd (omega (arith, e))
figures_not_one LacksMemory e = absurd (omega (arith, e))

pub is_spent : (status : Status) → exit_status status ≡ 10 → status ≡ NodeLimit
is_spent Optimal e = absurd (omega (arith, e))
is_spent Infeasible e = absurd (omega (arith, e))
is_spent (Unbounded ray) e = absurd (omega (arith, e))
is_spent NodeLimit e = refl
is_spent Gap e = absurd (omega (arith, e))
is_spent (Wide leaf place) e = absurd (omega (arith, e))
is_spent LacksMemory e = absurd (omega (arith, e))

pub is_wide : (status : Status) → exit_status status ≡ 11 → (leaf : Leaf) × (place : Overflow) × (status ≡ Wide leaf place)
is_wide Optimal e = absurd (omega (arith, e))
is_wide Infeasible e = absurd (omega (arith, e))
is_wide (Unbounded ray) e = absurd (omega (arith, e))
is_wide NodeLimit e = absurd (omega (arith, e))
is_wide Gap e = absurd (omega (arith, e))
is_wide (Wide leaf place) e = (leaf, place, refl)
is_wide LacksMemory e = absurd (omega (arith, e))

pub is_near : (status : Status) → exit_status status ≡ 13 → status ≡ Gap
is_near Optimal e = absurd (omega (arith, e))
is_near Infeasible e = absurd (omega (arith, e))
is_near (Unbounded ray) e = absurd (omega (arith, e))
is_near NodeLimit e = absurd (omega (arith, e))
is_near Gap e = refl
is_near (Wide leaf place) e = absurd (omega (arith, e))
is_near LacksMemory e = absurd (omega (arith, e))

-- the word of an end tells that it is by the gap
pub gap_by_word : (status : Status) → status_word Gap ≡ status_word status → status ≡ Gap
gap_by_word Optimal e = absurd (apart (codes "gap") (codes "optimal") refl refl e)
gap_by_word Infeasible e = absurd (apart (codes "gap") (codes "infeasible") refl refl e)
gap_by_word (Unbounded ray) e = absurd (apart (codes "gap") (codes "unbounded") refl refl e)
gap_by_word NodeLimit e = absurd (apart (codes "gap") (codes "nodelimit") refl refl e)
gap_by_word Gap e = refl
gap_by_word (Wide leaf place) e = absurd (apart (codes "gap") (codes "wide") refl refl e)
gap_by_word LacksMemory e = absurd (apart (codes "gap") (codes "nomemory") refl refl e)

pub exit_is : (status : Status) → IsStatus (exit_status status)
exit_is Optimal = solved
exit_is Infeasible = solved
exit_is (Unbounded ray) = solved
exit_is NodeLimit = spent
exit_is Gap = near
exit_is (Wide leaf place) = wide
exit_is LacksMemory = no_memory

-- ---- verdicts

pub verdict_not_two : (checked : Checked) → check_status checked ≢ 2
verdict_not_two (Feasible cost) e = absurd (omega (arith, e))
verdict_not_two (BreaksBound column value side) e = absurd (omega (arith, e))
verdict_not_two (BreaksWhole column value) e = absurd (omega (arith, e))
verdict_not_two (BreaksRow row activity side) e = absurd (omega (arith, e))
verdict_not_two (WideRow row) e = absurd (omega (arith, e))
verdict_not_two WideCost e = absurd (omega (arith, e))

pub verdict_not_three : (checked : Checked) → check_status checked ≢ 3
verdict_not_three (Feasible cost) e = absurd (omega (arith, e))
verdict_not_three (BreaksBound column value side) e = absurd (omega (arith, e))
verdict_not_three (BreaksWhole column value) e = absurd (omega (arith, e))
verdict_not_three (BreaksRow row activity side) e = absurd (omega (arith, e))
verdict_not_three (WideRow row) e = absurd (omega (arith, e))
verdict_not_three WideCost e = absurd (omega (arith, e))

pub verdict_not_four : (checked : Checked) → check_status checked ≢ 4
verdict_not_four (Feasible cost) e = absurd (omega (arith, e))
verdict_not_four (BreaksBound column value side) e = absurd (omega (arith, e))
verdict_not_four (BreaksWhole column value) e = absurd (omega (arith, e))
verdict_not_four (BreaksRow row activity side) e = absurd (omega (arith, e))
verdict_not_four (WideRow row) e = absurd (omega (arith, e))
verdict_not_four WideCost e = absurd (omega (arith, e))

pub verdict_not_five : (checked : Checked) → check_status checked ≢ 5
verdict_not_five (Feasible cost) e = absurd (omega (arith, e))
verdict_not_five (BreaksBound column value side) e = absurd (omega (arith, e))
verdict_not_five (BreaksWhole column value) e = absurd (omega (arith, e))
verdict_not_five (BreaksRow row activity side) e = absurd (omega (arith, e))
verdict_not_five (WideRow row) e = absurd (omega (arith, e))
verdict_not_five WideCost e = absurd (omega (arith, e))

pub verdict_not_six : (checked : Checked) → check_status checked ≢ 6
verdict_not_six (Feasible cost) e = absurd (omega (arith, e))
verdict_not_six (BreaksBound column value side) e = absurd (omega (arith, e))
verdict_not_six (BreaksWhole column value) e = absurd (omega (arith, e))
verdict_not_six (BreaksRow row activity side) e = absurd (omega (arith, e))
verdict_not_six (WideRow row) e = absurd (omega (arith, e))
verdict_not_six WideCost e = absurd (omega (arith, e))

pub verdict_not_ten : (checked : Checked) → check_status checked ≢ 10
verdict_not_ten (Feasible cost) e = absurd (omega (arith, e))
verdict_not_ten (BreaksBound column value side) e = absurd (omega (arith, e))
verdict_not_ten (BreaksWhole column value) e = absurd (omega (arith, e))
verdict_not_ten (BreaksRow row activity side) e = absurd (omega (arith, e))
verdict_not_ten (WideRow row) e = absurd (omega (arith, e))
verdict_not_ten WideCost e = absurd (omega (arith, e))

pub verdict_not_thirteen : (checked : Checked) → check_status checked ≢ 13
verdict_not_thirteen (Feasible cost) e = absurd (omega (arith, e))
verdict_not_thirteen (BreaksBound column value side) e = absurd (omega (arith, e))
verdict_not_thirteen (BreaksWhole column value) e = absurd (omega (arith, e))
verdict_not_thirteen (BreaksRow row activity side) e = absurd (omega (arith, e))
verdict_not_thirteen (WideRow row) e = absurd (omega (arith, e))
verdict_not_thirteen WideCost e = absurd (omega (arith, e))

pub verdict_is : (checked : Checked) → IsStatus (check_status checked)
verdict_is (Feasible cost) = solved
verdict_is (BreaksBound column value side) = broken
verdict_is (BreaksWhole column value) = broken
verdict_is (BreaksRow row activity side) = broken
verdict_is (WideRow row) = wide
verdict_is WideCost = wide

-- what a status tells of a verdict
pub is_breach : (program : Program) (point : List ℚ) (verdict : Verdict) → check_status (checked_of program point verdict) ≡ 1 → IsBreach verdict
is_breach program point (verdicts.Feasible cost) e = absurd (omega (arith, e))
is_breach program point (verdicts.BreaksBound column) e = tt
is_breach program point (verdicts.BreaksWhole column) e = tt
is_breach program point (verdicts.BreaksRow number value) e = tt
is_breach program point (verdicts.Wide (places.Row number)) e = absurd (omega (arith, e))
is_breach program point (verdicts.Wide places.Cost) e = absurd (omega (arith, e))

pub is_overflow : (program : Program) (point : List ℚ) (verdict : Verdict) → check_status (checked_of program point verdict) ≡ 11 → (place : Place) × (verdict ≡ verdicts.Wide place)
is_overflow program point (verdicts.Feasible cost) e = absurd (omega (arith, e))
is_overflow program point (verdicts.BreaksBound column) e = absurd (omega (arith, e))
is_overflow program point (verdicts.BreaksWhole column) e = absurd (omega (arith, e))
is_overflow program point (verdicts.BreaksRow number value) e = absurd (omega (arith, e))
is_overflow program point (verdicts.Wide place) e = (place, refl)

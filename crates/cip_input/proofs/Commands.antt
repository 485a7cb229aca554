-- What the command takes of words, and the job of words that it takes.
use Rattle.std.specs.Prelude.{◌≡◌, Bool, true, false, not, ◌&&◌, ℕ, List, [], ◌∷◌, Option, None, Some, Result, Ok, Err, MatchResult, IfOk, refl, option_and_then}
use Rattle.std.proofs.Common.{sym, ap, ap₂, ◌∙◌, subst, inl, inr}
use Rattle.clap.specs.Words.{App, app_of, with_subcommand, HasKind, HasMatchesOf, IsAmong, Kinds, fault_of, kind_of, is_simple, is_simple_and_free, subcommand_of, subcommand_rows_of, AddsSubcommand, Shape}
use Rattle.clap.specs.declared.builder.command.Command.{Command}
use Rattle.clap.specs.declared.error.Error.{Error}
use Rattle.clap.specs.declared.error.kind.ErrorKind.{ErrorKind}
use Rattle.clap.specs.declared.error.kind.ErrorKind.TheVariants.{OutOfMemory}
use Rattle.clap.specs.declared.parser.matches.ArgMatches.{ArgMatches}
use Rattle.clap.proofs.OnLiterals.{clap_on_literals}
use Rattle.cip_input.proofs.Numbers.{asks_for_some}
use Rattle.cip_input.specs.Jobs.{Job, AsksForSome, cip_command, job_at, job_of, unless_faulty}
use Rattle.cip_input.specs.WordsRead.{WordsCause, meant}
use Rattle.cip_input.specs.declared.words.Job.{Job as Wanted}
use Rattle.cip_input.specs.declared.words.WordsFault.{WordsFault}
use Rattle.cip_input.specs.declared.words.WordsFault.TheVariants.{Refused, NoMemory}

-- the command is simple, and no argument of it has a rule on another
pub is_free : is_simple_and_free cip_command ≡ true
unfolding clap_on_literals cip_command
is_free = refl

pub is_plain : is_simple cip_command ≡ true
unfolding clap_on_literals cip_command
is_plain = refl

-- a command that is a subcommand of this shape wherever it is added as one
abbrev pub IsAddedAs : Shape → Command → Type 0
IsAddedAs shape command =
    (old new : Command) → AddsSubcommand old command new → app_of new ≡ with_subcommand (app_of old) shape

-- a plain command is added as its shape says
third_false : (a b c rest : Bool) → (a && (b && (not c && rest))) ≡ true → c ≡ false
third_false true true false rest e = refl
third_false true true true rest e = absurd (cc)
third_false true false c rest e = absurd (cc)
third_false false b c rest e = absurd (cc)

pub added_as : (app : App) (command : Command) → app_of command ≡ app → app.top.is_plain ≡ true → IsAddedAs app.top command
added_as app command made plain = λ old new added.
    added.shape (third_false _ _ _ _ (ap (λ (a : App). a.top.is_plain) made ∙ plain)) ∙ ap (λ (a : App). with_subcommand (app_of old) a.top) made

-- words without a fault have the job of their subcommand
job_taken : (words : List (List ℕ)) (job : Option Job) → fault_of cip_command words ≡ [] → option_and_then job_at (subcommand_of cip_command words) ≡ job → job_of words ≡ job
unfolding job_of
job_taken words job f e = ap (λ kinds. unless_faulty kinds (option_and_then job_at (subcommand_of cip_command words))) f ∙ e

none_of : (kinds : Kinds) (job : Option Job) (kind : ErrorKind) → IsAmong kind kinds → unless_faulty kinds job ≡ None
none_of [] job kind h = absurd h
none_of (first ∷ others) job kind h = refl

-- words with a fault have none
no_job : (words : List (List ℕ)) (kind : ErrorKind) → IsAmong kind (fault_of cip_command words) → job_of words ≡ None
unfolding job_of
no_job words kind h = none_of (fault_of cip_command words) (option_and_then job_at (subcommand_of cip_command words)) kind h

-- what is read of matches is the job of the words
pub read_job : (app : App) (words told : List (List ℕ)) (m : ArgMatches) (result : Result Wanted WordsFault) → app ≡ cip_command → words ≡ told
    → fault_of app words ≡ [] → HasMatchesOf app words m
    → MatchResult result (λ job. option_and_then job_at (subcommand_rows_of m) ≡ Some (meant job)) (WordsCause (option_and_then job_at (subcommand_rows_of m)))
    → MatchResult result (λ job. job_of told ≡ Some (meant job)) (WordsCause (job_of told))
read_job app words told m result a w f h = by_case result
  where
    rows : subcommand_rows_of m ≡ subcommand_of cip_command told
    rows = (h (ap is_simple a ∙ is_plain)).1 ∙ ap₂ subcommand_of a w

    faultless : fault_of cip_command told ≡ []
    faultless = sym (ap₂ fault_of a w) ∙ f

    job_is : (job : Option Job) → option_and_then job_at (subcommand_rows_of m) ≡ job → job_of told ≡ job
    job_is job e = job_taken told job faultless (ap (option_and_then job_at) (sym rows) ∙ e)

    by_case : (result : Result Wanted WordsFault) → MatchResult result (λ job. option_and_then job_at (subcommand_rows_of m) ≡ Some (meant job)) (WordsCause (option_and_then job_at (subcommand_rows_of m)))
        → MatchResult result (λ job. job_of told ≡ Some (meant job)) (WordsCause (job_of told))
    by_case (Ok job) e = job_is _ e
    by_case (Err Refused) e = job_is None e
    by_case (Err NoMemory) e = tt

-- and asks for a number of nodes in the range
pub ranged : (told : List (List ℕ)) (result : Result Wanted WordsFault) → MatchResult result (λ job. job_of told ≡ Some (meant job)) (WordsCause (job_of told)) → IfOk result (λ job. AsksForSome (meant job))
ranged told (Ok job) h = asks_for_some told (meant job) h
ranged told (Err fault) h = tt

-- an error that is not want of memory comes of words that are not accepted
pub refused_words : (app : App) (words told : List (List ℕ)) (error : Error) (fault : WordsFault) → app ≡ cip_command → words ≡ told
    → HasKind (fault_of app words) error → (fault ≡ Refused → kind_of error ≡ OutOfMemory → ⊥) → WordsCause (job_of told) fault
refused_words app words told error Refused a w h n = elim h [
  | inl e ↦ absurd (n refl e)
  | inr among ↦ no_job told (kind_of error) (subst (λ kinds. IsAmong (kind_of error) kinds) (ap₂ fault_of a w) among)
]
refused_words app words told error NoMemory a w h n = tt

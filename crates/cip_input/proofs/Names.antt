-- The job of words for plugins of these names.
use Rattle.std.specs.Prelude.{◌≡◌, ◌||◌, ◌&&◌, Bool, true, false, ℕ, List, [], ◌∷◌, Option, None, Some, Result, Ok, Err, IsErr, MatchResult, map, refl, if◌then◌else◌}
use Rattle.std.specs.List.{list_all, list_any}
use Rattle.std.specs.Str.{bytes_eq}
use Rattle.std.specs.Result.{IsErrAnd}
use Rattle.std.proofs.Common.{sym, ap, ap₂, ◌∙◌, subst, Bor}
use Rattle.cip_plugin.specs.Who.{Who}
use Rattle.cip_input.specs.Jobs.{Job, are_among, off_in, job_for}
use Rattle.cip_input.specs.WordsRead.{WordsCause}
use Rattle.cip_input.specs.declared.words.WordsFault.{WordsFault}
use Rattle.cip_input.specs.declared.words.WordsFault.TheVariants.{Refused, NoMemory}
use Rattle.cip_input.specs.Tasks.{labels_of}

any_named : {P : Type 0} (who : P → Who) (name : List ℕ) (plugins : List P) → list_any (λ plugin. bytes_eq (who plugin).label name) plugins ≡ list_any (λ label. bytes_eq label name) (labels_of (map who plugins))
any_named who name [] = refl
any_named who name (plugin ∷ plugins) = ap (λ (rest : Bool). bytes_eq (who plugin).label name || rest) (any_named who name plugins)

abbrev told : List (Bor (List ℕ)) → List (List ℕ)
told names = map (λ name. name.now) names

all_named : {P : Type 0} (who : P → Who) (plugins : List P) (names : List (Bor (List ℕ))) → list_all (λ name. list_any (λ plugin. bytes_eq (who plugin).label name.now) plugins) names ≡ are_among (told names) (labels_of (map who plugins))
all_named who plugins [] = refl
all_named who plugins (name ∷ names) = ap₂ (λ (a b : Bool). a && b) (any_named who name.now plugins) (all_named who plugins names)

-- whether plugins of all these names are there
pub are_there : {P : Type 0} (who : P → Who) (plugins : List P) (names lent : List (Bor (List ℕ))) (test : Bool) → lent ≡ names → test ≡ list_all (λ name. list_any (λ plugin. bytes_eq (who plugin).label name.now) plugins) lent → test ≡ are_among (told names) (labels_of (map who plugins))
are_there who plugins names lent test l e = e ∙ (all_named who plugins lent ∙ ap (λ ns. are_among (told ns) (labels_of (map who plugins))) l)

-- ---- jobs

job_by : (plugins : List (List ℕ)) (job : Job) (test : Bool) → test ≡ are_among (off_in job) plugins → job_for plugins (Some job) ≡ (if test then Some job else None)
job_by plugins job test e = sym (ap (λ (b : Bool). if b then Some job else None) e)

-- the plugins are there
pub job_there : (plugins : List (List ℕ)) (asked : Option Job) (job : Job) (test : Bool) → asked ≡ Some job → test ≡ are_among (off_in job) plugins → test ≡ true → job_for plugins asked ≡ Some job
job_there plugins asked job test a e t = ap (job_for plugins) a ∙ (job_by plugins job test e ∙ ap (λ (b : Bool). if b then Some job else None) t)

-- one of them isn't
pub job_missing : (plugins : List (List ℕ)) (asked : Option Job) (job : Job) (test : Bool) → asked ≡ Some job → test ≡ are_among (off_in job) plugins → test ≡ false → job_for plugins asked ≡ None
job_missing plugins asked job test a e t = ap (job_for plugins) a ∙ (job_by plugins job test e ∙ ap (λ (b : Bool). if b then Some job else None) t)

-- the words are not accepted
pub job_refused : (plugins : List (List ℕ)) (asked : Option Job) (fault : WordsFault) → WordsCause asked fault → WordsCause (job_for plugins asked) fault
job_refused plugins asked Refused h = ap (job_for plugins) h
job_refused plugins asked NoMemory h = tt

-- a cause over what a call answers
pub not_job : {X : Type 0} (Done : X → Type 0) (Cause : WordsFault → Type 0) (fault : WordsFault) (result : Result X WordsFault) → Cause fault → IsErr result × IsErrAnd result (λ given. given ≡ fault) → MatchResult result Done Cause
not_job Done Cause fault (Ok x) h e = let no : ⊥ = let failed = e.0 in cc in absurd no
not_job Done Cause fault (Err given) h e = subst Cause (sym e.1) h

-- The number of nodes that a word says.
use Rattle.std.specs.Prelude.{◌≡◌, ◌&&◌, Bool, true, false, ℕ, ◌^◌, ◌<◌, ◌≤◌, List, [], ◌∷◌, Option, None, Some, refl, if◌then◌else◌, option_and_then}
use Rattle.std.proofs.Common.{sym, ap, ap₂, ◌∙◌, arith}
use lib.Chars.{codes}
use Rattle.std.specs.Str.{bytes_eq}
use Rattle.clap.specs.Words.{Kinds, Row, Text, fault_of, first_of, first_value, rows_of, subcommand_of}
use Rattle.clap.specs.declared.parser.matches.Found.{Found}
use Rattle.clap.proofs.WalkLemmas.{both, first_value-rows}
use Rattle.std.specs.Str.Parse.{IsNumeral, digits_value, without_leading_plus}
use Rattle.clap.specs.ValueTests.{is_unsigned_in}
use Rattle.clap.specs.Values.{IsUnsignedIn}
use Rattle.clap.specs.declared.builder.value_parser.ValueParser.TheVariants as vp
use Rattle.clap.proofs.ValueTestLemmas.{accepts-Accepts, Accepts-accepts}
use Rattle.std.proofs.lemmas.Option.{same_Some}
use Rattle.std.proofs.lemmas.Bool.{and_from}
use Rattle.cip_input.proofs.Plus.{no_plus}
use Rattle.cip_input.proofs.Naturals.{self_ranged, is_not}
use Rattle.cip_rational.specs.Rational.{ℚ, zeroℚ, le_test}
use Rattle.cip_rational.specs.Numeral.{value_of}
use Rattle.cip_rational.specs.FractionText.{fraction_of}
use Rattle.cip_text.specs.NumberFaults.{faulty}
use Rattle.cip_text.specs.declared.number_text.NumberFault.{NumberFault}
use Rattle.cip_text.specs.declared.number_text.NumberFault.TheVariants.{NotANumber, Huge, TooFine}
use Rattle.cip_input.specs.Jobs.{Limits, Job, Solve, Check, Generate, AsksForSome, at_least_zero, begins_above_zero, gap_of, off_of, is_presolved, is_true, cip_command, check_behind, check_with, self_behind, job_at, job_behind, job_of, solve_with, most_nodes, nodes_of, unless_faulty, usual_nodes}

number_of : (same : Bool) (text : List ℕ) → (begins_above_zero text && is_unsigned_in 1 most_nodes text) ≡ same → nodes_of (Some text) ≡ (if same then Some (digits_value 10 text) else None)
number_of same text e = ap (λ (b : Bool). if b then Some (digits_value 10 text) else None) e

-- a number in the range
pub some_nodes : (text : List ℕ) (n : ℕ) → begins_above_zero text ≡ true → IsNumeral 10 (without_leading_plus text) → digits_value 10 (without_leading_plus text) < 2 ^ 64 → n ≡ digits_value 10 (without_leading_plus text) → 1 ≤ n → n ≤ most_nodes → nodes_of (Some text) ≡ Some n
some_nodes text n above numeral fits e low high =
    let unsigned = Accepts-accepts false (vp.Unsigned 1 most_nodes) text (numeral, fits, omega (arith, e, low), omega (arith, e, high)) in
    number_of true text (and_from _ _ above unsigned) ∙ ap Some (sym (e ∙ ap (digits_value 10) (no_plus text above)))

-- and what is none
pub no_nodes : (text : List ℕ) → (IsUnsignedIn 1 most_nodes text → ⊥) → nodes_of (Some text) ≡ None
no_nodes text n =
    number_of false text (is_not _ (λ e. n (accepts-Accepts false (vp.Unsigned 1 most_nodes) text (both _ _ e).1)) _ refl)

-- neither does a text with a sign or a 0 in front say one
pub not_above : (text : List ℕ) → begins_above_zero text ≡ false → nodes_of (Some text) ≡ None
not_above text e = number_of false text (ap (λ (b : Bool). b && is_unsigned_in 1 most_nodes text) e)

-- ---- the gap that a word says

-- a number is at least 0 where the test says so
pub gap_by : (gap zero : ℚ) (test same : Bool) → zero ≡ zeroℚ → test ≡ le_test zero gap → test ≡ same → (if same then Some gap else None) ≡ at_least_zero (Some gap)
gap_by gap zero test same z t e =
    ap (λ (b : Bool). if b then Some gap else None) (sym e ∙ (t ∙ ap (λ x. le_test x gap) z))

no_value : (fault : NumberFault) → value_of (faulty fault) ≡ None
no_value NotANumber = refl
no_value (Huge negative) = refl
no_value TooFine = refl

-- a faulty text says none
pub no_fraction : (text : List ℕ) (fault : NumberFault) → fraction_of text ≡ faulty fault → None ≡ at_least_zero (value_of (fraction_of text))
no_fraction text fault e = sym (ap (λ n. at_least_zero (value_of n)) e ∙ ap at_least_zero (no_value fault))

-- ---- the job of what stands behind `solve`, or `check`

-- the names and the flags as they were found
abbrev pub off_in : Found → List (List ℕ)
off_in f = off_of (first_value f (codes "off"))

abbrev pub plain_in : Found → Bool
plain_in f = is_true (first_value f (codes "plain"))

abbrev pub trace_in : Found → Bool
trace_in f = is_true (first_value f (codes "trace"))

-- a flag among the rows
flag_from : (f : Found) (id : Text) → is_true (first_of id (rows_of f)) ≡ is_true (first_value f id)
flag_from f id = ap is_true (sym (first_value-rows f id))

solve_from : (f : Found) (model blocks nodes gap : Option (List ℕ)) → model ≡ first_value f (codes "model") → blocks ≡ first_value f (codes "blocks") → nodes ≡ first_value f (codes "nodes") → gap ≡ first_value f (codes "gap") → job_behind (rows_of f) ≡ solve_with model blocks (nodes_of nodes) (gap_of gap) (off_in f) (plain_in f) (trace_in f)
solve_from f model blocks nodes gap m b n g =
    ap (λ (x : Option (List ℕ)). solve_with x (first_of (codes "blocks") (rows_of f)) (nodes_of (first_of (codes "nodes") (rows_of f))) (gap_of (first_of (codes "gap") (rows_of f))) (off_of (first_of (codes "off") (rows_of f))) (is_true (first_of (codes "plain") (rows_of f))) (is_true (first_of (codes "trace") (rows_of f)))) (sym (first_value-rows f (codes "model")) ∙ sym m)
    ∙ (ap₂ (λ (x y : Option (List ℕ)). solve_with model x (nodes_of y) (gap_of (first_of (codes "gap") (rows_of f))) (off_of (first_of (codes "off") (rows_of f))) (is_true (first_of (codes "plain") (rows_of f))) (is_true (first_of (codes "trace") (rows_of f)))) (sym (first_value-rows f (codes "blocks")) ∙ sym b) (sym (first_value-rows f (codes "nodes")) ∙ sym n)
    ∙ (ap₂ (λ (x y : Option (List ℕ)). solve_with model blocks (nodes_of nodes) (gap_of x) (off_of y) (is_true (first_of (codes "plain") (rows_of f))) (is_true (first_of (codes "trace") (rows_of f)))) (sym (first_value-rows f (codes "gap")) ∙ sym g) (sym (first_value-rows f (codes "off")))
    ∙ ap₂ (λ (x y : Bool). solve_with model blocks (nodes_of nodes) (gap_of gap) (off_in f) x y) (flag_from f (codes "plain")) (flag_from f (codes "trace"))))

-- a flag by the word that was found of it
flag_is : (f : Found) (id : Text) (word : Option (List ℕ)) (flag : Bool) → word ≡ first_value f id → flag ≡ is_true word → is_true (first_value f id) ≡ flag
flag_is f id word flag w e = sym (e ∙ ap is_true w)

-- the names by the word that was found of them
names_are : (f : Found) (word : Option (List ℕ)) (names : List (List ℕ)) → word ≡ first_value f (codes "off") → names ≡ off_of word → off_in f ≡ names
names_are f word names w e = sym (e ∙ ap off_of w)

-- a job by what it presolves
presolved_by : (model : List ℕ) (blocks : Option (List ℕ)) (nodes : ℕ) (gap : Option ℚ) (off : List (List ℕ)) (plain trace presolve : Bool) → presolve ≡ is_presolved plain blocks → solve_with (Some model) blocks (Some nodes) (Some gap) off plain trace ≡ Some (Solve model blocks (record { nodes = nodes; gap = gap; presolved = presolve; plain = plain; off = off; trace = trace }))
presolved_by model blocks nodes gap off plain trace presolve e = sym (ap (λ (p : Bool). Some (Solve model blocks (record { nodes = nodes; gap = gap; presolved = p; plain = plain; off = off; trace = trace }))) e)

pub full_job : (f : Found) (model : List ℕ) (blocks word other : Option (List ℕ)) (nodes : ℕ) (gap : Option ℚ) → Some model ≡ first_value f (codes "model") → blocks ≡ first_value f (codes "blocks") → word ≡ first_value f (codes "nodes") → other ≡ first_value f (codes "gap") → Some nodes ≡ nodes_of word → Some gap ≡ gap_of other → (plainly traced list : Option (List ℕ)) (plain trace presolve : Bool) (off : List (List ℕ)) → plainly ≡ first_value f (codes "plain") → plain ≡ is_true plainly → traced ≡ first_value f (codes "trace") → trace ≡ is_true traced → list ≡ first_value f (codes "off") → off ≡ off_of list → presolve ≡ is_presolved plain blocks → job_behind (rows_of f) ≡ Some (Solve model blocks (record { nodes = nodes; gap = gap; presolved = presolve; plain = plain; off = off; trace = trace }))
full_job f model blocks word other nodes gap m b n g e h plainly traced list plain trace presolve off p i t j l o r =
    solve_from f (Some model) blocks word other m b n g
    ∙ (sym (ap (λ t. solve_with (Some model) blocks t (gap_of other) (off_in f) (plain_in f) (trace_in f)) e)
    ∙ (sym (ap (λ g. solve_with (Some model) blocks (Some nodes) g (off_in f) (plain_in f) (trace_in f)) h)
    ∙ (ap (λ (names : List (List ℕ)). solve_with (Some model) blocks (Some nodes) (Some gap) names (plain_in f) (trace_in f)) (names_are f list off l o)
    ∙ (ap₂ (λ (x y : Bool). solve_with (Some model) blocks (Some nodes) (Some gap) off x y) (flag_is f (codes "plain") plainly plain p i) (flag_is f (codes "trace") traced trace t j)
    ∙ presolved_by model blocks nodes gap off plain trace presolve r))))

pub no_number : (f : Found) (model : List ℕ) (word : Option (List ℕ)) → Some model ≡ first_value f (codes "model") → word ≡ first_value f (codes "nodes") → None ≡ nodes_of word → job_behind (rows_of f) ≡ None
no_number f model word m n e =
    let gap = first_value f (codes "gap") in
    solve_from f (Some model) (first_value f (codes "blocks")) word gap m refl n refl ∙ sym (ap (λ t. solve_with (Some model) (first_value f (codes "blocks")) t (gap_of gap) (off_in f) (plain_in f) (trace_in f)) e)

pub no_gap : (f : Found) (model : List ℕ) (word other : Option (List ℕ)) (nodes : ℕ) → Some model ≡ first_value f (codes "model") → word ≡ first_value f (codes "nodes") → other ≡ first_value f (codes "gap") → Some nodes ≡ nodes_of word → None ≡ gap_of other → job_behind (rows_of f) ≡ None
no_gap f model word other nodes m n g e h =
    let blocks = first_value f (codes "blocks") in
    solve_from f (Some model) blocks word other m refl n g
    ∙ (sym (ap (λ t. solve_with (Some model) blocks t (gap_of other) (off_in f) (plain_in f) (trace_in f)) e)
    ∙ sym (ap (λ g. solve_with (Some model) blocks (Some nodes) g (off_in f) (plain_in f) (trace_in f)) h))

pub no_model : (f : Found) → None ≡ first_value f (codes "model") → job_behind (rows_of f) ≡ None
no_model f m = solve_from f None (first_value f (codes "blocks")) (first_value f (codes "nodes")) (first_value f (codes "gap")) m refl refl refl

check_from : (f : Found) (model point : Option (List ℕ)) → model ≡ first_value f (codes "model") → point ≡ first_value f (codes "point") → check_behind (rows_of f) ≡ check_with model point
check_from f model point m n = ap₂ (λ (model point : Option (List ℕ)). check_with model point) (sym (first_value-rows f (codes "model")) ∙ sym m) (sym (first_value-rows f (codes "point")) ∙ sym n)

pub full_check : (f : Found) (model point : List ℕ) → Some model ≡ first_value f (codes "model") → Some point ≡ first_value f (codes "point") → check_behind (rows_of f) ≡ Some (Check model point)
full_check f model point m n = check_from f (Some model) (Some point) m n

pub no_point : (f : Found) (model : List ℕ) → Some model ≡ first_value f (codes "model") → None ≡ first_value f (codes "point") → check_behind (rows_of f) ≡ None
no_point f model m n = check_from f (Some model) None m n

pub no_program : (f : Found) → None ≡ first_value f (codes "model") → check_behind (rows_of f) ≡ None
no_program f m = check_from f None (first_value f (codes "point")) m refl

-- ---- the range of the number

range_of : (text : List ℕ) (nodes : ℕ) (same : Bool) → (begins_above_zero text && is_unsigned_in 1 most_nodes text) ≡ same → (if same then Some (digits_value 10 text) else None) ≡ Some nodes → (1 ≤ nodes) × (nodes ≤ most_nodes)
range_of text nodes true e h =
    let parts = both _ _ e in
    let within = accepts-Accepts false (vp.Unsigned 1 most_nodes) text parts.1 in
    let same : digits_value 10 (without_leading_plus text) ≡ nodes = ap (digits_value 10) (no_plus text parts.0) ∙ same_Some _ _ h in
    (omega (arith, same, within.2), omega (arith, same, within.3))
range_of text nodes false e h = absurd (cc)

usual_range : (nodes : ℕ) → Some usual_nodes ≡ Some nodes → (1 ≤ nodes) × (nodes ≤ most_nodes)
usual_range nodes h = let same : usual_nodes ≡ nodes = cc in (omega (arith, same), omega (arith, same))

nodes_range : (word : Option (List ℕ)) (nodes : ℕ) → nodes_of word ≡ Some nodes → (1 ≤ nodes) × (nodes ≤ most_nodes)
nodes_range None nodes h = usual_range nodes h
nodes_range (Some text) nodes h = range_of text nodes (begins_above_zero text && is_unsigned_in 1 most_nodes text) refl h

limits_same : (model other : List ℕ) (blocks others : Option (List ℕ)) (x y : Limits) → Solve model blocks x ≡ Solve other others y → x ≡ y
limits_same model other blocks others x y e = cc

job_range : (model blocks : Option (List ℕ)) (nodes : Option ℕ) (gap : Option (Option ℚ)) (off : List (List ℕ)) (plain trace : Bool) (word : Option (List ℕ)) (job : Job) → nodes_of word ≡ nodes → solve_with model blocks nodes gap off plain trace ≡ Some job → AsksForSome job
job_range (Some model) blocks (Some nodes) (Some gap) off plain trace word (Solve told others limits) w h =
    let asked : Limits = record { nodes = nodes; gap = gap; presolved = is_presolved plain blocks; plain = plain; off = off; trace = trace } in
    let same : nodes ≡ limits.nodes = ap (λ (l : Limits). l.nodes) (limits_same model told blocks others asked limits (same_Some _ _ h)) in
    nodes_range word limits.nodes (w ∙ ap Some same)
job_range (Some model) blocks (Some nodes) (Some gap) off plain trace word (Check told point) w h = tt
job_range (Some model) blocks (Some nodes) (Some gap) off plain trace word (Generate seed columns rows) w h = absurd (cc)
job_range (Some model) blocks (Some nodes) None off plain trace word job w h = absurd (cc)
job_range (Some model) blocks None gap off plain trace word job w h = absurd (cc)
job_range None blocks nodes gap off plain trace word job w h = absurd (cc)

check_range : (model point : Option (List ℕ)) (job : Job) → check_with model point ≡ Some job → AsksForSome job
check_range (Some model) (Some point) (Solve told others n) h = absurd (cc)
check_range (Some model) (Some point) (Check told other) h = tt
check_range (Some model) (Some point) (Generate seed columns rows) h = absurd (cc)
check_range (Some model) None job h = absurd (cc)
check_range None point job h = absurd (cc)

at_self : (entered : Text × List Row) (same : Bool) (job : Job) → (if same then self_behind entered.1 else None) ≡ Some job → AsksForSome job
at_self entered true job h = self_ranged entered.1 job h
at_self entered false job h = absurd (cc)

at_check : (entered : Text × List Row) (same : Bool) (job : Job) → (if same then check_behind entered.1 else (if bytes_eq entered.0 (codes "self") then self_behind entered.1 else None)) ≡ Some job → AsksForSome job
at_check entered true job h = check_range _ _ job h
at_check entered false job h = at_self entered (bytes_eq entered.0 (codes "self")) job h

at_range : (entered : Text × List Row) (same : Bool) (job : Job) → (if same then job_behind entered.1 else (if bytes_eq entered.0 (codes "check") then check_behind entered.1 else (if bytes_eq entered.0 (codes "self") then self_behind entered.1 else None))) ≡ Some job → AsksForSome job
at_range entered true job h = job_range _ _ _ _ _ _ _ (first_of (codes "nodes") entered.1) job refl h
at_range entered false job h = at_check entered (bytes_eq entered.0 (codes "check")) job h

entered_range : (entered : Option (Text × List Row)) (job : Job) → option_and_then job_at entered ≡ Some job → AsksForSome job
entered_range None job h = absurd (cc)
entered_range (Some entered) job h = at_range entered (bytes_eq entered.0 (codes "solve")) job h

faultless_range : (kinds : Kinds) (entered : Option (Text × List Row)) (job : Job) → unless_faulty kinds (option_and_then job_at entered) ≡ Some job → AsksForSome job
faultless_range [] entered job h = entered_range entered job h
faultless_range (kind ∷ kinds) entered job h = absurd (cc)

-- a job asks for 1 node at least, and at most the most
pub asks_for_some : (words : List (List ℕ)) (job : Job) → job_of words ≡ Some job → AsksForSome job
unfolding job_of
asks_for_some words job h = faultless_range (fault_of cip_command words) (subcommand_of cip_command words) job h

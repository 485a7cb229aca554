-- The words of a command line, without the program's name, and the jobs that they mean.
--     cip_command      the command, as `clap` has it: `solve MODEL [--blocks FILE] [--nodes N] [--gap G] [--off LIST]
--                      [--plain] [--trace]`, `check MODEL POINT` and `self SEED COLS ROWS`
--     job_of words      the job of the words, where they are accepted
--     job_for plugins (job_of words)      the same where a search begins with plugins of these names
use lib.Chars.{codes}
use Rattle.std.specs.Prelude.{⊤, ℕ, ◌≤◌, ◌==◌, nat_le, Bool, true, false, not, ◌&&◌, ◌||◌, ◌^◌, ◌-◌, List, [], ◌∷◌}
use Rattle.std.specs.Prelude.{Option, None, Some}
use Rattle.std.specs.Prelude.{option_map, option_and_then, if◌then◌else◌}
use Rattle.std.specs.List.{list_all, list_any, slice_split}
use Rattle.std.specs.Str.{bytes_eq}
use Rattle.std.specs.Str.Parse.{digits_value}
use Rattle.clap.specs.Words.{App, Kinds, Row, Rule, Text, fault_of, first_of, new_app, new_rule, subcommand_of}
use Rattle.clap.specs.Words.{with_rule, with_subcommand}
use Rattle.clap.specs.Simple.{on_top}
use Rattle.clap.specs.ValueTests.{is_unsigned_in}
use Rattle.cip_rational.specs.Rational.{ℚ, zeroℚ, le_test}
use Rattle.cip_rational.specs.Numeral.{value_of}
use Rattle.cip_rational.specs.FractionText.{fraction_of}
use Rattle.cip_input.specs.Generated.{most_drawn}
use Rattle.clap.specs.declared.builder.action.ArgAction.TheVariants.{SetTrue}

-- how a program is searched: what ends the search early, so many nodes, and a gap, if one is asked for; whether
-- presolve may reduce the program first; whether no plugin is asked and the kit is left as it is; the names of the
-- plugins that are off, in their order; and whether the lines of the trace are kept and printed
pub record Limits : Type 0 where
  pub nodes : ℕ
  pub gap : Option ℚ
  pub presolved : Bool
  pub plain : Bool
  pub off : List (List ℕ)
  pub trace : Bool

-- what the words ask for: to solve the program of the text of this name, with the blocks of another text, if one is
-- named, within limits; to check the point of a text in the program of a text; or to solve the program that is drawn
-- from a seed, with so many columns and rows, for which no text is read
pub data Job : Type 0 where
  Solve : (model : List ℕ) (blocks : Option (List ℕ)) (limits : Limits) → Job
  Check : (model point : List ℕ) → Job
  Generate : (seed columns rows : ℕ) → Job

-- the nodes of a search where nothing is said of them, and the most that can be asked for, 2 ^ 40
abbrev pub usual_nodes : ℕ
usual_nodes = 1000000

abbrev pub most_nodes : ℕ
most_nodes = 1099511627776

-- how a program is searched where nothing is said of it
abbrev pub usual_limits : Limits
usual_limits = record {
  nodes = usual_nodes;
  gap = None;
  presolved = true;
  plain = false;
  off = [];
  trace = false;
}

-- the greatest seed of a program that is drawn
abbrev pub most_seed : ℕ
most_seed = 2 ^ 64 - 1

-- ---- the command

-- MODEL, which has to be there
abbrev pub model_rule : Rule
model_rule = record (new_rule (codes "model")) { required = true }

-- POINT, which has to be there
abbrev pub point_rule : Rule
point_rule = record (new_rule (codes "point")) { required = true }

-- `--blocks FILE`, which may be there
abbrev pub blocks_rule : Rule
blocks_rule = record (new_rule (codes "blocks")) { long = Some (codes "blocks") }

-- `--nodes N`, which may be there
abbrev pub nodes_rule : Rule
nodes_rule = record (new_rule (codes "nodes")) { long = Some (codes "nodes") }

-- `--gap G`, which may be there
abbrev pub gap_rule : Rule
gap_rule = record (new_rule (codes "gap")) { long = Some (codes "gap") }

-- `--off LIST`, which may be there
abbrev pub off_rule : Rule
off_rule = record (new_rule (codes "off")) { long = Some (codes "off") }

-- `--plain`, which may be there
abbrev pub plain_rule : Rule
plain_rule = record (new_rule (codes "plain")) { long = Some (codes "plain"); action = Some SetTrue }

-- `--trace`, which may be there
abbrev pub trace_rule : Rule
trace_rule = record (new_rule (codes "trace")) { long = Some (codes "trace"); action = Some SetTrue }

-- SEED, COLS and ROWS, which have to be there
abbrev pub seed_rule : Rule
seed_rule = record (new_rule (codes "seed")) { required = true }

abbrev pub columns_rule : Rule
columns_rule = record (new_rule (codes "cols")) { required = true }

abbrev pub rows_rule : Rule
rows_rule = record (new_rule (codes "rows")) { required = true }

abbrev pub solve_command : App
solve_command =
    with_rule
    (with_rule
    (with_rule
    (with_rule (with_rule (with_rule (with_rule (new_app (codes "solve")) model_rule) blocks_rule) nodes_rule) gap_rule)
    off_rule)
    plain_rule)
    trace_rule

abbrev pub check_command : App
check_command = with_rule (with_rule (new_app (codes "check")) model_rule) point_rule

abbrev pub self_command : App
self_command = with_rule (with_rule (with_rule (new_app (codes "self")) seed_rule) columns_rule) rows_rule

-- the program's name is not one of the words
abbrev pub bare_command : App
bare_command = on_top (λ top. record top { no_binary_name = true }) (new_app (codes "cip"))

unfoldable pub cip_command : App
cip_command =
    with_subcommand (with_subcommand (with_subcommand bare_command solve_command.top) check_command.top)
    self_command.top

-- ---- what the words mean

-- a text that begins with a digit from 1 to 9: neither with a sign nor with a 0
abbrev pub begins_above_zero : List ℕ → Bool
begins_above_zero [] = false
begins_above_zero (byte ∷ bytes) = nat_le 49 byte && nat_le byte 57

-- N: decimal digits without a sign or a 0 in front, that say a number from 1 to the most nodes
abbrev pub nodes_of : Option Text → Option ℕ
nodes_of None = Some usual_nodes
nodes_of (Some text) =
    if begins_above_zero text && is_unsigned_in 1 most_nodes text then Some (digits_value 10 text) else None

-- a text that begins with a digit from 1 to 9, or is 0: the digits of a number, without a sign or a 0 in front
abbrev pub begins_plainly : List ℕ → Bool
begins_plainly text = bytes_eq text (codes "0") || begins_above_zero text

-- SEED, COLS or ROWS: decimal digits without a sign or a 0 in front, that say a number of at most so much
abbrev pub number_up_to : ℕ → Option Text → Option ℕ
number_up_to most None = None
number_up_to most (Some text) =
    if begins_plainly text && is_unsigned_in 0 most text then Some (digits_value 10 text) else None

-- G: a text of a fraction that is at least 0; without a word no gap is asked for
abbrev pub at_least_zero : Option ℚ → Option ℚ
at_least_zero None = None
at_least_zero (Some gap) = if le_test zeroℚ gap then Some gap else None

abbrev pub gap_of : Option Text → Option (Option ℚ)
gap_of None = Some None
gap_of (Some text) = option_map Some (at_least_zero (value_of (fraction_of text)))

-- LIST: what stands between its commas, in order; no name without a word
abbrev pub off_of : Option Text → List (List ℕ)
off_of None = []
off_of (Some text) = slice_split (λ byte. byte == 44) text

-- what is found of a name without a value says that it is there: where it isn't, `clap` puts `false` in its place
abbrev pub is_true : Option Text → Bool
is_true None = false
is_true (Some text) = bytes_eq text (codes "true")

-- whether presolve may reduce the program: the search isn't plain, and no blocks are named
abbrev pub is_presolved : (plain : Bool) (blocks : Option Text) → Bool
is_presolved plain None = not plain
is_presolved plain (Some blocks) = false

abbrev pub solve_with :
    (model blocks : Option Text) (nodes : Option ℕ) (gap : Option (Option ℚ)) (off : List (List ℕ)) (plain trace : Bool)
    → Option Job
solve_with (Some model) blocks (Some nodes) (Some gap) off plain trace =
    Some (Solve model blocks (record {
      nodes = nodes;
      gap = gap;
      presolved = is_presolved plain blocks;
      plain = plain;
      off = off;
      trace = trace;
    }))
solve_with (Some model) blocks (Some nodes) None off plain trace = None
solve_with (Some model) blocks None gap off plain trace = None
solve_with None blocks nodes gap off plain trace = None

abbrev pub check_with : (model point : Option Text) → Option Job
check_with (Some model) (Some point) = Some (Check model point)
check_with (Some model) None = None
check_with None point = None

abbrev pub self_with : (seed columns rows : Option ℕ) → Option Job
self_with (Some seed) (Some columns) (Some rows) = Some (Generate seed columns rows)
self_with (Some seed) (Some columns) None = None
self_with (Some seed) None rows = None
self_with None columns rows = None

-- the job of what stands behind `solve`, of what stands behind `check`, and of what stands behind `self`
abbrev pub job_behind : List Row → Option Job
job_behind rows =
    solve_with (first_of (codes "model") rows) (first_of (codes "blocks") rows)
    (nodes_of (first_of (codes "nodes") rows)) (gap_of (first_of (codes "gap") rows))
    (off_of (first_of (codes "off") rows)) (is_true (first_of (codes "plain") rows))
    (is_true (first_of (codes "trace") rows))

abbrev pub check_behind : List Row → Option Job
check_behind rows = check_with (first_of (codes "model") rows) (first_of (codes "point") rows)

abbrev pub self_behind : List Row → Option Job
self_behind rows =
    self_with (number_up_to most_seed (first_of (codes "seed") rows))
    (number_up_to most_drawn (first_of (codes "cols") rows)) (number_up_to most_drawn (first_of (codes "rows") rows))

-- the job of a subcommand
abbrev pub job_at : Text × List Row → Option Job
job_at entered =
    if bytes_eq entered.0 (codes "solve") then job_behind entered.1
    else (if bytes_eq entered.0 (codes "check") then check_behind entered.1
    else (if bytes_eq entered.0 (codes "self") then self_behind entered.1 else None))

-- words with a fault have no job
abbrev pub unless_faulty : Kinds → Option Job → Option Job
unless_faulty [] job = job
unless_faulty (kind ∷ kinds) job = None

-- the job of the words, where they are accepted: the command takes them, and the numbers are numbers, within their
-- ranges
unfoldable pub job_of : List (List ℕ) → Option Job
job_of words = unless_faulty (fault_of cip_command words) (option_and_then job_at (subcommand_of cip_command words))

-- ---- the job for a kit

-- the names of the plugins that a job wants to be off
abbrev pub off_in : Job → List (List ℕ)
off_in (Solve model blocks limits) = limits.off
off_in (Check model point) = []
off_in (Generate seed columns rows) = []

-- whether each of these names is among others
abbrev pub are_among : (names others : List (List ℕ)) → Bool
are_among names others = list_all (λ name. list_any (λ other. bytes_eq other name) others) names

-- the job of words where a search begins with plugins of these names: none where one that is to be off isn't there
abbrev pub job_for : (plugins : List (List ℕ)) → Option Job → Option Job
job_for plugins None = None
job_for plugins (Some job) = if are_among (off_in job) plugins then Some job else None

-- a job to solve asks for 1 node at least, and at most the most; one to solve a program that is drawn has a seed, and
-- columns and rows, of at most the most
abbrev pub AsksForSome : Job → Type 0
AsksForSome (Solve model blocks limits) = (1 ≤ limits.nodes) × (limits.nodes ≤ most_nodes)
AsksForSome (Check model point) = ⊤
AsksForSome (Generate seed columns rows) = (seed ≤ most_seed) × ((columns ≤ most_drawn) × (rows ≤ most_drawn))

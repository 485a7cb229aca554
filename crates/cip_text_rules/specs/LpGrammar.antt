-- The statements of LP texts, token by token.
--     settled w token      what the tokens before say now that this one is known
--     read w token      what this token says then, and where the next one stands
use Rattle.std.specs.Prelude.{ℕ, Bool, true, false, not, ◌&&◌, ◌||◌, if◌then◌else◌, List, [], ◌∷◌, ◌++◌, Option, None, Some}
use Rattle.cip_rational.specs.Rational.{ℚ}
use Rattle.cip_rational.specs.Numeral.{Numeral, value_of, numeral_of}
use Rattle.cip_text_rules.specs.MpsWords.{is_huge, is_too_fine, bound_number}
use Rattle.cip_text_rules.specs.LpWords.{LpPart, NoPart, Costs, Constraints, Bounds, Generals, Binaries, End, Relation, AtMost, EqualTo, AtLeast}
use Rattle.cip_text_rules.specs.LpTokens.{Token, Opening, OutsideSection, Free, Infinite, Number, Name, Sign, Colon, Relates, BadToken}
use Rattle.cip_text_rules.specs.LpPlaces.{Amount, amount_of, unit, Limit, Near, Far, limit_of, is_equality, agree, flipped, Given, goes_on, Place, Start, Labelled, FirstName, FirstSign, FirstNumber, SecondStart, SecondSign, SecondNumber, SecondName, AfterTerm, TermSign, TermNumber, LastDue, LastSign, BoundName, BoundDue, BoundSign, LimitSign, LimitRead, LimitDue, BoundedName, Where, Event, Opens, NamesObjective, Begins, AddsCost, AddsConstant, Adds, Ends, Mentions, SetsLow, SetsHigh, SetsBoth, MakesWhole, MakesBinary, Reads, fails, moves, says, says_both}

-- ---- tokens that settle what stands before

-- a name, a relation and `:`
abbrev pub is_name : Token → Bool
is_name (Name name) = true
is_name other = false

abbrev pub is_colon : Token → Bool
is_colon Colon = true
is_colon other = false

-- a relation goes on from another, behind the number 0
abbrev pub goes_behind : Given → Amount → Token → Bool
goes_behind given amount (Relates relation) = amount.zero && agree given.relation relation
goes_behind given amount other = false

-- the low and the high side of a form with this relation to a value, behind another value and relation or none
abbrev pub low_side : Relation → ℚ → Option ℚ
low_side AtMost value = None
low_side other value = Some value

abbrev pub high_side : Relation → ℚ → Option ℚ
high_side AtLeast value = None
high_side other value = Some value

-- the sides of a row; a first value is one of them, by its relation read from the other end
abbrev pub row_ends : Option Given → Relation → ℚ → Event
row_ends None relation value = Ends (low_side relation value) (high_side relation value)
row_ends (Some given) AtMost value = Ends (Some given.amount.value) (Some value)
row_ends (Some given) other value = Ends (Some value) (Some given.amount.value)

-- the row of the form 0, which stands first
abbrev pub zero_ends : Given → Amount → Event
zero_ends given amount = row_ends None given.relation amount.value

-- ---- what the tokens before say

-- a name that begins a statement is that of a term, unless `:` stands behind it
abbrev pub settled_cost : Where → Place → Token → Reads
settled_cost w (FirstName name) token =
    if is_colon token then moves w w.place else says (AddsCost (unit false) name) w (AfterTerm None)
settled_cost w (TermNumber given amount) token =
    if w.constant || is_name token then moves w w.place
    else says (AddsConstant amount) (record w { constant = true }) (AfterTerm None)
settled_cost w place token = moves w w.place

-- behind the form 0 a number may be the value of its row or the factor of a name; and that name may be the next row's
abbrev pub settled_row : Where → Place → Token → Reads
settled_row w (FirstName name) token =
    if is_colon token then moves w w.place
    else says_both (Begins None) (Adds (unit false) name) w (AfterTerm None)
settled_row w (SecondNumber given amount) token =
    if not given.amount.zero || ((is_name token && not (is_equality given.relation)) || goes_behind given amount token)
    then moves w w.place
    else says (zero_ends given amount) w Start
settled_row w (SecondName given amount name) token =
    if is_colon token then says (zero_ends given amount) w (FirstName name)
    else says (Adds amount name) w (AfterTerm (Some given))
settled_row w place token = moves w w.place

-- what they say in a section
abbrev pub settled_in : LpPart → Where → Place → Token → Reads
settled_in (Costs maximized) w place token = settled_cost w place token
settled_in Constraints w place token = settled_row w place token
settled_in other w place token = moves w place

-- what they say
abbrev pub settled : Where → Token → Reads
settled w token = settled_in w.part w w.place token

-- ---- numbers

-- the kind of a number that has no value
abbrev pub number_kind : Numeral → ℕ
number_kind numeral = if is_huge numeral then 4 else 5

-- what a number says that has a value, or its fault
abbrev pub with_value : Where → Option ℚ → Numeral → Reads → Reads
with_value w None numeral reads = fails w (number_kind numeral)
with_value w (Some value) numeral reads = reads

-- a number of a row or of the objective
abbrev pub with_number : Where → List ℕ → Reads → Reads
with_number w text reads = with_value w (value_of (numeral_of text)) (numeral_of text) reads

-- that number behind a sign
abbrev pub amount_in : Bool → List ℕ → Amount
amount_in minus text = amount_of minus (numeral_of text)

-- the value of a bound behind a sign
abbrev pub limit_in : Bool → List ℕ → Limit
limit_in minus text = limit_of minus (value_of (bound_number text))

-- a value of a bound; 10^20 and more are infinity
abbrev pub with_limit : Where → List ℕ → Reads → Reads
with_limit w text reads = if is_too_fine (bound_number text) then fails w 5 else reads

-- ---- the objective

-- a token of the objective
abbrev pub cost_read : Where → Place → Token → Reads
cost_read w Start (Name name) = moves w (FirstName name)
cost_read w Start (Sign minus) = moves w (TermSign None minus)
cost_read w Start (Number text) = with_number w text (moves w (TermNumber None (amount_in false text)))
cost_read w Labelled (Name name) = says (AddsCost (unit false) name) w (AfterTerm None)
cost_read w Labelled (Sign minus) = moves w (TermSign None minus)
cost_read w Labelled (Number text) = with_number w text (moves w (TermNumber None (amount_in false text)))
cost_read w (FirstName name) Colon = says (NamesObjective name) w Labelled
cost_read w (AfterTerm given) (Sign minus) = moves w (TermSign None minus)
cost_read w (TermSign given minus) (Name name) = says (AddsCost (unit minus) name) w (AfterTerm None)
cost_read w (TermSign given minus) (Number text) =
    with_number w text (moves w (TermNumber None (amount_in minus text)))
cost_read w (TermNumber given amount) (Name name) = says (AddsCost amount name) w (AfterTerm None)
cost_read w place token = fails w 3

-- ---- rows

-- a first relation, behind a number: `=` only where the number is the form 0
abbrev pub first_related : Where → Amount → Relation → Reads
first_related w amount relation =
    if is_equality relation && not amount.zero then fails w 3
    else moves w (SecondStart (record { amount = amount; relation = relation }))

-- a term behind a first value and relation, which can't be `=`
abbrev pub second_term : Where → Given → Amount → List ℕ → Reads
second_term w given amount name =
    if is_equality given.relation then fails w 3 else says (Adds amount name) w (AfterTerm (Some given))

-- a name behind a first value, a relation and a number
abbrev pub second_name : Where → Given → Amount → List ℕ → Reads
second_name w given amount name =
    if given.amount.zero then moves w (SecondName given amount name) else second_term w given amount name

-- a relation behind the form 0 between two values
abbrev pub second_related : Where → Given → Amount → Relation → Reads
second_related w given amount relation =
    if amount.zero && agree given.relation relation then moves w (LastDue (Some given) relation) else fails w 3

-- a relation behind a form
abbrev pub form_related : Where → Option Given → Relation → Reads
form_related w given relation = if goes_on given relation then moves w (LastDue given relation) else fails w 3

-- the value that ends a row
abbrev pub last_value : Where → Option Given → Relation → Amount → List ℕ → Reads
last_value w given relation amount text = with_number w text (says (row_ends given relation amount.value) w Start)

-- a token where a form or a value may begin a row
abbrev pub front_read : Where → Token → Reads
front_read w (Name name) = says (Adds (unit false) name) w (AfterTerm None)
front_read w (Sign minus) = moves w (FirstSign minus)
front_read w (Number text) = with_number w text (moves w (FirstNumber (amount_in false text)))
front_read w token = fails w 3

-- a token of a row
abbrev pub row_read : Where → Place → Token → Reads
row_read w Start (Name name) = moves w (FirstName name)
row_read w Start (Sign minus) = says (Begins None) w (FirstSign minus)
row_read w Start (Number text) = with_number w text (says (Begins None) w (FirstNumber (amount_in false text)))
row_read w (FirstName name) Colon = says (Begins (Some name)) w Labelled
row_read w Labelled token = front_read w token
row_read w (FirstSign minus) (Name name) = says (Adds (unit minus) name) w (AfterTerm None)
row_read w (FirstSign minus) (Number text) = with_number w text (moves w (FirstNumber (amount_in minus text)))
row_read w (FirstNumber amount) (Name name) = says (Adds amount name) w (AfterTerm None)
row_read w (FirstNumber amount) (Relates relation) = first_related w amount relation
row_read w (SecondStart given) (Name name) = second_term w given (unit false) name
row_read w (SecondStart given) (Sign minus) = moves w (SecondSign given minus)
row_read w (SecondStart given) (Number text) =
    with_number w text (moves w (SecondNumber given (amount_in false text)))
row_read w (SecondSign given minus) (Name name) = second_term w given (unit minus) name
row_read w (SecondSign given minus) (Number text) =
    with_number w text (moves w (SecondNumber given (amount_in minus text)))
row_read w (SecondNumber given amount) (Name name) = second_name w given amount name
row_read w (SecondNumber given amount) (Relates relation) = second_related w given amount relation
row_read w (AfterTerm given) (Sign minus) = moves w (TermSign given minus)
row_read w (AfterTerm given) (Relates relation) = form_related w given relation
row_read w (TermSign given minus) (Name name) = says (Adds (unit minus) name) w (AfterTerm given)
row_read w (TermSign given minus) (Number text) =
    with_number w text (moves w (TermNumber given (amount_in minus text)))
row_read w (TermNumber given amount) (Name name) = says (Adds amount name) w (AfterTerm given)
row_read w (LastDue given relation) (Sign minus) = moves w (LastSign given relation minus)
row_read w (LastDue given relation) (Number text) = last_value w given relation (amount_in false text) text
row_read w (LastSign given relation minus) (Number text) = last_value w given relation (amount_in minus text) text
row_read w place token = fails w 3

-- ---- bounds

-- a value isn't a bound on this side: a high side is left out upwards, a low side downwards, both not at all
abbrev pub is_wrong : Relation → Limit → Bool
is_wrong relation (Near value) = false
is_wrong AtMost (Far minus) = minus
is_wrong EqualTo (Far minus) = true
is_wrong AtLeast (Far minus) = not minus

-- the side that a limit is
abbrev pub side_of : Limit → Option ℚ
side_of (Near value) = Some value
side_of (Far minus) = None

-- a column with this relation to a value
abbrev pub bound_set : List ℕ → Relation → Limit → Event
bound_set name AtMost limit = SetsHigh name (side_of limit)
bound_set name EqualTo limit = SetsBoth name (side_of limit)
bound_set name AtLeast limit = SetsLow name (side_of limit)

-- the value behind a name and a relation
abbrev pub bound_value : Where → List ℕ → Relation → Limit → Reads
bound_value w name relation limit =
    if is_wrong relation limit then fails w 11 else says (bound_set name relation limit) w Start

-- the relation behind a value
abbrev pub limit_related : Where → Limit → Relation → Reads
limit_related w limit relation =
    if is_wrong (flipped relation) limit then fails w 11 else moves w (LimitDue limit relation)

-- a second relation
abbrev pub bound_related : Where → List ℕ → Relation → Relation → Reads
bound_related w name first relation = if agree first relation then moves w (BoundDue name relation) else fails w 3

-- a token where a statement of Bounds may begin
abbrev pub bound_front : Where → Token → Reads
bound_front w (Name name) = says (Mentions name) w (BoundName name)
bound_front w (Sign minus) = moves w (LimitSign minus)
bound_front w (Number text) = with_limit w text (moves w (LimitRead (limit_in false text)))
bound_front w (Infinite text) = with_limit w text (moves w (LimitRead (limit_in false text)))
bound_front w token = fails w 3

-- a token of Bounds
abbrev pub bound_read : Where → Place → Token → Reads
bound_read w Start token = bound_front w token
bound_read w (BoundName name) Free = says (SetsBoth name None) w Start
bound_read w (BoundName name) (Relates relation) = moves w (BoundDue name relation)
bound_read w (BoundDue name relation) (Sign minus) = moves w (BoundSign name relation minus)
bound_read w (BoundDue name relation) (Number text) =
    with_limit w text (bound_value w name relation (limit_in false text))
bound_read w (BoundDue name relation) (Infinite text) =
    with_limit w text (bound_value w name relation (limit_in false text))
bound_read w (BoundSign name relation minus) (Number text) =
    with_limit w text (bound_value w name relation (limit_in minus text))
bound_read w (BoundSign name relation minus) (Infinite text) =
    with_limit w text (bound_value w name relation (limit_in minus text))
bound_read w (LimitSign minus) (Number text) = with_limit w text (moves w (LimitRead (limit_in minus text)))
bound_read w (LimitSign minus) (Infinite text) = with_limit w text (moves w (LimitRead (limit_in minus text)))
bound_read w (LimitRead limit) (Relates relation) = limit_related w limit relation
bound_read w (LimitDue limit relation) (Name name) =
    says_both (Mentions name) (bound_set name (flipped relation) limit) w (BoundedName name relation)
bound_read w (BoundedName name first) (Relates relation) = bound_related w name first relation
bound_read w (BoundedName name first) token = bound_front w token
bound_read w place token = fails w 3

-- ---- whole columns

-- a token of Generals
abbrev pub general_read : Where → Token → Reads
general_read w (Name name) = says_both (Mentions name) (MakesWhole name) w Start
general_read w token = fails w 3

-- a token of Binaries
abbrev pub binary_read : Where → Token → Reads
binary_read w (Name name) = says_both (Mentions name) (MakesBinary name) w Start
binary_read w token = fails w 3

-- ---- sections

-- a statement of a section may end here
abbrev pub may_end : LpPart → Place → Bool
may_end (Costs maximized) (AfterTerm given) = true
may_end (Costs maximized) other = false
may_end Bounds (BoundedName name relation) = true
may_end other Start = true
may_end other place = false

-- the objective is behind
abbrev pub is_past : LpPart → Bool
is_past NoPart = false
is_past (Costs maximized) = false
is_past other = true

-- no section was opened
abbrev pub is_before : LpPart → Bool
is_before NoPart = true
is_before other = false

-- the section of the objective
abbrev pub is_costs : LpPart → Bool
is_costs (Costs maximized) = true
is_costs other = false

-- a section that can't be opened here: it is opened again or too late, or another stands before it
abbrev pub is_out_of_order : Where → LpPart → Bool
is_out_of_order w NoPart = true
is_out_of_order w (Costs maximized) = not (is_before w.part)
is_out_of_order w Constraints = not (is_costs w.part)
is_out_of_order w Bounds = not (is_past w.part) || w.bounds
is_out_of_order w Generals = not (is_past w.part) || w.generals
is_out_of_order w Binaries = not (is_past w.part) || w.binaries
is_out_of_order w End = not (is_past w.part)

-- the first token of a section stands here
abbrev pub opened : Where → LpPart → Where
opened w Bounds = record w { part = Bounds; bounds = true; place = Start }
opened w Generals = record w { part = Generals; generals = true; place = Start }
opened w Binaries = record w { part = Binaries; binaries = true; place = Start }
opened w part = record w { part = part; place = Start }

-- a section word
abbrev pub section_read : Where → LpPart → Reads
section_read w part =
    if is_out_of_order w part then fails w 2
    else if may_end w.part w.place then record { events = Opens part ∷ []; next = opened w part } else fails w 3

-- the word of a section that isn't in the profile
abbrev pub outside_read : Where → Reads
outside_read w =
    if not (is_past w.part) then fails w 2 else if may_end w.part w.place then fails w 11 else fails w 3

-- any other token, by its section
abbrev pub read_in : LpPart → Where → Token → Reads
read_in NoPart w token = fails w 2
read_in (Costs maximized) w token = cost_read w w.place token
read_in Constraints w token = row_read w w.place token
read_in Bounds w token = bound_read w w.place token
read_in Generals w token = general_read w token
read_in Binaries w token = binary_read w token
read_in End w token = fails w 2

-- what a token says
abbrev pub read : Where → Token → Reads
read w BadToken = fails w 1
read w (Opening part) = section_read w part
read w OutsideSection = outside_read w
read w token = read_in w.part w token

-- ---- the whole

-- what is said once a token is known, by those before and by itself
abbrev pub events_of : Where → Token → List Event
events_of w token = (settled w token).events ++ (read (settled w token).next token).events

-- where the next token stands
abbrev pub place_after : Where → Token → Where
place_after w token = (read (settled w token).next token).next

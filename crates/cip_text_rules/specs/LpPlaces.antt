-- Where a token of an LP text stands, and what tokens say.
use Rattle.std.specs.Prelude.{ℕ, Bool, true, false, if◌then◌else◌, List, [], ◌∷◌, Option, None, Some}
use Rattle.cip_rational.specs.Rational.{ℚ, oneℚ, negate}
use Rattle.cip_rational.specs.Numeral.{Numeral}
use Rattle.cip_text_rules.specs.MpsWords.{is_zero}
use Rattle.cip_text_rules.specs.MpsProgram.{number}
use Rattle.cip_text_rules.specs.LpWords.{LpPart, NoPart, Relation, AtMost, EqualTo, AtLeast}

-- ---- values

-- a number with its sign, and whether it is 0
pub record Amount : Type 0 where
  pub value : ℚ
  pub zero : Bool

-- a value with this sign
abbrev pub signed_by : Bool → ℚ → ℚ
signed_by minus value = if minus then negate value else value

-- a number behind a sign
abbrev pub amount_of : Bool → Numeral → Amount
amount_of minus numeral = record { value = signed_by minus (number numeral); zero = is_zero numeral }

-- the factor of a name without a number
abbrev pub unit : Bool → Amount
unit minus = record { value = signed_by minus oneℚ; zero = false }

-- the value of a bound; or infinity, upwards or downwards
pub data Limit : Type 0 where
  Near : (value : ℚ) → Limit
  Far : (minus : Bool) → Limit

-- such a value behind a sign
abbrev pub limit_of : Bool → Option ℚ → Limit
limit_of minus None = Far minus
limit_of minus (Some value) = Near (signed_by minus value)

-- ---- relations

-- `=`
abbrev pub is_equality : Relation → Bool
is_equality EqualTo = true
is_equality other = false

-- both point the same way, and none is `=`
abbrev pub agree : Relation → Relation → Bool
agree AtMost AtMost = true
agree AtLeast AtLeast = true
agree other another = false

-- a relation read from its other end
abbrev pub flipped : Relation → Relation
flipped AtMost = AtLeast
flipped EqualTo = EqualTo
flipped AtLeast = AtMost

-- a value and the relation behind it
pub record Given : Type 0 where
  pub amount : Amount
  pub relation : Relation

-- a second relation points the same way as the first
abbrev pub goes_on : Option Given → Relation → Bool
goes_on None relation = true
goes_on (Some given) relation = agree given.relation relation

-- ---- places

-- where a token stands in its statement
pub data Place : Type 0 where
  -- a statement may begin; its name was read; and it began with this name, of itself or of a column
  Start : Place
  Labelled : Place
  FirstName : (name : List ℕ) → Place
  -- a row begins with a sign, or with this number
  FirstSign : (minus : Bool) → Place
  FirstNumber : (amount : Amount) → Place
  -- behind a value and a relation: nothing, a sign, a number, or a number and a name
  SecondStart : (given : Given) → Place
  SecondSign : (given : Given) (minus : Bool) → Place
  SecondNumber : (given : Given) (amount : Amount) → Place
  SecondName : (given : Given) (amount : Amount) (name : List ℕ) → Place
  -- in a form, behind a value and a relation or not: a term, a sign, a sign and a number
  AfterTerm : (given : Option Given) → Place
  TermSign : (given : Option Given) (minus : Bool) → Place
  TermNumber : (given : Option Given) (amount : Amount) → Place
  -- behind the form and its relation: nothing, or a sign
  LastDue : (given : Option Given) (relation : Relation) → Place
  LastSign : (given : Option Given) (relation : Relation) (minus : Bool) → Place
  -- in Bounds: a name, and behind it a relation and a sign
  BoundName : (name : List ℕ) → Place
  BoundDue : (name : List ℕ) (relation : Relation) → Place
  BoundSign : (name : List ℕ) (relation : Relation) (minus : Bool) → Place
  -- a sign, a value, a relation behind it, and a name behind that
  LimitSign : (minus : Bool) → Place
  LimitRead : (limit : Limit) → Place
  LimitDue : (limit : Limit) (relation : Relation) → Place
  BoundedName : (name : List ℕ) (relation : Relation) → Place

-- the section of a token, which of the optional ones were opened, whether the objective has its constant, and the place
pub record Where : Type 0 where
  pub part : LpPart
  pub bounds : Bool
  pub generals : Bool
  pub binaries : Bool
  pub constant : Bool
  pub place : Place

-- a text begins in no section
abbrev pub no_where : Where
no_where = record {
  part = NoPart;
  bounds = false;
  generals = false;
  binaries = false;
  constant = false;
  place = Start;
}

-- another place of the section
abbrev pub at : Where → Place → Where
at w place = record w { place = place }

-- ---- what tokens say

-- a fault of this kind that hangs on nothing else; a section; the objective's name; a row with this name or none; a
-- term of the objective, its constant, a term of a row, the two sides that end a row; a column that is named; a low
-- side, a high side, both; a column that is whole, and one that is whole from 0 to 1
pub data Event : Type 0 where
  Fails : (kind : ℕ) → Event
  Opens : (part : LpPart) → Event
  NamesObjective : (name : List ℕ) → Event
  Begins : (name : Option (List ℕ)) → Event
  AddsCost : (amount : Amount) (name : List ℕ) → Event
  AddsConstant : (amount : Amount) → Event
  Adds : (amount : Amount) (name : List ℕ) → Event
  Ends : (low high : Option ℚ) → Event
  Mentions : (name : List ℕ) → Event
  SetsLow : (name : List ℕ) (side : Option ℚ) → Event
  SetsHigh : (name : List ℕ) (side : Option ℚ) → Event
  SetsBoth : (name : List ℕ) (side : Option ℚ) → Event
  MakesWhole : (name : List ℕ) → Event
  MakesBinary : (name : List ℕ) → Event

-- what a token says, and where the next one stands
pub record Reads : Type 0 where
  pub events : List Event
  pub next : Where

-- a token with a fault of this kind
abbrev pub fails : Where → ℕ → Reads
fails w kind = record { events = Fails kind ∷ []; next = w }

-- a token that says nothing yet
abbrev pub moves : Where → Place → Reads
moves w place = record { events = []; next = at w place }

-- a token that says one thing
abbrev pub says : Event → Where → Place → Reads
says event w place = record { events = event ∷ []; next = at w place }

-- a token that says two things
abbrev pub says_both : Event → Event → Where → Place → Reads
says_both first second w place = record { events = first ∷ second ∷ []; next = at w place }

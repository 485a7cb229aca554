-- Where a token stands, as the code keeps it.
--     where_of statements      the section and the place of the next token
use Rattle.std.specs.Prelude.{Bool, not, ◌&&◌, ◌||◌, if◌then◌else◌, Option, None, Some}
use Rattle.cip_text_rules.specs.LpTokens.{Token}
use Rattle.cip_text_rules.specs.LpPlaces as places
use Rattle.cip_text_rules.specs.LpGrammar.{is_name, goes_behind}
use Rattle.cip_text_rules.specs.LpOutcome.{LpContext}
use Rattle.cip_lp.specs.LpKinds.{part_shown, relation_shown}
use Rattle.cip_lp.specs.LpLimits.{limit_shown}
use Rattle.cip_lp.specs.declared.places.Stage.{Stage}
use Rattle.cip_lp.specs.declared.places.Stage.TheVariants.{Start, Labelled, FirstName, FirstSign, FirstNumber, SecondStart, SecondSign, SecondNumber, SecondName, AfterTerm, TermSign, TermNumber, LastDue, LastSign, BoundName, BoundDue, BoundSign, LimitSign, LimitRead, LimitDue, BoundedName}
use Rattle.cip_lp.specs.declared.places.Place.{Place}
use Rattle.cip_lp.specs.declared.statements.Statements.{Statements}

-- the value and the relation in front of a form
abbrev pub first_of : Place → places.Given
first_of place = record { amount = place.first; relation = relation_shown place.first_relation }

-- they stand there, or not
abbrev pub given_of : Place → Option places.Given
given_of place = if place.given then Some (first_of place) else None

-- a token goes on with a row that begins with a value, a relation and a number
abbrev pub goes_on_with : places.Given → places.Amount → Token → Bool
goes_on_with given amount token =
    not given.amount.zero
    || ((is_name token && not (places.is_equality given.relation)) || goes_behind given amount token)

-- the place of the next token, by its stage
abbrev pub place_at : Stage → Place → places.Place
place_at Start place = places.Start
place_at Labelled place = places.Labelled
place_at FirstName place = places.FirstName place.name.items
place_at FirstSign place = places.FirstSign place.minus
place_at FirstNumber place = places.FirstNumber place.amount
place_at SecondStart place = places.SecondStart (first_of place)
place_at SecondSign place = places.SecondSign (first_of place) place.minus
place_at SecondNumber place = places.SecondNumber (first_of place) place.amount
place_at SecondName place = places.SecondName (first_of place) place.amount place.name.items
place_at AfterTerm place = places.AfterTerm (given_of place)
place_at TermSign place = places.TermSign (given_of place) place.minus
place_at TermNumber place = places.TermNumber (given_of place) place.amount
place_at LastDue place = places.LastDue (given_of place) (relation_shown place.relation)
place_at LastSign place = places.LastSign (given_of place) (relation_shown place.relation) place.minus
place_at BoundName place = places.BoundName place.name.items
place_at BoundDue place = places.BoundDue place.name.items (relation_shown place.relation)
place_at BoundSign place = places.BoundSign place.name.items (relation_shown place.relation) place.minus
place_at LimitSign place = places.LimitSign place.minus
place_at LimitRead place = places.LimitRead (limit_shown place.limit)
place_at LimitDue place = places.LimitDue (limit_shown place.limit) (relation_shown place.relation)
place_at BoundedName place = places.BoundedName place.name.items (relation_shown place.relation)

-- the section and the place of the next token
abbrev pub where_of : Statements → places.Where
where_of statements = record {
  part = part_shown statements.part;
  bounds = statements.bounds;
  generals = statements.generals;
  binaries = statements.binaries;
  constant = statements.constant;
  place = place_at statements.place.stage statements.place;
}

-- with what was said before
abbrev pub context_of : Statements → LpContext
context_of statements = record { where_ = where_of statements; facts = statements.draft }

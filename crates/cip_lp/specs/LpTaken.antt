-- What is taken of a token.
use Rattle.std.specs.Prelude.{◌≡◌, ℕ, Option, None}
use Rattle.cip_text_rules.specs.LpTokens.{Token}
use Rattle.cip_text_rules.specs.LpPlaces.{Reads}
use Rattle.cip_text_rules.specs.LpFacts.{first_fault, facts_after}
use Rattle.cip_text_rules.specs.LpOutcome.{token_fault, context_with}
use Rattle.cip_lp.specs.LpEvents.{IsLpKind}
use Rattle.cip_lp.specs.declared.statements.Statements.{Statements}
use Rattle.cip_lp.specs.LpStages.{where_of, context_of}

-- what a token says has a fault of this kind; without fault it is taken
pub record AreTaken (old new : Statements) (reads : Reads) (kind : Option ℕ) : Type 0 where
  pub is_kind : kind ≡ first_fault old.draft reads.events
  pub taken : kind ≡ None → new.draft ≡ facts_after old.draft reads.events
  pub stands : kind ≡ None → where_of new ≡ reads.next
  pub few : IsLpKind kind

-- a token has a fault of this kind; without fault it is taken
pub record IsTokenTaken (old new : Statements) (token : Token) (kind : Option ℕ) : Type 0 where
  pub is_kind : kind ≡ token_fault (context_of old) token
  pub taken : kind ≡ None → context_of new ≡ context_with (context_of old) token
  pub few : IsLpKind kind

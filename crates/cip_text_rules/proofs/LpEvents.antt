-- The rules of what is said: their kinds rise, and without fault none is broken.
use Rattle.std.proofs.Common.{◌≡◌, ◌≤◌, true, false, None, refl, arith}
use Rattle.std.specs.Prelude.{nat_le}
use Rattle.std.proofs.lemmas.Bool.{and_from, le-leb}
use Rattle.std.specs.List.{AllByRecursion}
use Rattle.cip_text_rules.proofs.Quiet.{kept, rising}
use Rattle.cip_text_rules.specs.LpPlaces.{Event, Fails, Opens, NamesObjective, Begins, AddsCost, AddsConstant, Adds, Ends, Mentions, SetsLow, SetsHigh, SetsBoth, MakesWhole, MakesBinary}
use Rattle.cip_text_rules.specs.LpFacts.{LpFacts, event_rules, event_fault}

pub rules_rise : (facts : LpFacts) (event : Event) → rising 0 (event_rules facts event) ≡ true
rules_rise facts (Fails kind) = let h : 0 ≤ kind = omega arith in and_from (nat_le 0 kind) true (le-leb 0 kind h) refl
rules_rise facts (Opens part) = refl
rules_rise facts (NamesObjective name) = refl
rules_rise facts (Begins name) = refl
rules_rise facts (AddsCost amount name) = refl
rules_rise facts (AddsConstant amount) = refl
rules_rise facts (Adds amount name) = refl
rules_rise facts (Ends low high) = refl
rules_rise facts (Mentions name) = refl
rules_rise facts (SetsLow name side) = refl
rules_rise facts (SetsHigh name side) = refl
rules_rise facts (SetsBoth name side) = refl
rules_rise facts (MakesWhole name) = refl
rules_rise facts (MakesBinary name) = refl

-- without fault no rule is broken
pub unbroken : (facts : LpFacts) (event : Event) → event_fault facts event ≡ None → AllByRecursion (λ r. r.broken ≡ false) (event_rules facts event)
unbroken facts event e = kept (event_rules facts event) e

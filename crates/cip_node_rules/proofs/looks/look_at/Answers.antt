use Rattle.std.proofs.lemmas.Grind.{common_steps}
use Rattle.std.proofs.Common.{arith, ◌≡◌, ◌∙◌, inl, true, false, Option, None, Some, MatchOption, sym, true≢false, inr, ap}
use Rattle.std.specs.Option.{is_some}
use Rattle.cip_node_rules.proofs.looks.look_at.Goals as goal

some_there : {A : Type 0} (o : Option A) (P : Type 0) (Q : A → Type 0) → MatchOption o P Q → is_some o ≡ true → (x : A) × Q x
some_there (Some x) P Q h e = (x, h)
some_there None P Q h e = absurd (true≢false (sym e))

none_there : {A : Type 0} (o : Option A) (P : Type 0) (Q : A → Type 0) → MatchOption o P Q → is_some o ≡ false → P
none_there (Some x) P Q h e = absurd (true≢false e)
none_there None P Q h e = h

pub returns-in-Some : goal.returns-in-Some
returns-in-Some c = (
  none_there c.lacking_column.result _ _ c.lacking_column.ensures (sym c.is_some.ensures ∙ c.if-is_some.false),
  inr (some_there c.choice_column.result _ _ c.choice_column.ensures (ap is_some c.in-Some.is)),
)

pub returns-in-None : goal.returns-in-None
returns-in-None c = grind (arith, common_steps)

pub returns-then-is_some-2 : goal.returns-then-is_some-2
returns-then-is_some-2 c = (
  none_there c.lacking_column.result _ _ c.lacking_column.ensures (sym c.is_some.ensures ∙ c.if-is_some.false),
  inl (some_there c.open_column.result _ _ c.open_column.ensures (sym c.is_some-2.ensures ∙ c.if-is_some-2.true)),
)

pub choice_column-requires : goal.choice_column-requires
choice_column-requires c = grind (arith, common_steps)

pub open_column-requires-clause-long : goal.open_column-requires-clause-long
open_column-requires-clause-long c = grind (arith, common_steps)

pub open_column-requires-clause-columns : goal.open_column-requires-clause-columns
open_column-requires-clause-columns c = grind (arith, common_steps)

pub lacking_column-requires-clause-long : goal.lacking_column-requires-clause-long
lacking_column-requires-clause-long c = grind (arith, common_steps)

pub lacking_column-requires-clause-columns : goal.lacking_column-requires-clause-columns
lacking_column-requires-clause-columns c = grind (arith, common_steps)

pub returns-then-is_some : goal.returns-then-is_some
returns-then-is_some c =
    some_there c.lacking_column.result _ _ c.lacking_column.ensures (sym c.is_some.ensures ∙ c.if-is_some.true)

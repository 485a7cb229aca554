use Rattle.std.proofs.lemmas.Grind.{common_steps}
use Rattle.std.proofs.Common.{ℕ, List, Option, Vec, Global, sym, ap, arith}
use Rattle.std.specs.Prelude.{option_map}
use Rattle.cip_lp.specs.LpDrafts.{facts_in}
use Rattle.cip_lp.proofs.KeptLaws.{row_ended, row_left, ended_is}
use Rattle.cip_lp.proofs.draft.LpDraft.end_row.Goals as goal

abbrev items_of : Option (Vec ℕ Global) → Option (List ℕ)
items_of name = option_map (λ (n : Vec ℕ Global). n.items) name

pub invariant_of-self-2 : goal.invariant_of-self-2
invariant_of-self-2 c =
    row_ended c.put_row.result (facts_in c.self.inside) c.in-Some.name.items c.args.low c.args.high c.in-Ok.row
    c.put_row.new.names c.put_row.new.rows.items (items_of c.take.new.self) c.take_row.new.self c.self.invariant
    (ap items_of (sym c.in-Some.ensures.value))
    c.in-Ok.ensures.row
    c.put_row.ensures.ok
    c.put_row.ensures.err
    (ap items_of c.in-Some.ensures.after) c.in-Ok.ensures.left

pub put_row-requires : goal.put_row-requires
put_row-requires c = grind (arith, common_steps)

pub returns-in_default : goal.returns-in_default
returns-in_default c = grind (arith, common_steps)

pub invariant_of-self : goal.invariant_of-self
invariant_of-self c = grind (arith, common_steps)

pub take_row-requires : goal.take_row-requires
take_row-requires c = grind (arith, common_steps)

pub returns-in_default-take_row : goal.returns-in_default-take_row
returns-in_default-take_row c = grind (arith, common_steps)

pub invariant_of-self-in_default-take_row : goal.invariant_of-self-in_default-take_row
invariant_of-self-in_default-take_row c = row_left (facts_in c.self.inside)
    (option_map (λ name. name.items) c.take.new.self) c.take_row.new.self
    (ap (option_map (λ name. name.items)) c.take.ensures.after) c.in_default-take_row.ensures.left c.self.invariant

pub returns : goal.returns
returns c =
    ended_is c.put_row.result (facts_in c.self.inside) c.args.self.now c.in-Some.name.items c.args.low c.args.high
    c.in-Ok.row
    c.put_row.new.names c.put_row.new.rows.items (items_of c.take.new.self) c.take_row.new.self c.self.view_is
    (ap items_of (sym c.in-Some.ensures.value)) c.in-Ok.ensures.row c.put_row.ensures.ok
    (ap items_of c.in-Some.ensures.after) c.in-Ok.ensures.left

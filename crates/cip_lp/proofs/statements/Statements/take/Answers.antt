use Rattle.std.proofs.Common.{◌≡◌, ◌∙◌, true, false, sym}
use Rattle.std.specs.Prelude.{is_some}
use Rattle.cip_lp.specs.LpLines.{token_shown}
use Rattle.cip_lp.proofs.TakenLaws.{settled_fault, each_taken}
use Rattle.cip_lp.proofs.statements.Statements.take.Goals as goal

pub returns-then-is_some : goal.returns-then-is_some
returns-then-is_some c =
    let e : is_some c.in_ok-kind.kind ≡ true = sym c.is_some.ensures ∙ c.if-is_some.true in
    settled_fault c.args.self.now c.settle.new.self (token_shown c.args.token) c.in_ok-kind.kind e c.in_ok-kind.ensures

pub returns : goal.returns
returns c =
    let e : is_some c.in_ok-kind.kind ≡ false = sym c.is_some.ensures ∙ c.if-is_some.false in
    each_taken c.args.self.now c.settle.new.self c.read.new.self (token_shown c.args.token) c.in_ok-kind.kind c.read.result e c.in_ok-kind.ensures c.read.ensures

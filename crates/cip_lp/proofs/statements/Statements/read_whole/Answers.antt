use Rattle.std.proofs.Common.{refl, sym, ◌∙◌}
use Rattle.cip_text_rules.specs.LpPlaces.{Mentions, MakesBinary, MakesWhole}
use Rattle.cip_lp.proofs.ReadLaws.{both_done, whole_failed, whole_read, binary_read_by}
use Rattle.cip_lp.proofs.statements.Statements.read_whole.Goals as goal

pub returns-then-is_some : goal.returns-then-is_some
returns-then-is_some c =
    whole_failed c.args.self.now _ c.args.token c.in-Name.name c.args.binary c.in_ok-kind.kind c.in-Name.is
    (sym c.is_some.ensures ∙ c.if-is_some.true) c.in_ok-kind.ensures

pub returns-then-binary : goal.returns-then-binary
returns-then-binary c =
    both_done c.args.self.now _ _ c.mention.new.self (Mentions c.in-Name.name.now) (MakesBinary c.in-Name.name.now) _
    c.in_ok-kind.kind (binary_read_by c.args.self.now c.args.token c.in-Name.name c.args.binary c.in-Name.is
    c.if-binary.true)
    (sym c.is_some.ensures ∙ c.if-is_some.false) c.in_ok-kind.ensures refl c.make_binary.ensures refl

pub returns-else-binary : goal.returns-else-binary
returns-else-binary c =
    both_done c.args.self.now _ _ c.mention.new.self (Mentions c.in-Name.name.now) (MakesWhole c.in-Name.name.now) _
    c.in_ok-kind.kind (whole_read c.args.self.now c.args.token c.in-Name.name c.args.binary c.in-Name.is
    c.if-binary.false)
    (sym c.is_some.ensures ∙ c.if-is_some.false) c.in_ok-kind.ensures refl c.make_whole.ensures refl

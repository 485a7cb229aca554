use Rattle.std.proofs.Common.{ap, length, arith}
use Rattle.cip_dict.proofs.FormParts.{whole_all, parted_all}
use Rattle.cip_dict.proofs.WholeParts.{length_over}
use Rattle.cip_dict.proofs.forms.Form.kept_len.Goals as goal

pub returns-then-self : goal.returns-then-self
returns-then-self c =
    let l = ap length (whole_all c.self.inside.len c.self.inside.is_whole c.self.inside.below c.self.inside.wholes.items c.self.inside.entries.items c.args.self.now c.self.invariant c.self.view_is c.if-self.true) in
    omega (arith, l, length_over c.self.inside.below c.self.inside.wholes.items, c.len.ensures, c.self.inside.wholes.ok.0)

pub returns-else-self : goal.returns-else-self
returns-else-self c =
    let l = ap length (parted_all c.self.inside.len c.self.inside.is_whole c.self.inside.below c.self.inside.wholes.items c.self.inside.entries.items c.args.self.now c.self.invariant c.self.view_is c.if-self.false) in
    omega (arith, l, c.len-else-self.ensures, c.self.inside.entries.ok.0)

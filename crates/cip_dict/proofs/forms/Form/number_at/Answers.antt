use Rattle.std.proofs.Common.{ap, length, arith}
use Rattle.cip_dict.proofs.FormParts.{whole_all}
use Rattle.cip_dict.proofs.WholeParts.{length_over}
use Rattle.cip_dict.proofs.forms.Form.number_at.Goals as goal

pub index-requires : goal.index-requires
index-requires c =
    let l = ap length (whole_all c.self.inside.len c.self.inside.is_whole c.self.inside.below c.self.inside.wholes.items c.self.inside.entries.items c.args.self.now c.self.invariant c.self.view_is c.if-self.true) in
    omega (arith, l, length_over c.self.inside.below c.self.inside.wholes.items, c.requires, c.self.inside.wholes.ok.0)

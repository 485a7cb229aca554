use Rattle.cip_mps_lines.proofs.words.bound_kind_of.Goals as goal

pub returns : goal.returns
returns c = c.bound_kind_among.ensures

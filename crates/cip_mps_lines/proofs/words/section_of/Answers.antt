use Rattle.cip_mps_lines.proofs.words.section_of.Goals as goal

pub returns : goal.returns
returns c = c.section_in.ensures

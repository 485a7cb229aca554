use Rattle.cip_lp.proofs.words.word_meaning.Goals as goal

pub returns : goal.returns
returns c = c.meaning_in.ensures

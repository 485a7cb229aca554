use Rattle.cip_solve.specs.Logs.{numbers_of}
use Rattle.cip_solve.proofs.Fits.{answer_fits}
use Rattle.cip_solve.proofs.laws.answers_fit.Goals as goal

pub returns : goal.returns
returns c = λ program nodes asked presolved alone log marks answer formed h. answer_fits program h.start nodes asked log (numbers_of marks) answer formed h.right

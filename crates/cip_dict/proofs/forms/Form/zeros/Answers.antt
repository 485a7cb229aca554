use Rattle.std.proofs.lemmas.Grind.{common_steps}
use Rattle.std.proofs.Common.{sym, ap, ◌∙◌, arith}
use Rattle.cip_dict.specs.SparseLines.{dense}
use Rattle.cip_dict.specs.WholeLines.{over}
use Rattle.cip_dict.proofs.Dense.{dense_none}
use Rattle.cip_dict.proofs.forms.Form.zeros.Goals as goal

pub returns : goal.returns
returns c = ap (λ ws. dense c.args.len (over 1 ws)) c.taken-wholes.ensures ∙ sym (dense_none c.args.len)

pub invariant_of-result : goal.invariant_of-result
invariant_of-result c = grind (arith, common_steps)

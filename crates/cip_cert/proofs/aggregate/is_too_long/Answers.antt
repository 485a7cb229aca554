use Rattle.std.proofs.Common.{◌≡◌, ◌+◌, nat_lt, ap, ◌∙◌, arith}
use Rattle.cip_node_rules.specs.RowRules.{most_multiples}
use Rattle.cip_cert.specs.Lent.{multiples_of, count_of}
use Rattle.cip_cert.proofs.aggregate.is_too_long.Goals as goal

pub returns : goal.returns
returns c =
    let count : c.len.result + c.len-2.result + c.len-3.result ≡ count_of (multiples_of c.args.combo.now) =
    omega (
      arith,
      c.len.ensures,
      c.args.combo.now.rows.ok.0,
      c.len-2.ensures,
      c.args.combo.now.lows.ok.0,
      c.len-3.ensures,
      c.args.combo.now.highs.ok.0,
    ) in
    c.are_too_many.ensures ∙ ap (nat_lt most_multiples) count

use Rattle.std.proofs.Common.{◌≡◌, take}
use Rattle.cip_text_rules.specs.LpFacts.{terms_of}
use Rattle.cip_lp.proofs.form.row_of.Given as goal

abbrev pub invariant-loop-number : goal.invariant-loop-number
invariant-loop-number l =
    l.row ≡ record { terms = terms_of (take l.number-index l.form); low = l.fn.low; high = l.fn.high }

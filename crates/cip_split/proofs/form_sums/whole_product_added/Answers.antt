use Rattle.std.proofs.Common.{◌≡◌, Ok, to_z-of_z, sym, ap, ◌∙◌}
use Rattle.cip_split.specs.SplitChecks.{number_of}
use Rattle.cip_split.proofs.SplitSteps.{number_is_wide, product_comes, product_fails}
use Rattle.cip_split.proofs.form_sums.whole_product_added.Goals as goal

pub returns-in-Err : goal.returns-in-Err
returns-in-Err c = number_is_wide c.args.sum c.args.factor c.args.number c.in-Err.fault (c.in-Err.ensures ∙ ap number_of (to_z-of_z c.ranges.number))

pub returns-then-add_product : goal.returns-then-add_product
returns-then-add_product c =
    let number : number_of c.args.number ≡ Ok c.in-Ok.number = sym (c.in-Ok.ensures ∙ ap number_of (to_z-of_z c.ranges.number)) in
    sym (product_comes c.args.sum c.args.factor c.in-Ok.number c.add_product.new.self c.args.number number c.if-add_product.ensures)

pub returns-else-add_product : goal.returns-else-add_product
returns-else-add_product c =
    let number : number_of c.args.number ≡ Ok c.in-Ok.number = sym (c.in-Ok.ensures ∙ ap number_of (to_z-of_z c.ranges.number)) in
    sym (product_fails c.args.sum c.args.factor c.in-Ok.number c.args.number number c.if-add_product.ensures.0)

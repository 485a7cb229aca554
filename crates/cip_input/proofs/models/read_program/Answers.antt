use Rattle.std.proofs.lemmas.Grind.{common_steps}
use Rattle.cip_io.specs.Store.{StoreTells}
use Rattle.std.proofs.lemmas.Str.Pattern.{ends_text}
use Rattle.std.proofs.Common.{◌≡◌, true, false, refl, sym, ap, inl, ◌∙◌, arith}
use Rattle.cip_blocks.proofs.PassedOn.{begun}
use Rattle.cip_lp.specs.LpKindTexts.{kind_number as lp_kind_number}
use Rattle.cip_lp.specs.LpReaders.{HasCome as HasLpCome}
use Rattle.cip_mps.specs.MpsKindTexts.{kind_number as mps_kind_number}
use Rattle.cip_mps.specs.MpsReaders.{HasCome as HasMpsCome}
use Rattle.cip_input.specs.declared.model_kinds.ModelKind.TheVariants.{Lp, Mps}
use Rattle.cip_input.specs.Models.{is_lp_kind, is_lp_name, model_kind_number}
use Rattle.cip_input.proofs.ModelTexts.{model_told, read_later}
use Rattle.cip_input.proofs.models.read_program.Goals as goal

pub returns-then-ends_with-clause-answer : goal.returns-then-ends_with-clause-answer
returns-then-ends_with-clause-answer g c =
    let lp : c.ends_with.result ≡ is_lp_name c.args.name.now = grind (arith, ends_text) in
    let old = g.S.Store.tells c.args.store.now in
    let new = g.S.Store.tells c.read_text.new.store in
    let chosen : StoreTells = record old { left = old.holds c.args.name.now } in
    read_later c.args.name.now _ old chosen new c.read_text.result refl refl
    (model_told lp_kind_number true c.args.name.now (sym lp ∙ c.if-ends_with.true) (λ kind made. made ≡ Lp kind)
    (λ kind made is. (ap model_kind_number is, ap is_lp_kind is)) chosen new c.read_text.result
    (c.read_text.ensures.read tt (λ reader begins. inl (begun HasLpCome (λ text. tt) reader tt (λ text. refl) begins))))

pub returns-else-ends_with-clause-answer : goal.returns-else-ends_with-clause-answer
returns-else-ends_with-clause-answer g c =
    let lp : c.ends_with.result ≡ is_lp_name c.args.name.now = grind (arith, ends_text) in
    let old = g.S.Store.tells c.args.store.now in
    let new = g.S.Store.tells c.read_text-else-ends_with.new.store in
    let chosen : StoreTells = record old { left = old.holds c.args.name.now } in
    read_later c.args.name.now _ old chosen new c.read_text-else-ends_with.result refl refl
    (model_told mps_kind_number false c.args.name.now (sym lp ∙ c.if-ends_with.false) (λ kind made. made ≡ Mps kind)
    (λ kind made is. (ap model_kind_number is, ap is_lp_kind is)) chosen new c.read_text-else-ends_with.result
    (c.read_text-else-ends_with.ensures.read tt (λ reader begins. inl (begun HasMpsCome (λ text. tt) reader tt (λ text. refl) begins))))

pub returns-else-ends_with-clause-holds : goal.returns-else-ends_with-clause-holds
returns-else-ends_with-clause-holds g c = c.read_text-else-ends_with.ensures.holds

pub returns-then-ends_with-clause-holds : goal.returns-then-ends_with-clause-holds
returns-then-ends_with-clause-holds g c = c.read_text.ensures.holds

pub ends_with-requires : goal.ends_with-requires
ends_with-requires g c = grind (arith, common_steps)

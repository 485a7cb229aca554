use Rattle.std.proofs.Common.{refl}
use Rattle.cip_io.specs.Store.{StoreTells}
use Rattle.cip_text_rules.specs.LineTexts.{HasResult, HasFault}
use Rattle.cip_blocks.proofs.PassedOn.{begun_or_spent}
use Rattle.cip_input.specs.PointRules.{point_reading}
use Rattle.cip_input.specs.PointKindTexts.{kind_number}
use Rattle.cip_input.specs.PointTexts.{program_of}
use Rattle.cip_input.specs.PointReaders.{HasCome}
use Rattle.cip_input.proofs.TextsTold.{later, text_told}
use Rattle.cip_input.proofs.points.read_point.Goals as goal

pub returns-clause-answer : goal.returns-clause-answer
returns-clause-answer g c =
    let program = c.args.program.now in
    let reading = point_reading program in
    let old = g.S.Store.tells c.args.store.now in
    let new = g.S.Store.tells c.read_text.new.store in
    let chosen : StoreTells = record old { left = old.holds c.args.name.now } in
    later (HasResult reading) (λ point. point.items) kind_number (HasFault reading) _ old chosen new c.read_text.result refl refl
    (text_told reading (λ point. point.items) kind_number chosen new c.read_text.result
    (c.read_text.ensures.read program (λ reader begins. begun_or_spent HasCome program_of reader program begins)))

pub returns-clause-holds : goal.returns-clause-holds
returns-clause-holds g c = c.read_text.ensures.holds

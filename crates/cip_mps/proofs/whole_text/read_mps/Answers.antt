use Rattle.std.proofs.Common.{[], refl}
use Rattle.cip_text.proofs.Begun.{begun}
use Rattle.cip_mps.specs.MpsReaders.{HasCome}
use Rattle.cip_mps.proofs.MpsAnswers.{whole_fault}
use Rattle.cip_mps.proofs.whole_text.read_mps.Goals as goal

pub returns-in-Err : goal.returns-in-Err
returns-in-Err c =
    let read = begun HasCome (λ text. tt) c.new-reader.result tt (λ text. refl) c.new-reader.ensures in
    whole_fault c.args.text.now _ _ c.in-Err.fault (c.in-Err.ensures.reads tt [] read)

pub returns-in-Ok : goal.returns-in-Ok
returns-in-Ok c =
    let read = begun HasCome (λ text. tt) c.new-reader.result tt (λ text. refl) c.new-reader.ensures in
    c.finish.ensures.reads tt c.args.text.now (c.in-Ok.ensures.reads tt [] read).0

use Rattle.std.proofs.lemmas.Grind.{common_steps}
use Rattle.std.proofs.Common.{◌≡◌, [], ◌++◌, ◌∙◌, subst, arith}
use Rattle.cip_io.specs.Sink.{PushesPart}
use Rattle.cip_report.specs.Writing.{Passes}
use Rattle.cip_report.proofs.WritingLemmas.{Passes-held, Passes-more, Writes-err, Writes-pushed}
use Rattle.cip_report.proofs.buffer.Buffer.write.Goals as goal

pub returns-clause-taken : goal.returns-clause-taken
returns-clause-taken g c =
    let same : c.put.new.self ≡ c.args.self.now = c.if-put.ensures.full in
    let kept : c.put-2.new.self ≡ c.flush.new.self = c.if-put-2.ensures.full in
    let empty : c.flush.new.self ≡ [] = c.in_ok-flush.ensures.empty in
    let flushed : Passes (g.K.Sink.tells c.args.out.now) (g.K.Sink.tells c.flush.new.out) c.args.self.now c.flush.new.self =
    subst (λ text. Passes (g.K.Sink.tells c.args.out.now) (g.K.Sink.tells c.flush.new.out) text c.flush.new.self) same c.in_ok-flush.ensures.taken in
    Writes-pushed c.push_all.result _ _ _ c.args.self.now c.flush.new.self c.args.bytes.now c.put-2.new.self flushed empty (kept ∙ empty) c.push_all.ensures.taken

pub returns-then-put-clause-taken : goal.returns-then-put-clause-taken
returns-then-put-clause-taken g c =
    let put : c.put.new.self ≡ c.args.self.now ++ c.args.bytes.now = c.if-put.ensures.put in
    Passes-held (g.K.Sink.tells c.args.out.now) (c.args.self.now ++ c.args.bytes.now) c.put.new.self put

pub returns-in_err-flush-clause-taken : goal.returns-in_err-flush-clause-taken
returns-in_err-flush-clause-taken g c =
    let same : c.put.new.self ≡ c.args.self.now = c.if-put.ensures.full in
    let part : PushesPart (g.K.Sink.tells c.args.out.now) (g.K.Sink.tells c.flush.new.out) c.args.self.now =
    subst (λ text. PushesPart (g.K.Sink.tells c.args.out.now) (g.K.Sink.tells c.flush.new.out) text) same c.in_err-flush.ensures.taken in
    Writes-err c.from_residual.result _ _ c.args.self.now c.args.bytes.now _ c.from_residual.ensures.0 part

pub returns-then-put-2-clause-taken : goal.returns-then-put-2-clause-taken
returns-then-put-2-clause-taken g c =
    let same : c.put.new.self ≡ c.args.self.now = c.if-put.ensures.full in
    let put : c.put-2.new.self ≡ c.flush.new.self ++ c.args.bytes.now = c.if-put-2.ensures.put in
    let flushed : Passes (g.K.Sink.tells c.args.out.now) (g.K.Sink.tells c.flush.new.out) c.args.self.now c.flush.new.self =
    subst (λ text. Passes (g.K.Sink.tells c.args.out.now) (g.K.Sink.tells c.flush.new.out) text c.flush.new.self) same c.in_ok-flush.ensures.taken in
    Passes-more _ _ _ c.args.self.now c.flush.new.self c.args.bytes.now c.put-2.new.self flushed
    (Passes-held (g.K.Sink.tells c.flush.new.out) (c.flush.new.self ++ c.args.bytes.now) c.put-2.new.self put)

pub returns-clause-faults : goal.returns-clause-faults
returns-clause-faults g c = grind (arith, common_steps)

pub returns-then-put-2-clause-faults : goal.returns-then-put-2-clause-faults
returns-then-put-2-clause-faults g c = grind (arith, common_steps)

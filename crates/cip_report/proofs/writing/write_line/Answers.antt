use Rattle.std.proofs.Common.{◌≡◌, ◌++◌, ◌∷◌, [], append_assoc, subst}
use Rattle.cip_search.specs.Figures.{line}
use Rattle.cip_report.specs.Writing.{Writes}
use Rattle.cip_report.proofs.writing.write_line.Goals as goal

pub returns-clause-taken : goal.returns-clause-taken
returns-clause-taken g c =
    let front = c.args.front.now in
    let word = c.args.word.now in
    let figure = c.args.figure.now in
    let same : front ++ (word ++ (32 ∷ (figure ++ (10 ∷ [])))) ≡ line (front ++ word) figure = simp append_assoc in
    subst (λ text. Writes c.write_all.result (g.K.Sink.tells c.args.out.now) (g.K.Sink.tells c.write_all.new.out) (c.args.buffer.now ++ text) c.write_all.new.self) same c.write_all.ensures.taken

pub returns-clause-faults : goal.returns-clause-faults
returns-clause-faults g c = c.write_all.ensures.faults

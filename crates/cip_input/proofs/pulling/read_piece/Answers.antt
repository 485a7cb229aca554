use Rattle.std.proofs.lemmas.Grind.{common_steps}
use Rattle.std.proofs.Common.{◌≡◌, ◌≤◌, length, inl, inr, arith, rules}
use Rattle.cip_blocks.specs.PieceReaders.{HasTaken}
use Rattle.cip_input.proofs.Readings.{reads_piece}
use Rattle.cip_input.proofs.pulling.read_piece.Goals as goal

pub returns-in-Ok-clause-read : goal.returns-in-Ok-clause-read
returns-in-Ok-clause-read g c = λ subject chosen pulled r.
    let same : length c.pull.new.into ≡ length c.args.buffer.now = search rules in
    let within : c.in_ok-count.count ≤ length c.pull.new.into = omega (arith, same, c.in_ok-count.ensures.left.within) in
    reads_piece _ (HasTaken g.T.PieceText.has_come g.T.PieceText.subject c.feed.new.self subject) chosen _ _ _ _ pulled c.in_ok-count.count r within c.in_ok-count.ensures.left c.in_ok-count.ensures.faults.0
    (elim r.has_read [
      | inl read ↦ inl (c.in-Ok.ensures.reads subject r.bytes read).0
      | inr spent ↦ absurd (let e = (c.feed.ensures.spent spent).0 in cc e)
    ])

pub returns-in-Err-Faulty-clause-read : goal.returns-in-Err-Faulty-clause-read
returns-in-Err-Faulty-clause-read g c = λ subject chosen pulled r.
    let same : length c.pull.new.into ≡ length c.args.buffer.now = search rules in
    let within : c.in_ok-count.count ≤ length c.pull.new.into = omega (arith, same, c.in_ok-count.ensures.left.within) in
    reads_piece _ (HasTaken g.T.PieceText.has_come g.T.PieceText.subject c.feed.new.self subject) chosen _ _ _ _ pulled c.in_ok-count.count r within c.in_ok-count.ensures.left c.in_ok-count.ensures.faults.0
    (elim r.has_read [
      | inl read ↦ inl (rw c.in-Err-Faulty.field-0-is at (c.in-Err-Faulty.ensures.reads subject r.bytes read)).0
      | inr spent ↦ absurd (let e = (c.feed.ensures.spent spent).0 in cc e)
    ])

pub returns-in_err-count-clause-cause : goal.returns-in_err-count-clause-cause
returns-in_err-count-clause-cause g c = grind (arith, common_steps)

pub returns-in_err-count-clause-size : goal.returns-in_err-count-clause-size
returns-in_err-count-clause-size g c = omega arith

pub returns-in_err-count-clause-holds : goal.returns-in_err-count-clause-holds
returns-in_err-count-clause-holds g c = grind (arith, common_steps)

pub returns-in_err-count-clause-within : goal.returns-in_err-count-clause-within
returns-in_err-count-clause-within g c = grind (arith, common_steps)

pub pull-requires : goal.pull-requires
pull-requires g c = grind (arith, common_steps)

pub slice_bounds-feed-end-2 : goal.slice_bounds-feed-end-2
slice_bounds-feed-end-2 g c = grind (arith, common_steps)

pub returns-clause-size : goal.returns-clause-size
returns-clause-size g c = grind (arith, common_steps)

pub returns-in-Err-Faulty-clause-size : goal.returns-in-Err-Faulty-clause-size
returns-in-Err-Faulty-clause-size g c = grind (arith, common_steps)

pub returns-in-Ok-clause-size : goal.returns-in-Ok-clause-size
returns-in-Ok-clause-size g c = grind (arith, common_steps)

pub returns-clause-holds : goal.returns-clause-holds
returns-clause-holds g c = grind (arith, common_steps)

pub returns-in-Err-Faulty-clause-holds : goal.returns-in-Err-Faulty-clause-holds
returns-in-Err-Faulty-clause-holds g c = grind (arith, common_steps)

pub returns-in-Err-Faulty-clause-within : goal.returns-in-Err-Faulty-clause-within
returns-in-Err-Faulty-clause-within g c = grind (arith, common_steps)

pub returns-in-Ok-clause-holds : goal.returns-in-Ok-clause-holds
returns-in-Ok-clause-holds g c = grind (arith, common_steps)

pub returns-clause-cause : goal.returns-clause-cause
returns-clause-cause g c = grind (arith, common_steps)

pub returns-in-Err-Faulty-clause-cause : goal.returns-in-Err-Faulty-clause-cause
returns-in-Err-Faulty-clause-cause g c = grind (arith, common_steps)

pub returns-in-Ok-clause-within : goal.returns-in-Ok-clause-within
returns-in-Ok-clause-within g c = grind (arith, common_steps)

pub returns-in-Ok-clause-cause : goal.returns-in-Ok-clause-cause
returns-in-Ok-clause-cause g c = grind (arith, common_steps)

pub returns-clause-read : goal.returns-clause-read
returns-clause-read g c = grind (arith, common_steps)

pub slice_bounds-feed-end : goal.slice_bounds-feed-end
slice_bounds-feed-end g c = grind (arith, common_steps)

pub returns-clause-within : goal.returns-clause-within
returns-clause-within g c = grind (arith, common_steps)

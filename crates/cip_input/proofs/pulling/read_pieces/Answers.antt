use Rattle.std.proofs.lemmas.Grind.{common_steps}
use Rattle.std.proofs.Common.{◌≡◌, ◌≤◌, ◌+◌, ◌-◌, length, take, drop, min, rules, arith, length-append, length-drop, length-take, ◌∙◌}
use Rattle.cip_problem.specs.Limits.{longest_text}
use Rattle.cip_blocks.specs.PieceReaders.{HasTaken}
use Rattle.cip_input.specs.TextPulls.{most_pulled}
use Rattle.cip_input.specs.declared.pulling.TheConstants.{PIECE}
use Rattle.cip_input.proofs.Readings.{reading_none, too_long}
use Rattle.cip_input.proofs.pulling.read_pieces.Goals as goal

pub loop-pulled-init : goal.loop-pulled-init
loop-pulled-init g c = record {
  in_range = omega arith;
  size = c.requires.room;
  reading = λ subject fresh. reading_none (HasTaken g.T.PieceText.has_come g.T.PieceText.subject c.args.reader.now subject) (g.S.Store.tells c.args.store.now) fresh;
  sound = search rules;
  holds = search rules;
}

pub loop-pulled-preserved : goal.loop-pulled-preserved
loop-pulled-preserved g c =
    let so_far = c.loop-pulled.invariant in
    let room = c.min-room.result in
    let here : room ≡ min PIECE (longest_text + 1 - c.loop-pulled.pulled) = search rules in
    let front : length (take room c.loop-pulled.buffer) ≡ min room (length c.loop-pulled.buffer) = length-take room c.loop-pulled.buffer in
    let back : length (drop room c.loop-pulled.buffer) ≡ length c.loop-pulled.buffer - room = length-drop room c.loop-pulled.buffer in
    let within : c.in_ok-count.count ≤ length (take room c.loop-pulled.buffer) = c.in_ok-count.ensures.within in
    let kept : length c.read_piece.new.buffer ≡ length (take room c.loop-pulled.buffer) = c.in_ok-count.ensures.size in
    record {
      in_range = omega (arith, so_far.in_range, so_far.size, here, front, within);
      size = length-append c.read_piece.new.buffer (drop room c.loop-pulled.buffer) ∙ omega (arith, so_far.size, here, front, back, kept);
      reading = λ subject fresh. (c.in_ok-count.ensures.read subject (g.S.Store.tells c.args.store.now) c.loop-pulled.pulled (so_far.reading subject fresh)).reading;
      sound = c.in_ok-count.ensures.cause ∙ so_far.sound;
      holds = c.in_ok-count.ensures.holds ∙ so_far.holds;
    }

pub returns-then-count-eq0-clause-read : goal.returns-then-count-eq0-clause-read
returns-then-count-eq0-clause-read g c = λ subject fresh.
    let so_far = c.loop-pulled.invariant in
    let within : c.loop-pulled.pulled ≤ longest_text = omega (arith, c.loop-pulled-test.true) in
    (c.in_ok-count.ensures.read subject (g.S.Store.tells c.args.store.now) c.loop-pulled.pulled (so_far.reading subject fresh)).end c.if-count-eq0.true (omega (arith, within))

pub returns-clause-read : goal.returns-clause-read
returns-clause-read g c = λ subject fresh.
    let so_far = c.loop-pulled.invariant in
    let all : c.loop-pulled.pulled ≡ most_pulled = omega (arith, so_far.in_range, c.loop-pulled-test.false) in
    too_long _ (g.S.Store.tells c.args.store.now) _ c.loop-pulled.pulled all (so_far.reading subject fresh)

pub loop-pulled-smaller : goal.loop-pulled-smaller
loop-pulled-smaller g c = omega arith

pub overflow_add-pulled : goal.overflow_add-pulled
overflow_add-pulled g c = grind (arith, common_steps)

pub read_piece-requires : goal.read_piece-requires
read_piece-requires g c = grind (arith, common_steps)

pub returns-in_err-count-clause-cause : goal.returns-in_err-count-clause-cause
returns-in_err-count-clause-cause g c = grind (arith, common_steps)

pub returns-in_err-count-clause-holds : goal.returns-in_err-count-clause-holds
returns-in_err-count-clause-holds g c = grind (arith, common_steps)

pub returns-then-count-eq0-clause-cause : goal.returns-then-count-eq0-clause-cause
returns-then-count-eq0-clause-cause g c = omega arith

pub returns-then-count-eq0-clause-holds : goal.returns-then-count-eq0-clause-holds
returns-then-count-eq0-clause-holds g c = grind (arith, common_steps)

pub slice_bounds-read_piece-end-in-loop-pulled : goal.slice_bounds-read_piece-end-in-loop-pulled
slice_bounds-read_piece-end-in-loop-pulled g c = grind (arith, common_steps)

pub returns-clause-holds : goal.returns-clause-holds
returns-clause-holds g c = grind (arith, common_steps)

pub slice_bounds-read_piece-end : goal.slice_bounds-read_piece-end
slice_bounds-read_piece-end g c = grind (arith, common_steps)

pub returns-clause-cause : goal.returns-clause-cause
returns-clause-cause g c = grind (arith, common_steps)

pub overflow_sub-pulled : goal.overflow_sub-pulled
overflow_sub-pulled g c = grind (arith, common_steps)

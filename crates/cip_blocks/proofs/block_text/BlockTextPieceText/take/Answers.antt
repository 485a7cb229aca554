use Rattle.std.proofs.lemmas.Grind.{common_steps}
use Rattle.std.proofs.Common.{◌≡◌, ◌+◌, ◌-◌, ◌∷◌, ◌++◌, ◌∙◌, [], refl, sym, ap, subst, arith, length-append, length, take}
use Rattle.std.specs.Prelude.{fold}
use Rattle.std.proofs.lemmas.Result.{on_ok_weaker}
use Rattle.cip_problem.specs.Program.{Program}
use Rattle.cip_problem.specs.Limits.{longest_text}
use Rattle.cip_text_rules.specs.LineStream.{byte_read, stream_of}
use Rattle.cip_text.specs.PieceCuts.{Cut, cut_of}
use Rattle.cip_text.specs.PieceStands.{StandsAt}
use Rattle.cip_text.proofs.Streams.{line_ended, cut_read, rest_kept, piece_stands}
use Rattle.cip_text_rules.specs.BlockSteps.{block_steps}
use Rattle.cip_blocks.specs.BlockTexts.{steps_of, kept_of, state_of}
use Rattle.cip_blocks.proofs.block_text.BlockTextPieceText.take.Goals as goal

pub loop-tail-init : goal.loop-tail-init
loop-tail-init c =
    let now = c.args.self.now in
    let long = ap length c.looked_at-looked.ensures in
    record {
      reads = λ s h. (s, (h, ap (fold (byte_read (steps_of now)) s) c.looked_at-looked.ensures));
      few = grind (arith, common_steps);
      same = refl;
    }

pub keep-requires-clause-few : goal.keep-requires-clause-few
keep-requires-clause-few c = omega (arith, ap length c.in-Some.ensures.0, length-append c.in-Some.tail.now (10 ∷ c.in-Some.behind.now), c.loop-tail.invariant.few)

pub returns-in_err-keep-clause-same : goal.returns-in_err-keep-clause-same
returns-in_err-keep-clause-same c = c.loop-tail.invariant.same

pub returns-in_err-kind-clause-same : goal.returns-in_err-kind-clause-same
returns-in_err-kind-clause-same c = c.read_unread.ensures.same ∙ c.loop-tail.invariant.same

pub end_line-requires : goal.end_line-requires
end_line-requires c =
    let read = ap (λ (cut : Cut). cut.size) c.read_unread.ensures.kept in
    let kept = ap (λ (cut : Cut). cut.size) c.in_ok-keep.ensures.kept in
    omega (arith, read, kept, ap length c.in-Some.ensures.0, length-append c.in-Some.tail.now (10 ∷ c.in-Some.behind.now), c.loop-tail.invariant.few)

pub loop-tail-preserved : goal.loop-tail-preserved
loop-tail-preserved c =
    let text = c.loop-tail.self in
    let now = c.args.self.now in
    let tail = c.in-Some.tail.now in
    let behind = c.in-Some.behind.now in
    let cut : c.loop-tail.rest.now ≡ tail ++ 10 ∷ behind = c.in-Some.ensures.0 in
    let kept = ap (λ (k : Cut). k.size) c.in_ok-keep.ensures.kept in
    let read = ap (λ (k : Cut). k.size) c.read_unread.ensures.kept in
    let fed = ap (λ (k : Cut). k.size) c.end_line.ensures in
    record {
      reads = λ s h.
          let found = c.loop-tail.invariant.reads s h in
          let same : steps_of text ≡ steps_of now = ap block_steps c.loop-tail.invariant.same in (
            fold (byte_read (steps_of now)) found.0 (tail ++ 10 ∷ []),
            (
              rw same at (line_ended (steps_of text) (kept_of text) _ _ _ (state_of text) _ c.in_ok-kind.kind found.0 tail c.in-Some.ensures.1 found.1.0 c.in_ok-keep.ensures.kept c.in_ok-kind.ensures.read c.read_unread.ensures.kept c.end_line.ensures),
              cut_read (steps_of now) s found.0 (take (longest_text + 1 - (kept_of now).size) c.args.piece.now) c.loop-tail.rest.now tail behind found.1.1 cut,
            ),
          );
      few = omega (arith, kept, read, fed, ap length cut, length-append tail (10 ∷ behind), c.loop-tail.invariant.few);
      same = c.in_ok-kind.ensures.same ∙ c.loop-tail.invariant.same;
    }

pub keep-requires-2-clause-few : goal.keep-requires-2-clause-few
keep-requires-2-clause-few c = c.loop-tail.invariant.few

pub returns-clause-reads : goal.returns-clause-reads
returns-clause-reads c = λ bytes h.
    let text = c.loop-tail.self in
    let now = c.args.self.now in
    let looked = take (longest_text + 1 - (kept_of now).size) c.args.piece.now in
    let found = c.loop-tail.invariant.reads (stream_of (steps_of now) bytes) h in
    on_ok_weaker c.keep-2.result
    (λ e. subst (λ (p : Program). StandsAt (cut_of c.keep-2.new.self) (state_of text) (stream_of (block_steps p) (bytes ++ c.args.piece.now))) (sym c.loop-tail.invariant.same)
    (piece_stands (steps_of now) (kept_of now) (cut_of c.keep-2.new.self) (state_of now) (state_of text) bytes c.args.piece.now looked h now.pieces.few refl
    (rest_kept (steps_of now) (kept_of text) (cut_of c.keep-2.new.self) (state_of text) (stream_of (steps_of now) bytes) found.0 looked c.loop-tail.rest.now c.in_default.ensures found.1.0 found.1.1 e)))
    c.keep-2.ensures.kept

pub returns-clause-same : goal.returns-clause-same
returns-clause-same c = c.loop-tail.invariant.same

pub loop-tail-smaller : goal.loop-tail-smaller
loop-tail-smaller c = omega (arith, ap length c.in-Some.ensures.0, length-append c.in-Some.tail.now (10 ∷ c.in-Some.behind.now))

pub invariant_of-self : goal.invariant_of-self
invariant_of-self c = grind (arith, common_steps)

pub invariant_of-self-2 : goal.invariant_of-self-2
invariant_of-self-2 c = grind (arith, common_steps)

pub keep-requires-clause-no_feed : goal.keep-requires-clause-no_feed
keep-requires-clause-no_feed c = grind (arith, common_steps)

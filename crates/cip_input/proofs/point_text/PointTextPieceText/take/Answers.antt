use Rattle.std.proofs.lemmas.Grind.{common_steps}
use Rattle.std.proofs.Common.{◌≡◌, ◌≤◌, ◌+◌, ◌∷◌, ◌++◌, ◌∙◌, [], ap, arith, length-append, length, refl, sym, subst}
use Rattle.std.specs.Prelude.{fold}
use Rattle.std.proofs.lemmas.Result.{on_ok_weaker}
use Rattle.cip_problem.specs.Limits.{longest_text}
use Rattle.cip_problem.specs.Program.{Program}
use Rattle.cip_text_rules.specs.LineStream.{byte_read, stream_of}
use Rattle.cip_text.specs.PieceCuts.{cut_of}
use Rattle.cip_text.specs.PieceStands.{StandsAt}
use Rattle.cip_text.proofs.Streams.{cut_read, piece_stands, rest_kept}
use Rattle.cip_text_rules.specs.PointSteps.{point_steps}
use Rattle.cip_input.specs.PointTexts.{steps_of, kept_of, values_of}
use Rattle.cip_input.proofs.point_text.PointTextPieceText.take.Goals as goal

pub loop-tail-init : goal.loop-tail-init
loop-tail-init c =
    let few : (kept_of c.args.self.now).size + length c.looked_at-rest.result.now ≤ longest_text + 1 =
    grind (arith, common_steps) in
    record {
      reads = λ s h. (s, (h, refl));
      few = few;
      same = refl;
    }

pub loop-tail-preserved : goal.loop-tail-preserved
loop-tail-preserved c =
    let tail = c.in-Some.tail.now in
    let behind = c.in-Some.behind.now in
    let cut : c.loop-tail.rest.now ≡ tail ++ 10 ∷ behind = c.in-Some.ensures.0 in
    let long : length c.loop-tail.rest.now ≡ length (tail ++ 10 ∷ behind) = ap length cut in
    record {
      reads = λ s h.
          let found = c.loop-tail.invariant.reads s h in
          let same : steps_of c.loop-tail.self ≡ steps_of c.args.self.now = ap point_steps c.loop-tail.invariant.same in (
            fold (byte_read (steps_of c.args.self.now)) found.0 (tail ++ 10 ∷ []),
            (
              rw same at (c.in_ok-end_line.ensures.reads found.0 found.1.0),
              cut_read (steps_of c.args.self.now) s found.0 c.looked_at-rest.result.now c.loop-tail.rest.now tail behind found.1.1 cut,
            ),
          );
      few = omega (arith, c.in_ok-end_line.ensures.size, long, length-append tail (10 ∷ behind), c.loop-tail.invariant.few);
      same = c.in_ok-end_line.ensures.same ∙ c.loop-tail.invariant.same;
    }

pub returns-clause-reads : goal.returns-clause-reads
returns-clause-reads c = λ bytes h.
    let now = c.args.self.now in
    let text = c.loop-tail.self in
    let looked = c.looked_at-rest.result.now in
    let stream = stream_of (steps_of now) bytes in
    let found = c.loop-tail.invariant.reads stream h in
    on_ok_weaker c.keep.result
    (λ told. subst (λ (p : Program). StandsAt (cut_of c.keep.new.self) (values_of text) (stream_of (point_steps p) (bytes ++ c.args.piece.now)))
    (sym c.loop-tail.invariant.same)
    (piece_stands (steps_of now) (kept_of now) (cut_of c.keep.new.self) (values_of now) (values_of text) bytes c.args.piece.now
    looked h now.pieces.few c.looked_at-rest.ensures
    (rest_kept (steps_of now) (kept_of text) (cut_of c.keep.new.self) (values_of text) stream found.0 looked c.loop-tail.rest.now
    c.in_default.ensures found.1.0 found.1.1 told)))
    c.keep.ensures.kept

pub end_line-requires-clause-few : goal.end_line-requires-clause-few
end_line-requires-clause-few c = grind (arith, common_steps)

pub loop-tail-smaller : goal.loop-tail-smaller
loop-tail-smaller c = grind (arith, common_steps)

pub returns-in_err-end_line-clause-same : goal.returns-in_err-end_line-clause-same
returns-in_err-end_line-clause-same c = grind (arith, common_steps)

pub returns-clause-same : goal.returns-clause-same
returns-clause-same c = grind (arith, common_steps)

pub invariant_of-self : goal.invariant_of-self
invariant_of-self c = grind (arith, common_steps)

pub end_line-requires-clause-no_feed : goal.end_line-requires-clause-no_feed
end_line-requires-clause-no_feed c = grind (arith, common_steps)

pub keep-requires-clause-few : goal.keep-requires-clause-few
keep-requires-clause-few c = grind (arith, common_steps)

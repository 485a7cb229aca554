use Rattle.std.proofs.lemmas.Grind.{common_steps}
use Rattle.std.proofs.Common.{◌≡◌, ◌+◌, ◌-◌, ◌∷◌, ◌++◌, ◌∙◌, [], refl, sym, ap, arith, length-append, length, take}
use Rattle.std.specs.Prelude.{fold}
use Rattle.std.proofs.lemmas.Result.{on_ok_weaker}
use Rattle.cip_problem.specs.Limits.{longest_text}
use Rattle.cip_text_rules.specs.LineStream.{byte_read, stream_of}
use Rattle.cip_text.specs.PieceCuts.{Cut, cut_of}
use Rattle.cip_text.proofs.Streams.{line_ended_with, cut_read, rest_kept, piece_stands}
use Rattle.cip_text_rules.specs.MpsSteps.{mps_steps}
use Rattle.cip_mps.specs.MpsTexts.{kept_of, stage_of}
use Rattle.cip_mps.proofs.mps_text.MpsTextPieceText.take.Goals as goal

pub loop-tail-init : goal.loop-tail-init
loop-tail-init c =
    let now = c.args.self.now in
    let long = ap length c.looked_at-rest.ensures in
    record {
      reads = λ s h. (s, (h, ap (fold (byte_read mps_steps) s) c.looked_at-rest.ensures));
      few = grind (arith, common_steps);
    }

pub end_line_with-requires : goal.end_line_with-requires
end_line_with-requires c =
    omega (arith, c.in_ok-kind.ensures.size, ap length c.in-Some.ensures.0, length-append c.in-Some.tail.now (10 ∷ c.in-Some.behind.now), c.loop-tail.invariant.few)

pub loop-tail-preserved : goal.loop-tail-preserved
loop-tail-preserved c =
    let text = c.loop-tail.self in
    let after = c.let_go.new.self in
    let now = c.args.self.now in
    let kind = c.in_ok-kind.kind in
    let tail = c.in-Some.tail.now in
    let behind = c.in-Some.behind.now in
    let cut : c.loop-tail.rest.now ≡ tail ++ 10 ∷ behind = c.in-Some.ensures.0 in
    let fed = ap (λ (k : Cut). k.size) c.end_line_with.ensures in
    let left = ap (λ (k : Cut). k.size) c.let_go.ensures.kept in
    record {
      reads = λ s h.
          let found = c.loop-tail.invariant.reads s h in (
            fold (byte_read mps_steps) found.0 (tail ++ 10 ∷ []),
            (
              line_ended_with mps_steps (kept_of text) (kept_of after) (stage_of text) (stage_of after) kind found.0 tail c.in-Some.ensures.1 found.1.0
                  (λ none. c.in_ok-kind.ensures.read none ∙ sym (c.let_go.ensures.stage ((kept_of text).ended + 1)))
                  (c.let_go.ensures.kept ∙ c.end_line_with.ensures ∙ c.in_ok-kind.ensures.kept kind),
              cut_read mps_steps s found.0 (take (longest_text + 1 - (kept_of now).size) c.args.piece.now) c.loop-tail.rest.now tail behind found.1.1 cut,
            ),
          );
      few = omega (arith, c.in_ok-kind.ensures.size, fed, left, ap length cut, length-append tail (10 ∷ behind), c.loop-tail.invariant.few);
    }

pub returns-clause-reads : goal.returns-clause-reads
returns-clause-reads c = λ bytes h.
    let text = c.loop-tail.self in
    let now = c.args.self.now in
    let looked = take (longest_text + 1 - (kept_of now).size) c.args.piece.now in
    let found = c.loop-tail.invariant.reads (stream_of mps_steps bytes) h in
    on_ok_weaker c.keep.result
    (λ e. piece_stands mps_steps (kept_of now) (cut_of c.keep.new.self) (stage_of now) (stage_of text) bytes c.args.piece.now looked h now.pieces.few refl
    (rest_kept mps_steps (kept_of text) (cut_of c.keep.new.self) (stage_of text) (stream_of mps_steps bytes) found.0 looked c.loop-tail.rest.now c.in_default.ensures found.1.0 found.1.1 e))
    c.keep.ensures.kept

pub loop-tail-smaller : goal.loop-tail-smaller
loop-tail-smaller c = omega (arith, ap length c.in-Some.ensures.0, length-append c.in-Some.tail.now (10 ∷ c.in-Some.behind.now))

pub invariant_of-self-2 : goal.invariant_of-self-2
invariant_of-self-2 c = grind (arith, common_steps)

pub read_line-requires : goal.read_line-requires
read_line-requires c = grind (arith, common_steps)

pub keep-requires-clause-few : goal.keep-requires-clause-few
keep-requires-clause-few c = grind (arith, common_steps)

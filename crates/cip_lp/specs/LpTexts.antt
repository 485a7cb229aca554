-- An LP text as far as it came.
--     shown_of text      what is known of it, as it is taken byte by byte
use Rattle.cip_text_rules.specs.LineEnds.{Stage}
use Rattle.cip_text_rules.specs.LineStream.{Progress}
use Rattle.cip_text.specs.PieceStands.{progress_of}
use Rattle.cip_text_rules.specs.LpOutcome.{LpContext}
use Rattle.cip_text_rules.specs.LpBytes.{LpBytes}
use Rattle.cip_lp.specs.declared.lp_text.LpText.{LpText}
use Rattle.cip_lp.specs.LinesRead as lines

-- what its tokens have said
abbrev pub stage_of : LpText → Stage LpContext
stage_of text = lines.stage_of text.lines

-- that, and what is kept of its bytes
abbrev pub bytes_of : LpText → LpBytes
bytes_of text = record {
  stage = stage_of text;
  ended = text.ended;
  front = text.front;
  rest = text.rest.items;
  size = text.size;
}

-- or its fault
abbrev pub shown_of : LpText → Progress LpBytes
shown_of text = progress_of text.fault (bytes_of text)

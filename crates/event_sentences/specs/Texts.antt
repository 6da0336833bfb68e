-- The sentence of an event: a function of the event, of what came with it, and of the states about it.
use Rattle.std.specs.Prelude.{List, ℕ, Option, None, Some, if◌then◌else◌}
use Rattle.line_events.specs.Answers.{is_ok}
use Rattle.event_sentences.specs.declared.heard.Heard.{Heard}
use Rattle.event_sentences.specs.Asked.{asked_text}
use Rattle.event_sentences.specs.Refused.{refused_frame_text, refused_order_text}
use Rattle.event_sentences.specs.Scenes.{Scene}
use Rattle.event_sentences.specs.Taken.{taken_text}

abbrev pub done_by : Option Heard → Scene → List ℕ
done_by None s = asked_text s.recorded.act s
done_by (Some heard) s = taken_text s.recorded.answer heard s

abbrev pub done_text : Scene → List ℕ
done_text s = done_by s.heard s

abbrev pub refused_by : Option Heard → Scene → List ℕ
refused_by None s = refused_order_text s.recorded.answer s
refused_by (Some heard) s = refused_frame_text s.recorded.answer heard s

abbrev pub refused_text : Scene → List ℕ
refused_text s = refused_by s.heard s

unfoldable pub event_text : Scene → List ℕ
event_text s = if is_ok s.recorded.answer then done_text s else refused_text s

use Rattle.std.proofs.Common.{map}
use Rattle.std.proofs.lemmas.Result.{err_from_is_err_and}
use Rattle.host_calls.specs.Outbox.{write_of}
use Rattle.host_calls.specs.Answers.{puts_text, frames_text, joined_text, up_text, status_text}
use Rattle.host_calls.proofs.WrittenTexts.{all, behind, cut_short, of_same}
use Rattle.host_calls.proofs.answers.write_answer.Goals as goal

pub returns-in_err-write_puts : goal.returns-in_err-write_puts
returns-in_err-write_puts g c =
    let p = err_from_is_err_and c.from_residual.result c.from_residual.ensures.1 in
    rw p.1 (cut_short p.0 (puts_text (map write_of c.args.puts.now)) _ c.in_err-write_puts.ensures)

pub returns-in_err-write_frames : goal.returns-in_err-write_frames
returns-in_err-write_frames g c =
    let p = err_from_is_err_and c.from_residual-in_err-write_frames.result c.from_residual-in_err-write_frames.ensures.1 in
    rw p.1 (behind (puts_text (map write_of c.args.puts.now)) _ (all c.in_ok-write_puts.ensures)
    (cut_short p.0 (frames_text c.args.given.now.out.frames) _
    (of_same frames_text _ c.args.given.now.out.frames c.frames.ensures c.in_err-write_frames.ensures)))

pub returns-in_err-write_joined : goal.returns-in_err-write_joined
returns-in_err-write_joined g c =
    let p = err_from_is_err_and c.from_residual-in_err-write_joined.result c.from_residual-in_err-write_joined.ensures.1 in
    rw p.1 (behind (puts_text (map write_of c.args.puts.now)) _ (all c.in_ok-write_puts.ensures)
    (behind (frames_text c.args.given.now.out.frames) _ (all (of_same frames_text _ c.args.given.now.out.frames c.frames.ensures c.in_ok-write_frames.ensures))
    (cut_short p.0 (joined_text c.args.given.now.joined) _ c.in_err-write_joined.ensures)))

pub returns-in_err-write_up : goal.returns-in_err-write_up
returns-in_err-write_up g c =
    let p = err_from_is_err_and c.from_residual-in_err-write_up.result c.from_residual-in_err-write_up.ensures.1 in
    rw p.1 (behind (puts_text (map write_of c.args.puts.now)) _ (all c.in_ok-write_puts.ensures)
    (behind (frames_text c.args.given.now.out.frames) _ (all (of_same frames_text _ c.args.given.now.out.frames c.frames.ensures c.in_ok-write_frames.ensures))
    (behind (joined_text c.args.given.now.joined) _ (all c.in_ok-write_joined.ensures)
    (cut_short p.0 (up_text c.args.given.now.up) (status_text c.args.status) c.in_err-write_up.ensures))))

pub returns : goal.returns
returns g c =
    behind (puts_text (map write_of c.args.puts.now)) _ (all c.in_ok-write_puts.ensures)
    (behind (frames_text c.args.given.now.out.frames) _ (all (of_same frames_text _ c.args.given.now.out.frames c.frames.ensures c.in_ok-write_frames.ensures))
    (behind (joined_text c.args.given.now.joined) _ (all c.in_ok-write_joined.ensures)
    (behind (up_text c.args.given.now.up) (status_text c.args.status) (all c.in_ok-write_up.ensures) c.write_status.ensures)))

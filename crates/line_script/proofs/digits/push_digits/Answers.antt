use Rattle.std.proofs.Common.{◌≡◌, ◌++◌, ◌/◌, length, string_bytes, OnOk, subst}
use Rattle.line_script.specs.Digits.{all_digits}
use Rattle.line_script.proofs.HexLanes.{on_ok, whole_and_rest}
use Rattle.line_script.proofs.digits.push_digits.Goals as goal

pub returns : goal.returns
returns c =
    let whole : string_bytes c.push_whole.new.text ≡ string_bytes c.args.text.now ++ all_digits c.as_chunks.result.0.now =
    subst (λ r. OnOk r (string_bytes c.push_whole.new.text ≡ string_bytes c.args.text.now ++ all_digits c.as_chunks.result.0.now))
    c.in_ok-push_whole.was c.push_whole.ensures in
    on_ok _ _ c.push_few.result
    (whole_and_rest c.args.octets.now _ _ _ (length c.args.octets.now / 16) _ _ c.as_chunks.ensures.front c.as_chunks.ensures.back whole)
    c.push_few.ensures

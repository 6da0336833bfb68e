use Rattle.std.proofs.Common.{◌≡◌, ◌++◌, List, ℕ, length, take, drop, sym, ap, ◌∙◌, arith}
use Rattle.std.proofs.lemmas.List.{length-append, length-take, length-drop, append_assoc}
use Rattle.aes_modes.specs.Ccm.{ccm_tag, ccm_text}
use Rattle.aes_modes.proofs.Texts.{length-ccm_text, length-ccm_tag}
use Rattle.mac_frames.specs.Grammar.{header, header_then}
use Rattle.mac_frames.specs.SealedFrames.{nonce_of}
use Rattle.mac_frames.proofs.Headers.{header_then-append, length-header}
use Rattle.mac_frames.proofs.SealedBodies.{fits_tag}
use Rattle.mac_frames.proofs.sealing.seal_written.Goals as goal
use Rattle.mac_frames.proofs.sealing.seal_written.Goals.{After-append}

pub seal_tail-requires : goal.seal_tail-requires
seal_tail-requires c =
    omega (arith, length-take 15 c.args.out.now, ap length c.requires.header, length-header c.args.head.now c.requires.fields)

-- encrypting keeps the length
as_long : (key n old new : List ℕ) → new ≡ take 15 old ++ ccm_text key n (drop 15 old) → length new ≡ length old
as_long key n old new is =
    let text : List ℕ = drop 15 old in
    omega (arith, ap length is, length-append (take 15 old) (ccm_text key n text), length-ccm_text key n text, length-take 15 old, length-drop 15 old)

pub append-requires : goal.append-requires
append-requires c =
    omega (arith, as_long c.args.aes.now c.nonce_of.result c.args.out.now c.seal_tail.new.out c.seal_tail.ensures.text, c.requires.room, c.seal_tail.array_long)

-- what stands there in the end
sealed : (c : After-append) → c.append.new.self ≡ header_then c.args.head.now
    (ccm_text c.args.aes.now (nonce_of c.args.head.now) (drop 15 c.args.out.now)
    ++ ccm_tag 4 c.args.aes.now (nonce_of c.args.head.now) (header c.args.head.now) (drop 15 c.args.out.now))
sealed c =
    let key : List ℕ = c.args.aes.now in
    let text : List ℕ = drop 15 c.args.out.now in
    c.append.ensures
    ∙ (λ i. c.seal_tail.ensures.text i ++ c.seal_tail.ensures.tag i)
    ∙ (λ i. (c.requires.header i ++ ccm_text key (c.nonce_of.ensures i) text) ++ ccm_tag 4 key (c.nonce_of.ensures i) (c.requires.header i) text)
    ∙ append_assoc (header c.args.head.now) _ _
    ∙ sym (header_then-append c.args.head.now _)

pub returns : goal.returns
returns c =
    let key : List ℕ = c.args.aes.now in
    let text : List ℕ = drop 15 c.args.out.now in
    let mac : List ℕ = ccm_tag 4 key (nonce_of c.args.head.now) (header c.args.head.now) text in
    let four : length mac ≡ 4 = length-ccm_tag 4 key (nonce_of c.args.head.now) (header c.args.head.now) text (omega arith) in
    record {
      sealed = c.requires.sealed;
      frame = record {
        fields = c.requires.fields;
        rest = fits_tag c.args.head.now _ c.requires.sealed
            (omega (arith, four, length-append (ccm_text key (nonce_of c.args.head.now) text) mac));
        size = omega (
          arith,
          ap length c.append.ensures,
          length-append c.seal_tail.new.out c.seal_tail.new.tag,
          as_long c.args.aes.now c.nonce_of.result c.args.out.now c.seal_tail.new.out c.seal_tail.ensures.text,
          c.requires.room,
          c.seal_tail.array_long,
        );
        spelled = sealed c;
      };
    }

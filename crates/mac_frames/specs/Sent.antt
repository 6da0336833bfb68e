-- Sealed frames as a node sends them.
use Rattle.std.specs.Prelude.{ℕ, ◌%◌, not, ◌==◌, List, ◌++◌}
use Rattle.aes_modes.specs.Ccm.{ccm_text, ccm_tag}
use Rattle.plc_base.specs.declared.address.TheConstants.{PAN}
use Rattle.mac_frames.specs.declared.head.MacHead.{MacHead}
use Rattle.mac_frames.specs.declared.head.MacHead.TheVariants.{Sealed}
use Rattle.mac_frames.specs.Grammar.{header}
use Rattle.mac_frames.specs.SealedFrames.{nonce_of}

-- the short address that all nodes hear
abbrev pub to_all : ℕ
to_all = 0xFFFF

-- a frame asks for an acknowledgement unless it goes to all, and its sequence is the low octet of its counter
abbrev pub sent_head : (to from counter index : ℕ) → MacHead
sent_head to from counter index = Sealed (not (to == to_all)) (counter % 256) PAN to from counter index

-- the body: the payload under the key and the nonce of its head, and the four octets of the tag over header and payload
abbrev pub sealed_body : List ℕ → MacHead → List ℕ → List ℕ
sealed_body key head payload =
    ccm_text key (nonce_of head) payload ++ ccm_tag 4 key (nonce_of head) (header head) payload

-- What callers need of encrypted texts and tags: their lengths, and that the same call gives the text
-- back.
use Rattle.std.proofs.Common.{◌≡◌, ◌≢◌, ℕ, zero, suc, ◌+◌, ◌≤◌, List, length, refl, sym, ap, ◌∙◌, arith}
use Rattle.std.specs.Int.{w128, from_be_bytes}
use Rattle.std.proofs.lemmas.List.{length-take-le}
use Rattle.aes_modes.specs.Cipher.{xor_bytes}
use Rattle.aes_modes.specs.Chains.{zero_block, chained}
use Rattle.aes_modes.specs.Cmac.{cmac}
use Rattle.aes_modes.specs.Eax.{numbered_mac, eax_stream_block, eax_text, eax_tag}
use Rattle.aes_modes.specs.Ccm.{ccm_mac, ccm_stream_block, ccm_text, ccm_tag}
use Rattle.aes_modes.proofs.Chains.{length-encrypted}
use Rattle.aes_modes.proofs.Streams.{length-masked, length-xor_bytes, masked_twice}

pub length-eax_text : (key nonce m : List ℕ) → length (eax_text key nonce m) ≡ length m
unfolding eax_text
length-eax_text key nonce m = length-masked (eax_stream_block key (from_be_bytes w128 (numbered_mac key 0 nonce))) (λ i. length-encrypted key _) m

pub eax_text-twice : (key nonce m : List ℕ) → eax_text key nonce (eax_text key nonce m) ≡ m
unfolding eax_text
eax_text-twice key nonce m = masked_twice (eax_stream_block key (from_be_bytes w128 (numbered_mac key 0 nonce))) (λ i. length-encrypted key _) m

pub length-ccm_text : (key nonce m : List ℕ) → length (ccm_text key nonce m) ≡ length m
unfolding ccm_text
length-ccm_text key nonce m = length-masked (λ i. ccm_stream_block key nonce (i + 1)) (λ i. length-encrypted key _) m

pub ccm_text-twice : (key nonce m : List ℕ) → ccm_text key nonce (ccm_text key nonce m) ≡ m
unfolding ccm_text
ccm_text-twice key nonce m = masked_twice (λ i. ccm_stream_block key nonce (i + 1)) (λ i. length-encrypted key _) m

-- texts that come back from different texts differ
pub eax_text-differs : (key nonce m n : List ℕ) → m ≢ n → eax_text key nonce m ≢ eax_text key nonce n
eax_text-differs key nonce m n ne same =
    ne (sym (eax_text-twice key nonce m) ∙ ap (eax_text key nonce) same ∙ eax_text-twice key nonce n)

pub ccm_text-differs : (key nonce m n : List ℕ) → m ≢ n → ccm_text key nonce m ≢ ccm_text key nonce n
ccm_text-differs key nonce m n ne same =
    ne (sym (ccm_text-twice key nonce m) ∙ ap (ccm_text key nonce) same ∙ ccm_text-twice key nonce n)

length-chained : (key x m : List ℕ) (n : ℕ) → length x ≡ 16 → length (chained key x m n) ≡ 16
unfolding chained
length-chained key x m zero h = h
length-chained key x m (suc n) h = length-encrypted key _

length-sum : (a b : List ℕ) → length a ≡ 16 → length b ≡ 16 → length (xor_bytes a b) ≡ 16
length-sum a b la lb = length-xor_bytes a b (omega arith) ∙ la

pub length-ccm_tag : (n : ℕ) (key nonce header m : List ℕ) → n ≤ 16 → length (ccm_tag n key nonce header m) ≡ n
unfolding ccm_tag ccm_mac
length-ccm_tag n key nonce header m h =
    let whole = length-sum (ccm_mac n key nonce header m) (ccm_stream_block key nonce 0)
    (length-chained key zero_block _ _ refl) (length-encrypted key _) in
    length-take-le n _ (omega (arith, whole))

pub length-cmac : (key m : List ℕ) → length (cmac key m) ≡ 16
unfolding cmac
length-cmac key m = length-encrypted key _

length-numbered_mac : (key : List ℕ) (number : ℕ) (m : List ℕ) → length (numbered_mac key number m) ≡ 16
unfolding numbered_mac
length-numbered_mac key number m = length-cmac key _

pub length-eax_tag : (key nonce header c : List ℕ) → length (eax_tag key nonce header c) ≡ 16
unfolding eax_tag
length-eax_tag key nonce header c =
    length-sum _ _
    (length-sum _ _ (length-numbered_mac key 0 nonce) (length-numbered_mac key 1 header))
    (length-numbered_mac key 2 c)

-- What messages and tags name.
use Rattle.std.proofs.Common.{◌≡◌, ℕ, List, ◌++◌, length, refl, sym, ap, ◌∙◌, arith}
use Rattle.plc_base.specs.Fields.{after}
use Rattle.plc_base.proofs.Places.{fronts_same}
use Rattle.plc_base.specs.Grant.{Granted}
use Rattle.plc_base.specs.declared.address.Eui.{Eui}
use Rattle.plc_base.specs.declared.key.RandomOctets.{RandomOctets}
use Rattle.joining_messages.specs.Grants.{IsGranted, grant_spelling}
use Rattle.joining_messages.proofs.GrantLaws.{one_grant}
use Rattle.eap_psk.specs.Keys.{channel, channel_text, mac_s}
use Rattle.eap_psk.specs.Messages.{First, Third, head, third_head, fourth_head, granting_text}
use Rattle.eap_psk.specs.Tags.{granting_tag, success_tag}
use Rattle.eap_psk.proofs.PassedMessages.{channel_back, channel_sealed}

pub first_same : (i j : ℕ) (rand_s rand_s' id_s id_s' packet : List ℕ) → length rand_s ≡ 16 → length rand_s' ≡ 16
    → First i rand_s id_s packet → First j rand_s' id_s' packet → (i ≡ j) × (rand_s ≡ rand_s') × (id_s ≡ id_s')
first_same i j rand_s rand_s' id_s id_s' packet h h' is is' =
    let both : head 1 i 30 0 rand_s ++ id_s ≡ head 1 j 30 0 rand_s' ++ id_s' = sym is ∙ is' in
    let identifier : i ≡ j = cc (both) in
    let tails : rand_s ++ id_s ≡ rand_s' ++ id_s' = cc (both) in
    let parts = fronts_same rand_s rand_s' id_s id_s' (h ∙ sym h') tails in
    (identifier, parts.0, parts.1)

texts_same : (g h : Granted) → IsGranted g → IsGranted h → granting_text g ≡ granting_text h → g ≡ h
texts_same g h hg hh e = let lists : grant_spelling g ≡ grant_spelling h = cc (e) in one_grant g h hg hh lists

sealed_same : (tek : List ℕ) (nonce : ℕ) (a b x y : List ℕ) → channel tek nonce a x ≡ channel tek nonce b y → x ≡ y
sealed_same tek nonce a b x y e =
    let sealed : channel_text tek nonce x ≡ channel_text tek nonce y = sym (channel_sealed tek nonce a x) ∙ ap (after 20) e ∙ channel_sealed tek nonce b y in
    sym (channel_back tek nonce x) ∙ ap (channel_text tek nonce) sealed ∙ channel_back tek nonce y

pub third_same : (ak tek : List ℕ) (i j : ℕ) (rand_s rand_p id_s : List ℕ) (g h : Granted) (packet : List ℕ) → length rand_s ≡ 16 → IsGranted g → IsGranted h
    → Third ak tek i rand_s rand_p id_s (granting_text g) packet → Third ak tek j rand_s rand_p id_s (granting_text h) packet → g ≡ h
third_same ak tek i j rand_s rand_p id_s g h packet len hg hh is is' =
    let x : List ℕ = granting_text g in
    let y : List ℕ = granting_text h in
    let a : List ℕ = third_head i rand_s (length x) in
    let b : List ℕ = third_head j rand_s (length y) in
    let mac : List ℕ = mac_s ak id_s rand_p in
    let la : length a ≡ 22 = omega (arith, len) in
    let lb : length b ≡ 22 = omega (arith, len) in
    let outer = fronts_same a b (mac ++ channel tek 0 a x) (mac ++ channel tek 0 b y) (la ∙ sym lb) (sym is ∙ is') in
    let inner = fronts_same mac mac (channel tek 0 a x) (channel tek 0 b y) refl outer.1 in
    texts_same g h hg hh (sealed_same tek 0 a b x y inner.1)

rand_from : List ℕ → RandomOctets
rand_from octets = record { 0 = octets }

rand_same : (a b : RandomOctets) → a.0 ≡ b.0 → a ≡ b
unfolding rand_from
rand_same a b e = ap rand_from e

pub tags_same : (eui eui' : Eui) (i j : ℕ) (rand_s rand_s' rand_p rand_p' : RandomOctets) (g h : Granted) → IsGranted g → IsGranted h
    → granting_tag eui i rand_s rand_p (granting_text g) ≡ granting_tag eui' j rand_s' rand_p' (granting_text h)
    → (eui ≡ eui') × (rand_s ≡ rand_s') × (rand_p ≡ rand_p') × (g ≡ h)
tags_same eui eui' i j rand_s rand_s' rand_p rand_p' g h hg hh e =
    let node : eui ≡ eui' = cc (e) in
    let chosen : rand_p ≡ rand_p' = cc (e) in
    let texts : granting_text g ≡ granting_text h = cc (e) in
    let headers : third_head i rand_s.0 (length (granting_text g)) ≡ third_head j rand_s'.0 (length (granting_text h)) = cc (e) in
    let given : rand_s.0 ≡ rand_s'.0 = cc (headers) in
    (node, rand_same rand_s rand_s' given, chosen, texts_same g h hg hh texts)

pub successes_same : (eui eui' : Eui) (i j : ℕ) (rand_s rand_s' rand_p rand_p' : RandomOctets)
    → success_tag eui i rand_s rand_p ≡ success_tag eui' j rand_s' rand_p' → (eui ≡ eui') × (rand_s ≡ rand_s') × (rand_p ≡ rand_p')
successes_same eui eui' i j rand_s rand_s' rand_p rand_p' e =
    let node : eui ≡ eui' = cc (e) in
    let chosen : rand_p ≡ rand_p' = cc (e) in
    let headers : fourth_head i rand_s.0 ≡ fourth_head j rand_s'.0 = cc (e) in
    let given : rand_s.0 ≡ rand_s'.0 = cc (headers) in
    (node, rand_same rand_s rand_s' given, chosen)

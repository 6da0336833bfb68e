-- The tag of a fourth packet names the meter and both random values.
use Rattle.std.proofs.Common.{◌≡◌, ℕ, true, List, Some, sym, ap, ◌∙◌, subst}
use Rattle.std.specs.Prelude.{slice_get}
use Rattle.std.proofs.lemmas.Bool.{and_parts, eqb-true}
use Rattle.std.proofs.lemmas.Slice.Eq.{bytes_eq-Decides}
use Rattle.plc_base.specs.declared.key.RandomOctets.{RandomOctets}
use Rattle.plc_base.specs.declared.tags.PairTag.{PairTag}
use Rattle.plc_base.specs.declared.tags.PairTag.TheVariants as tags
use Rattle.group_keys.specs.KeyBook as book
use Rattle.eap_psk.specs.Messages.{fourth_head}
use Rattle.eap_psk.specs.Tags.{success_tag}
use Rattle.eap_psk.specs.declared.server.Agreed.{Agreed}
use Rattle.line_rules.specs.Answers.{CompletedJoining}
use Rattle.node_rules.specs.Memory.{Node}
use Rattle.line_rules.specs.Worlds.{Pairing, same_tag}
use Rattle.line_laws.proofs.IssueWords.{Among, Each, Found, any_found}
use Rattle.line_laws.proofs.IssueNodes.{AllMade}
use Rattle.line_laws.proofs.IssueCoordinator.{IsDoneBy}
pub use Rattle.line_laws.specs.Agreed.{IsTakenBy, TagTaken}

rand_of : List ℕ → RandomOctets
rand_of octets = record { 0 = octets }

pub rand_same : (a b : RandomOctets) → a.0 ≡ b.0 → a ≡ b
unfolding rand_of
rand_same a b e = ap rand_of e

-- A joining that was taken by a meter with this EUI, with these random values.
pub record WasTakenBy (nodes : List Node) (taken : List Pairing) (c : CompletedJoining) : Type 0 where
  pub number : ℕ
  pub node : Node
  pub there : slice_get nodes number ≡ Some node
  pub names : book.eui_number node.eui ≡ book.eui_number c.eui
  pub among : Among (record { node = number; agreed = c.agreed }) taken

heads_same : (i j : ℕ) (s t : List ℕ) → fourth_head i s ≡ fourth_head j t → s ≡ t
heads_same i j s t e = cc (e)

agreed_of : RandomOctets → RandomOctets → Agreed
agreed_of s p = record { rand_s = s; rand_p = p }

agreed_same : (a b : Agreed) → a.rand_s ≡ b.rand_s → a.rand_p ≡ b.rand_p → a ≡ b
unfolding agreed_of
agreed_same a b e f = ap (λ s. agreed_of s a.rand_p) e ∙ ap (agreed_of b.rand_s) f

-- where each made tag with nonce 1 is of a taking, a joining that is done was taken before, with the same random values
pub done_taken : (nodes : List Node) (taken : List Pairing) (made opened : List PairTag) (c : CompletedJoining) → IsDoneBy opened c → AllMade made opened
    → Each (TagTaken nodes taken) made → WasTakenBy nodes taken c
done_taken nodes taken made opened c among right each =
    by_found (any_found (TagTaken nodes taken) (same_tag (success_tag c.eui 2 c.agreed.rand_s c.agreed.rand_p)) made (right _ among) each)
  where
    by_found : Found (TagTaken nodes taken) (same_tag (success_tag c.eui 2 c.agreed.rand_s c.agreed.rand_p)) → WasTakenBy nodes taken c
    by_found f = by_tag f.one f.passes f.is
      where
        by_tag : (t : PairTag) → same_tag (success_tag c.eui 2 c.agreed.rand_s c.agreed.rand_p) t ≡ true → TagTaken nodes taken t → WasTakenBy nodes taken c
        by_tag (tags.MacP e o) same h = absurd (cc)
        by_tag (tags.MacS e o) same h = absurd (cc)
        by_tag (tags.Channel e q n header text) same h =
            let one = and_parts _ _ same in
            let two = and_parts _ _ one.1 in
            let three = and_parts _ _ two.1 in
            let four = and_parts _ _ three.1 in
            let x = h (sym (eqb-true _ _ three.0)) in
            let headers : fourth_head 2 c.agreed.rand_s.0 ≡ header = (bytes_eq-Decides (fourth_head 2 c.agreed.rand_s.0) header).0 four.0 in
            let given : c.agreed.rand_s ≡ x.agreed.rand_s = rand_same _ _ (heads_same 2 x.identifier c.agreed.rand_s.0 x.agreed.rand_s.0 (headers ∙ x.head)) in
            let chosen : c.agreed.rand_p ≡ x.agreed.rand_p = rand_same _ _ ((bytes_eq-Decides c.agreed.rand_p.0 q.0).0 two.0) ∙ x.chosen in
            let whole : x.agreed ≡ c.agreed = agreed_same x.agreed c.agreed (sym given) (sym chosen) in
            record {
              number = x.number;
              node = x.node;
              there = x.there;
              names = x.names ∙ sym (eqb-true _ _ one.0);
              among = subst (λ a. Among (record { node = x.number; agreed = a }) taken) whole x.among;
            }

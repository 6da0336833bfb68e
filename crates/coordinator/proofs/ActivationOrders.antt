-- What an order to seal with another key comes to, by what is tested.
use Rattle.std.proofs.Common.{◌≡◌, ℕ, true, false, Some, None, refl}
use Rattle.plc_base.specs.declared.address.Eui.{Eui}
use Rattle.group_keys.specs.declared.key_book.BookEntry.{BookEntry}
use Rattle.group_keys.specs.KeyBook.{address_of}
use Rattle.joining_messages.specs.declared.message.JoinBody.TheVariants.{Activate}
use Rattle.node_rules.specs.declared.refusal.CoordinatorRefusal.TheVariants.{NotAllowed, NotIssued}
use Rattle.node_rules.specs.Memory.{Memory}
use Rattle.node_rules.specs.JoiningPackets.{message}
use Rattle.node_rules.specs.Drafts.{choose, refused}
use Rattle.node_rules.specs.Coordinators.{orders, allowed_entry, was_issued, activate, activate_at}

module _ (m : Memory) (eui : Eui) (index now : ℕ) where
  pub not_allowed : None ≡ allowed_entry m eui → refused {H = Unit {0}} orders m NotAllowed ≡ activate m eui index now
  not_allowed e = rw (← e) refl

  pub not_known : (entry : BookEntry) → Some entry ≡ allowed_entry m eui → None ≡ address_of m.book eui
      → refused {H = Unit {0}} orders m NotAllowed ≡ activate m eui index now
  not_known entry e a = rw (← e, ← a) refl

  pub not_issued : (entry : BookEntry) (to : ℕ) → Some entry ≡ allowed_entry m eui → Some to ≡ address_of m.book eui → false ≡ was_issued m entry index
      → refused {H = Unit {0}} orders m NotIssued ≡ activate m eui index now
  unfolding choose
  not_issued entry to e a i = rw (← e, ← a, ← i) refl

  pub ordered : (entry : BookEntry) (to : ℕ) → Some entry ≡ allowed_entry m eui → Some to ≡ address_of m.book eui → true ≡ was_issued m entry index
      → activate_at m to (message entry.eui (Activate index)) now ≡ activate m eui index now
  unfolding choose
  ordered entry to e a i = rw (← e, ← a, ← i) refl

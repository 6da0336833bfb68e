-- No node accepts a sealed frame twice, and before an event is forged no two nodes accept one frame to one node.
use Rattle.std.proofs.Common.{◌≡◌, ℕ, Bool, true, false, List, [], ◌∷◌, ◌++◌, Some, refl, sym, ap, ◌∙◌, subst}
use Rattle.std.proofs.lemmas.Option.{same_Some}
use Rattle.plc_base.specs.declared.key.Key.{Key}
use Rattle.mac_frames.specs.Reader.{head_in}
use Rattle.mac_frames.specs.declared.head.MacHead.{MacHead}
use Rattle.mac_frames.specs.declared.head.MacHead.TheVariants as heads
use Rattle.node_rules.specs.Ciphers.{Ciphers}
use Rattle.node_rules.specs.Memory.{Node}
use Rattle.line_rules.specs.Forgery.{AcceptsSealed}
use Rattle.line_rules.specs.Runs.{Entry, issued}
use Rattle.line_rules.specs.Worlds.{World, node_at, start}
use Rattle.line_laws.specs.Live.{marks_of, admits, is_live}
use Rattle.line_laws.specs.Once.{NeverAgain, AcceptsOnce, EveryNodeAcceptsOnce, NobodyAccepts, AcceptedOnce, EveryFrameIsAcceptedOnce}
use Rattle.line_laws.specs.Owed.{KeepsRanges}
use Rattle.line_laws.proofs.MarkOrder.{Raised}
use Rattle.line_laws.proofs.IssueRuns.{start_keyed}
use Rattle.line_laws.proofs.IssueWorlds.{Keyed}
use Rattle.line_laws.proofs.LineRuns.{AreLawful, Lawful, accepted_at, ends_at, follows_at, keyed_at, lawful}
use Rattle.line_laws.proofs.LiveRuns.{not_admitted}

-- whether a node's marks admit the counter of a sealed head
abbrev is_open : Node → MacHead → Bool
is_open x (heads.Sealed ack seq pan to from counter index) = admits (marks_of x) from counter
is_open x (heads.Up ack version seq pan to from) = false
is_open x (heads.Down ack version seq pan to from) = false

-- The node of a number does not admit a frame.
record IsShut (w : World) (number : ℕ) (octets : List ℕ) : Type 0 where
  node : Node
  there : node_at w number ≡ Some node
  shut : is_open node (head_in octets) ≡ false

shut_later : (x y : Node) → Raised (marks_of x) (marks_of y) → (h : MacHead) → is_open x h ≡ false → is_open y h ≡ false
shut_later x y r (heads.Sealed ack seq pan to from counter index) e = not_admitted x y r from counter e
shut_later x y r (heads.Up ack version seq pan to from) e = e
shut_later x y r (heads.Down ack version seq pan to from) e = e

-- what did not hold before does not hold now
still_false : (a b : Bool) → (b ≡ true → a ≡ true) → a ≡ false → b ≡ false
still_false a false h e = refl
still_false a true h e = absurd (let k = h refl in cc (k, e))

-- # By one node

module _ (ciphers : Ciphers) (fits : KeepsRanges ciphers) where
  module _ (w : World) (x : Entry) (l : Lawful ciphers w x) where
    -- what is accepted was admitted, and is not any more
    accepted_shut : (octets : List ℕ) (key : Key) (a : AcceptsSealed ciphers w x.event octets key)
        → (is_open a.node (head_in octets) ≡ true) × IsShut x.after a.number octets
    accepted_shut octets key a =
        let one = accepted_at ciphers fits w x l octets key a in (
          subst (λ h. is_open a.node h ≡ true) (sym one.head.5) one.before,
          record { node = one.left; there = one.there; shut = subst (λ h. is_open one.left h ≡ false) (sym one.head.5) one.after },
        )

    stays_shut : (number : ℕ) (octets : List ℕ) → IsShut w number octets → IsShut x.after number octets
    stays_shut number octets s =
        let later = (follows_at ciphers fits w x l).at number s.node s.there in
        record { node = later.node; there = later.there; shut = shut_later s.node later.node later.raised (head_in octets) s.shut }

    not_again : (number : ℕ) (octets : List ℕ) → IsShut w number octets → (key : Key) (a : AcceptsSealed ciphers w x.event octets key) → a.number ≡ number → ⊥
    not_again number octets s key a same =
        let this : a.node ≡ s.node = same_Some _ _ (sym a.there ∙ ap (node_at w) same ∙ s.there) in
        let was : is_open s.node (head_in octets) ≡ true = subst (λ (n : Node). is_open n (head_in octets) ≡ true) this (accepted_shut octets key a).0 in
        let shut = s.shut in
        cc (was, shut)

  never_again : (w : World) (number : ℕ) (octets : List ℕ) → IsShut w number octets → (entries : List Entry) → AreLawful ciphers w entries
      → NeverAgain ciphers number octets w entries
  never_again w number octets s [] l = tt
  never_again w number octets s (x ∷ xs) l = (
    not_again w x l.0 number octets s,
    never_again x.after number octets (stays_shut w x l.0 number octets s) xs l.1,
  )

  accepts_once : (w : World) (entries : List Entry) → AreLawful ciphers w entries → AcceptsOnce ciphers w entries
  accepts_once w [] l = tt
  accepts_once w (x ∷ xs) l = (
    λ octets key a. never_again x.after a.number octets (accepted_shut w x l.0 octets key a).1 xs l.1,
    accepts_once x.after xs l.1,
  )

  -- # By any node

  nobody_accepts : (w : World) (before : List Entry) → Keyed w (issued before) → (octets : List ℕ) → is_live w (head_in octets) ≡ false
      → (entries : List Entry) → AreLawful ciphers w entries → NobodyAccepts ciphers octets w entries
  nobody_accepts w before k octets dead [] l = tt
  nobody_accepts w before k octets dead (x ∷ xs) l =
      let ends = ends_at ciphers fits w x l.0 (issued before) k in (
        λ key a one. (
            let p = ends.alone octets key a one in
            let was = p.0 in
            cc (was, dead)
            ),
        λ honest.
            nobody_accepts x.after (before ++ x ∷ []) (keyed_at ciphers fits w x l.0 before k honest) octets
            (still_false (is_live w (head_in octets)) (is_live x.after (head_in octets)) (ends.heads (head_in octets)) dead) xs l.1,
      )

  accepted_once : (w : World) (before : List Entry) → Keyed w (issued before) → (entries : List Entry) → AreLawful ciphers w entries
      → AcceptedOnce ciphers w entries
  accepted_once w before k [] l = tt
  accepted_once w before k (x ∷ xs) l = λ honest.
      let ends = ends_at ciphers fits w x l.0 (issued before) k in
      let k' = keyed_at ciphers fits w x l.0 before k honest in (
        λ octets key a one. (
            let p = ends.alone octets key a one in
            nobody_accepts x.after (before ++ x ∷ []) k' octets p.1 xs l.1
            ),
        accepted_once x.after (before ++ x ∷ []) k' xs l.1,
      )

pub every_node : EveryNodeAcceptsOnce
every_node ciphers fits entries r fly = accepts_once ciphers fits start entries (lawful ciphers fits entries r fly)

pub every_frame : EveryFrameIsAcceptedOnce
every_frame ciphers fits entries r fly = accepted_once ciphers fits start [] start_keyed entries (lawful ciphers fits entries r fly)

-- What a contract sees of the bodies that a node holds: those that it gathers, and those that wait.
use Rattle.std.specs.Prelude.{ℕ, List, Option, refl}
use Rattle.std.specs.Coded.{Coded, code_by, coded×, coded_ℕ, coded_list, coded_option}
use Rattle.fragment_buffers.specs.Reassembly.{Reassembly, reassembly_code}
use Rattle.fragment_buffers.specs.WaitingBodies.{Body, body_code}

-- The reassemblies and the bodies that wait, each in order.
pub record Held : Type 0 where
  pub reassemblies : List Reassembly
  pub waiting : List Body

abbrev pub held_code : Coded Held
held_code =
    code_by (List Reassembly × List Body) (coded× (coded_list reassembly_code) (coded_list body_code))
    (λ h. (h.reassemblies, h.waiting))
    (λ p. record { reassemblies = p.0; waiting = p.1 }) (λ _. refl)

-- A body that waits, whose octets a chain of the pool holds: a datagram with its tag, or a command.
pub record Slot : Type 0 where
  pub to : ℕ
  pub note : ℕ
  pub since : ℕ
  pub tag : Option ℕ
  pub chain : ℕ
  pub size : ℕ

abbrev pub slot_code : Coded Slot
slot_code =
    code_by (ℕ × (ℕ × (ℕ × (Option ℕ × (ℕ × ℕ)))))
    (coded× coded_ℕ (coded× coded_ℕ (coded× coded_ℕ (coded× (coded_option coded_ℕ) (coded× coded_ℕ coded_ℕ)))))
    (λ w. (w.to, (w.note, (w.since, (w.tag, (w.chain, w.size))))))
    (λ p. record { to = p.0; note = p.1.0; since = p.1.1.0; tag = p.1.1.1.0; chain = p.1.1.1.1.0; size = p.1.1.1.1.1 })
    (λ _. refl)

-- What a scan knows after one more entry of a history.
use Rattle.std.proofs.Common.{◌≡◌, ◌<◌, ◌≤◌, ℕ, zero, suc, ◌-◌, Bool, true, false, List, [], ◌∷◌, take, Option, refl, sym, ap, ◌∙◌, arith}
use Rattle.std.specs.Prelude.{slice_get, option_map, if◌then◌else◌}
use Rattle.pan_discovery.specs.declared.agents.Agent.{Agent}
use Rattle.pan_discovery.specs.Agents.{shown, agents_of, kth_of, agents_after}
use Rattle.pan_discovery.specs.History.{Scanned, Entry, History, Begin, Clear, Beacon, scans, agents_since, after_history, LeadsOn}
use Rattle.pan_discovery.specs.Laws.{OneMoreEntry, entry_after}
use Rattle.pan_discovery.proofs.AgentPlaces.{first_agents}

one_more_beacon : (scanning : Bool) (heard : List Agent) (a : Agent)
    → let agents : List Agent = take 16 (agents_of (if scanning then a ∷ heard else heard)) in
    let after : Scanned = record { scanning = scanning; agents = agents } in
    after ≡ (if scanning then record { scanning = scanning; agents = agents_after a (take 16 (agents_of heard)) }
    else record { scanning = scanning; agents = take 16 (agents_of heard) })
one_more_beacon true heard a = ap (λ (agents : List Agent). record { scanning = true; agents = agents }) (first_agents a heard)
one_more_beacon false heard a = refl

pub one_more_entry : OneMoreEntry
unfolding after_history
one_more_entry history Begin = refl
one_more_entry history Clear = refl
one_more_entry history (Beacon from cost link) = one_more_beacon (scans history) (agents_since history) (shown from cost link)

pub leads_on : (old new : Scanned) (entry : Entry) → new ≡ entry_after old entry → LeadsOn old entry new
leads_on old new entry is history start = is ∙ ap (λ (s : Scanned). entry_after s entry) start ∙ sym (one_more_entry history entry)

-- # The k-th agent

get_first : (n i : ℕ) (xs : List Agent) → i < n → slice_get (take n xs) i ≡ slice_get xs i
get_first zero i xs lt = absurd (omega (arith, lt))
get_first (suc n) i [] lt = refl
get_first (suc n) zero (x ∷ xs) lt = refl
get_first (suc n) (suc i) (x ∷ xs) lt = get_first n i xs (omega (arith, lt))

pub kth_first : (s : Scanned) (k : ℕ) (r : Option (ℕ × ℕ)) → 1 ≤ k → k ≤ 16 → r ≡ kth_of s.agents k
    → (history : History) → s ≡ after_history history → r ≡ kth_of (agents_of (agents_since history)) k
unfolding after_history
kth_first s k r low high is history start =
    is ∙ ap (λ (x : Scanned). kth_of x.agents k) start
    ∙ ap (option_map (λ (a : Agent). (a.address, a.total))) (get_first 16 (k - 1) (agents_of (agents_since history)) (omega (arith, low, high)))

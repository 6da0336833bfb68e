-- How the rules of what a meter hears are carried out.
use Rattle.std.proofs.Common.{◌≡◌, ℕ, Bool, true, false, [], ◌∷◌, Option, Some, None, refl, ap, ◌∙◌}
use Rattle.std.specs.Prelude.{is_some}
use Rattle.std.specs.Option.{option_map_or}
use Rattle.joining_messages.specs.declared.message.JoinMessage.{JoinMessage}
use Rattle.joining_messages.specs.declared.message.JoinBody.{JoinBody}
use Rattle.joining_messages.specs.declared.message.JoinBody.TheVariants as body
use Rattle.meter_node.specs.JoiningRelay as joining_relay
use Rattle.node_rules.specs.declared.heard.MeterHeard.TheVariants as heard
use Rattle.node_rules.specs.declared.refusal.Dropped.TheVariants.{BadUnit, NoSession}
use Rattle.node_rules.specs.Frames.{Down}
use Rattle.node_rules.specs.Memory.{StationMemory, ByAgent, address_of}
use Rattle.node_rules.specs.Plans.{resting, within}
use Rattle.node_rules.specs.Drafts.{empty_draft, refused, sealing, choose, with_ring}
use Rattle.node_rules.specs.HearingRules.{dropped}
use Rattle.node_rules.specs.Calls as calls
use Rattle.node_rules.specs.MemoryDrafts.{in_memory, on_station, with_memory_by, goes_down}
use Rattle.node_rules.specs.Meters as meters
use Rattle.node_rules.specs.ComposedPlans.{begun}
use Rattle.node_rules.proofs.ComposedPlans.{sealed_quiet}
use Rattle.meter_node.specs.MeterStates.{MeterState, memory_with}
use Rattle.meter_node.specs.MeterAnswers.{activated_as, left_as}

module _ (x : MeterState) (l : StationMemory) where
  -- # What the coordinator says

  pub declines : (agent : ℕ) → is_some l.ring ≡ false → meters.has_session (memory_with x l) (ByAgent agent) ≡ true
      → sealing in_memory dropped (begun [] (memory_with (record x { session = None }) l) [] [] []) heard.Declined ≡ meters.declined (memory_with x l) agent
  unfolding choose with_memory_by empty_draft
  declines agent free has =
      rw (free, has) (sealed_quiet dropped (memory_with x l) (begun [] (memory_with (record x { session = None }) l) [] [] []) heard.Declined refl)

  pub declined_joined : (agent : ℕ) → is_some l.ring ≡ true → refused dropped (memory_with x l) BadUnit ≡ meters.declined (memory_with x l) agent
  unfolding choose
  declined_joined agent ring = rw ring refl

  pub declined_unasked : (agent : ℕ) → is_some l.ring ≡ false → meters.has_session (memory_with x l) (ByAgent agent) ≡ false
      → refused dropped (memory_with x l) NoSession ≡ meters.declined (memory_with x l) agent
  unfolding choose
  declined_unasked agent free has = rw (free, has) refl

  pub kicks : within (memory_with (record x { session = None })) left_as (calls.leave l) ≡ meters.kicked (memory_with x l)
  unfolding with_memory_by on_station empty_draft with_ring
  kicks = sealed_quiet dropped (memory_with x l) (meters.leaves (memory_with x l)) heard.Left refl

  pub activates : (index : ℕ) → within (memory_with x) activated_as (calls.activate l index) ≡ meters.activated (memory_with x l) index
  unfolding choose on_station empty_draft with_ring resting
  activates index = by (calls.has_key l index) refl
    where
      by : (b : Bool) → calls.has_key l index ≡ b → within (memory_with x) activated_as (calls.activate l index) ≡ meters.activated (memory_with x l) index
      by true e = rw e (sealed_quiet dropped (memory_with x l) (on_station (calls.with_active l index) (empty_draft (memory_with x l))) heard.Activated refl)
      by false e = rw e refl

  -- # Carrying down

  pub carries_down : (join : JoinMessage) (own : ℕ) (b : JoinBody) → Some own ≡ address_of l → joining_relay.goes_down b ≡ true
      → sealing in_memory dropped (begun [] (memory_with x l) (Down own join ∷ []) [] []) heard.Carried ≡ meters.carry_down (memory_with x l) join b
  unfolding goes_down empty_draft
  carries_down join own (body.Challenge eap) address goes = by_address join own address
    where
      by_address : (join : JoinMessage) (own : ℕ) → Some own ≡ address_of l
          → sealing in_memory dropped (begun [] (memory_with x l) (Down own join ∷ []) [] []) heard.Carried ≡ meters.carries_down (memory_with x l) join
      by_address join own address =
          sealed_quiet dropped (memory_with x l) (begun [] (memory_with x l) (Down own join ∷ []) [] []) heard.Carried refl
          ∙ ap (λ (a : Option ℕ). option_map_or (λ o. meters.ends (memory_with x l) (goes_down o join (empty_draft (memory_with x l))) heard.Carried) a
          (meters.drop_it (memory_with x l) BadUnit)) address
  carries_down join own (body.Accept identifier) address goes =
      sealed_quiet dropped (memory_with x l) (begun [] (memory_with x l) (Down own join ∷ []) [] []) heard.Carried refl
      ∙ ap (λ (a : Option ℕ). option_map_or (λ o. meters.ends (memory_with x l) (goes_down o join (empty_draft (memory_with x l))) heard.Carried) a
      (meters.drop_it (memory_with x l) BadUnit)) address
  carries_down join own body.Decline address goes =
      sealed_quiet dropped (memory_with x l) (begun [] (memory_with x l) (Down own join ∷ []) [] []) heard.Carried refl
      ∙ ap (λ (a : Option ℕ). option_map_or (λ o. meters.ends (memory_with x l) (goes_down o join (empty_draft (memory_with x l))) heard.Carried) a
      (meters.drop_it (memory_with x l) BadUnit)) address
  carries_down join own (body.Join eap) address goes = absurd (cc)
  carries_down join own body.Kick address goes = absurd (cc)
  carries_down join own (body.Activate index) address goes = absurd (cc)

  pub not_carried : (join : JoinMessage) (b : JoinBody) → joining_relay.goes_down b ≡ false
      → refused dropped (memory_with x l) BadUnit ≡ meters.carry_down (memory_with x l) join b
  not_carried join (body.Challenge eap) goes = absurd (cc)
  not_carried join (body.Accept identifier) goes = absurd (cc)
  not_carried join body.Decline goes = absurd (cc)
  not_carried join (body.Join eap) goes = refl
  not_carried join body.Kick goes = refl
  not_carried join (body.Activate index) goes = refl

  pub carried_without : (join : JoinMessage) (b : JoinBody) → None ≡ address_of l
      → refused dropped (memory_with x l) BadUnit ≡ meters.carry_down (memory_with x l) join b
  carried_without join (body.Challenge eap) none = ap (λ (a : Option ℕ). option_map_or
      (λ o. meters.ends (memory_with x l) (goes_down o join (empty_draft (memory_with x l))) heard.Carried) a (meters.drop_it (memory_with x l) BadUnit)) none
  carried_without join (body.Accept identifier) none = ap (λ (a : Option ℕ). option_map_or
      (λ o. meters.ends (memory_with x l) (goes_down o join (empty_draft (memory_with x l))) heard.Carried) a (meters.drop_it (memory_with x l) BadUnit)) none
  carried_without join body.Decline none = ap (λ (a : Option ℕ). option_map_or
      (λ o. meters.ends (memory_with x l) (goes_down o join (empty_draft (memory_with x l))) heard.Carried) a (meters.drop_it (memory_with x l) BadUnit)) none
  carried_without join (body.Join eap) none = refl
  carried_without join body.Kick none = refl
  carried_without join (body.Activate index) none = refl

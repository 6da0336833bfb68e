-- The description that a text gives, and what is wrong with one that gives none.
use Rattle.std.specs.Prelude.{◌≡◌, ◌⊎◌, ℕ, ◌≤◌, List, length, take, None, Some, Result, Ok, Err, string_bytes}
use Rattle.toml.specs.Data.{Members}
use Rattle.toml.specs.Parse.{parse_document}
use Rattle.plan_tables.specs.declared.fault.Section.TheVariants as sections
use Rattle.plan_tables.specs.declared.fault.PlanFault.{PlanFault}
use Rattle.plan_tables.specs.declared.fault.PlanFault.TheVariants.{At, Memory}
use Rattle.plan_tables.specs.declared.fault.Cause.{Cause}
use Rattle.plan_tables.specs.declared.fault.Cause.TheVariants.{Syntax, Unknown, Wrong}
use Rattle.plan_tables.specs.declared.fault.TextPlace.{TextPlace}
use Rattle.plan_tables.specs.declared.fault.UnknownKey.{UnknownKey}
use Rattle.line_plan.specs.declared.plan.Plan.{Plan}
use Rattle.plan_tables.specs.Keys.{key_word}
use Rattle.plan_tables.specs.Faults.{TableAt}
use Rattle.text_signs.specs.Quotes.{quoted_text}
use Rattle.line_plan.specs.Plans.{plan_at}
use Rattle.line_plan.specs.Unknowns.{UnknownAt, unknown_in, meant_by}
use Rattle.plan_tables.specs.TextPlaces.{text_start, place_of, octet_place}

abbrev pub top_of : Members → TableAt
top_of members = record { section = sections.Top; members = members }

-- # Members

-- all keys of the members are known, and their values are those of the plan
abbrev pub IsPlanIn : Members → Plan → Type 0
IsPlanIn members plan = (unknown_in members ≡ None) × (plan_at (top_of members) ≡ Ok plan)

abbrev pub unknown_at_of : UnknownKey → UnknownAt
unknown_at_of unknown = record { section = unknown.section; key = string_bytes unknown.key; known = unknown.known }

-- an unknown key, as it is quoted, with the known one that may be meant
abbrev pub IsUnknownAt : UnknownAt → UnknownKey → Type 0
IsUnknownAt found unknown =
    (unknown_at_of unknown ≡ found) × (string_bytes unknown.shown ≡ quoted_text found.key) × (unknown.meant ≡ meant_by found.known found.key)

-- the first thing that is wrong with the members
abbrev pub IsCauseIn : Members → Cause → Type 0
IsCauseIn _ (Syntax _) = ⊥
IsCauseIn members (Unknown unknown) = (found : UnknownAt) × (unknown_in members ≡ Some found) × IsUnknownAt found unknown
IsCauseIn members (Wrong wrong) = (unknown_in members ≡ None) × (plan_at (top_of members) ≡ Err wrong)

-- the plan that the members give, or the first thing that is wrong with them
abbrev pub IsReadIn : Members → Result Plan Cause → Type 0
IsReadIn members (Ok plan) = IsPlanIn members plan
IsReadIn members (Err cause) = IsCauseIn members cause

-- # A text

-- the text is TOML, and its members give the plan
abbrev pub IsPlanOf : List ℕ → Plan → Type 0
IsPlanOf text plan = (members : Members) × (parse_document text ≡ Some members) × IsPlanIn members plan

-- the place of the key that a cause is about
abbrev pub cause_place : List ℕ → Cause → TextPlace
cause_place text (Syntax message) = text_start
cause_place text (Unknown unknown) = place_of text unknown.section (string_bytes unknown.key)
cause_place text (Wrong wrong) = place_of text wrong.section (key_word wrong.key)

-- the text is no TOML, and a reader stopped at this place
abbrev pub IsSyntaxFault : List ℕ → TextPlace → Cause → Type 0
IsSyntaxFault text place (Syntax message) = (parse_document text ≡ None) × ((octet : ℕ) × (octet ≤ length text) × (place ≡ octet_place (take octet text)))
IsSyntaxFault text place (Unknown unknown) = ⊥
IsSyntaxFault text place (Wrong wrong) = ⊥

-- the text is TOML, and this is the first thing that is wrong with its members
abbrev pub IsFaultWithin : List ℕ → TextPlace → Cause → Type 0
IsFaultWithin text place cause = (members : Members) × (parse_document text ≡ Some members) × IsCauseIn members cause × (place ≡ cause_place text cause)

-- the first thing that is wrong with the text, at its place
abbrev pub IsFaultOf : List ℕ → PlanFault → Type 0
IsFaultOf text Memory = Unit {0}
IsFaultOf text (At place cause) = IsSyntaxFault text place cause ⊎ IsFaultWithin text place cause

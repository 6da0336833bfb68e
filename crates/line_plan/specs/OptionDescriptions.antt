-- A description as a program reads it: from a source, with options that change it.
use Rattle.std.specs.Prelude.{◌≡◌, ℕ, ◌<◌, ◌==◌, List, [], ◌++◌, length, take, codes, if◌then◌else◌, Option, None, Some, Result, Ok, Err, String}
use Rattle.std.specs.Prelude.{string_bytes, IsUtf8}
use Rattle.std.specs.List.{slice_get}
use Rattle.std.specs.Str.Lossy.{utf8_valid_len}
use Rattle.std.specs.declared.alloc.Global.{Global}
use Rattle.std.specs.declared.alloc.AllocError.{AllocError}
use Rattle.std.specs.Io.KnownBytes.{Consumes, IsAtEnd}
use Rattle.toml.specs.Data.{Members}
use Rattle.toml.specs.Parse.{parse_document}
use Rattle.plc_base.specs.Streams.{SourceState, SourceRose}
use Rattle.plan_tables.specs.declared.fault.Cause.{Cause}
use Rattle.plan_tables.specs.declared.fault.PlanFault.{PlanFault}
use Rattle.plan_tables.specs.declared.fault.PlanFault.TheVariants as faults
use Rattle.plan_tables.specs.declared.fault.TextPlace.{TextPlace}
use Rattle.plan_tables.specs.Words.{cause_text, fault_text, place_text}
use Rattle.text_signs.specs.Quotes.{quoted_text}
use Rattle.plan_tables.specs.TextPlaces.{octet_place, place_of}
use Rattle.plan_tables.specs.declared.fault.Section.TheVariants as sections
use Rattle.plan_tables.specs.declared.keys.Key.TheVariants as keys
use Rattle.plan_tables.specs.Keys.{key_word}
use Rattle.line_plan.specs.declared.plan.Plan.{Plan}
use Rattle.line_plan.specs.Descriptions.{IsPlanIn, IsCauseIn, IsFaultOf}
use Rattle.line_plan.specs.declared.input.TheConstants.{MAX_DESCRIPTION}
use Rattle.line_plan.specs.declared.input.Given.{Given}
use Rattle.line_plan.specs.declared.input.Given.TheVariants.{Whole, More}
use Rattle.line_plan.specs.declared.input.InputFault.{InputFault}
use Rattle.line_plan.specs.declared.input.InputFault.TheVariants as inputs
use Rattle.line_plan.specs.declared.options.OptionFault.{OptionFault}
use Rattle.line_plan.specs.declared.options.OptionFault.TheVariants.{Form, NoValue, NoTable, Memory}
use Rattle.line_plan.specs.declared.option_reading.Description.{Description}
use Rattle.line_plan.specs.declared.option_reading.NoPlan.{NoPlan}
use Rattle.line_plan.specs.declared.option_reading.NoPlan.TheVariants as answers
use Rattle.line_plan.specs.Options.{with_options}

-- # What a source gives

-- A source gave this text, and has no more.
pub record GivesText (old new : SourceState) (text : List ℕ) : Type 0 where
  pub gave : Consumes old.left new.left text
  pub ended : IsAtEnd new.left

-- A source gave more than a description has, of which the first octet stands at a place.
pub record GivesMore (old new : SourceState) (place : TextPlace) : Type 0 where
  pub part : List ℕ
  pub gave : Consumes old.left new.left part
  pub long : MAX_DESCRIPTION < length part
  pub at : place ≡ octet_place (take MAX_DESCRIPTION part)

-- what a source gave
abbrev pub IsGiven : SourceState → SourceState → Given → Type 0
IsGiven old new (Whole octets) = GivesText old new octets.items
IsGiven old new (More octets) = Consumes old.left new.left octets.items × (MAX_DESCRIPTION < length octets.items)

-- A source gave octets that are no text, and has no more. The first that no character begins with stands at a place: what is before it is the longest prefix
-- that is UTF-8.
pub record GivesNoText (old new : SourceState) (place : TextPlace) : Type 0 where
  pub octets : List ℕ
  pub given : GivesText old new octets
  pub spelled : ¬ IsUtf8 octets
  pub at : place ≡ octet_place (take (utf8_valid_len octets) octets)

-- why there is no text
abbrev pub IsUnread : SourceState → SourceState → InputFault → Type 0
IsUnread old new inputs.Read = SourceRose old new
IsUnread old new (inputs.Long place) = GivesMore old new place
IsUnread old new (inputs.Text place) = GivesNoText old new place
IsUnread old new inputs.Memory = Unit {0}

-- # The plan

-- Members as options change them give the plan.
pub record IsPlanBy (members : Members) (options : List (String Global)) (plan : Plan) : Type 0 where
  pub changed : Members
  pub changes : with_options 0 options members ≡ Ok changed
  pub gives : IsPlanIn changed plan

-- The text is right by itself, and as options change it, it gives the plan.
pub record IsPlanWith (text : List ℕ) (options : List (String Global)) (plan : Plan) : Type 0 where
  pub members : Members
  pub reads : parse_document text ≡ Some members
  -- the plan without options
  pub alone : Plan
  pub right : IsPlanIn members alone
  pub planned : IsPlanBy members options plan

-- where the text has the table of the place, or a key of it; once options have changed a description, places say nothing of its text
abbrev pub table_place : List ℕ → List (String Global) → Option TextPlace
table_place text options = if length options == 0 then Some (place_of text sections.Top (key_word keys.Place)) else None

-- The text that a source gave, with options, gives the plan, and has the table of the place where it is said.
pub record IsDescribed (old new : SourceState) (options : List (String Global)) (it : Description) : Type 0 where
  pub text : List ℕ
  pub given : GivesText old new text
  pub planned : IsPlanWith text options it.plan
  pub placed : it.place ≡ table_place text options

-- # What is wrong, as a line

abbrev pub long_line : TextPlace → List ℕ
long_line place = codes "bad description: " ++ place_text place ++ codes ": it has more than 16777216 octets\n"

abbrev pub no_text_line : TextPlace → List ℕ
no_text_line place = codes "bad description: " ++ place_text place ++ codes ": it is no UTF-8\n"

abbrev pub fault_line : PlanFault → List ℕ
fault_line fault = codes "bad description: " ++ fault_text fault ++ codes "\n"

-- once options have changed a description, places say nothing of its text
abbrev pub cause_line : Cause → List ℕ
cause_line cause = codes "bad description with these options: " ++ cause_text cause ++ codes "\n"

abbrev pub word_text : Option (String Global) → List ℕ
word_text None = []
word_text (Some word) = string_bytes word

-- the word at a place among options
abbrev pub word_at : List (String Global) → ℕ → List ℕ
word_at options place = word_text (slice_get options place)

-- as it is quoted
abbrev pub quoted_at : List (String Global) → ℕ → List ℕ
quoted_at options place = quoted_text (word_at options place)

abbrev pub option_line : List (String Global) → OptionFault → List ℕ
option_line options (Form place) = codes "bad option: `" ++ quoted_at options place ++ codes "` is no KEY=VALUE\n"
option_line options (NoValue place) = codes "bad option: no value of TOML in `" ++ quoted_at options place ++ codes "`\n"
option_line options (NoTable place) = codes "bad option: no table is named before the point in `" ++ quoted_at options place ++ codes "`\n"
option_line options Memory = []

-- the line says the fault, which is not lack of memory
abbrev pub IsFaultLine : PlanFault → List ℕ → Type 0
IsFaultLine (faults.At place cause) line = line ≡ fault_line (faults.At place cause)
IsFaultLine faults.Memory line = ⊥

abbrev pub IsOptionLine : List (String Global) → OptionFault → List ℕ → Type 0
IsOptionLine options (Form place) line = line ≡ option_line options (Form place)
IsOptionLine options (NoValue place) line = line ≡ option_line options (NoValue place)
IsOptionLine options (NoTable place) line = line ≡ option_line options (NoTable place)
IsOptionLine options Memory line = ⊥

-- A text is wrong by itself, as the line says.
pub record IsBadText (text line : List ℕ) : Type 0 where
  pub place : TextPlace
  pub cause : Cause
  pub fault : IsFaultOf text (faults.At place cause)
  pub said : line ≡ fault_line (faults.At place cause)

-- Why members give no plan with options: an option does not change them, or what the options make of them is wrong.
pub data IsBadBy (members : Members) (options : List (String Global)) (line : List ℕ) : Type 0 where
  Refused : (fault : OptionFault) → with_options 0 options members ≡ Err fault → line ≡ option_line options fault → IsBadBy members options line
  Changed : (changed : Members) (cause : Cause) → with_options 0 options members ≡ Ok changed → IsCauseIn changed cause → line ≡ cause_line cause
      → IsBadBy members options line

-- Why a text gives no plan with options: it is wrong by itself, or it is right and the options are not.
pub data IsBadWith (text : List ℕ) (options : List (String Global)) (line : List ℕ) : Type 0 where
  ByItself : IsBadText text line → IsBadWith text options line
  WithOptions : (members : Members) (alone : Plan) → parse_document text ≡ Some members → IsPlanIn members alone → IsBadBy members options line
      → IsBadWith text options line

-- Why what a source gives is no description with options.
pub data IsBad (old new : SourceState) (options : List (String Global)) (line : List ℕ) : Type 0 where
  TooLong : (place : TextPlace) → GivesMore old new place → line ≡ long_line place → IsBad old new options line
  NoText : (place : TextPlace) → GivesNoText old new place → line ≡ no_text_line place → IsBad old new options line
  Wrong : (text : List ℕ) → GivesText old new text → IsBadWith text options line → IsBad old new options line

-- why there is no plan
abbrev pub IsRefused : SourceState → SourceState → List (String Global) → NoPlan → Type 0
IsRefused old new options (answers.Bad line) = IsBad old new options (string_bytes line)
IsRefused old new options answers.Read = SourceRose old new
IsRefused old new options answers.Memory = Unit {0}

-- the answer with a line, if there was memory for it
abbrev pub no_plan : Result (String Global) AllocError → NoPlan
no_plan (Ok line) = answers.Bad line
no_plan (Err _) = answers.Memory

-- What is said of a description that gives no plan.
use Rattle.std.proofs.Common.{◌≡◌, List, ℕ, Option, None, Some, Result, Ok, Err, String, Global, string_bytes, IfOk, IfErr, sym, ◌∙◌, ap, subst}
use Rattle.std.specs.declared.alloc.AllocError.{AllocError}
use Rattle.plc_base.specs.Streams.{SourceState}
use Rattle.toml.specs.Data.{Members, no_members}
use Rattle.toml.specs.Parse.{parse_document}
use Rattle.plan_tables.specs.declared.fault.Cause.{Cause}
use Rattle.line_plan.specs.declared.plan.Plan.{Plan}
use Rattle.line_plan.specs.Descriptions.{IsPlanIn, IsPlanOf, IsCauseIn}
use Rattle.line_plan.specs.declared.options.OptionFault.{OptionFault}
use Rattle.line_plan.specs.declared.options.OptionFault.TheVariants.{Form, NoValue, NoTable, Memory}
use Rattle.line_plan.specs.declared.option_reading.NoPlan.{NoPlan}
use Rattle.line_plan.specs.declared.input.InputFault.{InputFault}
use Rattle.line_plan.specs.declared.input.InputFault.TheVariants as inputs
use Rattle.line_plan.specs.Options.{with_options, IsChange}
use Rattle.line_plan.specs.OptionDescriptions.{GivesText, IsOptionLine, cause_line, IsBadBy, Refused, Changed, IsBadWith, WithOptions, Wrong, IsRefused}
use Rattle.line_plan.specs.OptionDescriptions.{IsUnread, TooLong, NoText, long_line, no_text_line, no_plan}
use Rattle.plan_tables.specs.declared.fault.TextPlace.{TextPlace}

-- the line of an option that is refused
refused : (old : Members) (words : List (String Global)) (fault : OptionFault) (line : List ℕ)
    → IsChange (with_options 0 words old) (Err fault) → IsOptionLine words fault line → IsBadBy old words line
refused old words (Form place) line is said = Refused (Form place) is said
refused old words (NoValue place) line is said = Refused (NoValue place) is said
refused old words (NoTable place) line is said = Refused (NoTable place) is said
refused old words Memory line is said = absurd said

pub option_refused : (old : Members) (words : List (String Global)) (fault : OptionFault) (wrong : Result (String Global) AllocError)
    → IsChange (with_options 0 words old) (Err fault) → IfOk wrong (λ line. IsOptionLine words fault (string_bytes line))
    → IfOk wrong (λ line. IsBadBy old words (string_bytes line))
option_refused old words fault (Ok line) is said = refused old words fault (string_bytes line) is said
option_refused old words fault (Err error) is said = tt

-- the line of what options made
pub changed_wrong : (old changed : Members) (words : List (String Global)) (cause : Cause) (wrong : Result (String Global) AllocError)
    → with_options 0 words old ≡ Ok changed → IsCauseIn changed cause → IfOk wrong (λ line. string_bytes line ≡ cause_line cause)
    → IfOk wrong (λ line. IsBadBy old words (string_bytes line))
changed_wrong old changed words cause (Ok line) is found said = Changed changed cause is found said
changed_wrong old changed words cause (Err error) is found said = tt

abbrev members_or_none : Option Members → Members
members_or_none None = no_members
members_or_none (Some old) = old

-- the plan of a text is that of its members
right : (text : List ℕ) (alone : Plan) (old : Members) → IsPlanOf text alone → parse_document text ≡ Some old → IsPlanIn old alone
right text alone old (found, reads, plan) is = subst (λ ms. IsPlanIn ms alone) (ap members_or_none (sym reads ∙ is)) plan

-- the line of a text that is right by itself
pub text_wrong : (text : List ℕ) (words : List (String Global)) (alone : Plan) (old : Members) (result : Result Plan (Result (String Global) AllocError))
    → IsPlanOf text alone → parse_document text ≡ Some old → IfErr result (λ wrong. IfOk wrong (λ line. IsBadBy old words (string_bytes line)))
    → IfErr result (λ wrong. IfOk wrong (λ line. IsBadWith text words (string_bytes line)))
text_wrong text words alone old (Ok plan) plans is bad = tt
text_wrong text words alone old (Err (Ok line)) plans is bad = WithOptions old alone is (right text alone old plans is) bad
text_wrong text words alone old (Err (Err error)) plans is bad = tt

-- of too many octets, and of octets that are no text
pub long_refused : (old new : SourceState) (words : List (String Global)) (fault : InputFault) (place : TextPlace) (wrong : Result (String Global) AllocError)
    (it : NoPlan) → fault ≡ inputs.Long place → it ≡ no_plan wrong → IsUnread old new fault → IfOk wrong (λ line. string_bytes line ≡ long_line place)
    → IsRefused old new words it
long_refused old new words fault place (Ok line) it is answer unread said =
    subst (λ n. IsRefused old new words n) (sym answer) (TooLong place (subst (λ f. IsUnread old new f) is unread) said)
long_refused old new words fault place (Err error) it is answer unread said = subst (λ n. IsRefused old new words n) (sym answer) tt

pub no_text_refused : (old new : SourceState) (words : List (String Global)) (fault : InputFault) (place : TextPlace)
    (wrong : Result (String Global) AllocError)
    (it : NoPlan) → fault ≡ inputs.Text place → it ≡ no_plan wrong → IsUnread old new fault → IfOk wrong (λ line. string_bytes line ≡ no_text_line place)
    → IsRefused old new words it
no_text_refused old new words fault place (Ok line) it is answer unread said =
    subst (λ n. IsRefused old new words n) (sym answer) (NoText place (subst (λ f. IsUnread old new f) is unread) said)
no_text_refused old new words fault place (Err error) it is answer unread said = subst (λ n. IsRefused old new words n) (sym answer) tt

-- an answer with a line, if there was memory for it
pub no_plan_of : (old new : SourceState) (words : List (String Global)) (text : List ℕ) (wrong : Result (String Global) AllocError) (it : NoPlan)
    → it ≡ no_plan wrong → GivesText old new text → IfOk wrong (λ line. IsBadWith text words (string_bytes line)) → IsRefused old new words it
no_plan_of old new words text (Ok line) it is given bad = subst (λ n. IsRefused old new words n) (sym is) (Wrong text given bad)
no_plan_of old new words text (Err error) it is given bad = subst (λ n. IsRefused old new words n) (sym is) tt

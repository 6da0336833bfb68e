use Rattle.std.proofs.Common.{List, length, false, ◌≡◌, ◌<◌, ℕ, IfSome, IfNone, subst}
use Rattle.fragment_buffers.specs.Buffers.{buffer_at, is_named}
use Rattle.fragment_buffers.specs.declared.buffers.Buffer.{Buffer}
use Rattle.fragment_buffers.proofs.Names.{none_named, one_there, one_named, none_before}
use Rattle.fragment_buffers.proofs.buffers.Buffers.place_of.Goals as goal

pub returns-clause-none : goal.returns-clause-none
returns-clause-none c =
    none_named c.self.inside.buffers.items c.self.inside.places c.args.self.now c.args.origin c.args.size c.args.tag c.self.view_is c.self.invariant.all
    c.find.result
    (subst (λ (bs : List Buffer). IfNone c.find.result ((k : ℕ) → k < length bs → is_named c.args.origin c.args.size c.args.tag (buffer_at bs k) ≡ false))
    c.deref.ensures.value c.find.ensures.none)

pub returns-clause-there : goal.returns-clause-there
returns-clause-there c =
    one_there c.self.inside.buffers.items c.self.inside.places c.args.self.now c.self.view_is c.find.result
    (subst (λ (bs : List Buffer). IfSome c.find.result (λ i. i < length bs)) c.deref.ensures.value c.find.ensures.there)

pub returns-clause-named : goal.returns-clause-named
returns-clause-named c =
    one_named c.self.inside.buffers.items c.self.inside.places c.args.self.now c.args.origin c.args.size c.args.tag c.self.view_is c.self.invariant.all
    c.find.result
    (subst (λ (bs : List Buffer). IfSome c.find.result (λ i. i < length bs)) c.deref.ensures.value c.find.ensures.there)
    (subst (λ (bs : List Buffer). IfSome c.find.result (λ i. (c.args.origin ≡ (buffer_at bs i).origin) × (c.args.size ≡ (buffer_at bs i).size)
    × (c.args.tag ≡ (buffer_at bs i).tag))) c.deref.ensures.value c.find.ensures.named)

pub returns-clause-first : goal.returns-clause-first
returns-clause-first c =
    none_before c.self.inside.buffers.items c.self.inside.places c.args.self.now c.args.origin c.args.size c.args.tag c.self.view_is c.self.invariant.all
    c.find.result
    (subst (λ (bs : List Buffer). IfSome c.find.result (λ i. i < length bs)) c.deref.ensures.value c.find.ensures.there)
    (subst (λ (bs : List Buffer). IfSome c.find.result (λ i. (k : ℕ) → k < i → is_named c.args.origin c.args.size c.args.tag (buffer_at bs k) ≡ false))
    c.deref.ensures.value c.find.ensures.first)

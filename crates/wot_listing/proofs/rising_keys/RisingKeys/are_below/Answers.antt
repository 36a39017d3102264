use Rattle.std.proofs.Common.{length, ◌-◌, slice_get, sym, ap, subst, ◌∙◌}
use Rattle.std.specs.Option.{option_copied}
use Rattle.wot_listing.specs.Rising.{AreBelow}
use Rattle.wot_listing.proofs.RisingLemmas.{all_below, below_none}
use Rattle.wot_listing.proofs.rising_keys.RisingKeys.are_below.Goals as goal

pub returns-in-Some : goal.returns-in-Some
returns-in-Some c = λ is.
    let es = c.self.inside.pairs.items in
    let last = sym (ap (λ l. slice_get l (length l - 1)) c.deref.ensures.value) ∙ sym c.last.ensures.value ∙ ap option_copied c.in-Some.is in
    subst (λ m. AreBelow m c.args.id) c.self.view_is (all_below es c.in-Some.field-0.now c.args.id c.self.invariant last (sym c.lt.ensures ∙ is))

pub returns-in-None : goal.returns-in-None
returns-in-None c = λ is.
    let es = c.self.inside.pairs.items in
    let none = sym (ap (λ l. slice_get l (length l - 1)) c.deref.ensures.value) ∙ sym c.last.ensures.value ∙ ap option_copied c.in-None.is in
    subst (λ m. AreBelow m c.args.id) c.self.view_is (below_none es c.args.id none)

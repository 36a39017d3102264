use Rattle.std.proofs.Common.{sym, ap, subst, ◌∙◌}
use Rattle.std.specs.FinMap.{from_entries, insert}
use Rattle.std.specs.List.Sorted.{IsStrictlySortedBy}
use Rattle.std.specs.Map.{keys_of}
use Rattle.std.specs.Ordering.{nat_cmp}
use Rattle.wot_listing.specs.Rising.{AreBelow}
use Rattle.wot_listing.proofs.RisingLemmas.{one_more, still_sorted}
use Rattle.wot_listing.proofs.rising_keys.RisingKeys.push.Goals as goal

below : (c : goal.In_ok-push) → AreBelow (from_entries c.self.inside.pairs.items) c.args.id
below c = subst (λ m. AreBelow m c.args.id) (sym c.self.view_is) c.requires

pub invariant_of-self-2 : goal.invariant_of-self-2
invariant_of-self-2 c = subst (λ es. IsStrictlySortedBy nat_cmp (keys_of es)) (sym c.in_ok-push.ensures.items) (still_sorted c.self.inside.pairs.items c.args.id c.args.key c.self.invariant (below c))

pub returns : goal.returns
returns c = ap from_entries c.in_ok-push.ensures.items ∙ one_more c.self.inside.pairs.items c.args.id c.args.key (below c) ∙ ap (λ m. insert m c.args.id c.args.key) c.self.view_is

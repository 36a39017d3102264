use Rattle.std.proofs.Common.{◌==◌, rules, tests, sym, ap, ◌∙◌}
use Rattle.std.specs.Prelude.{ℕ, is_some}
use Rattle.std.specs.FinMap.{contains_key}
use Rattle.std.proofs.lemmas.Iterator.{YieldsList-from_slice}
use Rattle.std.proofs.lemmas.Iterator.Search.{any_from_yields_List}
use Rattle.wot_types.specs.declared.key.Key.{Key}
use Rattle.wot_listing.proofs.RisingLemmas.{among, not_there}
use Rattle.wot_listing.proofs.rising_keys.RisingKeys.contains.Goals as goal

pub returns-then-are_below : goal.returns-then-are_below
returns-then-are_below c = sym (ap is_some (not_there c.args.self.now c.args.id (c.are_below.ensures c.if-are_below.true)))

pub returns : goal.returns
returns c =
    let es = c.self.inside.pairs.items in
    any_from_yields_List (λ (e : ℕ × Key). e.0 == c.args.id) _ _ c.any.result c.any.ensures.ran (YieldsList-from_slice es (c.iter.ensures.rest ∙ c.deref.ensures.value)) (λ x b q k. search (rules, tests))
    ∙ among es c.args.id
    ∙ ap (λ m. contains_key m c.args.id) c.self.view_is

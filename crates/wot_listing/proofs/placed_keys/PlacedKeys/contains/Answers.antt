use Rattle.std.proofs.Common.{sym, ap, ◌∙◌}
use Rattle.std.specs.Prelude.{is_some}
use Rattle.std.specs.FinMap.{contains_key, from_entries}
use Rattle.std.proofs.lemmas.Cmp.{nat_cmp_total}
use Rattle.wot_types.proofs.Maps.{get_entries}
use Rattle.wot_listing.proofs.PlaceLemmas.{contains_at}
use Rattle.wot_listing.proofs.placed_keys.PlacedKeys.contains.Goals as goal

pub returns : goal.returns
returns c =
    let kept = c.self.inside.places.entries in
    c.contains_key.ensures
    ∙ ap is_some (sym (get_entries nat_cmp_total kept c.args.id))
    ∙ sym (contains_at (from_entries kept) c.self.inside.keys.items c.self.invariant c.args.id)
    ∙ ap (λ m. contains_key m c.args.id) c.self.view_is

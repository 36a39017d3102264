use Rattle.std.proofs.Common.{◌≡◌, length, Some, sym, ap, subst, ◌∙◌}
use Rattle.std.specs.FinMap.{from_entries, insert, nat_cmp-IsAntisymmetric}
use Rattle.std.proofs.lemmas.Cmp.{nat_cmp_total}
use Rattle.wot_types.proofs.Maps.{inserted}
use Rattle.wot_listing.specs.Places.{IsPlaced, Places, keys_at}
use Rattle.wot_listing.proofs.PlaceLemmas.{keys_at_end, placed_at_end, placed_beside}
use Rattle.wot_listing.proofs.placed_keys.PlacedKeys.insert.Goals as goal

-- the key ID has the place at the end
places_are : (c : goal.In_ok-insert) → ◌≡◌ {A = Places} (from_entries c.insert.new.self.entries)
    (insert (from_entries c.self.inside.places.entries) c.args.id (length c.self.inside.keys.items))
places_are c =
    inserted nat_cmp_total nat_cmp-IsAntisymmetric c.self.inside.places.entries c.insert.new.self.entries c.args.id c.len-place.result c.in_ok-insert.ensures.updates.0
    ∙ ap (insert (from_entries c.self.inside.places.entries) c.args.id) (c.len-place.ensures ∙ c.self.inside.keys.ok.0)

-- without memory for its place the key stands beside
pub invariant_of-self-in_err-insert : goal.invariant_of-self-in_err-insert
invariant_of-self-in_err-insert c =
    subst (λ es. IsPlaced (from_entries es) c.push.new.self.items) (sym c.in_err-insert.ensures.err)
    (subst (IsPlaced (from_entries c.self.inside.places.entries)) (sym c.in_ok-push.ensures.items)
    (placed_beside (from_entries c.self.inside.places.entries) c.self.inside.keys.items c.self.invariant (Some c.args.key)))

pub invariant_of-self-2 : goal.invariant_of-self-2
invariant_of-self-2 c =
    subst (λ m. IsPlaced m c.push.new.self.items) (sym (places_are c))
    (subst (IsPlaced _) (sym c.in_ok-push.ensures.items)
    (placed_at_end (from_entries c.self.inside.places.entries) c.self.inside.keys.items c.self.invariant c.args.id c.args.key))

pub returns : goal.returns
returns c =
    (λ i. keys_at (places_are c i) (c.in_ok-push.ensures.items i))
    ∙ keys_at_end (from_entries c.self.inside.places.entries) c.self.inside.keys.items c.self.invariant c.args.id c.args.key
    ∙ ap (λ m. insert m c.args.id c.args.key) c.self.view_is

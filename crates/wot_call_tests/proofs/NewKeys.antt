-- Keys whose key IDs are new to a keyring take nobody's.
use Rattle.std.proofs.Common.{◌≡◌, false, cond, List, [], ◌∷◌, Option, Some, None, option_map, is_some, refl, ap, ◌∙◌}
use Rattle.std.specs.FinMap as map
use Rattle.std.specs.List.{find, list_any}
use Rattle.std.proofs.lemmas.Bool.{or_parts, true≢false}
use Rattle.wot_types.specs.declared.key.Key.{Key}
use Rattle.wot_types.specs.Keyring.{Keyring, id_of, is_another, is_taken, taken_id}

not_another : (key : Key) (o : Option Key) → is_some o ≡ false → is_another key o ≡ false
not_another key None h = refl
not_another key (Some other) h = absurd (true≢false h)

pub none_taken : (keys : Keyring) (more : List Key) → list_any (λ key. map.contains_key keys (id_of key)) more ≡ false → taken_id keys more ≡ None
none_taken keys [] h = refl
none_taken keys (key ∷ more) h =
    let parts = or_parts (map.contains_key keys (id_of key)) (list_any (λ key. map.contains_key keys (id_of key)) more) h in
    ap (λ b. option_map id_of (cond b (Some key) (find (is_taken keys) more))) (not_another key (map.get keys (id_of key)) parts.0) ∙ none_taken keys more parts.1

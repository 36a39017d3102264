-- The key IDs of the keys of a walk.
use Rattle.std.proofs.Common.{◌≡◌, ℕ, All, List, ◌∷◌, Option, Some, None, option_map, sym, ap, subst, ◌∙◌}
use Rattle.std.proofs.lemmas.List.Elements.{All-head}
use Rattle.std.proofs.lemmas.Option.{none-some, same_Some}
use Rattle.wot_types.specs.declared.key.Key.{Key}
use Rattle.wot_types.specs.Accepted.{IsFiled}
use Rattle.wot_types.specs.Fingerprint.{key_id_of}

-- the first of the keys that are left has the key ID of its fingerprint
pub own_id : (fpr : List ℕ) (k : ℕ × Key) (rest left : List (ℕ × Key)) → fpr ≡ k.1.fpr → left ≡ k ∷ rest → All IsFiled left → key_id_of fpr ≡ k.0
own_id fpr k rest left same step filed = ap key_id_of same ∙ (All-head IsFiled k rest (subst (All IsFiled) step filed)).own_id

-- a key that is found has the ID that was looked for
pub found_id : {X : Type 0} (id : ℕ) (found : Option X) (k : ℕ × X) → option_map (λ x. (id, x)) found ≡ Some k → k.0 ≡ id
found_id id None k is = absurd (none-some k is)
found_id id (Some x) k is = sym (ap (λ e. e.0) (same_Some (id, x) k is))

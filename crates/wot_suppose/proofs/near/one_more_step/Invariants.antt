use Rattle.std.proofs.Common.{◌≡◌, ◌⊎◌, ℕ, true, take}
use Rattle.wot_types.specs.Indexes.{has_cert_by}
use Rattle.wot_levels.specs.Frontier.{among}
use Rattle.wot_suppose.specs.Near.{is_found, is_unread}
use Rattle.wot_suppose.proofs.near.one_more_step.Given as goal

abbrev pub invariant-loop-id : goal.invariant-loop-id
invariant-loop-id g l = record {
  read : (x y : ℕ) → among (take l.id-index l.fn.near.unread.items) x ≡ true → has_cert_by l.table y x ≡ true → is_found l.near y ≡ true;
  kept : (y : ℕ) → is_found l.fn.near y ≡ true → is_found l.near y ≡ true;
  listed : (y : ℕ) → is_found l.near y ≡ true → (is_found l.fn.near y ≡ true) ⊎ (is_unread l.near y ≡ true);
}

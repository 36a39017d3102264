-- The store after it moved to its other side, by the epoch before.
use Rattle.std.proofs.Common.{◌≡◌, ℕ, ◌+◌, Bool, true, false, List, [], length, if◌then◌else◌, refl, sym, ap, ◌∙◌, subst, arith}
use Rattle.std.specs.Prelude.{nat_eq}
use Rattle.std.proofs.lemmas.Bool.Decides.{nat_tests}
use Rattle.wot_types.specs.Compaction.{base_end, compacted_base, compacted_edits, compacted_end, compacted_store, image_length, last_epoch, next_epoch}
use Rattle.wot_types.specs.declared.edit.Edit.{Edit}
use Rattle.wot_types.specs.Numbers.{capped}
use Rattle.wot_types.specs.PagePlaces.{pages_needed}
use Rattle.wot_types.specs.State.{State}
use Rattle.wot_types.specs.Store.{Store}
use Rattle.wot_store.specs.Base.{other_side}
use Rattle.wot_store.specs.Compacting.{compacted_place}
use Rattle.wot_store.specs.declared.place.Place.{Place}
use Rattle.wot_session.specs.SessionState.{IsPlace}

abbrev moved_place : Place → State → Place
moved_place place s = record { side = other_side place.side; epoch = place.epoch + 1; end = base_end s; other_closed = false; pages = pages_needed (image_length s); records = 0 }

-- in the last epoch it is the same
pub store_stays : (s : Store) → nat_eq s.epoch last_epoch ≡ true → compacted_store s ≡ s
unfolding next_epoch compacted_end compacted_base compacted_edits
store_stays s last = λ i. record {
  state = s.state;
  epoch = ap (λ b. if b then s.epoch else s.epoch + 1) last i;
  end = ap (λ b. if b then s.end else base_end s.state) last i;
  base = ap (λ b. if b then s.base else s.state) last i;
  edits = ap (λ b. if b then s.edits else []) last i;
}

-- and before it the epoch is the next
next_is : (s : Store) → nat_eq s.epoch last_epoch ≡ false → next_epoch s ≡ s.epoch + 1
unfolding next_epoch
next_is s more = ap (λ b. if b then s.epoch else s.epoch + 1) more

pub epoch_moves : (s : Store) → nat_eq s.epoch last_epoch ≡ false → next_epoch s ≡ s.epoch → ⊥
epoch_moves s more same = omega (arith, next_is s more, same)

end_is : (s : Store) → nat_eq s.epoch last_epoch ≡ false → compacted_end s ≡ base_end s.state
unfolding compacted_end
end_is s more = ap (λ b. if b then s.end else base_end s.state) more

no_edits : (s : Store) → nat_eq s.epoch last_epoch ≡ false → compacted_edits s ≡ []
unfolding compacted_edits
no_edits s more = ap (λ b. if b then s.edits else []) more

pub same_true : (m n : ℕ) → nat_eq m n ≡ true → m ≡ n
same_true m n is = grind (arith, nat_tests)

pub same_false : (m n : ℕ) → nat_eq m n ≡ false → m ≡ n → ⊥
same_false m n is = grind (arith, nat_tests)

-- the place after it is that of the store after it
pub place_moves : (place : Place) (engine : State) (s : Store) → IsPlace place s → engine ≡ s.state → IsPlace (compacted_place place engine) (compacted_store s)
place_moves place engine s at same = by_epoch (nat_eq s.epoch last_epoch) refl
  where
    by_epoch : (last : Bool) → nat_eq s.epoch last_epoch ≡ last → IsPlace (compacted_place place engine) (compacted_store s)
    by_epoch true is =
        subst (IsPlace (compacted_place place engine)) (sym (store_stays s is))
        (subst (λ place. IsPlace place s) (sym (ap (λ last. if last then place else moved_place place engine) (ap (λ epoch. nat_eq epoch last_epoch) at.epoch ∙ is))) at)
    by_epoch false is =
        subst (λ place. IsPlace place (compacted_store s)) (sym (ap (λ last. if last then place else moved_place place engine) (ap (λ epoch. nat_eq epoch last_epoch) at.epoch ∙ is)))
        (record { epoch = ap (λ epoch. epoch + 1) at.epoch ∙ sym (next_is s is); end = ap base_end same ∙ sym (end_is s is); records = ap (λ (edits : List Edit). capped (length edits)) (sym (no_edits s is)) })

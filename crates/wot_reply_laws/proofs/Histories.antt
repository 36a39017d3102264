-- A store whose state came to be by its edits has such a state after each command.
use Rattle.std.proofs.Common.{◌≡◌, ℕ, Bool, true, false, List, [], ◌∷◌, ◌++◌, suc, refl, sym, ap, subst, ◌∙◌}
use Rattle.std.specs.Prelude.{take, if◌then◌else◌, nat_eq}
use Rattle.std.proofs.lemmas.List.Sums.{fold-append}
use Rattle.wot_types.specs.declared.edit.Edit.{Edit}
use Rattle.wot_types.specs.Compaction.{compacted_base, compacted_edits, compacted_store, last_epoch}
use Rattle.wot_types.specs.EarlierStates.{with_edits}
use Rattle.wot_types.specs.Outcome.{edited_store, store_after}
use Rattle.wot_types.specs.State.{State}
use Rattle.wot_types.specs.StateAfter.{state_after}
use Rattle.wot_types.specs.Store.{Change, Store}
use Rattle.wot_types.specs.Store.Change.{keeps, makes, compacts}
use Rattle.wot_reply_laws.specs.Replies.{AreWellFormed, HasHistory}

-- the states before one more edit, and the one after it
before_one_more : (base : State) (edits : List Edit) (edit : Edit) → ((n : ℕ) → AreWellFormed (with_edits base (take n edits)).keys)
    → AreWellFormed (with_edits base (edits ++ edit ∷ [])).keys → (n : ℕ) → AreWellFormed (with_edits base (take n (edits ++ edit ∷ []))).keys
before_one_more base [] edit before last ℕ.zero = before 0
before_one_more base [] edit before last (suc ℕ.zero) = last
before_one_more base [] edit before last (suc (suc n)) = last
before_one_more base (first ∷ edits) edit before last ℕ.zero = before 0
before_one_more base (first ∷ edits) edit before last (suc n) = before_one_more (state_after base first) edits edit (λ n. before (suc n)) last n

edited : (s : Store) (edit : Edit) → HasHistory s → AreWellFormed (state_after s.state edit).keys → HasHistory (edited_store s edit)
edited s edit history w =
    let whole : state_after s.state edit ≡ with_edits s.base (s.edits ++ edit ∷ []) = ap (λ state. state_after state edit) history.state ∙ sym (fold-append state_after s.base s.edits (edit ∷ [])) in
    record { state = whole; earlier = before_one_more s.base s.edits edit history.earlier (subst (λ (state : State). AreWellFormed state.keys) whole w) }

-- a base without edits
alone : (s : State) → AreWellFormed s.keys → (n : ℕ) → AreWellFormed (with_edits s (take n [])).keys
alone s w ℕ.zero = w
alone s w (suc n) = w

compacted : (s : Store) → HasHistory s → AreWellFormed s.state.keys → HasHistory (compacted_store s)
unfolding compacted_base compacted_edits
compacted s history w = by_epoch (nat_eq s.epoch last_epoch)
  where
    by_epoch : (last : Bool) → HasHistory (record { state = s.state; epoch = (compacted_store s).epoch; end = (compacted_store s).end; base = if last then s.base else s.state; edits = if last then s.edits else [] })
    by_epoch true = record { state = history.state; earlier = history.earlier }
    by_epoch false = record { state = refl; earlier = alone s.state w }

pub history_after : (change : Change) (s : Store) → HasHistory s → AreWellFormed s.state.keys → AreWellFormed (store_after change s).state.keys → HasHistory (store_after change s)
history_after keeps s history now after = history
history_after (makes edit) s history now after = edited s edit history after
history_after compacts s history now after = compacted s history now

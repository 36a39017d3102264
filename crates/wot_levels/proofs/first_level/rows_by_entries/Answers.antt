use Rattle.std.proofs.Common.{ℕ, option_map, unwrap_or, sym, ap, subst, ◌∙◌}
use Rattle.std.specs.FinMap as map
use Rattle.wot_types.specs.Fingerprint.{key_id_of}
use Rattle.wot_types.specs.Ownertrust.{OwnertrustMap, unset}
use Rattle.wot_levels.proofs.Halfway.{EntriesLeft}
use Rattle.wot_levels.specs.Standings.{standing_row}
use Rattle.wot_levels.specs.Walk.{with_found}
use Rattle.wot_levels.proofs.EntriesWalk.{entries_all, entries_put, entries_start, entry_kept}
use Rattle.wot_levels.proofs.RowLemmas.{rows_at_zero}
use Rattle.wot_levels.proofs.first_level.rows_by_entries.Goals as goal

pub loop-fpr-init : goal.loop-fpr-init
loop-fpr-init c =
    let s = c.args.state.now in
    let all = c.into_iter-fpr-iterator.ensures.into_iter_gives ∙ c.iter-fpr-items.ensures ∙ ap (λ (t : OwnertrustMap). map.entries t) c.trusts.ensures in
    subst (λ left. EntriesLeft s left c.in_ok-rows.rows) (sym all) (subst (EntriesLeft s _) (sym c.in_ok-rows.ensures) (entries_start s))

pub standing_of_entry-standing-requires : goal.standing_of_entry-standing-requires
standing_of_entry-standing-requires c =
    let s = c.args.state.now in
    let left = subst (λ left. EntriesLeft s left c.loop-fpr.rows) c.in-Some.ensures.steps c.loop-fpr.invariant in
    record { kept = ap (λ r. (unwrap_or r unset).trust) (entry_kept s (c.in-Some.fpr.now, c.in-Some.kept.now) c.next.new.self c.loop-fpr.rows left) }

pub loop-fpr-preserved : goal.loop-fpr-preserved
loop-fpr-preserved c =
    let s = c.args.state.now in
    let left = subst (λ left. EntriesLeft s left c.loop-fpr.rows) c.in-Some.ensures.steps c.loop-fpr.invariant in
    let row = λ (id : ℕ). option_map (standing_row id 0) c.standing_of_entry-standing.result in
    let made = c.in_ok-rows-2.ensures ∙ ap (λ id. with_found c.loop-fpr.rows id (row id)) c.key_id.ensures in
    let id = key_id_of c.in-Some.fpr.now in
    subst (EntriesLeft s c.next.new.self) (sym made)
    (entries_put s (c.in-Some.fpr.now, c.in-Some.kept.now) c.next.new.self c.loop-fpr.rows left c.requires.filed (row id) (c.standing_of_entry-standing.ensures id))

pub returns : goal.returns
returns c =
    let s = c.args.state.now in
    entries_all s c.loop-fpr.rows (subst (λ left. EntriesLeft s left c.loop-fpr.rows) c.in-None.ensures.steps.0 c.loop-fpr.invariant) ∙ rows_at_zero s

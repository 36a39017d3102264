use Rattle.std.proofs.Common.{ℕ, option_and_then, sym, ap, ◌∙◌}
use Rattle.std.specs.FinMap as map
use Rattle.wot_types.specs.Keyring.{Keyring}
use Rattle.wot_levels.specs.Entries.{named_row}
use Rattle.wot_levels.proofs.HeadLemmas.{found_key}
use Rattle.wot_levels.proofs.first_level.standing_of_entry.Goals as goal

pub returns-in-Some : goal.returns-in-Some
returns-in-Some c = λ id.
    let s = c.args.state.now in
    let named = c.key_id.result in
    let is = ap (λ (t : Keyring). map.get t named) (sym c.table.ensures) ∙ found_key named (map.get c.table.result.now named) c.in-Some.keyblock (sym c.in-Some.ensures) in
    c.standing_of_fpr.ensures id ∙ sym (ap (option_and_then (named_row s c.args.fpr.now id)) is)
    ∙ ap (λ (n : ℕ). option_and_then (named_row s c.args.fpr.now id) (map.get s.keys n)) c.key_id.ensures

use Rattle.std.proofs.Common.{◌≡◌, ◌+◌, ◌<◌, ◌||◌, ◌∷◌, Bool, true, false, drop, get_or, length, refl, sym, ap, subst, ◌∙◌}
use Rattle.std.specs.FinMap as finmap
use Rattle.std.specs.List.{list_any}
use Rattle.std.proofs.lemmas.List.{drop_more}
use Rattle.wot_types.specs.declared.ownertrust.Entry.{Entry}
use Rattle.wot_types.specs.Keyring.{is_fpr_of}
use Rattle.wot_live.specs.Recounting.{among}
use Rattle.wot_live.proofs.named.add_entries.Goals as goal

joined : (a b c : Bool) → ((a || b) || c) ≡ (a || (b || c))
joined true b c = refl
joined false b c = refl

pub loop-entry-preserved : goal.loop-entry-preserved
loop-entry-preserved c = λ x.
    let i = c.loop-entry.entry-index in
    let entries = c.args.entries.now in
    let item = c.entry-item.result in
    let now = c.loop-entry.list in
    let test = λ (entry : Entry). is_fpr_of entry.fpr (finmap.get c.args.table.now x) in
    let inside : i < length entries = subst (λ es. i < length es) c.as_slice-entry-items.ensures c.loop-entry-test.true in
    let here = ap (λ e. e ∷ drop (i + 1) entries) (c.entry-item.is ∙ ap (λ es. get_or es i item) c.as_slice-entry-items.ensures) ∙ sym (drop_more entries i item inside) in
    ap (λ b. b || list_any test (drop (i + 1) entries)) (c.in_ok-list.ensures x)
    ∙ joined (among now x) (test item) (list_any test (drop (i + 1) entries))
    ∙ ap (λ es. among now x || list_any test es) here ∙ c.loop-entry.invariant x

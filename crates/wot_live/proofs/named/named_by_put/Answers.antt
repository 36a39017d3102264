use Rattle.std.proofs.Common.{◌≡◌, ◌==◌, ◌||◌, ℕ, ap, ◌∙◌, refl, Bool, true, false}
use Rattle.std.specs.FinMap as finmap
use Rattle.std.specs.List.{list_any}
use Rattle.std.proofs.lemmas.Result.{IfOk-weaker}
use Rattle.wot_types.specs.Keyring.{id_of, is_fpr_of}
use Rattle.wot_live.specs.Recounting.{among}
use Rattle.wot_live.proofs.named.named_by_put.Goals as goal

joined : (a b d : Bool) → ((a || b) || d) ≡ (a || (b || d))
joined true b d = refl
joined false b d = refl

pub returns : goal.returns
returns c =
    let first = c.in_ok-list.list in
    let by_key = λ (x : ℕ). list_any (λ key. id_of key == x) c.args.keys.now in
    let by_entry = λ (x : ℕ). list_any (λ entry. is_fpr_of entry.fpr (finmap.get c.args.table.now x)) c.args.entries.now in
    IfOk-weaker c.add_entries.result (λ new. (x : ℕ) → among new x ≡ (among first x || by_entry x))
    (λ new. (x : ℕ) → among new x ≡ (among c.args.list x || (by_key x || by_entry x)))
    (λ new h x. h x ∙ ap (λ b. b || by_entry x) (c.in_ok-list.ensures x) ∙ joined (among c.args.list x) (by_key x) (by_entry x))
    c.add_entries.ensures

use Rattle.std.proofs.Common.{◌+◌, ◌<◌, ◌==◌, ◌||◌, ◌∷◌, drop, get_or, length, sym, ap, subst, ◌∙◌}
use Rattle.std.specs.List.{list_any}
use Rattle.std.proofs.lemmas.List.{drop_more}
use Rattle.wot_types.specs.declared.key.Key.{Key}
use Rattle.wot_types.specs.Keyring.{id_of}
use Rattle.wot_live.specs.Recounting.{among}
use Rattle.wot_live.proofs.Naming.{named_more}
use Rattle.wot_live.proofs.named.add_keys.Goals as goal

pub loop-key-preserved : goal.loop-key-preserved
loop-key-preserved c = λ x.
    let i = c.loop-key.key-index in
    let keys = c.args.keys.now in
    let item = c.key-item.result in
    let now = c.loop-key.list in
    let test = λ (key : Key). id_of key == x in
    let inside : i < length keys = subst (λ ks. i < length ks) c.as_slice-key-items.ensures c.loop-key-test.true in
    let here = ap (λ u. u ∷ drop (i + 1) keys) (c.key-item.is ∙ ap (λ ks. get_or ks i item) c.as_slice-key-items.ensures) ∙ sym (drop_more keys i item inside) in
    ap (λ xs. among xs x || list_any test (drop (i + 1) keys)) c.in_ok-list.ensures
    ∙ named_more test now c.key_id.result item (drop (i + 1) keys) x (ap (λ k. k == x) (sym c.key_id.ensures))
    ∙ ap (λ ks. among now x || list_any test ks) here ∙ c.loop-key.invariant x

use Rattle.std.proofs.Common.{◌++◌, [], ◌∷◌, ℕ, List, map, ap, sym, ◌∙◌, append_assoc}
use Rattle.std.specs.Cmp.{nat_cmp_total}
use Rattle.std.specs.FinMap.{values}
use Rattle.std.proofs.lemmas.List.{append-nil, nil_from_length}
use Rattle.wot_types.specs.declared.key.Key.{Key}
use Rattle.wot_types.proofs.Maps.{entries_are}
use Rattle.wot_listing.proofs.rising_keys.RisingKeys.into_keys.Goals as goal

abbrev keys_in : List (ℕ × Key) → List Key
keys_in es = map (λ e. e.1) es

pub loop-key-init : goal.loop-key-init
loop-key-init c =
    let es = c.self.inside.pairs.items in
    (λ i. c.in_ok-all.ensures i ++ keys_in (c.into_iter-key-iterator.ensures.into_iter_gives.0 i))
    ∙ ap keys_in (sym (entries_are nat_cmp_total es c.self.invariant))
    ∙ ap values c.self.view_is

pub loop-key-preserved : goal.loop-key-preserved
loop-key-preserved c =
    let all = c.loop-key.all in
    let rest = c.next.new.self.rest.items in
    ap (λ xs. xs ++ keys_in rest) c.in_ok-push.ensures.ok ∙ append_assoc all (c.in-Some.key ∷ []) (keys_in rest)
    ∙ ap (λ es. all ++ keys_in es) (sym c.in-Some.ensures.steps.0) ∙ c.loop-key.invariant

pub returns : goal.returns
returns c = sym (append-nil c.loop-key.all) ∙ ap (λ es. c.loop-key.all ++ keys_in es) (sym (nil_from_length c.loop-key.key-iterator.rest.items (sym c.loop-key.key-iterator.rest.ok.0 ∙ c.in-None.ensures.steps.0))) ∙ c.loop-key.invariant

use Rattle.std.proofs.Common.{◌≡◌, ◌+◌, take, sym, ap, ◌∙◌, rules, tests}
use Rattle.std.specs.Option.{option_zip}
use Rattle.std.proofs.lemmas.Iterator.Search.{position_from_yields_List}
use Rattle.std.proofs.lemmas.Iterator.{YieldsList-from_slice}
use Rattle.std.proofs.lemmas.List.{take_rest}
use Rattle.wot_types.specs.Lines.{is_space}
use Rattle.wot_types.specs.Numbers.{both, number_up_to}
use Rattle.wot_listing.proofs.TrustLemmas.{no_trust, space_at, trust_at, zip_is}
use Rattle.wot_listing.proofs.values.read_trust.Goals as goal

pub returns-in_err-space : goal.returns-in_err-space
returns-in_err-space c =
    let f = c.args.f.now in
    let found : c.position.result ≡ space_at f = position_from_yields_List is_space _ _ c.position.result c.position.ensures.ran (YieldsList-from_slice f c.iter.ensures.rest) (λ x b q k. search (rules, tests)) in
    c.from_residual.ensures ∙ sym (no_trust f (sym c.is_empty.ensures ∙ c.if-is_empty.false) (sym found ∙ c.in_err-space.was))

pub returns : goal.returns
returns c =
    let f = c.args.f.now in
    let found : c.position.result ≡ space_at f = position_from_yields_List is_space _ _ c.position.result c.position.ensures.ran (YieldsList-from_slice f c.iter.ensures.rest) (λ x b q k. search (rules, tests)) in
    c.zip.ensures ∙ (λ i. option_zip (c.byte.ensures i) (c.byte-2.ensures i)) ∙ zip_is _ _
    ∙ ap (λ rest. both (number_up_to 255 (take c.in_ok-space.space f)) (number_up_to 255 rest)) (take_rest f (c.in_ok-space.space + 1))
    ∙ sym (trust_at f (sym c.is_empty.ensures ∙ c.if-is_empty.false) c.in_ok-space.space (sym found ∙ c.in_ok-space.was))

use Rattle.std.proofs.Common.{◌≡◌, ◌++◌, append_assoc, codes, ap, ap₂, ◌∙◌}
use Rattle.std.specs.Fmt.{decimal}
use Rattle.wot_types.specs.Refusals.{fault_name}
use Rattle.wot_lines.proofs.refusals.push_bad_listing.Goals as goal

pub returns : goal.returns
returns c =
    let old = c.args.text.now in
    let word = codes "err listing " in
    let line = decimal c.args.fault.line in
    let name = fault_name c.args.fault.what in
    let numbered : c.push_number.new.text ≡ old ++ (word ++ line) = c.in_ok-push_number.ensures.adds ∙ ap (λ l. l ++ line) c.in_ok-push_bytes.ensures.adds ∙ append_assoc old word line in
    let spaced : c.push.new.self ≡ old ++ ((word ++ line) ++ codes " ") = c.in_ok-push.ensures.adds ∙ ap (λ l. l ++ codes " ") numbered ∙ append_assoc old (word ++ line) (codes " ") in
    c.in_ok-push_bytes-2.ensures.adds ∙ ap₂ (λ l n. l ++ n) spaced (c.as_bytes.ensures.value ∙ c.fault_name.ensures) ∙ append_assoc old ((word ++ line) ++ codes " ") name

use Rattle.std.proofs.Common.{◌++◌, append_assoc, codes, ap, ◌∙◌}
use Rattle.std.specs.Fmt.{decimal}
use Rattle.wot_lines.proofs.refusals.push_bad_argument.Goals as goal

pub returns : goal.returns
returns c =
    let number = decimal c.args.number in
    c.in_ok-push_number.ensures.adds ∙ ap (λ n. c.push_bytes.new.self ++ decimal n) c.from.ensures ∙ ap (λ l. l ++ number) c.in_ok-push_bytes.ensures.adds
    ∙ append_assoc c.args.text.now (codes "err bad-argument ") number

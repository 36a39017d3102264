use Rattle.std.proofs.Common.{◌≡◌, ℕ, ◌+◌, ◌*◌, ◌%◌, List, ◌++◌, length, length-append, decimal, codes, arith, ap, sym, ◌∙◌}
use Rattle.std.proofs.lemmas.Fmt.{decimal_digit}
use Rattle.wot_gen.proofs.names.text_len.Goals as goal

-- a text with a number twice and a domain of one digit
length_text : (number domain : List ℕ) → length domain ≡ 1
    → length (codes "Key " ++ number ++ codes " <k" ++ number ++ codes "@d" ++ domain ++ codes ".example>") ≡ 19 + 2 * length number
length_text number domain one = simp length-append (omega (arith, one))

pub returns-clause-value : goal.returns-clause-value
returns-clause-value c =
    ap (λ n. 19 + 2 * n) c.digits.ensures.value
    ∙ sym (length_text (decimal c.args.i) (decimal (c.args.i % 7)) (ap length (decimal_digit (c.args.i % 7) (omega arith))))

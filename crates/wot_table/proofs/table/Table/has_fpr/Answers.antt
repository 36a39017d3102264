use Rattle.std.proofs.Common.{◌≡◌, ℕ, List, Option, Some, None, sym, ap, ◌∙◌}
use Rattle.std.specs.Prelude.{nat_eq, option_map}
use Rattle.std.specs.Cmp.Lexicographic.{pointwise}
use Rattle.std.specs.FinMap as finmap
use Rattle.std.specs.Option.{option_copied}
use Rattle.std.proofs.lemmas.Option.{same_Some}
use Rattle.wot_types.specs.declared.key.Key.{Key}
use Rattle.wot_types.specs.Keyring.{is_fpr_of}
use Rattle.wot_types.proofs.Fingerprints.{fpr_eq}
use Rattle.wot_table.proofs.table.Table.has_fpr.Goals as goal

-- by the fingerprint of the key that stands there
of_found : (fpr other : List ℕ) (key : Option Key) → ◌≡◌ {A = Option (List ℕ)} (Some other) (option_map (λ (key : Key). key.fpr) key) → pointwise nat_eq other fpr ≡ is_fpr_of fpr key
of_found fpr other None is = absurd (cc is)
of_found fpr other (Some key) is = ap (λ xs. pointwise nat_eq xs fpr) (same_Some other key.fpr is)

pub returns-in-Some : goal.returns-in-Some
returns-in-Some c =
    let fpr = c.args.fpr.now in
    c.eq.ensures ∙ fpr_eq c.in-Some.found.now fpr
    ∙ of_found fpr c.in-Some.found.now (finmap.get c.args.self.now c.key_id.result) (sym (ap option_copied c.in-Some.is) ∙ c.fpr.ensures)
    ∙ ap (λ id. is_fpr_of fpr (finmap.get c.args.self.now id)) c.key_id.ensures

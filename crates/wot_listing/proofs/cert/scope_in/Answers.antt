use Rattle.std.proofs.Common.{◌≡◌, ℕ, List, [], ◌∷◌, length, unwrap_or, Option, None, nat_lt, is_none, refl, sym, subst, ◌∙◌}
use Rattle.std.proofs.lemmas.Bool.{eqb-true}
use Rattle.std.proofs.lemmas.List.{nil_from_length}
use Rattle.wot_types.specs.declared.fault.ListingWhat.TheVariants.{BadQuote, LimitReached}
use Rattle.wot_types.specs.declared.limit.Limit.TheVariants.{Scope}
use Rattle.wot_types.specs.Limits.{longest_scope}
use Rattle.wot_types.specs.Listing.{first_failing}
use Rattle.wot_types.specs.Quotes.{text_of_quoted, text_of_quoted_in}
use Rattle.wot_types.specs.Records.{scope_of}
use Rattle.wot_listing.proofs.cert.scope_in.Goals as goal

pub returns-then-is_empty : goal.returns-then-is_empty
unfolding text_of_quoted_in
returns-then-is_empty c =
    let empty = sym c.get_or_empty.ensures ∙ nil_from_length c.get_or_empty.result.now (eqb-true (length c.get_or_empty.result.now) 0 (sym c.is_empty.ensures ∙ c.if-is_empty.true)) in
    subst (λ (f : List ℕ). (first_failing ((is_none (text_of_quoted f), BadQuote) ∷ (nat_lt longest_scope (length (unwrap_or (text_of_quoted f) [])), LimitReached Scope) ∷ []) ≡ None)
    × (◌≡◌ {A = Option (List ℕ)} None (scope_of (unwrap_or (text_of_quoted f) []))))
    (sym empty) (refl, refl)

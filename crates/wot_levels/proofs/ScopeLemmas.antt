-- A scope of the domain form, tested by its domain.
use Rattle.std.proofs.Common.{◌≡◌, ◌≤◌, ◌↔◌, ℕ, Bool, IfSome, IsTrue, List, Option, Some, None, length, is_some, sym}
use Rattle.std.proofs.lemmas.Bool.Decides.{same_from_decides}
use Rattle.wot_types.specs.DomainForm.{IsInDomain, domain_of}
use Rattle.wot_types.specs.Scope.{admits}
use Rattle.wot_regex.proofs.Admitting.{admitted-means}
use Rattle.wot_regex.proofs.Domains.{domains_agree}

pub tested_by_domain : (scope text : List ℕ) (r : Option Bool) → is_some r ≡ is_some (domain_of scope)
    → IfSome r (λ admitted. IsTrue admitted ↔ IsInDomain scope text) → length scope ≤ 255 → IfSome r (λ admitted. admitted ≡ admits (Some scope) text)
tested_by_domain scope text None form means le = means
tested_by_domain scope text (Some admitted) form means le =
    let both = domains_agree scope text (sym form) le in
    let tested = admitted-means scope text in
    same_from_decides {P = IsInDomain scope text} admitted (admits (Some scope) text) means (λ h. both.0 (tested.0 h), λ i. tested.1 (both.1 i))

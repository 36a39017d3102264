use Rattle.std.proofs.Common.{◌≡◌, ◌↔◌, Bool, true, false, IfSome, IsTrue, List, ℕ, cond, Option, Some, None, is_some, sym, ap, ◌∙◌}
use Rattle.wot_types.specs.DomainForm.{IsInDomain, admits_domain, domain_of, domain_part, has_domain_form, pieces}
use Rattle.wot_scope.proofs.Splits.{admits-means}
use Rattle.wot_scope.proofs.scope.by_domain.Goals as goal

spelled_by : (form : Bool) (m p : List ℕ) → Some p ≡ cond form (Some m) None → cond form (pieces m) None ≡ pieces p
spelled_by true m p e = let same : p ≡ m = cc in ap pieces (sym same)
spelled_by false m p e = cc

-- the domain of a scope is what its pieces spell
spelled : (scope p : List ℕ) → Some p ≡ cond (has_domain_form scope) (Some (domain_part scope)) None → domain_of scope ≡ pieces p
spelled scope p e = spelled_by (has_domain_form scope) (domain_part scope) p e

carried : (r : Option Bool) (a b : Bool) → a ≡ b → IfSome r (λ ends. ends ≡ a) → IfSome r (λ admitted. admitted ≡ b)
carried None a b e h = h
carried (Some ends) a b e h = h ∙ e

meant : (scope user : List ℕ) (r : Option Bool) → IfSome r (λ admitted. admitted ≡ admits_domain (domain_of scope) user)
    → IfSome r (λ admitted. IsTrue admitted ↔ IsInDomain scope user)
meant scope user None h = h
meant scope user (Some admitted) h = admits-means scope user admitted h

pub returns-clause-form : goal.returns-clause-form
returns-clause-form c =
    let p = c.in_ok-domain_pieces.field-0.now in
    c.ends_in_domain.ensures.form ∙ ap is_some (sym (spelled c.args.scope.now p (rw c.as_bytes.ensures at c.in_ok-domain_pieces.ensures)))

pub returns-clause-value : goal.returns-clause-value
returns-clause-value c =
    let scope = c.args.scope.now in
    let user = c.args.user.now in
    let p = c.in_ok-domain_pieces.field-0.now in
    let domain : domain_of scope ≡ pieces p = spelled scope p (rw c.as_bytes.ensures at c.in_ok-domain_pieces.ensures) in
    let same : admits_domain (pieces p) c.as_bytes-2.result.now ≡ admits_domain (domain_of scope) user =
    ap (admits_domain (pieces p)) c.as_bytes-2.ensures ∙ ap (λ o. admits_domain o user) (sym domain) in
    carried c.ends_in_domain.result _ _ same c.ends_in_domain.ensures.value

pub returns-clause-means : goal.returns-clause-means
returns-clause-means c = meant c.args.scope.now c.args.user.now c.ends_in_domain.result (returns-clause-value c)

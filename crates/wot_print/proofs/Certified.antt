-- A user ID's line, with its certifications or without.
use Rattle.std.proofs.Common.{◌≡◌, ℕ, Bool, true, false, List, [], ◌++◌, append-nil, if◌then◌else◌, sym, ap, ◌∙◌}
use Rattle.std.proofs.lemmas.Bool.{cond-false, cond-true}

-- a user ID's line, and its certifications where they are printed too
pub with_certs : (sigs : Bool) (line certs : List ℕ) → sigs ≡ true → line ++ certs ≡ line ++ (if sigs then certs else [])
with_certs sigs line certs on = ap (λ l. line ++ l) (sym (cond-true sigs certs [] on))

-- and the line alone where they aren't
pub without_certs : (sigs : Bool) (line certs : List ℕ) → sigs ≡ false → line ≡ line ++ (if sigs then certs else [])
without_certs sigs line certs off = sym (append-nil line) ∙ ap (λ l. line ++ l) (sym (cond-false sigs certs [] off))

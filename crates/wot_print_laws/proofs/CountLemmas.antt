-- How many records a listing keeps that is written block after block.
use Rattle.std.proofs.Common.{◌≡◌, ℕ, ◌+◌, ◌-◌, Bool, true, false, cond, List, [], ◌∷◌, ◌++◌, map, length, sum_by, count_by, All, refl, sym, ap, subst, ◌∙◌, arith}
use Rattle.std.proofs.lemmas.List.{length-map}
use Rattle.std.proofs.lemmas.List.Elements.{All-head, All-tail}
use Rattle.std.proofs.lemmas.List.Sums.{sum_by-append, sum_by-cons}
use Rattle.wot_types.specs.declared.cert.Cert.{Cert}
use Rattle.wot_types.specs.declared.key.Key.{Key}
use Rattle.wot_types.specs.declared.user.User.{User}
use Rattle.wot_types.specs.declared.record.RecordKind.TheVariants.{Other}
use Rattle.wot_types.specs.Keyring.{key_certs}
use Rattle.wot_types.specs.Listing.{Line, cert_count, certifications, is_sig, kept_count}
use Rattle.wot_types.specs.Records.{cert_of, is_signature, key_id_at, kind_of}
use Rattle.wot_types.specs.Runs.{Run}
use Rattle.wot_types.specs.WellFormed.{IsUser}
use Rattle.wot_print_laws.proofs.BlockLemmas.{AreSigs, AreUsers, kept_lines, user_runs_are}
use Rattle.wot_print_laws.proofs.RunLemmas.{pieces}
use Rattle.wot_print_laws.proofs.WholeLemmas.{AreFiled, AreWritten, Entries, Written, block, blocks_are, first_free}

kept_users : (id : ℕ) (p : Line) (rest : List Line) (own : key_id_at p ≡ id) (marked : Bool) (users : List User) (rs : List (Run Line)) → AreUsers marked users rs → All (IsUser id) users
    → sum_by (λ r. length (certifications (record { first = p; rest = rest }) r)) rs ≡ sum_by (λ user. length user.certs) users
kept_users id p rest own marked [] [] h w = refl
kept_users id p rest own marked [] (r ∷ rs) h w = absurd h
kept_users id p rest own marked (user ∷ users) [] h w = absurd h
kept_users id p rest own marked (user ∷ users) (r ∷ rs) h w =
    let kept = kept_lines id p own rest user.certs r.rest h.1 (All-head (IsUser id) user users w).certs in
    let one : length (certifications (record { first = p; rest = rest }) r) ≡ length user.certs = sym (length-map (certifications (record { first = p; rest = rest }) r) cert_of) ∙ ap length kept in
    omega (
      arith,
      one,
      kept_users id p rest own marked users rs h.2 (All-tail (IsUser id) user users w),
      sum_by-cons (λ (x : Run Line). length (certifications (record { first = p; rest = rest }) x)) r rs,
      sum_by-cons (λ (x : User). length x.certs) user users,
    )

kept_blocks : (es : Entries) (ws : List Written) → AreWritten es ws → AreFiled es → sum_by cert_count (map block ws) ≡ sum_by key_certs (map (λ e. e.1) es)
kept_blocks [] [] p g = refl
kept_blocks [] (w ∷ ws) p g = absurd p
kept_blocks (e ∷ es) [] p g = absurd p
kept_blocks (e ∷ es) (w ∷ ws) p g =
    let one : cert_count (block w) ≡ key_certs e.1 =
    ap (sum_by (λ r. length (certifications (block w) r))) (user_runs_are w.p w.f e.1.revoked e.1.users w.rs p.1.kind p.2)
    ∙ kept_users e.0 w.p (w.f ∷ pieces w.rs) p.0.own_id e.1.revoked e.1.users w.rs p.2 (subst (λ n. All (IsUser n) e.1.users) g.0 g.1.each) in
    omega (arith, one, kept_blocks es ws p.3 g.2, sum_by-cons cert_count (block w) (map block ws), sum_by-cons key_certs e.1 (map (λ (e : ℕ × Key). e.1) es))

one_sig : (line : Line) (lines : List Line) (b : Bool) → is_sig line ≡ b → count_by is_sig (line ∷ lines) ≡ cond b 1 0 + count_by is_sig lines
one_sig line lines b e = sum_by-cons (λ (x : Line). cond (is_sig x) 1 0) line lines ∙ ap (λ t. cond t 1 0 + count_by is_sig lines) e

counted_append : (xs ys : List Line) → count_by is_sig (xs ++ ys) ≡ count_by is_sig xs + count_by is_sig ys
counted_append xs ys = sum_by-append (λ (x : Line). cond (is_sig x) 1 0) xs ys

counted_sigs : (certs : List Cert) (lines : List Line) → AreSigs certs lines → count_by is_sig lines ≡ length certs
counted_sigs [] [] h = refl
counted_sigs [] (line ∷ lines) h = absurd h
counted_sigs (cert ∷ certs) [] h = absurd h
counted_sigs (cert ∷ certs) (line ∷ lines) h = omega (arith, one_sig line lines true (ap is_signature h.0.kind), counted_sigs certs lines h.1)

counted_users : (marked : Bool) (users : List User) (rs : List (Run Line)) → AreUsers marked users rs → count_by is_sig (pieces rs) ≡ sum_by (λ user. length user.certs) users
counted_users marked [] [] h = refl
counted_users marked [] (r ∷ rs) h = absurd h
counted_users marked (user ∷ users) [] h = absurd h
counted_users marked (user ∷ users) (r ∷ rs) h =
    omega (
      arith,
      one_sig r.first (r.rest ++ pieces rs) false (ap is_signature h.0.kind),
      counted_append r.rest (pieces rs),
      counted_sigs user.certs r.rest h.1,
      counted_users marked users rs h.2,
      sum_by-cons (λ (x : User). length x.certs) user users,
    )

counted_blocks : (es : Entries) (ws : List Written) → AreWritten es ws → count_by is_sig (pieces (map block ws)) ≡ sum_by key_certs (map (λ e. e.1) es)
counted_blocks [] [] p = refl
counted_blocks [] (w ∷ ws) p = absurd p
counted_blocks (e ∷ es) [] p = absurd p
counted_blocks (e ∷ es) (w ∷ ws) p =
    omega (
      arith,
      counted_append (w.p ∷ w.f ∷ pieces w.rs) (pieces (map block ws)),
      one_sig w.p (w.f ∷ pieces w.rs) false (ap is_signature p.0.kind),
      one_sig w.f (pieces w.rs) false (ap is_signature p.1.kind),
      counted_users e.1.revoked e.1.users w.rs p.2,
      counted_blocks es ws p.3,
      sum_by-cons key_certs e.1 (map (λ (e : ℕ × Key). e.1) es),
    )

module _ (line : Line) (kind : kind_of line ≡ Other) (es : Entries) (ws : List Written) (p : AreWritten es ws) (g : AreFiled es) where
  pub kept_is : kept_count (line ∷ pieces (map block ws)) ≡ sum_by key_certs (map (λ e. e.1) es)
  kept_is = ap (sum_by cert_count) (blocks_are (line ∷ []) (first_free line kind) es ws p) ∙ kept_blocks es ws p g

  pub none_passed : count_by is_sig (line ∷ pieces (map block ws)) - kept_count (line ∷ pieces (map block ws)) ≡ 0
  none_passed = omega (arith, kept_is, one_sig line (pieces (map block ws)) false (ap is_signature kind), counted_blocks es ws p)

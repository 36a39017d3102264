-- The entries that are tried are enough: any other leaves the letter as it was.
use Rattle.std.proofs.Common.{◌≡◌, ◌≤◌, ◌&&◌, nat_lt, ℕ, Bool, true, false, cond, List, [], ◌∷◌, All, Option, Some, None, option_map, is_some, refl, sym, ap, ◌∙◌, arith}
use Rattle.std.specs.FinMap as map
use Rattle.std.specs.List.{cons_option, filter_map}
use Rattle.std.proofs.lemmas.Bool.{false≢true, true≢false}
use Rattle.std.proofs.lemmas.Bool.Decides.{nat_tests}
use Rattle.wot_types.specs.declared.change.Loss.{Loss}
use Rattle.wot_types.specs.declared.letter.Letter.{Letter}
use Rattle.wot_types.specs.declared.ownertrust.Ownertrust.{Ownertrust}
use Rattle.wot_types.specs.declared.row.Row.{Row}
use Rattle.wot_types.specs.Accepted.{IsFiled}
use Rattle.wot_types.specs.Explanation.{KeySet}
use Rattle.wot_types.specs.Fingerprint.{key_id_of}
use Rattle.wot_types.specs.Letters.{letter_at, letter_rank}
use Rattle.wot_types.specs.Levels.{rows_of}
use Rattle.wot_types.specs.State.{State}
use Rattle.wot_types.specs.Supposing.{critical, if_trusted, if_worse, loss_by, without_trust}
use Rattle.wot_types.specs.Trust.{is_unknown}
use Rattle.wot_suppose.specs.Introducing.{if_introducing}
use Rattle.wot_suppose.specs.Near.{LeadsTo}
use Rattle.wot_suppose.proofs.Far.{same_far_letter}
use Rattle.wot_suppose.proofs.Rowless.{same_rowless_letter}

-- a letter is not further back than itself
not_worse : (letter : Option Letter) → if_worse letter letter ≡ None
not_worse None = refl
not_worse (Some letter) = ap (λ b. cond b (Some letter) None) (not_below (letter_rank letter))
  where
    not_below : (n : ℕ) → nat_lt n n ≡ false
    not_below n = grind (arith, nat_tests)

none_there : (o : Option Row) → is_some o ≡ false → o ≡ None
none_there None h = refl
none_there (Some row) h = absurd (true≢false h)

abbrev loss_of : List ℕ → Letter → Loss
loss_of fpr letter = record { fpr = fpr; letter = letter }

-- the near keys are all from which one comes to the user ID's key over max-cert-depth certifications
module _ (s : State) (id user : ℕ) (filed : All IsFiled (map.entries s.keys)) (levels : 1 ≤ s.options.depth) (near : KeySet)
    (reached : (y : ℕ) → LeadsTo s.keys s.options.depth id y → near y ≡ true) where
  abbrev is_tried : ℕ → Bool
  is_tried y = map.contains_key (rows_of s) y && near y

  abbrev tried_fpr : List ℕ × Ownertrust → Option (List ℕ)
  tried_fpr = if_introducing (rows_of s) near

  same_letter : (fpr : List ℕ) → is_tried (key_id_of fpr) ≡ false → letter_at (without_trust s fpr) id user ≡ letter_at s id user
  same_letter fpr = elim (map.contains_key (rows_of s) (key_id_of fpr)) as (λ b. map.contains_key (rows_of s) (key_id_of fpr) ≡ b → (b && near (key_id_of fpr)) ≡ false → letter_at (without_trust s fpr) id user ≡ letter_at s id user) [
    | false ↦ λ rowless _. same_rowless_letter s fpr filed (none_there (map.get (rows_of s) (key_id_of fpr)) rowless) id user
    | true ↦ λ _ far. same_far_letter s id fpr filed (λ leads. false≢true (sym far ∙ reached (key_id_of fpr) leads)) levels user
  ] refl

  no_loss : (fpr : List ℕ) → is_tried (key_id_of fpr) ≡ false → loss_by s id user fpr ≡ None
  no_loss fpr out =
      let loss = option_map (loss_of fpr) in
      ap (λ letter. loss (if_worse (letter_at s id user) letter)) (same_letter fpr out)
      ∙ ap loss (not_worse (letter_at s id user))

  -- one entry more
  one_more : (e : List ℕ × Ownertrust) (some all : List (List ℕ)) → filter_map (loss_by s id user) some ≡ filter_map (loss_by s id user) all
      → filter_map (loss_by s id user) (cons_option (tried_fpr e) some) ≡ filter_map (loss_by s id user) (cons_option (if_trusted e) all)
  one_more e some all rest = elim (is_tried (key_id_of e.0)) as (λ b. is_tried (key_id_of e.0) ≡ b
      → filter_map (loss_by s id user) (cons_option (cond b (if_trusted e) None) some) ≡ filter_map (loss_by s id user) (cons_option (if_trusted e) all)) [
        | true ↦ λ _. elim (if_trusted e) as (λ o. filter_map (loss_by s id user) (cons_option o some) ≡ filter_map (loss_by s id user) (cons_option o all)) [
          | None ↦ rest
          | Some fpr ↦ ap (cons_option (loss_by s id user fpr)) rest
        ]
        | false ↦ λ out. rest ∙ elim (is_unknown e.1.trust) as (λ b. filter_map (loss_by s id user) all ≡ filter_map (loss_by s id user) (cons_option (cond b None (Some e.0)) all)) [
          | true ↦ refl
          | false ↦ ap (λ o. cons_option o (filter_map (loss_by s id user) all)) (sym (no_loss e.0 out))
        ]
      ] refl

  enough : (es : List (List ℕ × Ownertrust)) → filter_map (loss_by s id user) (filter_map tried_fpr es) ≡ filter_map (loss_by s id user) (filter_map if_trusted es)
  enough [] = refl
  enough (e ∷ es) = one_more e (filter_map tried_fpr es) (filter_map if_trusted es) (enough es)

  pub introducing_enough : filter_map (loss_by s id user) (filter_map tried_fpr (map.entries s.trusts)) ≡ critical s id user
  introducing_enough = enough (map.entries s.trusts)

-- Without the ownertrust of a key from which none comes to a user ID's key over max-cert-depth certifications the letter is as it was: at each level a row hangs on the
-- rows of its certifiers of the level before, and the last level is the one below max-cert-depth.
use Rattle.std.proofs.Common.{◌≡◌, ◌+◌, ◌-◌, ◌≤◌, ◌==◌, inl, inr, ℕ, suc, true, false, cond, List, [], ◌∷◌, All, map, Option, Some, None, option_and_then, option_map, slice_get, refl, sym, ap, subst, ◌∙◌, arith, nat_lt}
use Rattle.std.specs.FinMap as finmap
use Rattle.std.specs.Option.{option_map_or}
use Rattle.wot_types.specs.declared.count.Count.{Count}
use Rattle.wot_types.specs.declared.key.Key.{Key}
use Rattle.wot_types.specs.declared.letter.Letter.{Letter}
use Rattle.wot_types.specs.declared.letter.Letter.TheVariants.{U}
use Rattle.wot_types.specs.declared.row.Row.{Row}
use Rattle.wot_types.specs.Accepted.{IsFiled}
use Rattle.wot_types.specs.Candidates.{chain, chain_of, count_of}
use Rattle.wot_types.specs.Expiry.{is_expired}
use Rattle.wot_types.specs.Fingerprint.{key_id_of}
use Rattle.wot_types.specs.Indexes.{has_cert_by}
use Rattle.wot_types.specs.Keyring.{Keyring, is_fpr_of}
use Rattle.wot_types.specs.Letters.{has_level_0, letter_at, letter_of_count, letter_of_marks, user_letter}
use Rattle.wot_types.specs.Levels.{first_row, kept_or, new_row, rows_of}
use Rattle.wot_types.specs.NextCheck.{key_expiries}
use Rattle.wot_types.specs.Selection.{Spot, spots_from}
use Rattle.wot_types.specs.State.{State}
use Rattle.wot_types.specs.Supposing.{without_trust}
use Rattle.wot_types.proofs.Chains.{chain_row}
use Rattle.wot_types.proofs.Frames.{first_row_frame, issuers_of, key_counts_frame, new_row_frame, via_certified}
use Rattle.wot_types.proofs.Tests.{is_key}
use Rattle.wot_levels.specs.Given.{row_at_level, rows_below}
use Rattle.wot_levels.proofs.Uncertified.{same_dates}
use Rattle.wot_live.proofs.BeforeLevels.{rows_before}
use Rattle.wot_live.proofs.Befores.{before_below_itself, get_step}
use Rattle.wot_live.proofs.LevelChains.{before_level, chain_at, next_chain}
use Rattle.wot_live.proofs.Naming.{fpr_at}
use Rattle.wot_live.proofs.Stages.{certified_here, is_low, not_low}
use Rattle.wot_suppose.specs.Near.{LeadsTo}
use Rattle.wot_suppose.proofs.Rowless.{first_passes, other_trust}

-- over more certifications one comes to no fewer keys
further : (keys : Keyring) (m k n id y : ℕ) → m + k ≡ n → LeadsTo keys m id y → LeadsTo keys n id y
further keys m ℕ.zero n id y e leads = let same : m ≡ n = omega (arith, e) in subst (λ j. LeadsTo keys j id y) same leads
further keys m (suc k) n id y e leads = let more : suc (m + k) ≡ n = omega (arith, e) in subst (λ j. LeadsTo keys j id y) more (inl (further keys m k (m + k) id y refl leads))

module _ (s : State) (id : ℕ) (fpr : List ℕ) (filed : All IsFiled (finmap.entries s.keys)) (far : LeadsTo s.keys s.options.depth id (key_id_of fpr) → ⊥) where
  abbrev t : State
  t = without_trust s fpr

  -- a key from which one comes to the user ID's key is not of that fingerprint
  another : (m : ℕ) → m ≤ s.options.depth → (x : ℕ) → LeadsTo s.keys m id x → is_fpr_of fpr (finmap.get s.keys x) ≡ false
  another m within x leads = elim (is_fpr_of fpr (finmap.get s.keys x)) as (λ b. is_fpr_of fpr (finmap.get s.keys x) ≡ b → b ≡ false) [
    | true ↦ λ its.
        let here = is_key (key_id_of fpr) x (first_passes (key_id_of fpr == x) _ (sym its ∙ fpr_at s.keys fpr (key_id_of fpr) x filed refl)) in
        absurd (far (subst (LeadsTo s.keys s.options.depth id) (sym here) (further s.keys m (s.options.depth - m) s.options.depth id x (omega (arith, within)) leads)))
    | false ↦ λ _. refl
  ] refl

  -- with the chains of its certifiers a key keeps its own row
  module _ (n x : ℕ) (other : is_fpr_of fpr (finmap.get s.keys x) ≡ false) (before : finmap.get (rows_before s n) x ≡ finmap.get (rows_before t n) x)
      (above : (y : ℕ) → has_cert_by s.keys y x ≡ true → chain (rows_before s n) y ≡ chain (rows_before t n) y) where
    lower : (y : ℕ) → chain (rows_before s n) y ≡ chain (rows_before t n) y → chain (rows_below n (rows_before s n)) y ≡ chain (rows_below n (rows_before t n)) y
    lower y e = ap (λ m. chain m y) (before_below_itself s n) ∙ e ∙ sym (ap (λ m. chain m y) (before_below_itself t n))

    same_at_level : (key : Key) → finmap.get s.keys x ≡ Some key → row_at_level s (rows_before s n) n x key ≡ row_at_level t (rows_before t n) n x key
    same_at_level key is =
        let own = other_trust s fpr x key is other in
        let dates = same_dates s.date (key_expiries key) in
        let m = rows_below n (rows_before s n) in
        let l = rows_below n (rows_before t n) in
        let chains : (y : ℕ) → issuers_of key y ≡ true → chain m y ≡ chain l y = λ y its. lower y (above y (certified_here s x y key is its)) in
        elim (n == 0) as (λ b. cond b (first_row s x key) (new_row s m n x key) ≡ cond b (first_row t x key) (new_row t l n x key)) [
          | true ↦ first_row_frame s t refl m l key dates chains (λ y _ _. refl) x own
          | false ↦ new_row_frame s t refl m l key dates chains (λ y _ _. refl) n x own
        ]

    same_row : finmap.get (rows_before s (suc n)) x ≡ finmap.get (rows_before t (suc n)) x
    same_row =
        let a = rows_before s n in
        let b = rows_before t n in
        get_step s n a x (before_below_itself s n)
        ∙ elim (finmap.get s.keys x) as (λ o. finmap.get s.keys x ≡ o
        → option_and_then (λ key. kept_or (finmap.get a x) (row_at_level s a n x key)) o ≡ option_and_then (λ key. kept_or (finmap.get b x) (row_at_level t b n x key)) o) [
          | None ↦ λ _. refl
          | Some key ↦ λ is. λ i. kept_or (before i) (same_at_level key is i)
        ] refl
        ∙ sym (get_step t n b x (before_below_itself t n))

    -- whoever delegated to it certified it
    same_above : (row : Row) → finmap.get (rows_before s (suc n)) x ≡ Some row → (via : Option ℕ) → row.via ≡ via
        → option_map_or (chain (rows_before s n)) via [] ≡ option_map_or (chain (rows_before t n)) via []
    same_above row at None is = refl
    same_above row at (Some z) is = above z (via_certified s n x z row at is)

    -- and its own chain
    same_next : chain (rows_before s n) x ≡ chain (rows_before t n) x → chain (rows_before s (suc n)) x ≡ chain (rows_before t (suc n)) x
    same_next same = by (finmap.get (rows_before t (suc n)) x) refl
      where
        by : (o : Option Row) → finmap.get (rows_before t (suc n)) x ≡ o → chain (rows_before s (suc n)) x ≡ chain (rows_before t (suc n)) x
        by None none = ap (λ o. option_map_or (chain_of (rows_before s (suc n))) o []) (same_row ∙ none) ∙ sym (ap (λ o. option_map_or (chain_of (rows_before t (suc n))) o []) none)
        by (Some row) at = elim (nat_lt row.level n) as (λ b. nat_lt row.level n ≡ b → chain (rows_before s (suc n)) x ≡ chain (rows_before t (suc n)) x) [
          | true ↦ λ low. next_chain s t n x row (same_row ∙ at) at (is_low n row low) same
          | false ↦ λ high.
              let upper = before_level t (suc n) x row at in
              let not_lower = not_low n row high in
              let level : row.level ≡ n = omega (arith, upper, not_lower) in
              chain_at s n x row (same_row ∙ at) level
              ∙ ap (λ xs. row ∷ xs) (same_above row (same_row ∙ at) row.via refl)
              ∙ sym (chain_at t n x row at level)
        ] refl

  -- below a level chains are the same of all keys from which one comes to the user ID's key over as many certifications as there are levels left
  same_chain : (n m : ℕ) → n + m ≡ s.options.depth + 1 → (x : ℕ) → LeadsTo s.keys m id x → chain (rows_before s n) x ≡ chain (rows_before t n) x
  same_chain ℕ.zero m e x leads = refl
  same_chain (suc n) m e x leads =
      let more : n + suc m ≡ s.options.depth + 1 = omega (arith, e) in
      let same = same_chain n (suc m) more x (inl leads) in
      same_next n x (another m (omega (arith, e)) x leads) (chain_row (rows_before s n) (rows_before t n) x same)
      (λ y cert. same_chain n (suc m) more y (inr (x, leads, cert))) same

  module _ (some : 1 ≤ s.options.depth) where
    -- the rows by which letters are told
    certifier_chain : (m : ℕ) → m ≤ 1 → (y : ℕ) → LeadsTo s.keys m id y → chain (rows_of s) y ≡ chain (rows_of t) y
    certifier_chain m within y leads =
        let last : suc (s.options.depth - 1) + 1 ≡ s.options.depth + 1 = omega (arith, some) in
        same_chain (suc (s.options.depth - 1)) 1 last y (further s.keys m (1 - m) 1 id y (omega (arith, within)) leads)

    module _ (key : Key) (is : finmap.get s.keys id ≡ Some key) where
      same_counts : map (λ spot. count_of s spot (rows_of s)) (spots_from 0 key.users) ≡ map (λ spot. count_of t spot (rows_of t)) (spots_from 0 key.users)
      same_counts =
          key_counts_frame s t refl (rows_of s) (rows_of t) key (same_dates s.date (key_expiries key))
          (λ y its. certifier_chain 1 (omega arith) y (inr (id, refl, certified_here s id y key is its))) (λ y _ _. refl)

      letter_by : Option Row → Spot → Count → Letter
      letter_by row spot count = letter_of_marks key.revoked spot.user.revoked (is_expired key.expires s.date) (is_expired spot.user.expires s.date) (cond (has_level_0 row) U (letter_of_count s.options count))

      same_letters : (spots : List Spot) → map (λ spot. count_of s spot (rows_of s)) spots ≡ map (λ spot. count_of t spot (rows_of t)) spots → (user : ℕ)
          → option_map (user_letter t (rows_of t) id key) (slice_get spots user) ≡ option_map (user_letter s (rows_of s) id key) (slice_get spots user)
      unfolding letter_by
      same_letters [] counts user = refl
      same_letters (spot ∷ spots) counts ℕ.zero =
          let own = chain_row (rows_of s) (rows_of t) id (certifier_chain 0 (omega arith) id refl) in
          let count : count_of s spot (rows_of s) ≡ count_of t spot (rows_of t) = cc in
          sym (λ i. Some (letter_by (own i) spot (count i)))
      same_letters (spot ∷ spots) counts (suc user) = same_letters spots (rest counts) user
        where
          rest : {X : Type 0} {x y : X} {xs ys : List X} → (x ∷ xs) ≡ (y ∷ ys) → xs ≡ ys
          rest e = cc

    pub same_far_letter : (user : ℕ) → letter_at t id user ≡ letter_at s id user
    same_far_letter user = elim (finmap.get s.keys id) as (λ o. finmap.get s.keys id ≡ o
        → option_and_then (λ key. option_map (user_letter t (rows_of t) id key) (slice_get (spots_from 0 key.users) user)) o
        ≡ option_and_then (λ key. option_map (user_letter s (rows_of s) id key) (slice_get (spots_from 0 key.users) user)) o) [
          | None ↦ λ _. refl
          | Some key ↦ λ is. same_letters key is (spots_from 0 key.users) (same_counts key is) user
        ] refl

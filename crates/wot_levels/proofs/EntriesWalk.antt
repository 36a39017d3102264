-- A walk over the ownertrust that makes the rows of level 0.
use Rattle.std.proofs.Common.{◌≡◌, ◌==◌, ◌&&◌, ℕ, T, true, false, cond, nat_eq, All, List, [], ◌∷◌, Option, Some, None, IfSome, option_and_then, is_some, unwrap_or, refl, sym, ap, subst, ◌∙◌, arith}
use Rattle.std.specs.Cmp.{nat_cmp_total}
use Rattle.std.specs.Cmp.Lexicographic.{pointwise}
use Rattle.std.specs.FinMap as finmap
use Rattle.std.specs.FinMap.{entries_sorted, find, get-empty, get-entries, nat_cmp-IsAntisymmetric, same_map}
use Rattle.std.specs.FinMap.Entries.{below_all}
use Rattle.std.specs.Ordering.{eq_by_cmp, is_eq, nat_cmp}
use Rattle.std.proofs.lemmas.Bool.Decides.{Decides-eqb, nat_tests}
use Rattle.std.proofs.lemmas.Bool.{cond-false, cond-true}
use Rattle.std.proofs.lemmas.Cmp.{tied_itself}
use Rattle.std.proofs.lemmas.Option.{none-some}
use Rattle.std.proofs.lemmas.Slice.Eq.{slice_eq-Decides}
use Rattle.wot_types.specs.declared.key.Key.{Key}
use Rattle.wot_types.specs.declared.ownertrust.Ownertrust.{Ownertrust}
use Rattle.wot_types.specs.declared.row.Row.{Row}
use Rattle.wot_types.specs.declared.trust.Trust.TheVariants.{Ultimate}
use Rattle.wot_types.specs.Accepted.{IsFiled}
use Rattle.wot_types.specs.Candidates.{RowMap}
use Rattle.wot_types.specs.Expiry.{key_is_live}
use Rattle.wot_types.specs.Fingerprint.{fpr_cmp, key_id_of}
use Rattle.wot_types.specs.Levels.{first_row, map_by, trust_of_owner}
use Rattle.wot_types.specs.Ownertrust.{unset}
use Rattle.wot_types.specs.State.{State}
use Rattle.wot_types.specs.Trust.{is_ultimate}
use Rattle.wot_types.proofs.FinMaps.{IfSome-get}
use Rattle.wot_types.proofs.Fingerprints.{fpr_cmp_total, fpr_eq}
use Rattle.wot_types.proofs.MapBy.{get-map_by}
use Rattle.wot_types.proofs.Tests.{first_part, is_key, less_from, second_part}
use Rattle.wot_levels.specs.Entries.{named_row}
use Rattle.wot_levels.proofs.Halfway.{EntriesLeft, row_unless_left}
use Rattle.wot_levels.specs.Walk.{with_found}
use Rattle.wot_levels.proofs.Walks.{either, either_none, either_old, get-with_found}

same_fpr : (a b : List ℕ) → pointwise nat_eq a b ≡ true → a ≡ b
same_fpr a b is = (slice_eq-Decides Decides-eqb a b (pointwise nat_eq a b) refl).0 is

itself : (fpr : List ℕ) → eq_by_cmp fpr_cmp fpr fpr ≡ true
itself fpr = ap is_eq (tied_itself fpr_cmp_total fpr)

self_equal : (n : ℕ) → (n == n) ≡ true
self_equal n = grind (arith, nat_tests)

absent : (fpr : List ℕ) (es : List (List ℕ × Ownertrust)) → T (below_all fpr_cmp fpr es) → find fpr_cmp fpr es ≡ None
absent fpr [] h = refl
absent fpr (e ∷ es) h = ap (λ r. cond (is_eq r) (Some e.1) (find fpr_cmp fpr es)) (less_from _ (first_part _ _ h)) ∙ absent fpr es (second_part _ _ h)

-- a key that isn't trusted ultimately has no row of level 0
not_ultimate : (s : State) (id : ℕ) (key : Key) → is_ultimate (trust_of_owner s key) ≡ false → None ≡ first_row s id key
not_ultimate s id key not =
    let row : Row = record { key = id; level = 0; trust = Ultimate; left = 0; scope = None; via = None } in
    elim (key_is_live s.date key) as (λ b. None ≡ cond (b && is_ultimate (trust_of_owner s key)) (Some row) None) [
      | true ↦ sym (ap (λ b. cond b (Some row) None) not)
      | false ↦ refl
    ]

module _ (s : State) where
  -- without an entry there is no row
  unnamed : (id : ℕ) (key : Key) (kept : Option Ownertrust) → finmap.get s.trusts key.fpr ≡ kept → None ≡ cond (is_some kept) None (first_row s id key)
  unnamed id key (Some kept) is = refl
  unnamed id key None is = not_ultimate s id key (ap (λ (r : Option Ownertrust). is_ultimate (unwrap_or r unset).trust) is)

  pub entries_start : EntriesLeft s (finmap.entries s.trusts) finmap.empty
  entries_start = record {
    rising = entries_sorted s.trusts;
    found = λ fpr kept is. get-entries s.trusts fpr ∙ is;
    made = λ x. get-empty nat_cmp x ∙ elim (finmap.get s.keys x) as (λ r. None ≡ option_and_then (row_unless_left s (finmap.entries s.trusts) x) r) [
      | None ↦ refl
      | Some key ↦ unnamed x key (find fpr_cmp key.fpr (finmap.entries s.trusts)) (get-entries s.trusts key.fpr)
    ];
  }

  pub entries_all : (m : RowMap) → EntriesLeft s [] m → m ≡ map_by s.keys (first_row s)
  entries_all m walk = same_map nat_cmp_total nat_cmp-IsAntisymmetric m (map_by s.keys (first_row s)) (λ x.
      walk.made x
      ∙ elim (finmap.get s.keys x) as (λ r. option_and_then (row_unless_left s [] x) r ≡ option_and_then (first_row s x) r) [ None ↦ refl | Some key ↦ refl ]
      ∙ sym (get-map_by (first_row s) s.keys x))

  module _ (e : List ℕ × Ownertrust) (rest : List (List ℕ × Ownertrust)) (m : RowMap) (walk : EntriesLeft s (e ∷ rest) m) where
    -- the first that is left is an entry of the ownertrust
    pub entry_kept : finmap.get s.trusts e.0 ≡ Some e.1
    entry_kept = walk.found e.0 e.1 (cond-true (eq_by_cmp fpr_cmp e.0 e.0) (Some e.1) (find fpr_cmp e.0 rest) (itself e.0))

    not_again : (fpr : List ℕ) → eq_by_cmp fpr_cmp fpr e.0 ≡ true → find fpr_cmp fpr rest ≡ None
    not_again fpr same =
        ap (λ f. find fpr_cmp f rest) (same_fpr fpr e.0 (sym (fpr_eq fpr e.0) ∙ same)) ∙ absent e.0 rest (first_part _ _ walk.rising)

    still_found : (fpr : List ℕ) (kept : Ownertrust) → find fpr_cmp fpr rest ≡ Some kept → finmap.get s.trusts fpr ≡ Some kept
    still_found fpr kept is = elim (eq_by_cmp fpr_cmp fpr e.0) as (λ b. eq_by_cmp fpr_cmp fpr e.0 ≡ b → finmap.get s.trusts fpr ≡ Some kept) [
      | true ↦ λ same. absurd (none-some kept (sym (not_again fpr same) ∙ is))
      | false ↦ λ other. walk.found fpr kept (cond-false (eq_by_cmp fpr_cmp fpr e.0) (Some e.1) (find fpr_cmp fpr rest) other ∙ is)
    ] refl

    module _ (filed : All IsFiled (finmap.entries s.keys)) (found : Option Row) (is : found ≡ option_and_then (named_row s e.0 (key_id_of e.0)) (finmap.get s.keys (key_id_of e.0))) where
      abbrev id : ℕ
      id = key_id_of e.0

      abbrev put_at : ℕ → Option Row → Option Row
      put_at x old = cond (id == x) (either found old) old

      -- where no row is found, what stands there stays
      no_row : (x : ℕ) (old : Option Row) → ((id == x) ≡ true → found ≡ None) → put_at x old ≡ old
      no_row x old none = elim (id == x) as (λ b. (id == x) ≡ b → cond b (either found old) old ≡ old) [
        | true ↦ λ same. ap (λ f. either f old) (none same) ∙ either_old old
        | false ↦ λ _. refl
      ] refl

      found_at : (x : ℕ) → (id == x) ≡ true → found ≡ option_and_then (named_row s e.0 x) (finmap.get s.keys x)
      found_at x same = is ∙ ap (λ k. option_and_then (named_row s e.0 k) (finmap.get s.keys k)) (is_key id x same)

      put_made : (x : ℕ) (key : Option Key) → finmap.get s.keys x ≡ key → IfSome key (λ k. IsFiled (x, k))
          → put_at x (option_and_then (row_unless_left s (e ∷ rest) x) key) ≡ option_and_then (row_unless_left s rest x) key
      put_made x None there own = no_row x None (λ same. found_at x same ∙ ap (option_and_then (named_row s e.0 x)) there)
      put_made x (Some key) there own =
          elim (pointwise nat_eq key.fpr e.0) as (λ b. pointwise nat_eq key.fpr e.0 ≡ b → put_at x (row_unless_left s (e ∷ rest) x key) ≡ row_unless_left s rest x key) [
            | true ↦ λ same.
                let tied : eq_by_cmp fpr_cmp key.fpr e.0 ≡ true = fpr_eq key.fpr e.0 ∙ same in
                let here : x ≡ id = sym own.own_id ∙ ap key_id_of (same_fpr key.fpr e.0 same) in
                let at : (id == x) ≡ true = subst (λ y. (id == y) ≡ true) (sym here) (self_equal id) in
                let row : found ≡ first_row s x key = found_at x at ∙ ap (option_and_then (named_row s e.0 x)) there ∙ cond-true (pointwise nat_eq key.fpr e.0) (first_row s x key) None same in
                let former : row_unless_left s (e ∷ rest) x key ≡ None = ap (λ b. cond (is_some (cond b (Some e.1) (find fpr_cmp key.fpr rest))) None (first_row s x key)) tied in
                ap (put_at x) former ∙ ap (λ b. cond b (either found None) None) at ∙ either_none found ∙ row
                ∙ sym (ap (λ r. cond (is_some r) None (first_row s x key)) (not_again key.fpr tied))
            | false ↦ λ other.
                let apart : eq_by_cmp fpr_cmp key.fpr e.0 ≡ false = fpr_eq key.fpr e.0 ∙ other in
                no_row x (row_unless_left s (e ∷ rest) x key)
                (λ at. found_at x at ∙ ap (option_and_then (named_row s e.0 x)) there ∙ cond-false (pointwise nat_eq key.fpr e.0) (first_row s x key) None other)
                ∙ ap (λ b. cond (is_some (cond b (Some e.1) (find fpr_cmp key.fpr rest))) None (first_row s x key)) apart
          ] refl

      pub entries_put : EntriesLeft s rest (with_found m id found)
      entries_put = record {
        rising = second_part _ _ walk.rising;
        found = still_found;
        made = λ x.
            get-with_found m id found x ∙ ap (put_at x) (walk.made x)
            ∙ put_made x (finmap.get s.keys x) refl (IfSome-get nat_cmp_total nat_cmp-IsAntisymmetric IsFiled s.keys x filed);
      }

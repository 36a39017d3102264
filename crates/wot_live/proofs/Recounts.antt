-- The counts of some keys, taken anew.
use Rattle.std.proofs.Common.{◌≡◌, ◌-◌, ◌==◌, ◌||◌, ℕ, suc, Bool, true, false, cond, List, [], ◌∷◌, ◌++◌, Option, Some, None, option_and_then, is_some, refl, sym, ap, ◌∙◌}
use Rattle.std.specs.FinMap as map
use Rattle.std.specs.FinMap.{get-insert, get-remove, nat_cmp-IsAntisymmetric, same_map}
use Rattle.std.specs.Cmp.{nat_cmp_total}
use Rattle.std.proofs.lemmas.List.Folds.{list_any-append}
use Rattle.wot_types.specs.declared.count.Count.{Count}
use Rattle.wot_types.specs.declared.key.Key.{Key}
use Rattle.wot_types.specs.State.{State}
use Rattle.wot_types.specs.Candidates.{RowMap, chain}
use Rattle.wot_types.specs.Levels.{rows_of}
use Rattle.wot_types.proofs.Chains.{chain_row}
use Rattle.wot_types.proofs.Frames.{IssuersStay, issuers_of, key_counts_frame}
use Rattle.wot_types.proofs.MapBy.{get-map_by}
use Rattle.wot_types.proofs.Tests.{is_key, same_key}
use Rattle.wot_live.specs.Counts.{AreCountedAt, CountMap, counts_of, counts_rule, kept_counts, key_counts, with_counts}
use Rattle.wot_live.specs.Recounting.{IsBegun, IsCounted, among}
use Rattle.wot_live.proofs.Stages.{certified_here, key_of_row}

get_with : (counts : CountMap) (id x : ℕ) (list : Option (List Count)) → map.get (with_counts counts id list) x ≡ cond (id == x) list (map.get counts x)
get_with counts id x None = get-remove nat_cmp_total counts id x ∙ ap (λ b. cond b None (map.get counts x)) (same_key x id)
get_with counts id x (Some list) = get-insert nat_cmp_total counts id list x ∙ ap (λ b. cond b (Some list) (map.get counts x)) (same_key x id)

module _ (s : State) (rows : RowMap) where
  pub rule_none : (id : ℕ) → map.get s.keys id ≡ None → counts_rule s rows id ≡ kept_counts []
  rule_none id is = ap (option_and_then (λ key. kept_counts (key_counts s rows key))) is

  pub rule_some : (id : ℕ) (key : Key) → map.get s.keys id ≡ Some key → counts_rule s rows id ≡ kept_counts (key_counts s rows key)
  rule_some id key is = ap (option_and_then (λ key. kept_counts (key_counts s rows key))) is

  pub counted_one : (counts : CountMap) (id : ℕ) (list : List Count) → kept_counts list ≡ counts_rule s rows id → AreCountedAt s rows (id ∷ []) counts (with_counts counts id (kept_counts list))
  counted_one counts id list is x =
      get_with counts id x (kept_counts list)
      ∙ elim (id == x) as (λ b. (id == x) ≡ b → cond b (kept_counts list) (map.get counts x) ≡ cond (b || false) (counts_rule s rows x) (map.get counts x)) [
        | true ↦ λ same. is ∙ ap (counts_rule s rows) (is_key id x same)
        | false ↦ λ _. refl
      ] refl

  pub counted_both : (ids js : List ℕ) (a b c : CountMap) → AreCountedAt s rows ids a b → AreCountedAt s rows js b c → AreCountedAt s rows (ids ++ js) a c
  counted_both ids js a b c first second x =
      second x ∙ ap (cond (among js x) (counts_rule s rows x)) (first x)
      ∙ either (among ids x) (among js x) (counts_rule s rows x) (map.get a x)
      ∙ ap (λ t. cond t (counts_rule s rows x) (map.get a x)) (sym (list_any-append (λ id. id == x) ids js))
    where
      either : (p q : Bool) (r d : Option (List Count)) → cond q r (cond p r d) ≡ cond (p || q) r d
      either true true r d = refl
      either true false r d = refl
      either false true r d = refl
      either false false r d = refl

-- ---- the counts of the new state

module _ (s t : State) (start todo : List ℕ) (kept rows : RowMap) (begun : IsBegun s t kept start) (done : IsCounted s t start rows todo) where
  alike_counts : (x : ℕ) → among todo x ≡ false → (o : Option Key) → map.get t.keys x ≡ o
      → option_and_then (λ key. kept_counts (key_counts s (rows_of s) key)) o ≡ option_and_then (λ key. kept_counts (key_counts t (rows_of t) key)) o
  alike_counts x out None is = refl
  alike_counts x out (Some key) is =
      let alike = begun.alike x (done.longer x out) in
      let issuers : (y : ℕ) → issuers_of key y ≡ true → chain (rows_of s) y ≡ chain (rows_of t) y = λ y its. done.alike x y out (certified_here t x y key is its) in
      let stay : IssuersStay s.keys t.keys key (rows_of t) = λ y its there.
      begun.fprs y (ap (λ r. is_some (map.get r y)) begun.rows ∙ ap is_some (chain_row (rows_of s) (rows_of t) y (issuers y its)) ∙ there) (key_of_row t (suc (t.options.depth - 1)) y there) in
      ap kept_counts (key_counts_frame s t begun.options (rows_of s) (rows_of t) key (alike.dates key is) issuers stay)

  pub counts_final : (old new : CountMap) → old ≡ counts_of s → AreCountedAt t rows todo old new → new ≡ counts_of t
  counts_final old new before counted = same_map nat_cmp_total nat_cmp-IsAntisymmetric new (counts_of t) (λ x.
      counted x
      ∙ elim (among todo x) as (λ b. among todo x ≡ b → cond b (counts_rule t rows x) (map.get old x) ≡ counts_rule t (rows_of t) x) [
        | true ↦ λ _. ap (λ r. counts_rule t r x) done.rows
        | false ↦ λ out.
            ap (λ m. map.get m x) before ∙ get-map_by (λ _ key. kept_counts (key_counts s (rows_of s) key)) s.keys x
            ∙ ap (option_and_then (λ key. kept_counts (key_counts s (rows_of s) key))) (begun.alike x (done.longer x out)).key
            ∙ alike_counts x out (map.get t.keys x) refl
      ] refl
      ∙ sym (get-map_by (λ _ key. kept_counts (key_counts t (rows_of t) key)) t.keys x))

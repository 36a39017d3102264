-- A query of the engine's state: where its user ID is, and its answer.
use Rattle.std.proofs.Common.{◌≡◌, ℕ, zero, suc, ◌-◌, ◌<◌, ◌≤◌, Bool, true, false, List, [], ◌∷◌, length, if◌then◌else◌, Option, Some, None, IsSome, refl, sym, ap, subst, ◌∙◌, arith}
use Rattle.std.specs.Prelude.{nat_lt, slice_get, option_and_then}
use Rattle.std.specs.FinMap as finmap
use Rattle.std.specs.Option.{is_some, option_map_or}
use Rattle.std.proofs.lemmas.Bool.Decides.{nat_tests}
use Rattle.wot_types.specs.declared.query.Query.{Query}
use Rattle.wot_types.specs.declared.query.Query.TheVariants.{List as ListAll, ListOne, Sigs, SigsOne, Export, Why, Check, Suppose, Critical, AtList, AtListOne, AtWhy, Compact, Quit}
use Rattle.wot_types.specs.declared.key.Key.{Key}
use Rattle.wot_types.specs.declared.refusal.Refusal.{Refusal}
use Rattle.wot_types.specs.declared.refusal.Refusal.TheVariants.{NoSuchKey, NoSuchUser}
use Rattle.wot_types.specs.State.{State}
use Rattle.wot_types.specs.Arrangement.{spot_at}
use Rattle.wot_types.specs.Fingerprint.{key_id_of}
use Rattle.wot_types.specs.Keyring.{is_fpr_of}
use Rattle.wot_types.specs.Outcome.{outcome_in, query_outcome, query_refusal, reply_to, store_after, unless_unanswered, unless_user}
use Rattle.wot_types.specs.Selection.{spots_from}
use Rattle.wot_types.specs.Store.{Store}
use Rattle.wot_types.specs.Store.Change.{keeps}
use Rattle.wot_table.proofs.Placement.{length_spots}
use Rattle.wot_answer.specs.Answer.{Does, Ends, IsAsked, answer_text, effect_by, effect_of, is_err, is_refusal, reply_of}
use Rattle.wot_answer.specs.declared.answer.Answered.{Answered}
use Rattle.wot_answer.specs.declared.reply.Answer.TheVariants.{Told}
use Rattle.wot_answer.specs.declared.reply.Effect.{Effect}
use Rattle.wot_answer.specs.declared.reply.Reply.{Reply}

got : {X : Type 0} (xs : List X) (i : ℕ) → i < length xs → is_some (slice_get xs i) ≡ true
got [] i h = absurd (omega arith)
got (x ∷ xs) zero h = refl
got (x ∷ xs) (suc i) h = got xs i (omega arith)

place_there : (r : Option Key) (fpr : List ℕ) (place : ℕ) → 1 ≤ place
    → (if is_fpr_of fpr r then (if nat_lt (option_map_or (λ key. length key.users) r 0) place then Some NoSuchUser else None) else Some NoSuchKey) ≡ None
    → is_some (option_and_then (λ key. slice_get (spots_from 0 key.users) (place - 1)) r) ≡ true
place_there None fpr place some none = cc
place_there (Some key) fpr place some none = by_tests (is_fpr_of fpr (Some key)) (nat_lt (length key.users) place) refl none
  where
    by_tests : (here past : Bool) → nat_lt (length key.users) place ≡ past → (if here then (if past then Some NoSuchUser else None) else Some NoSuchKey) ≡ None
        → is_some (slice_get (spots_from 0 key.users) (place - 1)) ≡ true
    by_tests false past is none = cc
    by_tests true true is none = cc
    by_tests true false is none =
        let few : place ≤ length key.users = grind (arith, nat_tests) in
        got (spots_from 0 key.users) (place - 1) (omega (arith, length_spots 0 key.users, few, some))

-- the user ID that is asked for is there
pub asked_there : (s : State) (fpr : List ℕ) (place : ℕ) → 1 ≤ place → unless_user s fpr place ≡ None → IsSome (spot_at s.keys (key_id_of fpr) (place - 1))
asked_there s fpr place some none = place_there (finmap.get s.keys (key_id_of fpr)) fpr place some none

-- a query that does nothing to the store leaves it, refused or not
module _ (t : State) (query : Query) (s : Store) where
  kept_by : (why : Option Refusal) → store_after (unless_unanswered why (reply_to t query) keeps).change s ≡ s
  kept_by None = refl
  kept_by (Some why) = refl

  pub kept : store_after (unless_unanswered (query_refusal t query) (reply_to t query) keeps).change s ≡ s
  kept = kept_by (query_refusal t query)

-- what a query of a state does to the store, refused or not: the state stays
record Keeps (query : Query) (s after : Store) : Type 0 where
  does : Does (effect_by query) s after
  state : after.state ≡ s.state

query_keeps : (query : Query) (t : State) (s : Store) → Keeps query s (store_after (outcome_in t query).change s)
query_keeps Compact t s = record { does = refl; state = refl }
query_keeps ListAll t s = record { does = refl; state = refl }
query_keeps (ListOne fpr) t s = record { does = kept t (ListOne fpr) s; state = ap (λ (s : Store). s.state) (kept t (ListOne fpr) s) }
query_keeps Sigs t s = record { does = refl; state = refl }
query_keeps (SigsOne fpr) t s = record { does = kept t (SigsOne fpr) s; state = ap (λ (s : Store). s.state) (kept t (SigsOne fpr) s) }
query_keeps Export t s = record { does = refl; state = refl }
query_keeps (Why fpr place) t s = record { does = kept t (Why fpr place) s; state = ap (λ (s : Store). s.state) (kept t (Why fpr place) s) }
query_keeps Check t s = record { does = refl; state = refl }
query_keeps (Suppose edit) t s = record { does = kept t (Suppose edit) s; state = ap (λ (s : Store). s.state) (kept t (Suppose edit) s) }
query_keeps (Critical fpr place) t s = record { does = kept t (Critical fpr place) s; state = ap (λ (s : Store). s.state) (kept t (Critical fpr place) s) }
query_keeps (AtList n) t s = record { does = refl; state = refl }
query_keeps (AtListOne n fpr) t s = record { does = refl; state = refl }
query_keeps (AtWhy n fpr place) t s = record { does = refl; state = refl }
query_keeps Quit t s = record { does = refl; state = refl }

-- a query of the engine's state: its reply was told, a refusal or not
pub query_answered : (answered : Answered) (s : Store) (query : Query) (old : State) (reply : Reply) (effect : Effect) → old ≡ s.state
    → reply_of reply old ≡ (outcome_in old query).text → is_err reply ≡ (outcome_in old query).refused → effect ≡ effect_by query
    → answered.engine ≡ old → answered.answer ≡ Told reply effect → Ends answered s (outcome_in s.state query)
query_answered answered s query old reply effect same text refused does engine is =
    let after = store_after (outcome_in s.state query).change s in
    let unchanged = query_keeps query s.state s in
    record {
      text = ap (λ state. (outcome_in state query).text) (sym same) ∙ sym text ∙ ap (reply_of reply) (same ∙ sym unchanged.state) ∙ ap (λ answer. answer_text answer after) (sym is);
      refused = ap (λ state. (outcome_in state query).refused) (sym same) ∙ sym refused ∙ ap (λ answer. is_refusal answer after) (sym is);
      asked = subst (λ answer. IsAsked answer after) (sym is) tt;
      state = unchanged.state ∙ sym same ∙ sym engine;
      does = subst (λ answer. Does (effect_of answer) s after) (sym is) (subst (λ effect. Does effect s after) (sym does) unchanged.does);
    }

-- a query that asks of no earlier state is one of the store's state
pub present_outcome : (query : Query) → ((n : ℕ) → query ≡ AtList n → ⊥) → ((n : ℕ) (fpr : List ℕ) → query ≡ AtListOne n fpr → ⊥) → ((n : ℕ) (fpr : List ℕ) (place : ℕ) → query ≡ AtWhy n fpr place → ⊥)
    → (s : Store) → query_outcome s query ≡ outcome_in s.state query
present_outcome ListAll no_list no_one no_why s = refl
present_outcome (ListOne fpr) no_list no_one no_why s = refl
present_outcome Sigs no_list no_one no_why s = refl
present_outcome (SigsOne fpr) no_list no_one no_why s = refl
present_outcome Export no_list no_one no_why s = refl
present_outcome (Why fpr place) no_list no_one no_why s = refl
present_outcome Check no_list no_one no_why s = refl
present_outcome (Suppose edit) no_list no_one no_why s = refl
present_outcome (Critical fpr place) no_list no_one no_why s = refl
present_outcome Compact no_list no_one no_why s = refl
present_outcome Quit no_list no_one no_why s = refl
present_outcome (AtList n) no_list no_one no_why s = absurd (no_list n refl)
present_outcome (AtListOne n fpr) no_list no_one no_why s = absurd (no_one n fpr refl)
present_outcome (AtWhy n fpr place) no_list no_one no_why s = absurd (no_why n fpr place refl)

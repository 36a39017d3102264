-- A query of an earlier state: which queries are asked of one, and the answer that asks.
use Rattle.std.proofs.Common.{◌≡◌, ℕ, ◌-◌, ◌^◌, ◌<◌, ◌≤◌, true, false, length, if◌then◌else◌, refl, sym, ap, subst, ◌∙◌, arith}
use Rattle.std.specs.Prelude.{nat_lt}
use Rattle.std.proofs.lemmas.Bool.Decides.{nat_tests}
use Rattle.wot_types.specs.declared.query.Query.{Query}
use Rattle.wot_types.specs.declared.query.Query.TheVariants.{List as ListAll, ListOne, Sigs, SigsOne, Export, Why, Check, Suppose, Critical, AtList, AtListOne, AtWhy, Compact, Quit}
use Rattle.wot_types.specs.declared.refusal.Refusal.TheVariants.{NoSuchTime}
use Rattle.wot_types.specs.EarlierStates.{earlier_state}
use Rattle.wot_types.specs.Numbers.{capped}
use Rattle.wot_types.specs.Outcome.{earlier_outcome, outcome_in, refuse, store_after}
use Rattle.wot_types.specs.State.{State}
use Rattle.wot_types.specs.Store.{Store}
use Rattle.wot_answer.specs.Answer.{Does, Ends, IsAsked, IsEarlierQuery, IsPresentQuery, IsReply, answer_text, effect_of, is_refusal}
use Rattle.wot_answer.specs.declared.answer.Answered.{Answered}
use Rattle.wot_answer.specs.declared.reply.Answer.TheVariants.{Earlier}
use Rattle.wot_answer.proofs.Queries.{kept}

-- in that state they are answered as any other
pub earlier_is_present : (query : Query) → IsEarlierQuery query → IsPresentQuery query
earlier_is_present ListAll asked = tt
earlier_is_present (ListOne fpr) asked = tt
earlier_is_present (Why fpr place) asked = asked
earlier_is_present Sigs asked = absurd asked
earlier_is_present (SigsOne fpr) asked = absurd asked
earlier_is_present Export asked = absurd asked
earlier_is_present Check asked = absurd asked
earlier_is_present (Suppose edit) asked = absurd asked
earlier_is_present (Critical fpr place) asked = absurd asked
earlier_is_present (AtList n) asked = absurd asked
earlier_is_present (AtListOne n fpr) asked = absurd asked
earlier_is_present (AtWhy n fpr place) asked = absurd asked
earlier_is_present Compact asked = absurd asked
earlier_is_present Quit asked = absurd asked

-- and nothing is done to the store
earlier_keeps : (query : Query) → IsEarlierQuery query → (t : State) (s : Store) → store_after (outcome_in t query).change s ≡ s
earlier_keeps ListAll asked t s = refl
earlier_keeps (ListOne fpr) asked t s = kept t (ListOne fpr) s
earlier_keeps (Why fpr place) asked t s = kept t (Why fpr place) s
earlier_keeps Sigs asked t s = absurd asked
earlier_keeps (SigsOne fpr) asked t s = absurd asked
earlier_keeps Export asked t s = absurd asked
earlier_keeps Check asked t s = absurd asked
earlier_keeps (Suppose edit) asked t s = absurd asked
earlier_keeps (Critical fpr place) asked t s = absurd asked
earlier_keeps (AtList n) asked t s = absurd asked
earlier_keeps (AtListOne n fpr) asked t s = absurd asked
earlier_keeps (AtWhy n fpr place) asked t s = absurd asked
earlier_keeps Compact asked t s = absurd asked
earlier_keeps Quit asked t s = absurd asked

module _ (answered : Answered) (s : Store) (query : Query) (records n : ℕ) (small : records ≤ 2 ^ 64 - 1) (many : capped records ≡ capped (length s.edits)) where
  outcome_by : (late : _) → nat_lt (length s.edits) n ≡ late → earlier_outcome s n query ≡ (if late then refuse (NoSuchTime (length s.edits)) else outcome_in (earlier_state s n) query)
  outcome_by late is = ap (λ late. if late then refuse (NoSuchTime (length s.edits)) else outcome_in (earlier_state s n) query) is

  -- there are fewer edits than that
  pub asked_too_late : (old : State) → old ≡ s.state → n ≤ 2 ^ 64 - 1 → records < n → IsReply answered old (refuse (NoSuchTime records)) → Ends answered s (earlier_outcome s n query)
  asked_too_late old same fits late reply =
      let all : records ≡ length s.edits = grind (arith, nat_tests) in
      let past : nat_lt (length s.edits) n ≡ true = grind (arith, nat_tests) in
      subst (Ends answered s) (sym (outcome_by true past ∙ ap (λ k. refuse (NoSuchTime k)) (sym all))) (reply s same)

  -- the state is there
  pub asked_in_time : (old : State) → old ≡ s.state → n ≤ records → IsEarlierQuery query → answered.engine ≡ old → answered.answer ≡ Earlier n query → Ends answered s (earlier_outcome s n query)
  asked_in_time old same soon asked engine is =
      let there : n ≤ length s.edits = grind (arith, nat_tests) in
      let here : nat_lt (length s.edits) n ≡ false = grind (arith, nat_tests) in
      let o = outcome_in (earlier_state s n) query in
      let stays : s ≡ store_after o.change s = sym (earlier_keeps query asked (earlier_state s n) s) in
      subst (Ends answered s) (sym (outcome_by false here)) (record {
        text = subst (λ after. o.text ≡ answer_text answered.answer after) stays (ap (λ answer. answer_text answer s) (sym is));
        refused = subst (λ after. o.refused ≡ is_refusal answered.answer after) stays (ap (λ answer. is_refusal answer s) (sym is));
        asked = subst (IsAsked answered.answer) stays (subst (λ answer. IsAsked answer s) (sym is) (there, asked));
        state = ap (λ (s : Store). s.state) (sym stays) ∙ sym same ∙ sym engine;
        does = subst (Does (effect_of answered.answer) s) stays (subst (λ answer. Does (effect_of answer) s s) (sym is) refl);
      })

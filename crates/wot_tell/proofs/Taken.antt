-- What a teller has taken, call after call.
use Rattle.std.proofs.Common.{ℕ, Bool, true, false, List, [], ◌++◌, Option, Result, Ok, Err, OnOk, OnErr, is_err, refl, sym, ap, subst, ◌∙◌, append_assoc}
use Rattle.std.proofs.lemmas.List.{append-nil}
use Rattle.wot_site.specs.Seen.{Faults, Honestly, Seen}
use Rattle.wot_site.specs.Site.{HasCause, TellRose}
use Rattle.wot_site.proofs.Honest.{honest_start, honest_then, honest_weaker}
use Rattle.wot_tell.specs.Telling.{Telling, TellingPrefix}
use Rattle.wot_tell.specs.Teller.{HasTaken, IsToldBut, Reached, stand}
use Rattle.wot_tell.proofs.Texts.{telling_none, telling_then, telling_more, telling_then_prefix}

-- bytes that are taken and held, behind those that were held before
pub held_more : (began : Reached) (seen : Option Seen) (faults : Faults) (failed : Bool) (held text bytes : List ℕ)
    → HasTaken began (stand seen faults failed held) text → HasTaken began (stand seen faults failed (held ++ bytes)) (text ++ bytes)
held_more began seen faults failed held text bytes taken = record {
  going = λ goes. honest_weaker (IsToldBut held text) (IsToldBut (held ++ bytes) (text ++ bytes)) _ _ (taken.going goes) (λ x y but. record {
    told = but.told;
    is = sym (append_assoc but.told held bytes) ∙ ap (λ text. text ++ bytes) but.is;
    telling = but.telling;
  });
  quiet = taken.quiet;
  stopped = λ stops. honest_weaker (TellingPrefix text) (TellingPrefix (text ++ bytes)) _ _ (taken.stopped stops) (λ x y told. telling_more text bytes x y told);
  cause = taken.cause;
}

-- what was held is told, in a call that may fail before its end
pub held_told : {E : Type 0} (began : Reached) (seen next : Option Seen) (faults after : Faults) (held text : List ℕ) (result : Result Unit E)
    → OnOk result (Honestly seen next (Telling held)) → OnErr result (Honestly seen next (TellingPrefix held)) → HasCause TellRose faults after result
    → HasTaken began (stand seen faults false held) text → HasTaken began (stand next after (is_err result) []) text
held_told began seen next faults after held text (Ok u) told prefix cause taken = record {
  going = λ goes. honest_then (IsToldBut held text) (Telling held) (IsToldBut [] text) _ _ _ (taken.going refl) told
      (λ x y z but tells. record { told = but.told ++ held; is = append-nil (but.told ++ held) ∙ but.is; telling = telling_then but.told held x y z but.telling tells });
  quiet = λ goes. cause.quiet ∙ taken.quiet refl;
  stopped = λ stops. absurd (cc);
  cause = λ stops. absurd (cc);
}
held_told began seen next faults after held text (Err e) told prefix cause taken = record {
  going = λ goes. absurd (cc);
  quiet = λ goes. absurd (cc);
  stopped = λ stops. honest_then (IsToldBut held text) (TellingPrefix held) (TellingPrefix text) _ _ _ (taken.going refl) prefix
      (λ x y z but tells. subst (λ text. TellingPrefix text x z) but.is (telling_then_prefix but.told held x y z but.telling tells));
  cause = λ stops. subst (λ f. TellRose f after) (taken.quiet refl) (cause.failed refl);
}

-- at the beginning, before a byte is taken
pub taken_none : (seen : Option Seen) (faults : Faults) → HasTaken (record { seen = seen; faults = faults }) (stand seen faults false []) []
taken_none seen faults = record {
  going = λ goes. honest_start (IsToldBut [] []) seen (λ x. record { told = []; is = refl; telling = telling_none x });
  quiet = λ goes. refl;
  stopped = λ stops. absurd (cc);
  cause = λ stops. absurd (cc);
}

-- at the end, where nothing is held: all was told, or a prefix of it and a call failed
module _ (began : Reached) (seen : Option Seen) (faults : Faults) (text : List ℕ) where
  pub told_whole : HasTaken began (stand seen faults false []) text → Honestly began.seen seen (Telling text)
  told_whole taken = honest_weaker (IsToldBut [] text) (Telling text) _ _ (taken.going refl) (λ x y but. subst (λ told. Telling told x y) (sym (append-nil but.told) ∙ but.is) but.telling)

  pub told_quietly : {T E : Type 0} (told : T) → HasTaken began (stand seen faults false []) text → HasCause {T = T} {E = E} TellRose began.faults faults (Ok told)
  told_quietly told taken = record { failed = λ fails. cc; quiet = taken.quiet refl }

  pub told_in_part : HasTaken began (stand seen faults true []) text → Honestly began.seen seen (TellingPrefix text)
  told_in_part taken = taken.stopped refl

  pub told_with_a_fault : {T E : Type 0} (fault : E) → HasTaken began (stand seen faults true []) text → HasCause {T = T} {E = E} TellRose began.faults faults (Err fault)
  told_with_a_fault fault taken = record { failed = λ fails. taken.cause refl; quiet = tt }

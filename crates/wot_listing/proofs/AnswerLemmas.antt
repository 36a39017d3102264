-- A part's answer among the checks of a whole line.
use Rattle.std.proofs.Common.{◌≡◌, Bool, true, false, cond, List, [], ◌∷◌, ◌++◌, Option, Some, None, Err, refl, ap, ◌∙◌}
use Rattle.wot_types.specs.declared.fault.ListingWhat.{ListingWhat}
use Rattle.wot_types.specs.Listing.{Check, first_failing}
use Rattle.wot_listing.specs.declared.error.LineError.{LineError}
use Rattle.wot_listing.specs.declared.error.LineError.TheVariants.{Failed, Memory}
use Rattle.std.specs.Option.{ok_or}
use Rattle.std.specs.Result.{result_ok}
use Rattle.wot_listing.specs.Answer.{Answers, Gives}

fails_at : (b : Bool) (w : ListingWhat) (a c : Option ListingWhat) (what : ListingWhat) → (a ≡ Some what → c ≡ Some what) → cond b (Some w) a ≡ Some what → cond b (Some w) c ≡ Some what
fails_at true w a c what h e = e
fails_at false w a c what h e = h e

-- a check that fails comes before those that follow
pub fails_more : (xs ys : List Check) (what : ListingWhat) → first_failing xs ≡ Some what → first_failing (xs ++ ys) ≡ Some what
fails_more [] ys what e = cc
fails_more (x ∷ xs) ys what e = fails_at x.0 x.1 (first_failing xs) (first_failing (xs ++ ys)) what (fails_more xs ys what) e

-- a part's error is the line's, where further checks follow
pub error_more : {X Y : Type 0} (e : LineError) (xs ys : List Check) (P : X → Type 0) (Q : Y → Type 0) → Answers (Err e) (first_failing xs) P → Answers (Err e) (first_failing (xs ++ ys)) Q
error_more (Failed what) xs ys P Q h = fails_more xs ys what h
error_more Memory xs ys P Q h = tt

-- and where a check that passes comes before
pub error_after : {X Y : Type 0} (e : LineError) (b : Bool) (w : ListingWhat) (rest : Option ListingWhat) (P : X → Type 0) (Q : Y → Type 0) → b ≡ false → Answers (Err e) rest P → Answers (Err e) (cond b (Some w) rest) Q
error_after (Failed what) b w rest P Q p h = ap (λ t. cond t (Some w) rest) p ∙ h
error_after Memory b w rest P Q p h = tt

-- and where further checks follow as well
pub error_amid : {X Y : Type 0} (e : LineError) (b : Bool) (w : ListingWhat) (xs ys : List Check) (P : X → Type 0) (Q : Y → Type 0) → b ≡ false → Answers (Err e) (first_failing xs) P → Answers (Err e) (cond b (Some w) (first_failing (xs ++ ys))) Q
error_amid e b w xs ys P Q p h = error_after e b w (first_failing (xs ++ ys)) Q Q p (error_more e xs ys P Q h)

-- the same checks in other words
pub error_at : {X Y : Type 0} (e : LineError) (o p : Option ListingWhat) (P : X → Type 0) (Q : Y → Type 0) → p ≡ o → Answers (Err e) o P → Answers (Err e) p Q
error_at (Failed what) o p P Q same h = same ∙ h
error_at Memory o p P Q same h = tt

-- a field's value, where what it spells is told
pub gives : {X E : Type 0} (o : Option X) (d : E) (w : ListingWhat) → Gives (ok_or (result_ok (ok_or o d)) (Failed w)) o w
gives None d w = (refl, refl)
gives (Some x) d w = refl

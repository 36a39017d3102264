-- What stands between two levels, and at the end.
use Rattle.std.proofs.Common.{◌≡◌, ◌+◌, ◌-◌, ◌*◌, ◌≤◌, ℕ, zero, suc, false, List, refl, sym, ap, ◌∙◌, arith}
use Rattle.wot_types.specs.State.{State}
use Rattle.wot_types.specs.Candidates.{RowMap}
use Rattle.wot_types.specs.Levels.{rows_of}
use Rattle.wot_live.specs.Recounting.{IsCounted, IsRecounted, among}
use Rattle.wot_live.proofs.BeforeLevels.{IsStage}
use Rattle.wot_live.proofs.Stages.{IsLow, among_more, issuers_alike}

pub counted_from : (s t : State) → s.options ≡ t.options → 1 ≤ t.options.depth → (n : ℕ) (rows : RowMap) (start todo moved : List ℕ) → IsStage s t n rows todo moved → (top : ℕ) → IsLow top rows → n ≡ t.options.depth → rows ≡ rows_of t
    → ((x : ℕ) → among todo x ≡ false → among start x ≡ false) → IsCounted s t start rows todo
counted_from s t options some n rows start todo moved stage top low end final longer = record {
  rows = final;
  longer = longer;
  alike = issuers_alike s t some n rows todo moved stage top low options end;
}

pub out_before : (t : State) (n : ℕ) (moved ids : List ℕ) (old new : RowMap) (todo more fresh after : List ℕ) → IsRecounted t n moved ids old todo fresh new more after → (x : ℕ) → among more x ≡ false → among todo x ≡ false
out_before t n moved ids old new todo more fresh after step x out = among_more todo step.longer.0 x (sym (ap (λ xs. among xs x) step.longer.1) ∙ out)

pub once_more : (n c : ℕ) → (n + 1) * c ≡ n * c + c
once_more n c = grind arith

pub no_more_than : (a b c : ℕ) → a ≤ b → a * c ≤ b * c
no_more_than a b c h = grind arith

-- a level reads no more than each touched key once, and level 0 nothing
pub next_ticks : (n c start planned sofar spent : ℕ) → sofar ≤ start + (n - 1) * c + planned → (n ≡ 0 → spent ≡ sofar) → spent ≤ sofar + c → spent ≤ start + (n + 1 - 1) * c + planned
next_ticks zero c start planned sofar spent h unread cost = let none = unread refl in omega (arith, h, none)
next_ticks (suc n) c start planned sofar spent h unread cost =
    let here = ap (λ m. m * c) (before (suc n)) in
    let there = ap (λ m. m * c) (less n) in
    let more = once_more n c in
    let same = ap (λ m. m * c) (one n) in
    omega (arith, h, cost, here, there, more, same)
  where
    before : (m : ℕ) → m + 1 - 1 ≡ m
    before m = omega arith

    less : (m : ℕ) → suc m - 1 ≡ m
    less m = omega arith

    one : (m : ℕ) → suc m ≡ m + 1
    one m = omega arith

-- with all keys planned once it is within the depth
pub within_depth : (n depth c : ℕ) → n ≤ depth → 1 ≤ depth → (n - 1) * c + c ≤ depth * c
within_depth zero depth c h some = let all = no_more_than 1 depth c some in omega (arith, all)
within_depth (suc n) depth c h some =
    let all = no_more_than (n + 1) depth c (omega (arith, h)) in
    let more = once_more n c in
    let there = ap (λ m. m * c) (less n) in
    omega (arith, all, more, there)
  where
    less : (m : ℕ) → suc m - 1 ≡ m
    less m = omega arith

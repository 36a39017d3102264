use Rattle.std.proofs.Common.{◌≡◌, ◌≢◌, ◌+◌, ◌==◌, ◌||◌, ◌⊎◌, inl, inr, ◌∷◌, [], not, ℕ, Bool, true, false, List, Option, IfOk, refl, sym, ap, subst, ◌∙◌}
use Rattle.std.specs.FinMap as map
use Rattle.std.specs.declared.result.Result.{Result}
use Rattle.wot_types.specs.declared.mem.Mem.{Mem}
use Rattle.wot_types.specs.declared.row.Row.{Row}
use Rattle.wot_types.specs.State.{State}
use Rattle.wot_types.specs.Candidates.{RowMap}
use Rattle.wot_types.specs.Indexes.{has_cert_by}
use Rattle.wot_types.specs.Keyring.{Keyring}
use Rattle.wot_types.specs.Touched.{is_same_standing}
use Rattle.wot_levels.specs.Given.{given_row}
use Rattle.wot_live.specs.declared.planning.Course.{Course}
use Rattle.wot_live.specs.Agenda.{AgendaLists, AreDue, IsPutOff}
use Rattle.wot_live.specs.Recounting.{IsGrownBy, IsRecounted, among, is_carried, recounted}
use Rattle.wot_live.proofs.Agendas.{due_after, due_same, within_after}
use Rattle.wot_live.proofs.Passes.{all_same, changed_step, unchanged_step}
use Rattle.wot_live.proofs.Plans.{both_of}
use Rattle.wot_live.proofs.Results.{both_then}
use Rattle.wot_types.proofs.SameRows.{differ_apart}
use Rattle.wot_live.proofs.row_changes.recount_key.Goals as goal

neither : (same carried changed : Bool) → changed ≡ (not same || carried) → changed ≡ false → (same ≡ true) × (carried ≡ false)
neither true false changed e h = (refl, refl)
neither true true changed e h = cc
neither false carried changed e h = cc

either : (same carried changed : Bool) → changed ≡ (not same || carried) → changed ≡ true → (same ≡ false) ⊎ (carried ≡ true)
either true true changed e h = inr refl
either true false changed e h = cc
either false carried changed e h = inl refl

-- the chain changed where the row did, or the chain above it
changes : (moved : List ℕ) (n : ℕ) (old new : Option Row) → (is_same_standing old new ≡ false) ⊎ (is_carried moved n new ≡ true) → (new ≢ old) ⊎ (is_carried moved n new ≡ true)
changes moved n old new (inl other) = inl (λ e. differ_apart old new other (sym e))
changes moved n old new (inr carried) = inr carried

module _ (t : State) (n id : ℕ) (keys : Keyring) (are : keys ≡ t.keys) (old rows : RowMap) (here : map.get rows id ≡ recounted n (map.get old id) (given_row t old n id))
    (others : (x : ℕ) → (id == x) ≡ false → map.get rows x ≡ map.get old x) (r : Result Course Mem) (same : IfOk r (λ new. new.rows ≡ rows)) where
  step : (moved todo fresh : List ℕ) → (map.get rows id ≢ map.get old id) ⊎ (is_carried moved n (map.get rows id) ≡ true) → IfOk r (λ new. IsGrownBy (has_cert_by keys id) todo new.todo)
      → IfOk r (λ new. (y : ℕ) → among new.moved.here y ≡ (among fresh y || (id == y)))
      → IfOk r (λ new. IsRecounted t n moved (id ∷ []) old todo fresh new.rows new.todo new.moved.here)
  step moved todo fresh why grown in_here = both_then r (λ new both marked. subst (λ rows. IsRecounted t n moved (id ∷ []) old todo fresh rows new.todo new.moved.here) (sym both.0)
      (changed_step t n id moved old rows todo fresh here others new.todo new.moved.here why (subst (λ keys. IsGrownBy (has_cert_by keys id) todo new.todo) are both.1) marked))
      (both_of r (λ new. new.rows ≡ rows) (λ new. IsGrownBy (has_cert_by keys id) todo new.todo) same grown) in_here

  due : (agenda : AgendaLists) → IfOk r (λ new. IsPutOff (has_cert_by keys id) (n + 1) agenda new.agenda)
      → IfOk r (λ new. (ids : List ℕ) → AreDue t.keys old (n + 1) ids agenda → AreDue t.keys new.rows (n + 1) ids new.agenda)
  due agenda put = both_then r (λ new is more ids due. subst (λ rows. AreDue t.keys rows (n + 1) ids new.agenda) (sym is)
      (due_after t n id old rows here others agenda new.agenda (subst (λ keys. IsPutOff (has_cert_by keys id) (n + 1) agenda new.agenda) are more) ids due)) same put

pub returns-then-not-changed-clause-step : goal.returns-then-not-changed-clause-step
returns-then-not-changed-clause-step g c =
    let t = c.args.state.now in
    let new = c.in_ok-new.new.rows in
    let before = c.args.course.moved.before in
    let told = c.moves-changed.ensures ∙ ap (λ b. b || is_carried before c.args.level (map.get c.in_ok-new.new.rows c.args.id)) c.in_ok-new.ensures.changed in
    let none = neither _ _ _ told c.if-not-changed.true in
    unchanged_step t c.args.level c.args.id before c.args.course.rows new c.args.course.todo c.args.course.moved.here c.in_ok-new.ensures.row c.in_ok-new.ensures.others none.0 none.1

pub returns-then-not-changed-clause-due : goal.returns-then-not-changed-clause-due
returns-then-not-changed-clause-due g c = λ ids due.
    let told = c.moves-changed.ensures ∙ ap (λ b. b || is_carried c.args.course.moved.before c.args.level (map.get c.in_ok-new.new.rows c.args.id)) c.in_ok-new.ensures.changed in
    let none = neither _ _ _ told c.if-not-changed.true in
    let same = all_same c.args.id c.args.course.rows c.in_ok-new.new.rows c.in_ok-new.ensures.others none.0 in
    due_same c.args.state.now.keys c.args.course.rows c.in_ok-new.new.rows _ ids c.args.course.agenda same due

pub returns-clause-step : goal.returns-clause-step
returns-clause-step g c =
    let before = c.args.course.moved.before in
    let old = map.get c.args.course.rows c.args.id in
    let new = map.get c.in_ok-new.new.rows c.args.id in
    let told = c.moves-changed.ensures ∙ ap (λ b. b || is_carried before c.args.level (map.get c.in_ok-new.new.rows c.args.id)) c.in_ok-new.ensures.changed in
    step c.args.state.now c.args.level c.args.id c.table.result.now c.table.ensures c.args.course.rows c.in_ok-new.new.rows c.in_ok-new.ensures.row c.in_ok-new.ensures.others
    c.add_moved.result c.add_moved.ensures.rows before c.args.course.todo c.args.course.moved.here (changes before c.args.level old new (either _ _ _ told c.if-not-changed.false)) c.add_moved.ensures.todo c.add_moved.ensures.here

pub returns-clause-due : goal.returns-clause-due
returns-clause-due g c =
    due c.args.state.now c.args.level c.args.id c.table.result.now c.table.ensures c.args.course.rows c.in_ok-new.new.rows c.in_ok-new.ensures.row c.in_ok-new.ensures.others
    c.add_moved.result c.add_moved.ensures.rows c.args.course.agenda c.add_moved.ensures.agenda

pub returns-clause-within : goal.returns-clause-within
returns-clause-within g c =
    let set = has_cert_by c.table.result.now c.args.id in
    both_then c.add_moved.result (λ new grown put. within_after set (c.args.level + 1) c.args.course.todo new.todo c.args.course.agenda new.agenda grown put)
    c.add_moved.ensures.todo c.add_moved.ensures.agenda

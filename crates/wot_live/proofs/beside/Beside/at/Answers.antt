use Rattle.std.proofs.Common.{◌≡◌, sym, ap, subst, ◌∙◌}
use Rattle.std.specs.FinMap as map
use Rattle.std.specs.Option.{option_copied}
use Rattle.wot_types.proofs.Tests.{is_key}
use Rattle.wot_live.specs.Ahead.{IsAhead, IsFrom, entries_left}
use Rattle.wot_live.proofs.EntriesAhead.{found_first, later, none_first, none_left}
use Rattle.wot_live.proofs.beside.Beside.at.Goals as goal
use Rattle.wot_live.proofs.beside.Beside.at.Goals.{in-Some+then-eq, in-Some+else-eq, in-None}

pub returns-clause-found : goal.returns-clause-found
returns-clause-found g c = λ m ahead.
    let id = c.args.id in
    let at = subst (IsAhead m id) (sym c.self.view_is) (c.pass_below.ensures.ahead m ahead) in
    let from = subst (IsFrom id) (sym c.self.view_is) c.pass_below.ensures.from in
    let behind = c.self.inside.left in
    elim c.match-self.branch as (λ _. option_copied c.match-self.result ≡ map.get m id) [
      | in-Some+then-eq w ↦
          let same = is_key w.in-Some.key.now id (sym w.eq.ensures ∙ w.if-eq.true) in
          ap option_copied w.result-is ∙ found_first m id w.in-Some.key.now w.in-Some.value.now behind same (subst (λ r. IsAhead m id (entries_left r behind)) w.in-Some.is at)
      | in-Some+else-eq w ↦
          let more = later id w.in-Some.key.now (subst (λ r. IsFrom id (entries_left r behind)) w.in-Some.is from) (sym w.eq.ensures ∙ w.if-eq.false) in
          ap option_copied w.result-is ∙ none_first m id w.in-Some.key.now w.in-Some.value.now behind more (subst (λ r. IsAhead m id (entries_left r behind)) w.in-Some.is at)
      | in-None w ↦ ap option_copied w.result-is ∙ none_left m id (subst (λ r. IsAhead m id (entries_left r behind)) w.in-None.is at)
    ]

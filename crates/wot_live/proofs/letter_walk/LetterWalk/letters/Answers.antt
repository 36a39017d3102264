use Rattle.std.proofs.Common.{◌≤◌, option_and_then, sym, ap, ◌∙◌, arith}
use Rattle.std.specs.FinMap as map
use Rattle.wot_types.specs.State.{State}
use Rattle.wot_types.specs.Arrangement.{spot_of}
use Rattle.wot_types.specs.Candidates.{count_of}
use Rattle.wot_types.specs.Levels.{rows_of}
use Rattle.wot_live.specs.Ahead.{LettersFrom}
use Rattle.wot_live.specs.Counts.{count_on, counts_of}
use Rattle.wot_live.proofs.CountLemmas.{counted_at}
use Rattle.wot_live.proofs.EntriesAhead.{ahead_later}
use Rattle.wot_live.proofs.letter_walk.LetterWalk.letters.Goals as goal

pub invariant_of-self : goal.invariant_of-self
invariant_of-self c =
    let w = c.self.inside in
    let from = ap (λ (l : LettersFrom). l.from) c.self.view_is in
    let rising = c.requires.rising in
    let later : w.from ≤ c.args.id = omega (arith, from, rising) in
    record {
      rows = c.at.ensures.ahead (rows_of w.state) (ahead_later (rows_of w.state) w.from c.args.id w.rows later c.self.invariant.rows);
      counts = c.kept_at.ensures.ahead (counts_of w.state) (ahead_later (counts_of w.state) w.from c.args.id w.counts later c.self.invariant.counts);
    }

pub returns-clause-told : goal.returns-clause-told
returns-clause-told c = λ key is.
    let w = c.self.inside in
    let s = w.state in
    let id = c.args.id in
    let from = ap (λ (l : LettersFrom). l.from) c.self.view_is in
    let rising = c.requires.rising in
    let later : w.from ≤ id = omega (arith, from, rising) in
    let same = sym c.again.ensures in
    let there = ap (λ (l : LettersFrom). map.get l.state.keys id) c.self.view_is ∙ is in
    record {
      row = c.at.ensures.found (rows_of s) (ahead_later (rows_of s) w.from id w.rows later c.self.invariant.rows) ∙ ap (λ s. map.get (rows_of s) id) same;
      counts = λ user spot at.
          ap (λ list. count_on list user) (c.kept_at.ensures.kept (counts_of s) (ahead_later (counts_of s) w.from id w.counts later c.self.invariant.counts))
          ∙ counted_at s (rows_of s) id user spot (ap (option_and_then (λ k. spot_of k user)) there ∙ at)
          ∙ ap (λ (s : State). count_of s spot (rows_of s)) same;
    }

use Rattle.std.proofs.Common.{[], get_or}
use Rattle.wot_regex.specs.declared.set.Set.{Set}
use Rattle.wot_regex.proofs.Knowns.{classes_known}
use Rattle.wot_regex.proofs.known.Known.next.Goals as goal

pub next_by-requires-clause-known : goal.next_by-requires-clause-known
next_by-requires-clause-known c = classes_known c.args.nodes.now c.args.self.now c.class.new.self c.requires.known c.class.ensures.masks c.class.ensures.kept

pub returns-in-Some-clause-moves : goal.returns-in-Some-clause-moves
returns-in-Some-clause-moves c = λ h.
    let none : Set = record { words = [] } in record {
      mask = get_or c.class.new.self.sets.items c.in-Some.class none;
      takes = c.in-Some.ensures.takes none;
      move = c.next_by.ensures.moves h none;
    }

pub returns-in-None-clause-known : goal.returns-in-None-clause-known
returns-in-None-clause-known c = classes_known c.args.nodes.now c.args.self.now c.class.new.self c.requires.known c.class.ensures.masks c.class.ensures.kept

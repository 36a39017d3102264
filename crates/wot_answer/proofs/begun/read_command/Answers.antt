use Rattle.std.proofs.Common.{◌≡◌, ◌<◌, Ok, inl, length, refl, sym, ap, subst, ◌∙◌, arith}
use Rattle.std.proofs.lemmas.Bool.{eqb-true}
use Rattle.std.proofs.lemmas.Bool.Decides.{nat_tests}
use Rattle.std.proofs.lemmas.List.{nil_from_length}
use Rattle.std.specs.Result.{result_err}
use Rattle.wot_types.specs.declared.head.Head.TheVariants.{Import, Ownertrust}
use Rattle.wot_types.specs.Grammar.{command_of}
use Rattle.wot_commands.specs.Heads.{IsProperHead}
use Rattle.wot_answer.proofs.Asking.{by_head}
use Rattle.wot_answer.proofs.begun.read_command.Goals as goal

pub returns-then-is_empty : goal.returns-then-is_empty
returns-then-is_empty c = record { begins = nil_from_length c.args.words.now (eqb-true _ 0 (sym c.is_empty.ensures ∙ c.if-is_empty.true)) }

pub returns-in_ok-new-in-Ok-Import : goal.returns-in_ok-new-in-Ok-Import
returns-in_ok-new-in-Ok-Import c = record {
  begins =
      let asked : command_of c.args.words.now ≡ Ok Import = sym c.read_head.ensures.head ∙ c.in-Ok-Import.is ∙ ap Ok c.in-Ok-Import.field-0-is in
      record {
        read = record { words = c.args.words.now; given = refl; opens = by_head c.args.words.now Import asked; had = (ap result_err asked, asked, inl c.in_ok-new-in-Ok-Import.ensures) };
        to_end = refl;
      };
}

pub returns-in-Ok-Ownertrust : goal.returns-in-Ok-Ownertrust
returns-in-Ok-Ownertrust c = record {
  begins =
      let asked : command_of c.args.words.now ≡ Ok Ownertrust = sym c.read_head.ensures.head ∙ c.in-Ok-Ownertrust.is ∙ ap Ok c.in-Ok-Ownertrust.field-0-is in
      record {
        read = record { words = c.args.words.now; given = refl; opens = by_head c.args.words.now Ownertrust asked; had = (ap result_err asked, asked, c.new-in-Ok-Ownertrust.ensures) };
        to_end = refl;
      };
}

pub returns-in-Ok-Edit : goal.returns-in-Ok-Edit
returns-in-Ok-Edit c = record {
  begins =
      let some : 0 < length c.args.words.now = grind (arith, nat_tests) in
      let asked = sym c.read_head.ensures.head ∙ c.in-Ok-Edit.is ∙ ap Ok c.in-Ok-Edit.field-0-is in
      record { some = some; blockless = by_head c.args.words.now _ asked; head = asked; proper = subst IsProperHead c.in-Ok-Edit.field-0-is c.in-Ok-Edit.ensures.proper };
}

pub returns-in-Ok-Query : goal.returns-in-Ok-Query
returns-in-Ok-Query c = record {
  begins =
      let some : 0 < length c.args.words.now = grind (arith, nat_tests) in
      let asked = sym c.read_head.ensures.head ∙ c.in-Ok-Query.is ∙ ap Ok c.in-Ok-Query.field-0-is in
      record { some = some; blockless = by_head c.args.words.now _ asked; head = asked; proper = subst IsProperHead c.in-Ok-Query.field-0-is c.in-Ok-Query.ensures.proper };
}

pub returns-in-Ok-DeleteKey : goal.returns-in-Ok-DeleteKey
returns-in-Ok-DeleteKey c = record {
  begins =
      let some : 0 < length c.args.words.now = grind (arith, nat_tests) in
      let asked = sym c.read_head.ensures.head ∙ c.in-Ok-DeleteKey.is ∙ ap Ok c.in-Ok-DeleteKey.field-0-is in
      record { some = some; blockless = by_head c.args.words.now _ asked; head = asked; proper = tt };
}

pub refused-requires : goal.refused-requires
refused-requires c = record {
  some = grind (arith, nat_tests);
  refused = sym c.read_head.ensures.head ∙ c.in-Err.is;
}

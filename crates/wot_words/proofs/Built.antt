-- The command line as clap builds it, and what it says of a list of words.
use Rattle.std.proofs.Common.{◌≡◌, ◌∙◌, ◌∷◌, Bool, true, false, List, [], Option, Some, None, refl, ap, codes, cond, ap₂, ◌||◌}
use Rattle.std.specs.Prelude.{fold, unwrap_or}
use Rattle.clap.specs.Words.{App, Kinds, Rule, Shape, Text, all_of, built, fault_of, first_of, is_simple_and_free, is_simple, matches_of, new_rule}
use Rattle.clap.specs.Simple.{new_shape}
use Rattle.clap.specs.Faults.{default_fault, defaults_fault, given_default_fault, level_fault, settle_fault, walk_fault}
use Rattle.clap.specs.Kinds.{or_else}
use Rattle.clap.specs.Walk.{Held, Row, Walk, finished, has_row, nothing_held, settled, walk_from, walked, with_default}
use Rattle.clap.specs.declared.builder.action.ArgAction.TheVariants.{Append, Set}
use Rattle.clap.specs.declared.builder.value_parser.ValueParser.TheVariants as vp
use Rattle.clap.proofs.FaultLemmas.{leaf_fault}
use Rattle.wot_words.specs.CommandLine.{Texts, command_line}

-- the arguments, with what building fills in
abbrev pub workers_rule : Rule
workers_rule = record (new_rule (codes "workers")) {
  long = Some (codes "workers");
  action = Some Set;
  range = Some (record { start_inclusive = 1; end_inclusive = 1 });
  parser = Some vp.String;
}

abbrev pub word_rule : Rule
word_rule = record (new_rule (codes "word")) {
  action = Some Append;
  index = Some 1;
  range = Some (record { start_inclusive = 1; end_inclusive = 1 });
  parser = Some vp.String;
}

abbrev pub rules : List Rule
rules = workers_rule ∷ word_rule ∷ []

abbrev pub shape : Shape
shape = record (new_shape (codes "wot")) {
  rules = rules;
  no_binary_name = true;
  disable_help_flag = true;
  disable_help_subcommand = true;
  is_built = true;
}

abbrev pub app : App
app = record { top = shape; subs = [] }

built_is : built command_line ≡ app
built_is = refl

pub is_free : is_simple_and_free command_line ≡ true
is_free = refl

pub simple : is_simple command_line ≡ true
simple = refl

-- what a walk holds between two words
abbrev pub held : List Row → Option (Text × List Text) → Held
held rows pending = record { rows = rows; pending = pending; skip = 0 }

-- what is read where no kind of error comes
abbrev pub read_or : Kinds → List Row → Option Texts
read_or [] rows = Some (first_of (codes "workers") rows, unwrap_or (all_of (codes "word") rows) [])
read_or (k ∷ ks) rows = None

-- what is held after the words
abbrev pub end_of : Walk → List Text → Held
end_of w words = (fold (walked rules []) w words).held

-- what is read by a walk that has come to w, and goes on over the words
abbrev pub read_from : Walk → List Text → Option Texts
read_from w words = read_or (or_else (walk_fault shape [] w words) (settle_fault rules false (end_of w words))) (settled rules (end_of w words)).rows

no_default : (rows : List Row) (a : Rule) → a.defaults ≡ [] → with_default rows a ≡ rows
no_default rows a e = rw e (either (has_row a.id rows))
  where
    either : (b : Bool) → cond b rows rows ≡ rows
    either true = refl
    either false = refl

default_passes : (rows : List Row) (a : Rule) → a.defaults ≡ [] → default_fault rows a ≡ []
default_passes rows a e = rw e (either (has_row a.id rows))
  where
    either : (b : Bool) → cond (b || true) [] (given_default_fault a []) ≡ []
    either true = refl
    either false = refl

no_defaults : (rows : List Row) → defaults_fault rows rules ≡ []
unfolding defaults_fault
no_defaults rows =
    rw (default_passes rows workers_rule refl, no_default rows workers_rule refl, default_passes rows word_rule refl) refl

pub or_none : (kinds : Kinds) → or_else kinds [] ≡ kinds
or_none [] = refl
or_none (k ∷ ks) = refl

level : (words : List Text) → level_fault shape [] nothing_held words false [] ≡ or_else (walk_fault shape [] (walk_from nothing_held) words) (settle_fault rules false (end_of (walk_from nothing_held) words))
level words =
    let h = end_of (walk_from nothing_held) words in
    ap (λ kinds. or_else (walk_fault shape [] (walk_from nothing_held) words) (or_else (settle_fault rules false h) (or_else kinds []))) (no_defaults (settled rules h).rows)
    ∙ ap (or_else (walk_fault shape [] (walk_from nothing_held) words)) (or_none (settle_fault rules false h))

-- clap's answer is a walk over the words from the start
pub reads : (words : List Text) → read_or (fault_of command_line words) (matches_of command_line words) ≡ read_from (walk_from nothing_held) words
reads words =
    let h = end_of (walk_from nothing_held) words in
    let rows = (settled rules h).rows in
    let as_settled : finished rules h ≡ rows = ap (λ rs. with_default rs word_rule) (no_default rows workers_rule refl) ∙ no_default rows word_rule refl in
    ap₂ read_or (leaf_fault app nothing_held words refl ∙ level words) as_settled

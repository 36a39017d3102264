-- What the program's words ask for, by what clap answered.
use Rattle.std.proofs.Common.{◌≡◌, ◌∙◌, ◌∷◌, List, [], None, String, true, ap, ap₂, sym, codes, map, inl, inr}
use Rattle.std.specs.Prelude.{◌≢◌, option_and_then, unwrap_or}
use Rattle.std.specs.String.{string_bytes}
use Rattle.std.proofs.lemmas.Str.{IsUtf8-string_bytes}
use Rattle.clap.specs.Words.{App, HasKind, HasMatchesOf, Kinds, Text, fault_of, found_of, is_simple, is_simple_and_free, kind_of, matches_of}
use Rattle.clap.specs.declared.error.Error.{Error}
use Rattle.clap.specs.declared.error.kind.ErrorKind.TheVariants.{OutOfMemory}
use Rattle.clap.specs.declared.parser.matches.ArgMatches.{ArgMatches}
use Rattle.clap.proofs.WalkLemmas.{first_value-rows, raw_values-rows}
use Rattle.wot_words.specs.CommandLine.{asked_by, command_line, texts_of}
use Rattle.wot_words.specs.ProgramWords.{program_words}
use Rattle.wot_words.proofs.Built.{is_free, read_or, simple}
use Rattle.wot_words.proofs.Reading.{AllText, reads_words}

pub all_text : {Z : Type 0} (words : List (String Z)) → AllText (map string_bytes words)
all_text [] = tt
all_text (word ∷ rest) = (IsUtf8-string_bytes word, all_text rest)

module _ (a : App) (words : List Text) (text : AllText words) (is : a ≡ command_line) where
  -- a parse that succeeds
  pub parsed : (m : ArgMatches) → HasMatchesOf a words m → (is_simple_and_free a ≡ true → fault_of a words ≡ []) → program_words words ≡ asked_by (texts_of m)
  parsed m matches kinds =
      let rows = (matches (ap is_simple is ∙ simple)).0 in
      let none = kinds (ap is_simple_and_free is ∙ is_free) in
      let all = ap₂ read_or (sym (ap (λ x. fault_of x words) is) ∙ none) (sym (rows ∙ ap (λ x. matches_of x words) is)) in
      let texts = ap₂ (λ n c. asked_by (n, unwrap_or c [])) (sym (first_value-rows (found_of m) (codes "workers"))) (sym (raw_values-rows (found_of m) (codes "word"))) in
      sym (reads_words words text) ∙ ap (option_and_then asked_by) all ∙ texts

  -- a parse that fails, and not for want of memory
  pub refused : (e : Error) → (is_simple_and_free a ≡ true → HasKind (fault_of a words) e) → kind_of e ≢ OutOfMemory → program_words words ≡ None
  refused e kinds other = sym (reads_words words text) ∙ ap (option_and_then asked_by) (none (fault_of a words) (kinds (ap is_simple_and_free is ∙ is_free)) (ap (λ x. fault_of x words) is))
    where
      none : (ks : Kinds) → HasKind ks e → ks ≡ fault_of command_line words → read_or (fault_of command_line words) (matches_of command_line words) ≡ None
      none [] (inl memory) same = absurd (other memory)
      none [] (inr among) same = absurd among
      none (k ∷ ks) has same = ap (λ f. read_or f (matches_of command_line words)) (sym same)

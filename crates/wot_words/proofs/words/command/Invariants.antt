use Rattle.std.proofs.Common.{◌≡◌, codes, drop, map, take}
use Rattle.std.specs.List.{list_any}
use Rattle.wot_types.specs.Bytes.{is_word}
use Rattle.wot_words.proofs.words.command.Given as goal

abbrev pub invariant-loop-word : goal.invariant-loop-word
invariant-loop-word l = record {
  read : l.command ≡ map (λ w. w.now) (take l.word-index l.words);
  left : list_any (is_word (codes "-")) (map (λ w. w.now) (drop l.word-index l.words)) ≡ list_any (is_word (codes "-")) (map (λ w. w.now) l.words);
}

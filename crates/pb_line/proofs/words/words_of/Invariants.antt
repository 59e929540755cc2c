use Rattle.std.proofs.Common.{◌≡◌, map, take, string_bytes}
use Rattle.pb_line.proofs.words.words_of.Given as goal

-- the words are the texts so far
abbrev pub invariant-loop-text : goal.invariant-loop-text
invariant-loop-text l = map (λ word. word.now) l.words.items ≡ map (λ text. string_bytes text) (take l.text-index l.texts)

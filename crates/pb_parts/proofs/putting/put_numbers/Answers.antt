use Rattle.std.proofs.Common.{◌≡◌, ◌∙◌, [], ◌∷◌, ◌++◌, List, ℕ, ◌+◌, ap, append-nil, codes, get_or, length, ◌<◌, subst, sym, take}
use Rattle.std.proofs.KnownBytes.{Appends-trans}
use Rattle.std.proofs.lemmas.List.{take_more}
use Rattle.std.proofs.lemmas.List.Concat.{flat_map-append}
use Rattle.std.specs.Io.KnownBytes.{Appends}
use Rattle.std.specs.List.{flat_map}
use Rattle.pb_parts.specs.Heading.{numbered}
use Rattle.pb_parts.proofs.putting.put_numbers.Goals as goal

-- one more number
more_numbers : (f : ℕ → List ℕ) (xs : List ℕ) (i : ℕ) → i < length xs → flat_map f (take i xs) ++ f (get_or xs i 0) ≡ flat_map f (take (i + 1) xs)
more_numbers f xs i within =
    sym (ap (flat_map f) (take_more xs i 0 within) ∙ flat_map-append f (take i xs) (get_or xs i 0 ∷ []) ∙ ap (λ l. flat_map f (take i xs) ++ l) (append-nil (f (get_or xs i 0))))

pub loop-number-preserved : goal.loop-number-preserved
loop-number-preserved g c =
    subst (λ bytes. Appends (g.W.Write.contents c.put.new.out.held) (g.W.Write.contents c.put_numbered.new.out.held) bytes) (more_numbers (numbered (codes " ")) c.args.numbers.now c.loop-number.number-index c.loop-number-test.true)
    (Appends-trans _ _ _ _ _ c.loop-number.invariant c.in_ok-put_numbered.ensures.written)

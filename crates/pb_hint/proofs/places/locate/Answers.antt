use Rattle.std.proofs.Common.{◌≡◌, ℕ, List, ◌++◌, take, drop, subst, rules, arith}
use Rattle.std.proofs.lemmas.List.{take-append-drop}
use Rattle.pb_hint.specs.Places.{IsPosition}
use Rattle.pb_hint.proofs.places.locate.Goals as goal

-- two cuts leave three parts
parts : {X : Type 0} (text rest word after : List X) (i j : ℕ) → rest ≡ drop i text → word ≡ take j rest → after ≡ drop j rest → text ≡ take i text ++ (word ++ after)
parts text rest word after i j is_rest is_word is_after = grind (arith, take-append-drop i text, take-append-drop j rest)

pub returns-clause-place : goal.returns-clause-place
returns-clause-place c =
    let first = c.in_ok-before.ensures.cases in
    let second = c.in_ok-word.ensures.cases in
    record {
      after = c.in_ok-word.field-0-1.now;
      parts = parts c.args.text.now c.in_ok-before.rest.now _ _ _ _ first.2 second.1 second.2;
      position = subst (λ (before : List ℕ). IsPosition before c.position_after-line.result.0 c.position_after-line.result.1) first.1 c.position_after-line.ensures;
      shown = search rules;
    }

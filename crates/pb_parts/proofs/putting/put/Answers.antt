use Rattle.std.proofs.Common.{◌≡◌, ◌∙◌, ◌-◌, ◌||◌, false, [], ◌++◌, List, ℕ, ap, append_assoc, drop, length, refl, rules, sym, take, take-append-drop}
use Rattle.std.proofs.KnownBytes.{Appends-nil, Appends-trans}
use Rattle.std.proofs.lemmas.List.{take_rest}
use Rattle.pb_parts.proofs.putting.put.Goals as goal

-- n more bytes of the rest were taken
taken_more : (all done rest : List ℕ) (n : ℕ) → all ≡ done ++ rest → all ≡ (done ++ take n rest) ++ take (length rest - n) (drop n rest)
taken_more all done rest n e =
    e ∙ ap (λ l. done ++ l) (sym (take-append-drop n rest)) ∙ sym (append_assoc done (take n rest) (drop n rest)) ∙ ap (λ l. (done ++ take n rest) ++ l) (sym (take_rest rest n))

pub loop-rest-init : goal.loop-rest-init
loop-rest-init g c = record { unfailed = search rules; written = ([], refl, Appends-nil _) }

pub loop-rest-preserved : goal.loop-rest-preserved
loop-rest-preserved g c =
    let (done, split, written) = c.loop-rest.invariant.written in
    let rest = c.loop-rest.rest.now in
    let n = c.in-Ok.taken in
    record {
      unfailed = c.in-Ok.ensures.fault ∙ ap (λ b. b || false) c.loop-rest.invariant.unfailed;
      written = (done ++ take n rest, taken_more _ done rest n split, Appends-trans _ _ _ _ _ written c.in-Ok.ensures.bytes);
    }

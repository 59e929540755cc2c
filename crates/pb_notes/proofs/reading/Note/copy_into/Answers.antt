use Rattle.std.proofs.Common.{◌≡◌, ◌-◌, ◌+◌, List, Bool, length, take, map, get_or, ap, sym, refl, ◌∙◌, arith}
use Rattle.std.proofs.lemmas.List.{length-set}
use Rattle.pb_notes.specs.Notes.{is_one, NoteView}
use Rattle.pb_notes.proofs.NoteLemmas.{value_copied, all_copied}
use Rattle.pb_notes.proofs.reading.Note.copy_into.Goals as goal

pub loop-place-preserved : goal.loop-place-preserved
loop-place-preserved c =
    let digits = c.self.inside.digits.now in
    let count : length c.args.self.now.values ≡ length (map is_one digits) = sym (ap (λ (v : NoteView). length v.values) c.self.view_is) in
    record {
      same_length = ap length c.set.ensures ∙ length-set _ _ _ ∙ c.loop-place.invariant.same_length;
      copied =
          ap (λ (l : List Bool). take (c.loop-place.place + 1) l) c.set.ensures
          ∙ value_copied c.loop-place.into digits c.loop-place.place (c.loop-place.place + 1 - 1) (get_or digits c.loop-place.place 0)
          (omega arith) (c.loop-place.invariant.same_length ∙ c.requires ∙ count) (omega arith) refl c.loop-place.invariant.copied;
    }

pub returns : goal.returns
returns c =
    let count : length c.args.self.now.values ≡ length (map is_one c.self.inside.digits.now) = sym (ap (λ (v : NoteView). length v.values) c.self.view_is) in
    all_copied _ _ c.loop-place.place (c.loop-place.invariant.same_length ∙ c.requires ∙ count) (omega arith) c.loop-place.invariant.copied ∙ ap (λ (v : NoteView). v.values) c.self.view_is

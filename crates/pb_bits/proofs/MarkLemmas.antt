-- Marks by a stamp.
use Rattle.std.proofs.Common.{◌≡◌, ℕ, ◌<◌, List, [], ◌∷◌, length, get_or, set, map, replicate, refl, sym, ◌∙◌, ap, arith, Bool, true, false, eqb, All}
use Rattle.std.proofs.lemmas.Bool.{eq-eqb, ne_eqb}
use Rattle.std.proofs.lemmas.List.{length-map, map-set, get_or-map}
use Rattle.std.proofs.lemmas.List.Elements.{All-head, All-tail}
use Rattle.pb_bits.specs.Marks.{marks_of}

pub length-marks_of : (stamp : ℕ) (stamps : List ℕ) → length (marks_of stamp stamps) ≡ length stamps
unfolding marks_of
length-marks_of stamp stamps = length-map stamps (λ (s : ℕ). eqb s stamp)

-- no variable has a stamp that is later than all
pub none_marked : (stamp : ℕ) (stamps : List ℕ) → All (λ (s : ℕ). s < stamp) stamps → marks_of stamp stamps ≡ replicate (length stamps) false
unfolding marks_of
none_marked stamp [] all = refl
none_marked stamp (s ∷ stamps) all =
    let here : eqb s stamp ≡ false = ne_eqb s stamp (let low = All-head (λ (x : ℕ). x < stamp) s stamps all in λ e. omega arith) in
    let rest = none_marked stamp stamps (All-tail (λ (x : ℕ). x < stamp) s stamps all) in
    rw (here, rest) refl

pub marked_at : (stamp : ℕ) (stamps : List ℕ) (i : ℕ) (s : ℕ) → i < length stamps → s ≡ get_or stamps i s → get_or (marks_of stamp stamps) i false ≡ eqb s stamp
unfolding marks_of
marked_at stamp stamps i s h read = get_or-map (λ (x : ℕ). eqb x stamp) stamps i s false h ∙ ap (λ (x : ℕ). eqb x stamp) (sym read)

pub marked_one : (stamp : ℕ) (stamps : List ℕ) (i : ℕ) → marks_of stamp (set stamps i stamp) ≡ set (marks_of stamp stamps) i true
unfolding marks_of
marked_one stamp stamps i = map-set (λ (s : ℕ). eqb s stamp) stamps i stamp ∙ ap (λ (b : Bool). set (map (λ (s : ℕ). eqb s stamp) stamps) i b) (eq-eqb stamp stamp refl)

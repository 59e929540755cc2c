-- How lines follow a report that is being read.
use Rattle.std.proofs.Common.{◌≡◌, ℕ, ℤ, Bool, true, false, cond, List, [], ◌∷◌, ◌++◌, Option, None, Some, Result, Ok, refl, sym, ◌∙◌, ap, subst, arith}
use Rattle.std.specs.Prelude.{All}
use Rattle.std.specs.List.{flat_map}
use Rattle.std.proofs.lemmas.List.Elements.{All-tail}
use Rattle.pb_report.specs.declared.draft.Draft.{Draft}
use Rattle.pb_report.specs.declared.keys.Key.{Key}
use Rattle.pb_report.specs.declared.keys.Key.TheVariants.{Cost, Status, Values, Comment, Other}
use Rattle.pb_report.specs.declared.statuses.Status.{Status as SaidStatus}
use Rattle.pb_report.specs.declared.values.Values as values
use Rattle.pb_report.specs.Claims.{status_words}
use Rattle.pb_report.specs.Draft.{Follow, IsNarrowCost, ValuesFollow, has_assignment, status_lines}
use Rattle.pb_report.specs.Lines.{said, is_cost, is_status, is_values, IsKnown}
use Rattle.pb_report.specs.Values.{CompleteWords}
use Rattle.pb_report.proofs.Lines.{Begins, says}

-- what a line of a kind says comes before what the others say
said_first : (test : Key → Bool) (line : List (List ℕ)) (more : List (List (List ℕ))) (key : Key) (rest : List (List ℕ)) → Begins line key rest → said test (line ∷ more) ≡ cond (test key) (rest ∷ []) [] ++ said test more
said_first test line more key rest b = ap (λ l. l ++ said test more) (says test line key rest b)

known_rest : (line : List (List ℕ)) (more : List (List (List ℕ))) → All IsKnown (line ∷ more) → All IsKnown more
known_rest line more h = All-tail IsKnown line more h

pub after_blank : (s : SaidStatus) (line : List (List ℕ)) (more : List (List (List ℕ))) (d : Draft) → line ≡ [] → Follow s (line ∷ more) d → Follow s more d
after_blank s line more d none h =
    let bare : Follow s ([] ∷ more) d = subst (λ (l : List (List ℕ)). Follow s (l ∷ more) d) none h in
    record { known = known_rest [] more bare.known; one_status = bare.one_status; costs = bare.costs; values = bare.values }

pub after_comment : (s : SaidStatus) (line rest : List (List ℕ)) (more : List (List (List ℕ))) (d : Draft) → Begins line Comment rest → Follow s (line ∷ more) d → Follow s more d
after_comment s line rest more d b h = record {
  known = known_rest line more h.known;
  one_status = ap (λ ls. status_lines d.status ++ ls) (sym (said_first is_status line more Comment rest b)) ∙ h.one_status;
  costs = subst (All IsNarrowCost) (said_first is_cost line more Comment rest b) h.costs;
  values = subst (λ ls. ValuesFollow (has_assignment s) ls d.values d.last_values) (said_first is_values line more Comment rest b) h.values;
}

pub narrow_cost : (s : SaidStatus) (line rest : List (List ℕ)) (more : List (List (List ℕ))) (d : Draft) → Begins line Cost rest → Follow s (line ∷ more) d → IsNarrowCost rest
narrow_cost s line rest more d b h =
    let costs : All IsNarrowCost (rest ∷ said is_cost more) = subst (All IsNarrowCost) (said_first is_cost line more Cost rest b) h.costs in
    costs 0 rest (omega arith)

pub after_cost : (s : SaidStatus) (line rest : List (List ℕ)) (more : List (List (List ℕ))) (d : Draft) (o : Option ℤ) → Begins line Cost rest → Follow s (line ∷ more) d
    → Follow s more (record { status = d.status; cost = o; values = d.values; last_values = d.last_values; status_line = d.status_line })
after_cost s line rest more d o b h = record {
  known = known_rest line more h.known;
  one_status = ap (λ ls. status_lines d.status ++ ls) (sym (said_first is_status line more Cost rest b)) ∙ h.one_status;
  costs = All-tail IsNarrowCost rest (said is_cost more) (subst (All IsNarrowCost) (said_first is_cost line more Cost rest b) h.costs);
  values = subst (λ ls. ValuesFollow (has_assignment s) ls d.values d.last_values) (said_first is_values line more Cost rest b) h.values;
}

-- the first status line is the only one
only_status : (s : SaidStatus) (before : Option SaidStatus) (rest : List (List ℕ)) (others : List (List (List ℕ))) → status_lines before ++ (rest ∷ others) ≡ status_words s ∷ [] → (before ≡ None) × (rest ≡ status_words s) × (others ≡ [])
only_status s None rest others e = (refl, cc, cc)
only_status s (Some t) rest others e = cc

pub first_status : (s : SaidStatus) (line rest : List (List ℕ)) (more : List (List (List ℕ))) (d : Draft) → Begins line Status rest → Follow s (line ∷ more) d → (d.status ≡ None) × (rest ≡ status_words s)
first_status s line rest more d b h =
    let only = only_status s d.status rest (said is_status more) (ap (λ ls. status_lines d.status ++ ls) (sym (said_first is_status line more Status rest b)) ∙ h.one_status) in
    (only.0, only.1)

pub after_status : (s : SaidStatus) (line rest : List (List ℕ)) (more : List (List (List ℕ))) (d : Draft) (number : ℕ) → Begins line Status rest → Follow s (line ∷ more) d
    → Follow s more (record { status = Some s; cost = d.cost; values = d.values; last_values = d.last_values; status_line = number })
after_status s line rest more d number b h =
    let only = only_status s d.status rest (said is_status more) (ap (λ ls. status_lines d.status ++ ls) (sym (said_first is_status line more Status rest b)) ∙ h.one_status) in
    record {
      known = known_rest line more h.known;
      one_status = ap (λ ls. status_words s ∷ ls) only.2;
      costs = subst (All IsNarrowCost) (said_first is_cost line more Status rest b) h.costs;
      values = subst (λ ls. ValuesFollow (has_assignment s) ls d.values d.last_values) (said_first is_values line more Status rest b) h.values;
    }

-- a line of values is one of a report that has an assignment
assigned : (has : Bool) (rest : List (List ℕ)) (others : List (List (List ℕ))) (v : values.Values) (last : Option ℕ) → ValuesFollow has (rest ∷ others) v last → (has ≡ true) × CompleteWords (rest ++ flat_map (λ words. words) others) v
assigned true rest others v last h = (refl, h.0)
assigned false rest others v last h = cc

pub complete_words : (s : SaidStatus) (line rest : List (List ℕ)) (more : List (List (List ℕ))) (d : Draft) → Begins line Values rest → Follow s (line ∷ more) d → CompleteWords (rest ++ flat_map (λ words. words) (said is_values more)) d.values
complete_words s line rest more d b h =
    (assigned (has_assignment s) rest (said is_values more) d.values d.last_values (subst (λ ls. ValuesFollow (has_assignment s) ls d.values d.last_values) (said_first is_values line more Values rest b) h.values)).1

follow_on : (has : Bool) (lines : List (List (List ℕ))) (v : values.Values) (number : ℕ) → has ≡ true → CompleteWords (flat_map (λ words. words) lines) v → ValuesFollow has lines v (Some number)
follow_on true lines v number is h = (h, λ e. cc)
follow_on false lines v number is h = cc

pub after_values : (s : SaidStatus) (line rest : List (List ℕ)) (more : List (List (List ℕ))) (d : Draft) (v : values.Values) (number : ℕ) → Begins line Values rest → Follow s (line ∷ more) d → CompleteWords (flat_map (λ words. words) (said is_values more)) v
    → Follow s more (record { status = d.status; cost = d.cost; values = v; last_values = Some number; status_line = d.status_line })
after_values s line rest more d v number b h complete = record {
  known = known_rest line more h.known;
  one_status = ap (λ ls. status_lines d.status ++ ls) (sym (said_first is_status line more Values rest b)) ∙ h.one_status;
  costs = subst (All IsNarrowCost) (said_first is_cost line more Values rest b) h.costs;
  values = follow_on (has_assignment s) (said is_values more) v number
      (assigned (has_assignment s) rest (said is_values more) d.values d.last_values (subst (λ ls. ValuesFollow (has_assignment s) ls d.values d.last_values) (said_first is_values line more Values rest b) h.values)).0
      complete;
}

pub none_other : (s : SaidStatus) (line rest : List (List ℕ)) (more : List (List (List ℕ))) (d : Draft) → Begins line Other rest → Follow s (line ∷ more) d → ⊥
none_other s line rest more d b h =
    let one : IsKnown line = h.known 0 line (omega arith) in
    (subst IsKnown b.is one) b.key_is

pub ok_is : {T E : Type 0} {x y : T} → ◌≡◌ {A = Result T E} (Ok x) (Ok y) → x ≡ y
ok_is e = cc

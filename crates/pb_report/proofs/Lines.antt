-- How one more line is taken.
use Rattle.std.proofs.Common.{◌≡◌, ◌≢◌, ℕ, ℤ, Bool, true, false, cond, List, [], ◌∷◌, ◌++◌, Option, None, Some, refl, sym, ◌∙◌, ap, subst}
use Rattle.std.specs.Prelude.{All}
use Rattle.std.specs.List.{flat_map}
use Rattle.std.proofs.lemmas.List.{append-nil}
use Rattle.std.proofs.lemmas.List.Concat.{flat_map-append}
use Rattle.std.proofs.lemmas.List.Elements.{All-nil, All-push}
use Rattle.pb_report.specs.declared.keys.Key.{Key}
use Rattle.pb_report.specs.declared.keys.Key.TheVariants.{Cost, Status, Values, Comment, Other}
use Rattle.pb_report.specs.declared.statuses.Status.{Status as SaidStatus}
use Rattle.pb_report.specs.declared.draft.Draft.{Draft}
use Rattle.pb_report.specs.declared.values.Values as values
use Rattle.pb_report.specs.Claims.{status_words}
use Rattle.pb_report.specs.Draft.{AreSeen, IsDraft, status_lines}
use Rattle.pb_report.specs.Lines.{said, said_in, key_of, is_cost, is_status, is_values, IsKnown}
use Rattle.pb_report.specs.Report.{IsCost, IsLastCost}
use Rattle.pb_report.specs.Values.{AreTaken}

said_more : (test : Key → Bool) (lines : List (List (List ℕ))) (line : List (List ℕ)) → said test (lines ++ line ∷ []) ≡ said test lines ++ said_in test line
said_more test lines line = flat_map-append (said_in test) lines (line ∷ []) ∙ ap (λ l. said test lines ++ l) (append-nil (said_in test line))

-- the line begins with a word of this kind, and these words come after it
pub record Begins (line : List (List ℕ)) (key : Key) (rest : List (List ℕ)) : Type 0 where
  pub word : List ℕ
  pub is : line ≡ word ∷ rest
  pub key_is : key_of word ≡ key

pub says : (test : Key → Bool) (line : List (List ℕ)) (key : Key) (rest : List (List ℕ)) → Begins line key rest → said_in test line ≡ cond (test key) (rest ∷ []) []
says test line key rest b = ap (said_in test) b.is ∙ ap (λ k. cond (test k) (rest ∷ []) []) b.key_is

-- a line of another kind adds nothing, and one of the kind what it says
kept : (test : Key → Bool) (lines : List (List (List ℕ))) (line : List (List ℕ)) (key : Key) (rest : List (List ℕ)) → Begins line key rest → test key ≡ false → said test (lines ++ line ∷ []) ≡ said test lines
kept test lines line key rest b fails = said_more test lines line ∙ ap (λ l. said test lines ++ l) (says test line key rest b ∙ ap (λ c. cond c (rest ∷ []) []) fails) ∙ append-nil (said test lines)

grown : (test : Key → Bool) (lines : List (List (List ℕ))) (line : List (List ℕ)) (key : Key) (rest : List (List ℕ)) → Begins line key rest → test key ≡ true → said test (lines ++ line ∷ []) ≡ said test lines ++ rest ∷ []
grown test lines line key rest b passes = said_more test lines line ∙ ap (λ l. said test lines ++ l) (says test line key rest b ∙ ap (λ c. cond c (rest ∷ []) []) passes)

blank : (test : Key → Bool) (lines : List (List (List ℕ))) (line : List (List ℕ)) → line ≡ [] → said test (lines ++ line ∷ []) ≡ said test lines
blank test lines line none = said_more test lines line ∙ ap (λ l. said test lines ++ said_in test l) none ∙ append-nil (said test lines)

known : (lines : List (List (List ℕ))) (line : List (List ℕ)) (key : Key) (rest : List (List ℕ)) → Begins line key rest → key ≢ Other → All IsKnown lines → All IsKnown (lines ++ line ∷ [])
known lines line key rest b ne all = All-push IsKnown lines line all (subst IsKnown (sym b.is) (λ other. ne (sym b.key_is ∙ other)))

known_blank : (lines : List (List (List ℕ))) (line : List (List ℕ)) → line ≡ [] → All IsKnown lines → All IsKnown (lines ++ line ∷ [])
known_blank lines line none all = All-push IsKnown lines line all (subst IsKnown (sym none) tt)

-- each line has a number, where the last one is known
pub all_costs : (lines : List (List (List ℕ))) (cost : Option ℤ) → IsLastCost lines cost → All (λ words. (y : ℤ) × IsCost words y) lines
all_costs lines None none = subst (All (λ words. (y : ℤ) × IsCost words y)) (sym none) (All-nil (λ words. (y : ℤ) × IsCost words y))
all_costs lines (Some z) (earlier, last, is, all, costs) = subst (All (λ words. (y : ℤ) × IsCost words y)) (sym is) (All-push (λ words. (y : ℤ) × IsCost words y) earlier last all (z, costs))

pub no_push : {X : Type 0} (xs : List X) (x : X) → xs ++ x ∷ [] ≡ [] → ⊥
no_push [] x e = cc
no_push (y ∷ xs) x e = cc

abbrev joined : List (List (List ℕ)) → List (List ℕ)
joined lines = flat_map (λ words. words) lines

joined_more : (lines : List (List (List ℕ))) (rest : List (List ℕ)) → joined (lines ++ rest ∷ []) ≡ joined lines ++ rest
joined_more lines rest = flat_map-append (λ words. words) lines (rest ∷ []) ∙ ap (λ l. joined lines ++ l) (append-nil rest)

pub with_blank : (n : ℕ) (lines : List (List (List ℕ))) (line : List (List ℕ)) (d : Draft) → line ≡ [] → IsDraft n lines d → IsDraft n (lines ++ line ∷ []) d
with_blank n lines line d none h = record {
  known = known_blank lines line none h.known;
  status = blank is_status lines line none ∙ h.status;
  cost = subst (λ ls. IsLastCost ls d.cost) (sym (blank is_cost lines line none)) h.cost;
  values = subst (λ ls. AreTaken n (joined ls) d.values) (sym (blank is_values lines line none)) h.values;
  seen = subst (λ ls. AreSeen ls d.last_values) (sym (blank is_values lines line none)) h.seen;
}

pub with_comment : (n : ℕ) (lines : List (List (List ℕ))) (line rest : List (List ℕ)) (d : Draft) → Begins line Comment rest → IsDraft n lines d → IsDraft n (lines ++ line ∷ []) d
with_comment n lines line rest d b h = record {
  known = known lines line Comment rest b (λ e. cc) h.known;
  status = kept is_status lines line Comment rest b refl ∙ h.status;
  cost = subst (λ ls. IsLastCost ls d.cost) (sym (kept is_cost lines line Comment rest b refl)) h.cost;
  values = subst (λ ls. AreTaken n (joined ls) d.values) (sym (kept is_values lines line Comment rest b refl)) h.values;
  seen = subst (λ ls. AreSeen ls d.last_values) (sym (kept is_values lines line Comment rest b refl)) h.seen;
}

pub with_cost : (n : ℕ) (lines : List (List (List ℕ))) (line rest : List (List ℕ)) (d : Draft) (z : ℤ) → Begins line Cost rest → IsCost rest z → IsDraft n lines d
    → IsDraft n (lines ++ line ∷ []) (record { status = d.status; cost = Some z; values = d.values; last_values = d.last_values; status_line = d.status_line })
with_cost n lines line rest d z b is h = record {
  known = known lines line Cost rest b (λ e. cc) h.known;
  status = kept is_status lines line Cost rest b refl ∙ h.status;
  cost = (said is_cost lines, rest, grown is_cost lines line Cost rest b refl, all_costs (said is_cost lines) d.cost h.cost, is);
  values = subst (λ ls. AreTaken n (joined ls) d.values) (sym (kept is_values lines line Cost rest b refl)) h.values;
  seen = subst (λ ls. AreSeen ls d.last_values) (sym (kept is_values lines line Cost rest b refl)) h.seen;
}

pub with_status : (n number : ℕ) (lines : List (List (List ℕ))) (line rest : List (List ℕ)) (d : Draft) (s : SaidStatus) → Begins line Status rest → d.status ≡ None → rest ≡ status_words s → IsDraft n lines d
    → IsDraft n (lines ++ line ∷ []) (record { status = Some s; cost = d.cost; values = d.values; last_values = d.last_values; status_line = number })
with_status n number lines line rest d s b none is h = record {
  known = known lines line Status rest b (λ e. cc) h.known;
  status = grown is_status lines line Status rest b refl ∙ ap (λ ls. ls ++ rest ∷ []) (h.status ∙ ap status_lines none) ∙ ap (λ r. r ∷ []) is;
  cost = subst (λ ls. IsLastCost ls d.cost) (sym (kept is_cost lines line Status rest b refl)) h.cost;
  values = subst (λ ls. AreTaken n (joined ls) d.values) (sym (kept is_values lines line Status rest b refl)) h.values;
  seen = subst (λ ls. AreSeen ls d.last_values) (sym (kept is_values lines line Status rest b refl)) h.seen;
}

pub with_values : (n number : ℕ) (lines : List (List (List ℕ))) (line rest : List (List ℕ)) (d : Draft) (v : values.Values) → Begins line Values rest → ((taken : List (List ℕ)) → AreTaken n taken d.values → AreTaken n (taken ++ rest) v) → IsDraft n lines d
    → IsDraft n (lines ++ line ∷ []) (record { status = d.status; cost = d.cost; values = v; last_values = Some number; status_line = d.status_line })
with_values n number lines line rest d v b takes h = record {
  known = known lines line Values rest b (λ e. cc) h.known;
  status = kept is_status lines line Values rest b refl ∙ h.status;
  cost = subst (λ ls. IsLastCost ls d.cost) (sym (kept is_cost lines line Values rest b refl)) h.cost;
  values = subst (λ ls. AreTaken n ls v) (sym (ap joined (grown is_values lines line Values rest b refl) ∙ joined_more (said is_values lines) rest)) (takes (joined (said is_values lines)) h.values);
  seen = λ none. no_push (said is_values lines) rest (sym (grown is_values lines line Values rest b refl) ∙ none);
}

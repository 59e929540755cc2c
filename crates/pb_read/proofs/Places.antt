-- The reader's test of a statement's form is the definition's.
use Rattle.std.proofs.Common.{◌≡◌, refl, sym, ap, ◌∙◌, List, [], ◌∷◌, Bool, true, false, ◌||◌, ◌&&◌}
use Rattle.pb_read.specs.declared.opb.form.Place.{Place}
use Rattle.pb_read.specs.declared.opb.form.Place.TheVariants.{Start, Terms, Coefficient, Literals, AfterRelation, AfterNumber, Whole, Wrong}
use Rattle.pb_inst.specs.Literal.{Literal}
use Rattle.pb_read.specs.Runs.{first_is, skip_while}
use Rattle.pb_read.specs.Opb.{Token, End, Min, Related, Number, Lit, Bad, is_literal, without_products, are_terms_and_end, is_objective, is_constraint, has_shape}
use Rattle.pb_read.specs.Places.{next_after_terms, next_place, is_whole, place_after}

-- a token that is no literal stays
stays : (t : Token) → is_literal t ≡ false → (ts : List Token) → without_products (t ∷ ts) ≡ t ∷ without_products ts
stays t h [] = refl
stays t h (u ∷ us) = rw h refl

-- of literals in a row one stays
record Kept (l : Literal) (ts : List Token) : Type 0 where
  pub last : Literal
  pub is : without_products (Lit l ∷ ts) ≡ Lit last ∷ without_products (skip_while is_literal ts)

kept : (l : Literal) (ts : List Token) → Kept l ts
kept l [] = record { last = l; is = refl }
kept l (Lit m ∷ ts) = let k = kept m ts in record { last = k.last; is = k.is }
kept l (End ∷ ts) = record { last = l; is = refl }
kept l (Min ∷ ts) = record { last = l; is = refl }
kept l (Related r ∷ ts) = record { last = l; is = refl }
kept l (Number n ∷ ts) = record { last = l; is = refl }
kept l (Bad ∷ ts) = record { last = l; is = refl }

-- ---- what must still come

rest_shape : Bool → List Token → Bool
rest_shape true s = are_terms_and_end s
rest_shape false s = is_constraint s

number_and_end : List Token → Bool
number_and_end (Number n ∷ End ∷ []) = true
number_and_end _ = false

only_end : List Token → Bool
only_end (End ∷ []) = true
only_end _ = false

none : List Token → Bool
none [] = true
none (t ∷ ts) = false

from : Place → List Token → Bool
from Start s = has_shape s
from (Terms o) s = rest_shape o (without_products s)
from (Literals o) s = rest_shape o (without_products (skip_while is_literal s))
from (Coefficient o) s = first_is is_literal s && rest_shape o (without_products (skip_while is_literal s))
from AfterRelation s = number_and_end (without_products s)
from AfterNumber s = only_end (without_products s)
from Whole s = none s
from Wrong s = false

at_end : (p : Place) → from p [] ≡ is_whole p
unfolding from rest_shape number_and_end only_end none
at_end Start = refl
at_end (Terms true) = refl
at_end (Terms false) = refl
at_end (Literals true) = refl
at_end (Literals false) = refl
at_end (Coefficient o) = refl
at_end AfterRelation = refl
at_end AfterNumber = refl
at_end Whole = refl
at_end Wrong = refl

-- ---- one token

none_without : (s : List Token) → none (without_products s) ≡ none s
unfolding none
none_without [] = refl
none_without (Lit l ∷ ts) = ap none (kept l ts).is
none_without (End ∷ ts) = ap none (stays End refl ts)
none_without (Min ∷ ts) = ap none (stays Min refl ts)
none_without (Related r ∷ ts) = ap none (stays (Related r) refl ts)
none_without (Number n ∷ ts) = ap none (stays (Number n) refl ts)
none_without (Bad ∷ ts) = ap none (stays Bad refl ts)

ended : (s : List Token) → are_terms_and_end (End ∷ s) ≡ none s
unfolding none
ended [] = refl
ended (t ∷ ts) = refl

only_ended : (s : List Token) → only_end (End ∷ s) ≡ none s
unfolding none only_end
only_ended [] = refl
only_ended (t ∷ ts) = refl

number_ended : (n : _) (s : List Token) → number_and_end (Number n ∷ s) ≡ only_end s
unfolding number_and_end only_end
number_ended n [] = refl
number_ended n (End ∷ []) = refl
number_ended n (End ∷ (t ∷ ts)) = refl
number_ended n (Min ∷ ts) = refl
number_ended n (Related r ∷ ts) = refl
number_ended n (Number m ∷ ts) = refl
number_ended n (Lit l ∷ ts) = refl
number_ended n (Bad ∷ ts) = refl

related : (r : _) (s : List Token) → is_constraint (Related r ∷ s) ≡ number_and_end s
unfolding number_and_end
related r [] = refl
related r (Number n ∷ []) = refl
related r (Number n ∷ (End ∷ [])) = refl
related r (Number n ∷ (End ∷ (t ∷ ts))) = refl
related r (Number n ∷ (Min ∷ ts)) = refl
related r (Number n ∷ (Related q ∷ ts)) = refl
related r (Number n ∷ (Number m ∷ ts)) = refl
related r (Number n ∷ (Lit l ∷ ts)) = refl
related r (Number n ∷ (Bad ∷ ts)) = refl
related r (End ∷ ts) = refl
related r (Min ∷ ts) = refl
related r (Related q ∷ ts) = refl
related r (Lit l ∷ ts) = refl
related r (Bad ∷ ts) = refl

-- after a number a literal must come
after_number : (o : Bool) (n : _) (ts : List Token) → rest_shape o (Number n ∷ without_products ts) ≡ (first_is is_literal ts && rest_shape o (without_products (skip_while is_literal ts)))
unfolding rest_shape
after_number true n [] = refl
after_number false n [] = refl
after_number true n (Lit l ∷ ts) = ap (λ s. are_terms_and_end (Number n ∷ s)) (kept l ts).is
after_number false n (Lit l ∷ ts) = ap (λ s. is_constraint (Number n ∷ s)) (kept l ts).is
after_number true n (End ∷ ts) = ap (λ s. are_terms_and_end (Number n ∷ s)) (stays End refl ts)
after_number false n (End ∷ ts) = ap (λ s. is_constraint (Number n ∷ s)) (stays End refl ts)
after_number true n (Min ∷ ts) = ap (λ s. are_terms_and_end (Number n ∷ s)) (stays Min refl ts)
after_number false n (Min ∷ ts) = ap (λ s. is_constraint (Number n ∷ s)) (stays Min refl ts)
after_number true n (Related r ∷ ts) = ap (λ s. are_terms_and_end (Number n ∷ s)) (stays (Related r) refl ts)
after_number false n (Related r ∷ ts) = ap (λ s. is_constraint (Number n ∷ s)) (stays (Related r) refl ts)
after_number true n (Number m ∷ ts) = ap (λ s. are_terms_and_end (Number n ∷ s)) (stays (Number m) refl ts)
after_number false n (Number m ∷ ts) = ap (λ s. is_constraint (Number n ∷ s)) (stays (Number m) refl ts)
after_number true n (Bad ∷ ts) = ap (λ s. are_terms_and_end (Number n ∷ s)) (stays Bad refl ts)
after_number false n (Bad ∷ ts) = ap (λ s. is_constraint (Number n ∷ s)) (stays Bad refl ts)

after_terms : (o : Bool) (t : Token) (ts : List Token) → is_literal t ≡ false → rest_shape o (without_products (t ∷ ts)) ≡ from (next_after_terms o t) ts
unfolding from rest_shape
after_terms o (Lit l) ts h = absurd cc
after_terms o (Number n) ts h = ap (rest_shape o) (stays (Number n) refl ts) ∙ after_number o n ts
after_terms true End ts h = ap are_terms_and_end (stays End refl ts) ∙ ended (without_products ts) ∙ none_without ts
after_terms false End ts h = ap is_constraint (stays End refl ts)
after_terms true (Related r) ts h = ap are_terms_and_end (stays (Related r) refl ts)
after_terms false (Related r) ts h = ap is_constraint (stays (Related r) refl ts) ∙ related r (without_products ts)
after_terms true Min ts h = ap are_terms_and_end (stays Min refl ts)
after_terms false Min ts h = ap is_constraint (stays Min refl ts)
after_terms true Bad ts h = ap are_terms_and_end (stays Bad refl ts)
after_terms false Bad ts h = ap is_constraint (stays Bad refl ts)

-- no terms begin with a literal
literal_first : (o : Bool) (l : Literal) (ts : List Token) → rest_shape o (without_products (Lit l ∷ ts)) ≡ false
unfolding rest_shape
literal_first true l ts = ap are_terms_and_end (kept l ts).is
literal_first false l ts = ap is_constraint (kept l ts).is

or_false : (b : Bool) → (b || false) ≡ b
or_false true = refl
or_false false = refl

at_start : (t : Token) (ts : List Token) → has_shape (t ∷ ts) ≡ from (next_place Start t) ts
unfolding from rest_shape
at_start Min ts = ap (λ s. is_objective s || is_constraint s) (stays Min refl ts) ∙ or_false (are_terms_and_end (without_products ts))
at_start (Lit l) ts = ap (λ s. is_objective s || is_constraint s) (kept l ts).is
at_start (Number n) ts = ap (λ s. is_objective s || is_constraint s) (stays (Number n) refl ts) ∙ ap is_constraint (sym (stays (Number n) refl ts)) ∙ after_terms false (Number n) ts refl
at_start End ts = ap (λ s. is_objective s || is_constraint s) (stays End refl ts)
at_start (Related r) ts = ap (λ s. is_objective s || is_constraint s) (stays (Related r) refl ts) ∙ ap is_constraint (sym (stays (Related r) refl ts)) ∙ after_terms false (Related r) ts refl
at_start Bad ts = ap (λ s. is_objective s || is_constraint s) (stays Bad refl ts)

step : (p : Place) (t : Token) (ts : List Token) → from p (t ∷ ts) ≡ from (next_place p t) ts
unfolding from rest_shape number_and_end only_end none
step Start t ts = at_start t ts
step (Terms true) (Lit l) ts = literal_first true l ts
step (Terms false) (Lit l) ts = literal_first false l ts
step (Terms o) (Number n) ts = after_terms o (Number n) ts refl
step (Terms o) End ts = after_terms o End ts refl
step (Terms o) Min ts = after_terms o Min ts refl
step (Terms o) (Related r) ts = after_terms o (Related r) ts refl
step (Terms o) Bad ts = after_terms o Bad ts refl
step (Literals o) (Lit l) ts = refl
step (Literals o) (Number n) ts = after_terms o (Number n) ts refl
step (Literals o) End ts = after_terms o End ts refl
step (Literals o) Min ts = after_terms o Min ts refl
step (Literals o) (Related r) ts = after_terms o (Related r) ts refl
step (Literals o) Bad ts = after_terms o Bad ts refl
step (Coefficient o) (Lit l) ts = refl
step (Coefficient o) (Number n) ts = refl
step (Coefficient o) End ts = refl
step (Coefficient o) Min ts = refl
step (Coefficient o) (Related r) ts = refl
step (Coefficient o) Bad ts = refl
step AfterRelation (Number n) ts = ap number_and_end (stays (Number n) refl ts) ∙ number_ended n (without_products ts)
step AfterRelation (Lit l) ts = ap number_and_end (kept l ts).is
step AfterRelation End ts = ap number_and_end (stays End refl ts)
step AfterRelation Min ts = ap number_and_end (stays Min refl ts)
step AfterRelation (Related r) ts = ap number_and_end (stays (Related r) refl ts)
step AfterRelation Bad ts = ap number_and_end (stays Bad refl ts)
step AfterNumber End ts = ap only_end (stays End refl ts) ∙ only_ended (without_products ts) ∙ none_without ts
step AfterNumber (Lit l) ts = ap only_end (kept l ts).is
step AfterNumber (Number n) ts = ap only_end (stays (Number n) refl ts)
step AfterNumber Min ts = ap only_end (stays Min refl ts)
step AfterNumber (Related r) ts = ap only_end (stays (Related r) refl ts)
step AfterNumber Bad ts = ap only_end (stays Bad refl ts)
step Whole t ts = refl
step Wrong t ts = refl

leads : (p : Place) (ts : List Token) → is_whole (place_after p ts) ≡ from p ts
leads p [] = sym (at_end p)
leads p (t ∷ ts) = leads (next_place p t) ts ∙ sym (step p t ts)

-- the tokens lead to a whole statement where they have its shape
pub whole_is_shape : (ts : List Token) → is_whole (place_after Start ts) ≡ has_shape ts
unfolding from
whole_is_shape ts = leads Start ts

-- An iCNF text spells one instance with its cubes, or has one refusal.
use Rattle.std.proofs.Common.{◌≡◌, ℕ, refl, sym, ap, ◌∙◌, List, [], ◌∷◌, Bool, true, false, cond, map, arith, Option, Some, None, max}
use Rattle.pb_inst.specs.Literal.{Literal}
use Rattle.pb_inst.specs.Problem.{Problem}
use Rattle.pb_inst.specs.declared.limits.TheConstants.{MAX_VARS}
use Rattle.pb_read.specs.declared.fault.ReadKind.TheVariants.{BadHeader, ClauseAfterCube}
use Rattle.pb_read.specs.declared.fault.ReadFault.{ReadFault}
use Rattle.pb_read.specs.Text.{Placed, items, content, clause_lines, last_line, words}
use Rattle.pb_read.specs.Refusal.{first_fault, at_line, ◌or_else◌}
use Rattle.pb_read.specs.Clauses.{Word, whole_words, clause_faults, clauses_on, clause_instance, greatest_var}
use Rattle.pb_read.specs.Cubes.{cube_faults, cube_words}
use Rattle.pb_read.specs.Icnf.{is_header, clause_part, cube_part, IcnfText, refusal_of_content, icnf_refusal}
use Rattle.pb_read.proofs.ClausesSpelled.{Spells, same_count, same_length, all_clear, all_spelled, one_spelling, same_items, words_of_clauses, clauses_of_words}
use Rattle.pb_read.proofs.CubeLaws.{cubes_clear, cubes_back}
use Rattle.pb_read.proofs.ClauseLaws.{plain, Any, each_any, most, table}

or_else_none : (a b : Option ReadFault) → (a or_else b) ≡ None → (a ≡ None) × (b ≡ None)
or_else_none (Some f) b e = absurd cc
or_else_none None b e = (refl, e)

header_parts : (line : ℕ) (b : Bool) → cond b None (at_line line (Some BadHeader)) ≡ None → b ≡ true
header_parts line true e = refl
header_parts line false e = absurd cc

abbrev after_header : List (Placed (List ℕ)) → Option ReadFault
after_header body = first_fault (clause_faults None MAX_VARS) [] (clauses_on (clause_part body)) or_else first_fault (cube_faults ClauseAfterCube MAX_VARS) [] (cube_part body)

content_back : (last : ℕ) (ls : List (Placed (List ℕ))) → refusal_of_content last ls ≡ None
    → (head : Placed (List ℕ)) × (body : List (Placed (List ℕ))) × (ls ≡ head ∷ body) × (is_header (words head.item) ≡ true) × (after_header body ≡ None)
content_back last [] e = absurd cc
content_back last (head ∷ body) e =
    let p = or_else_none (cond (is_header (words head.item)) None (at_line head.line (Some BadHeader))) (after_header body) e in
    (head, body, refl, header_parts head.line (is_header (words head.item)) p.0, p.1)

pub spells : (text : List ℕ) → icnf_refusal text ≡ None → (i : Problem) × (cubes : List (List Literal)) × IcnfText text i cubes
spells text e =
    let c = content_back (last_line (clause_lines text)) (content text) e in
    let body : List (Placed (List ℕ)) = c.1 in
    let p = or_else_none (first_fault (clause_faults None MAX_VARS) [] (clauses_on (clause_part body))) (first_fault (cube_faults ClauseAfterCube MAX_VARS) [] (cube_part body)) c.4 in
    let r = all_spelled plain Any MAX_VARS (most None) (clause_faults None MAX_VARS) (table None MAX_VARS) [] (clauses_on (clause_part body)) (omega arith) (omega arith) p.0 in
    let cubes = cubes_back ClauseAfterCube MAX_VARS (cube_part body) p.1 in
    let spelled : items (clauses_on (clause_part body)) ≡ map whole_words r.0 = sym (same_items (items (clauses_on (clause_part body)))) ∙ r.1.spelled in (
      clause_instance (max (greatest_var r.0) (greatest_var cubes.0)) r.0,
      cubes.0,
      record {
        head = c.0;
        body = body;
        lines = c.2;
        header_line = c.3;
        clauses = r.0;
        spelled = words_of_clauses (clause_part body) r.0 spelled;
        cube_lines = cubes.1;
        instance = refl;
        few_clauses = omega (arith, r.1.count, same_length plain (items (clauses_on (clause_part body))) r.0 r.1.spelled);
        few_literals = omega (arith, r.1.literals, same_count plain (items (clauses_on (clause_part body))) r.0 r.1.spelled);
        indices = r.1.indices;
      },
    )

all_of : (line : ℕ) (b : Bool) (x y : Option ReadFault) → b ≡ true → x ≡ None → y ≡ None → (cond b None (at_line line (Some BadHeader)) or_else (x or_else y)) ≡ None
all_of line b x y e f g = rw (e, f, g) refl

pub not_refused : (text : List ℕ) (i : Problem) (cubes : List (List Literal)) → IcnfText text i cubes → icnf_refusal text ≡ None
not_refused text i cubes t =
    let ss : List (Placed (List Word)) = clauses_on (clause_part t.body) in
    let spelled : map plain (items ss) ≡ map whole_words t.clauses = same_items (items ss) ∙ clauses_of_words (clause_part t.body) t.clauses t.spelled in
    let s : Spells plain Any MAX_VARS (most None) [] (items ss) t.clauses = record {
      each = each_any (items ss);
      spelled = spelled;
      indices = t.indices;
      count = omega (arith, t.few_clauses, same_length plain (items ss) t.clauses spelled);
      literals = omega (arith, t.few_literals, same_count plain (items ss) t.clauses spelled);
    } in
    ap (refusal_of_content (last_line (clause_lines text))) t.lines
    ∙ all_of t.head.line (is_header (words t.head.item)) (first_fault (clause_faults None MAX_VARS) [] ss) (first_fault (cube_faults ClauseAfterCube MAX_VARS) [] (cube_part t.body))
    t.header_line (all_clear plain Any MAX_VARS (most None) (clause_faults None MAX_VARS) (table None MAX_VARS) [] ss t.clauses s) (cubes_clear ClauseAfterCube MAX_VARS (cube_part t.body) cubes t.cube_lines)

pub one : (text : List ℕ) (i j : Problem) (cs ds : List (List Literal)) → IcnfText text i cs → IcnfText text j ds → (i ≡ j) × (cs ≡ ds)
one text i j cs ds t u =
    let same : t.head ∷ t.body ≡ u.head ∷ u.body = sym t.lines ∙ u.lines in
    let body : t.body ≡ u.body = cc in
    let clauses : t.clauses ≡ u.clauses = one_spelling t.clauses u.clauses
    (sym (clauses_of_words (clause_part t.body) t.clauses t.spelled) ∙ ap (λ (b : List (Placed (List ℕ))). items (clauses_on (clause_part b))) body ∙ clauses_of_words (clause_part u.body) u.clauses u.spelled) in
    let cubes : cs ≡ ds = one_spelling cs ds (sym t.cube_lines.spelled ∙ ap (λ (b : List (Placed (List ℕ))). map cube_words (items (cube_part b))) body ∙ u.cube_lines.spelled) in (
      t.instance ∙ ap (λ (x : List (List Literal)). clause_instance (max (greatest_var x) (greatest_var cs)) x) clauses ∙ ap (λ (x : List (List Literal)). clause_instance (max (greatest_var u.clauses) (greatest_var x)) u.clauses) cubes ∙ sym u.instance,
      cubes,
    )

use Rattle.std.proofs.Common.{◌≡◌, ◌≢◌, ◌+◌, ◌-◌, ◌<◌, ◌∙◌, ℕ, List, false, Option, length, ap, arith, sym, subst, slice_index_or, Global, Vec}
use Rattle.std.proofs.lemmas.List.{get_or_default, with_items_is}
use denote.Enum.Bare.{same_false}
use Rattle.pb_inst.specs.Literal.{Literal}
use Rattle.pb_inst.specs.Problem.{Problem}
use Rattle.pb_questions.specs.contracts.fixing.VariableStatus.{the_type}
use Rattle.pb_questions.specs.declared.fixing.VariableStatus.{VariableStatus}
use Rattle.pb_questions.specs.declared.fixing.VariableStatus.TheVariants.{Unknown}
use Rattle.pb_questions.specs.Fixed.{IsLearned}
use Rattle.pb_questions.specs.Sought.{IsAnswerToOther, IsWithin}
use Rattle.pb_questions.proofs.FixedLemmas.{learned, passed, searched, IsFurther, IsSoFar}
use Rattle.pb_questions.proofs.questions.Questions.statuses.Goals as goal
use Rattle.pb_questions.proofs.questions.Questions.statuses.Goals.{then-eq+in_ok-sought, else-eq}

pub loop-place-preserved : goal.loop-place-preserved
loop-place-preserved c =
    let p = c.args.self.now in let cube = c.args.cube.items in let bound = c.args.bound in let first = c.args.first.now in
    let place = c.loop-place.place in let items = c.loop-place.statuses.items in let inv = c.loop-place.invariant in let ended = c.if-eq in
    let for_all : length first ≡ p.vars = c.requires.first.feasible.for_all_variables in
    let inside : place < length items = omega (arith, inv.count, for_all) in
    let within : place < p.vars = omega (arith, for_all) in
    let so_far : IsSoFar p cube bound c.args.left.now place c.loop-place.left items = record { count = inv.count; are = inv.are; no_budget = inv.no_budget } in
    elim c.if-eq.branch [
      | then-eq+in_ok-sought w ↦
          let sought = w.in_ok-sought.sought in let value = w.get-value.result in let new = w.learn.new.statuses in
          let same : value ≡ slice_index_or first place false = w.get-value.ensures ∙ ap (λ (i : ℕ). slice_index_or first i false) (let e : place + 1 - 1 ≡ place = omega arith in e) in
          let other : IsAnswerToOther p cube bound place value sought =
          subst (λ (l : List Literal). IsAnswerToOther p l bound place value sought) inv.same_cube
          (subst (λ (q : Problem). IsAnswerToOther q c.loop-place.cube.items bound place value sought) inv.same_instance w.in_ok-sought.ensures.other) in
          let learnt : IsLearned first place value items sought new = subst (λ (l : List VariableStatus). IsLearned first place value l sought new) w.deref_mut.ensures.value w.learn.ensures in
          let further : IsFurther (IsWithin p cube bound) place sought items new = learned p cube bound first place value sought items new inside same c.requires.first inv.are other learnt in
          let next : IsSoFar p cube bound c.args.left.now (place + 1) ended.left ended.statuses.items =
          subst (λ (l : List VariableStatus). IsSoFar p cube bound c.args.left.now (place + 1) ended.left l)
          (sym (ap (λ (v : Vec VariableStatus Global). v.items) w.statuses-is ∙ with_items_is c.loop-place.statuses new (further.same_length ∙ sym c.loop-place.statuses.ok.0)))
          (subst (λ (o : Option ℕ). IsSoFar p cube bound c.args.left.now (place + 1) o new) (sym w.left-is)
          (searched p cube bound c.args.left.now place c.loop-place.left w.seek_apart.new.left sought items new within further w.in_ok-sought.ensures.no_budget so_far)) in
          record {
            same_instance = w.self-is ∙ w.seek_apart.ensures.unchanged ∙ inv.same_instance;
            same_cube = ap (λ (v : Vec Literal Global). v.items) w.cube-is ∙ w.in_ok-sought.ensures.same_cube ∙ inv.same_cube;
            count = next.count;
            are = next.are;
            no_budget = next.no_budget;
          }
      | else-eq w ↦
          let is : c.index.result.now ≡ slice_index_or items place Unknown = c.index.ensures ∙ get_or_default items place c.index.result.now Unknown inside in
          let here : slice_index_or items place Unknown ≢ Unknown = λ unknown. same_false the_type c.index.result.now Unknown (sym c.eq.ensures ∙ w.if-eq.false) (is ∙ unknown) in
          let next : IsSoFar p cube bound c.args.left.now (place + 1) ended.left ended.statuses.items =
          subst (λ (v : Vec VariableStatus Global). IsSoFar p cube bound c.args.left.now (place + 1) ended.left v.items) (sym w.statuses-is)
          (subst (λ (o : Option ℕ). IsSoFar p cube bound c.args.left.now (place + 1) o items) (sym w.left-is) (passed p cube bound c.args.left.now place c.loop-place.left items here so_far)) in
          record {
            same_instance = w.self-is ∙ inv.same_instance;
            same_cube = ap (λ (v : Vec Literal Global). v.items) w.cube-is ∙ inv.same_cube;
            count = next.count;
            are = next.are;
            no_budget = next.no_budget;
          }
    ]

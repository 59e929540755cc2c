use Rattle.std.proofs.Common.{◌≤◌, ◌∙◌, refl, subst, sym, ℕ, arith}
use Rattle.pb_inst.specs.declared.limits.TheConstants.{MAX_VARS}
use Rattle.pb_control.proofs.BudgetLemmas.{none_counted, counted_onward}
use Rattle.pb_dive.proofs.dive.descend.Goals as goal

pub loop-made-init : goal.loop-made-init
loop-made-init g c = record {
  back = λ start at h. h;
  sound = c.requires.sound;
  free = c.requires.free;
  same_variables = refl;
  counted = none_counted c.args.left.now;
  assumed = omega arith;
}

pub loop-made-preserved : goal.loop-made-preserved
loop-made-preserved g c = record {
  back = λ start at h. c.advance.ensures.back start at (c.next_below.ensures.taken_back.back start at (c.loop-made.invariant.back start at h));
  sound = c.advance.ensures.sound;
  free = c.in-Next.ensures.next;
  same_variables = c.advance.ensures.same_variables ∙ (c.next_below.ensures.taken_back.same_variables ∙ c.loop-made.invariant.same_variables);
  counted = counted_onward c.loop-made.made 1 c.args.left.now c.loop-made.left c.advance.new.left c.loop-made.invariant.counted c.advance.ensures.counted;
  assumed = omega (arith, c.loop-made.invariant.assumed, c.next_below.ensures.taken_back.no_deeper, c.advance.ensures.assumed);
}

pub advance-requires-clause-few : goal.advance-requires-clause-few
advance-requires-clause-few g c = subst (λ (n : ℕ). n ≤ MAX_VARS) (sym (c.next_below.ensures.taken_back.same_variables ∙ c.loop-made.invariant.same_variables)) c.requires.few

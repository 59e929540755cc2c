use Rattle.std.proofs.Common.{◌∙◌, ap, codes, map, option_map, sym, unwrap_or, []}
use Rattle.clap.specs.Words.{found_of}
use Rattle.clap.proofs.WalkLemmas.{raw_values-rows}
use Rattle.pb_line.proofs.joining.parse.reports_of.Goals as goal

pub returns-in_ok-from_slice-in-Some : goal.returns-in_ok-from_slice-in-Some
returns-in_ok-from_slice-in-Some c =
    let all = c.get_strs.ensures ∙ raw_values-rows (found_of c.args.matches.now) (codes "reports") in
    ap (map (λ name. name.now)) c.in_ok-from_slice-in-Some.ensures.items ∙ ap (λ held. unwrap_or held []) (ap (option_map (λ s. map (λ v. v.now) s.now)) (sym c.in-Some.is) ∙ all)

pub returns-in-None : goal.returns-in-None
returns-in-None c =
    let all = c.get_strs.ensures ∙ raw_values-rows (found_of c.args.matches.now) (codes "reports") in
    ap (map (λ name. name.now)) c.new.ensures.items ∙ ap (λ held. unwrap_or held []) (ap (option_map (λ s. map (λ v. v.now) s.now)) (sym c.in-None.is) ∙ all)

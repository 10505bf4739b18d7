use Rattle.std.proofs.Common.{◌≡◌, ℕ, ◌-◌, ◌<◌, [], ◌∷◌, Option, Some, None, length, get_or, ap, sym, ◌∙◌, subst, arith}
use Rattle.std.proofs.lemmas.{List.length-map, Option.slice_get-get_or}
use Rattle.batch_set.specs.declared.linked.LinkedNeed.{LinkedNeed}
use Rattle.batch_check.{specs.Collecting.HasAsked, specs.Collecting.ends_in, specs.Joining.HasJoined, specs.Sites.number_of, specs.Sites.numbers_of, proofs.EdgesOfAct.HasAsked-again, proofs.EdgesFromNeeds.Contains-at, proofs.NeedNumbers.number_there}
use Rattle.batch_check.proofs.path.ask_again.Goals as goal

pub join-requires-clause-later : goal.join-requires-clause-later
join-requires-clause-later c = λ number is.
    let site = c.args.site.now in
    let links = c.args.needs.now in
    let some : 0 < length links = omega (arith, c.in-len1-up.len_at_least) in
    let there : get_or (numbers_of site links) 0 None ≡ Some number = sym (number_there site links 0 some) ∙ (sym c.number_of.ensures ∙ is) in
    c.requires.needs number (Contains-at (numbers_of site links) 0 (Some number)
    (slice_get-get_or (numbers_of site links) 0 None (omega (arith, some, length-map links (λ (link : LinkedNeed). number_of site link.source))) ∙ ap (λ (o : Option ℕ). Some o) there))

pub returns : goal.returns
returns c =
    let site = c.args.site.now in
    let links = c.args.needs.now in
    let numbers = numbers_of site links in
    let few : length numbers ≡ length links = length-map links (λ (link : LinkedNeed). number_of site link.source) in
    let some : 0 < length links = omega (arith, c.in-len1-up.len_at_least) in
    let first : c.number_of.result ≡ get_or numbers 0 None = c.number_of.ensures ∙ number_there site links 0 some in
    let last : c.number_of-2.result ≡ get_or numbers (length numbers - 1) None =
    c.number_of-2.ensures ∙ (number_there site links (length links - 1) (omega (arith, some)) ∙ ap (λ k. get_or numbers (k - 1) None) (sym few)) in
    subst (λ (o : Option ℕ). HasAsked (ends_in c.args.recipe c.args.before) c.args.node numbers c.args.edges.now c.join.new.edges (ends_in c.args.recipe o)) (sym last)
    (HasAsked-again c.args.recipe c.args.node c.args.before numbers c.args.edges.now c.join.new.edges c.requires.before c.requires.needs c.requires.joined (omega (arith, few, some))
    (subst (λ (o : Option ℕ). HasJoined c.args.recipe c.args.node (c.args.before ∷ []) o c.args.edges.now c.join.new.edges) first c.in_ok-join.ensures))
